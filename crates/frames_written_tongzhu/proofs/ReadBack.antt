-- A frame that was written is read back, for every function and payload; and a frame that is read is the one written from its parts.
-- The first by the law of the whole frame; the second puts the bytes together from their parts, the check being the one that closes the
-- sum.
-- Assumes nothing.
use mathlib.Core.Path.{◌≡◌, refl, sym, ap, ap₂, ◌∙◌}
use mathlib.Core.List.{List, [], ◌∷◌, ◌++◌}
use Prim.Native.Nat.{ℕ, suc, ◌+◌, ◌-◌, ◌<◌, ◌≤◌}
use native.Mathlib.Omega.{arith}
use lib.Dec.{lit<}
use lib.ListN.{length, get_or, take, drop, length-append, length-drop, drop_of_length-le}
use lib.Seq.{take_at, get_or_at, take-add, take-append_seam, length-take-le, split_at}
use Rattle.std.specs.Prelude.{Ok}
use Rattle.laws.specs.Firsts.{firsts}
use Rattle.laws.proofs.Fronts.{front}
use Rattle.sums.specs.Sums.{total, closing, closes}
use Rattle.sums.proofs.Closing.{test_closing, test_only}
use Rattle.frames_tongzhu.specs.declared.Frame.{Frame}
use Rattle.frames_tongzhu.specs.Reading.{checked, check, framed, frame_of}
use Rattle.frames_written_tongzhu.specs.Writing.{head_of, body_of, frame_bytes}
use Rattle.frames_tongzhu.proofs.Ladder.{whole, whole_parts}

pub frame_reads_back : (f : ℕ) (load : List ℕ) → Ok (framed f 5 (length load)) ≡ frame_of (frame_bytes f load)
unfolding frame_bytes
frame_reads_back f load =
    let body = body_of f load in
    let k = closing 256 (total body) in
    let s = body ++ (k ∷ []) in
    let long : length s ≡ length load + 6 = length-append body (k ∷ []) ∙ omega arith in
    let n : length body ≡ length s - 1 = omega arith in
    let front : checked s ≡ body = take_at body (k ∷ []) (length s - 1) n in
    let last : check s ≡ k = get_or_at body k [] 0 (length s - 1) n in
    let e : length load ≡ length s - 6 = omega arith in
    ap (λ (n : ℕ). Ok (framed f 5 n)) e
    ∙ whole s (omega arith) refl long
    (ap₂ (λ (l : List ℕ) (x : ℕ). closes 256 (total l) x) front last ∙ test_closing 256 (lit< tt) (total body)) refl refl

pub payload_back : (f : ℕ) (load : List ℕ) → take (length load) (drop 5 (frame_bytes f load)) ≡ load
unfolding frame_bytes
payload_back f load = take-append_seam load (closing 256 (total (body_of f load)) ∷ [])

-- all bytes but the last, and the last
ends : (s : List ℕ) → 1 ≤ length s → s ≡ checked s ++ (check s ∷ [])
ends s h =
    let j = length s - 1 in
    let none : drop (suc j) s ≡ [] = drop_of_length-le s {i = suc j} (omega arith) in
    split_at s j 0 (omega arith) ∙ ap (λ (l : List ℕ). take j s ++ (get_or s j 0 ∷ l)) none

pub frame_writes_back : (s : List ℕ) (f : Frame) → Ok f ≡ frame_of s → check s < 256 → frame_bytes f.function (take f.len (drop f.start s)) ≡ s
unfolding frame_bytes firsts
frame_writes_back s f h byte =
    let p = whole_parts s f h in
    let n = f.len in
    let load = take n (drop 5 s) in
    let size : length load ≡ n = length-take-le n (drop 5 s) (rw length-drop (omega arith)) in
    let sum : length load + 6 ≡ get_or s 3 0 = omega arith in
    let j : length s - 1 ≡ 5 + n = omega arith in
    let head : take 5 s ≡ head_of f.function (length load) = front s 5 (omega arith) ∙ rw (p.mark, p.home, p.version, sum, p.function) in
    let body : checked s ≡ body_of f.function load = rw j (take-add 5 n s ∙ ap (λ (l : List ℕ). l ++ load) head) in
    let last : check s ≡ closing 256 (total (body_of f.function load)) =
    test_only 256 (lit< tt) (total (body_of f.function load)) (check s) byte
    (ap (λ (l : List ℕ). closes 256 (total l) (check s)) (sym body) ∙ p.closed) in
    ap (λ (i : ℕ). frame_bytes f.function (take n (drop i s))) p.start
    ∙ sym (ends s (omega arith) ∙ ap₂ (λ (l : List ℕ) (x : ℕ). l ++ (x ∷ [])) body last)
