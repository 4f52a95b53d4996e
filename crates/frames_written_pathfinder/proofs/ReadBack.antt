-- A frame that was written is read back, for every opcode and data; and a frame that is read is the one written from its parts.
-- The first by the law of the whole frame; the second puts the bytes together from their parts, the checksum being the one that is given.
-- Assumes nothing.
use mathlib.Core.Path.{◌≡◌, refl, sym, ap, ap₂, ◌∙◌}
use mathlib.Core.List.{List, [], ◌∷◌, ◌++◌}
use Prim.Native.Nat.{ℕ, suc, ◌+◌, ◌-◌, ◌*◌, ◌/◌, ◌%◌, ◌<◌}
use native.Mathlib.Nat.{add-zero}
use native.Mathlib.Omega.{arith}
use lib.ListN.{length, get_or, take, drop, length-append, length-drop, take-append-drop}
use lib.Seq.{take_at, take-add, take_all, take-nil, take-append_seam, get_or-append-add, get_or-drop, length-take-le}
use Rattle.laws.specs.Firsts.{firsts}
use Rattle.laws.proofs.Fronts.{front}
use Rattle.checks.specs.Crc.{crc_of}
use Rattle.std.specs.Prelude.{Ok}
use Rattle.frames_pathfinder.specs.declared.Frame.{Frame}
use Rattle.frames_pathfinder.specs.Reading.{whole_of, frame_of}
use Rattle.frames_pathfinder.proofs.Ladder.{whole, whole_parts}
use Rattle.frames_written_pathfinder.specs.Writing.{head_of, covered_of, end_of, frame_bytes}

pub frame_reads_back : (op : ℕ) (load : List ℕ) → Ok (whole_of op 3 (length load)) ≡ frame_of (frame_bytes op load)
unfolding frame_bytes
frame_reads_back op load =
    let sum = crc_of (covered_of op load) in
    let head : List ℕ = 0xFE ∷ covered_of op load in
    let s = head ++ end_of sum in
    let n = length load + 1 in
    let long : length s ≡ n + 5 = length-append head (end_of sum) ∙ omega arith in
    let at : (k : ℕ) → get_or s (n + (2 + k)) 0 ≡ get_or (end_of sum) k 0 =
    λ k. let e : n + (2 + k) ≡ length head + k = omega arith in ap (λ (i : ℕ). get_or s i 0) e ∙ get_or-append-add head (end_of sum) k 0 in
    let e : n - 1 ≡ length load = omega arith in
    let told : sum ≡ get_or s (n + 3) 0 + (get_or s (n + 2) 0 + 0 * 256) * 256 = rw (at 0, at 1) (omega arith) in
    ap (λ (k : ℕ). Ok (whole_of op 3 k)) (sym e)
    ∙ whole s (omega arith) refl n refl long (at 2) sum sum (ap crc_of (sym (take_at (covered_of op load) (end_of sum) (n + 2 - 1) (omega arith)))) told refl

pub payload_back : (op : ℕ) (load : List ℕ) → take (length load) (drop 3 (frame_bytes op load)) ≡ load
unfolding frame_bytes
payload_back op load = take-append_seam load (end_of (crc_of (covered_of op load)))

-- the three bytes from place i to the end of a list
last_three : (s : List ℕ) (i : ℕ) → i + 3 ≡ length s → drop i s ≡ get_or s i 0 ∷ get_or s (i + 1) 0 ∷ get_or s (i + 2) 0 ∷ []
unfolding firsts
last_three s i e =
    let n : length (drop i s) ≡ 3 = length-drop i s ∙ omega arith in
    sym (take_all 3 (drop i s) (omega arith)) ∙ front (drop i s) 3 (omega arith) ∙ rw (get_or-drop, get_or-drop, get_or-drop, add-zero)

tail_take : (m : ℕ) (s : List ℕ) → drop 1 (take (suc m) s) ≡ take m (drop 1 s)
tail_take m [] = sym (take-nil m)
tail_take m (x ∷ s) = refl

pub frame_writes_back : (s : List ℕ) (f : Frame) → Ok f ≡ frame_of s → get_or s (f.len + 3) 0 < 256 → get_or s (f.len + 4) 0 < 256
    → frame_bytes f.opcode (take f.len (drop f.start s)) ≡ s
unfolding frame_bytes firsts
frame_writes_back s f h high low =
    let op = f.opcode in
    let n = f.len in
    let p = whole_parts s f h in
    let load = take n (drop 3 s) in
    let size : length load ≡ n = length-take-le n (drop 3 s) (rw length-drop (omega arith)) in
    let head : take 3 s ≡ head_of op (length load) = front s 3 (omega arith) ∙ rw (p.start_mark, p.length_byte, size, p.opcode) in
    let body : take (3 + n) s ≡ head_of op (length load) ++ load = take-add 3 n s ∙ ap (λ (l : List ℕ). l ++ load) head in
    let e₁ : suc (n + 2) ≡ 3 + n = omega arith in
    let inner : take (n + 2) (drop 1 s) ≡ covered_of op load =
    sym (tail_take (n + 2) s) ∙ ap (λ (i : ℕ). drop 1 (take i s)) e₁ ∙ ap (drop 1) body in
    let sum : crc_of (covered_of op load) ≡ get_or s (n + 4) 0 + (get_or s (n + 3) 0 + 0 * 256) * 256 = ap crc_of (sym inner) ∙ p.sum in
    let upper : crc_of (covered_of op load) / 256 ≡ get_or s (n + 3) 0 = omega arith in
    let lower : crc_of (covered_of op load) % 256 ≡ get_or s (n + 4) 0 = omega arith in
    let e₂ : n + 3 + 1 ≡ n + 4 = omega arith in
    let e₃ : n + 3 + 2 ≡ n + 5 = omega arith in
    let e₄ : 3 + n ≡ n + 3 = omega arith in
    let end : drop (3 + n) s ≡ end_of (crc_of (covered_of op load)) =
    ap (λ (i : ℕ). drop i s) e₄ ∙ last_three s (n + 3) (omega arith) ∙ rw (e₂, e₃, p.end_mark, upper, lower) in
    ap (λ (i : ℕ). frame_bytes op (take n (drop i s))) p.start
    ∙ sym (sym (take-append-drop (3 + n) s) ∙ ap₂ (λ (a b : List ℕ). a ++ b) body end)
