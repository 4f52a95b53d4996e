-- Around a payload `begin` and `seal` make its frame, and how long that is.
-- Assumes nothing.
use mathlib.Core.Path.{◌≡◌, sym, ap, ◌∙◌}
use mathlib.Core.List.{List, ◌++◌, append_assoc}
use Prim.Native.Nat.{ℕ, ◌+◌}
use native.Mathlib.Omega.{arith}
use lib.ListN.{length, take, drop, length-append}
use lib.Seq.{take_at, drop-append-add, drop-drop}
use Rattle.frames_written_tongzhu.specs.Writing.{body_of, end_of, frame_bytes, sealed}

-- a payload that stands after its head, with something after it, sealed
sealed_frame : (f : ℕ) (load rest : List ℕ) → sealed (length load) (body_of f load ++ rest) ≡ frame_bytes f load ++ drop 1 rest
unfolding frame_bytes
sealed_frame f load rest =
    let body = body_of f load in
    let n : length body ≡ length load + 5 = omega arith in
    let front : take (length load + 5) (body ++ rest) ≡ body = take_at body rest (length load + 5) n in
    let e : length load + 6 ≡ length body + 1 = omega arith in
    let back : drop (length load + 6) (body ++ rest) ≡ drop 1 rest =
    ap (λ (i : ℕ). drop i (body ++ rest)) e ∙ drop-append-add body rest 1 in
    rw (front, back) (sym (append_assoc body (end_of body) (drop 1 rest)))

-- the room that was begun, has the payload in its place and is sealed: the frame, and what was there past it
pub frame_made : (f : ℕ) (load out : List ℕ)
    → sealed (length load) (body_of f load ++ drop (length load) (drop 5 out)) ≡ frame_bytes f load ++ drop (length load + 6) out
frame_made f load out =
    let n = length load in
    let e : 5 + n + 1 ≡ n + 6 = omega arith in
    let rest : drop 1 (drop n (drop 5 out)) ≡ drop (n + 6) out =
    ap (drop 1) (drop-drop n 5 out) ∙ drop-drop 1 (5 + n) out ∙ ap (λ (i : ℕ). drop i out) e in
    sealed_frame f load (drop n (drop 5 out)) ∙ ap (λ (l : List ℕ). frame_bytes f load ++ l) rest

pub frame_length : (f : ℕ) (load : List ℕ) → length (frame_bytes f load) ≡ length load + 6
unfolding frame_bytes
frame_length f load = length-append (body_of f load) (end_of (body_of f load)) ∙ omega arith
