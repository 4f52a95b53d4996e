-- What `begin` and `seal` leave in the lent room, and that around its data the two make a frame.
-- A run of stores is a list put in place of the front; a part that was lent comes back between what was before and after it. Assumes nothing.
use mathlib.Core.Path.{◌≡◌, sym, ap, ◌∙◌}
use mathlib.Core.List.{List, ◌∷◌, ◌++◌, append_assoc, append-nil}
use Prim.Native.Nat.{ℕ, ◌+◌, ◌-◌, ◌≤◌}
use native.Mathlib.Omega.{arith}
use borrow.Rule.Slice.PartMut.{put_mid}
use lib.ListN.{length, take, drop, length-append}
use lib.Seq.{sets, sets-eq, take_at, drop-append-add, drop-drop, drop-length}
use Rattle.std.specs.Prelude.{Ok}
use Rattle.refusals.specs.Writing.{over_long}
use Rattle.refusals.proofs.Writing.{frame_says, short_says}
use Rattle.checks.specs.Crc.{crc_of}
use Rattle.frames_written_pathfinder.specs.Writing.{head_of, covered_of, end_of, frame_bytes, half_as, sealed}

-- a buffer that is written whole, store by store
pub all_of : (vs l : List ℕ) → length l ≡ length vs → sets l 0 vs ≡ vs
all_of vs l e =
    let z : 0 + length vs ≡ length l = omega arith in
    sets-eq vs l 0 (omega arith) ∙ rw (z, drop-length l) (append-nil vs)

-- what a half knows where it does not refuse
pub record Fits (len places : ℕ) : Type 0 where
  pub short : len ≤ 254
  pub room : len + 6 ≤ places

pub half_says : (len places n : ℕ) → Ok n ≡ half_as len places → Fits len places
half_says len places n h =
    record {
      short = short_says 254 len (len + 6) places n h;
      room = (frame_says (over_long 254 len) (len + 6) places n h).1.1;
    }

module _ (len : ℕ) (out : List ℕ) (room : len + 6 ≤ length out) where
  pub sealed_is : (sum : ℕ) (ys : List ℕ) → sum ≡ crc_of (take (len + 3 - 1) (drop 1 out)) → ys ≡ end_of sum
      → put_mid (len + 3) (len + 6 - (len + 3)) out ys ≡ sealed len out
  sealed_is sum ys e y =
      let k : len + 3 - 1 ≡ len + 2 = omega arith in
      let m : len + 3 + (len + 6 - (len + 3)) ≡ len + 6 = omega arith in
      rw (drop-drop, m, y, e, k)

-- data that stand after their head, with room for the end after them, sealed
sealed_frame : (op : ℕ) (load rest : List ℕ) → sealed (length load) ((0xFE ∷ covered_of op load) ++ rest) ≡ frame_bytes op load ++ drop 3 rest
unfolding frame_bytes
sealed_frame op load rest =
    let head : List ℕ = 0xFE ∷ covered_of op load in
    let n : length head ≡ length load + 3 = omega arith in
    let front : take (length load + 3) (head ++ rest) ≡ head = take_at head rest (length load + 3) n in
    let sum : take (length load + 2) (covered_of op load ++ rest) ≡ covered_of op load =
    take_at (covered_of op load) rest (length load + 2) (omega arith) in
    let e : length load + 6 ≡ length head + 3 = omega arith in
    let back : drop (length load + 6) (head ++ rest) ≡ drop 3 rest =
    ap (λ (i : ℕ). drop i (head ++ rest)) e ∙ drop-append-add head rest 3 in
    rw (front, back)
    (ap (λ (l : List ℕ). head ++ (end_of (crc_of l) ++ drop 3 rest)) sum ∙ sym (append_assoc head (end_of (crc_of (covered_of op load))) (drop 3 rest)))

-- the room that was begun, has the data in their place and is sealed: the frame, and what was there past it
pub frame_made : (op : ℕ) (load out : List ℕ)
    → sealed (length load) (head_of op (length load) ++ (load ++ drop (length load) (drop 3 out))) ≡ frame_bytes op load ++ drop (length load + 6) out
frame_made op load out =
    let n = length load in
    let e : 3 + n + 3 ≡ n + 6 = omega arith in
    let rest : drop 3 (drop n (drop 3 out)) ≡ drop (n + 6) out =
    ap (drop 3) (drop-drop n 3 out) ∙ drop-drop 3 (3 + n) out ∙ ap (λ (i : ℕ). drop i out) e in
    sealed_frame op load (drop n (drop 3 out)) ∙ ap (λ (l : List ℕ). frame_bytes op load ++ l) rest

pub frame_length : (op : ℕ) (load : List ℕ) → length (frame_bytes op load) ≡ length load + 6
unfolding frame_bytes
frame_length op load = length-append (0xFE ∷ covered_of op load) (end_of (crc_of (covered_of op load))) ∙ omega arith
