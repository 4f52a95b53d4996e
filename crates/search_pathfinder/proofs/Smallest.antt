-- What the search's definition says: the place found has a frame and none before it has; where nothing is found, no place has one; and any
-- part of the input that is a frame lies at a place that has one, with that length. By induction over the places. Assumes nothing.
use mathlib.Core.Path.{◌≡◌, refl, sym, ap, ◌∙◌}
use mathlib.Core.Logic.{⊎_elim}
use mathlib.Core.Bool.{Bool, true, false}
use mathlib.Core.List.{List}
use Prim.Native.Nat.{ℕ, zero, suc, ◌+◌, ◌<◌, ◌≤◌}
use native.Mathlib.Nat.{eq-or-lt_of_le}
use native.Mathlib.Omega.{arith}
use lib.ListN.{length, get_or, take, drop, length-drop}
use lib.Seq.{get_or-take, get_or-drop, length-take-le}
use Rattle.laws.specs.Choice.{pick}
use Rattle.frames_pathfinder.specs.declared.Frame.{Frame}
use Rattle.frames_pathfinder.specs.Reading.{frame_of}
use Rattle.frames_pathfinder.proofs.Ladder.{whole_parts}
use Rattle.std.specs.Prelude.{is_ok, Some, None, Ok}
use Rattle.search_pathfinder.specs.declared.Found.{Found}
use Rattle.search_pathfinder.specs.Places.{size_at, frame_at, found_at, scan, search_of}

-- the answer at place p with length n is the smallest place from i on
pub record Smallest (s : List ℕ) (i p n : ℕ) : Type 0 where
  pub here : frame_at s p ≡ true
  pub size : n ≡ size_at s p
  pub before : (j : ℕ) → i ≤ j → j < p → frame_at s j ≡ false

scan_smallest : (k i : ℕ) (s : List ℕ) (p n : ℕ) → scan k i s ≡ Some (found_at p n) → Smallest s i p n
unfolding scan
scan_smallest zero i s p n h = absurd cc
scan_smallest (suc k) i s p n h = go (frame_at s i) refl h (scan_smallest k (suc i) s p n)
  where
    go : (b : Bool) → frame_at s i ≡ b → pick b (Some (found_at i (size_at s i))) (scan k (suc i) s) ≡ Some (found_at p n)
        → (scan k (suc i) s ≡ Some (found_at p n) → Smallest s (suc i) p n) → Smallest s i p n
    go true e q rest =
        let same : found_at i (size_at s i) ≡ found_at p n = cc in
        let place : i ≡ p = ap (λ (x : Found). x.place) same in
        let long : size_at s i ≡ n = ap (λ (x : Found). x.len) same in
        record { here = rw (← place) e; size = rw (← place) (sym long); before = λ j a b. absurd (omega arith) }
    go false e q rest =
        let r = rest q in
        record {
          here = r.here;
          size = r.size;
          before = λ j a b. ⊎_elim (λ same. rw (← same) e) (λ less. r.before j less b) (eq-or-lt_of_le a);
        }

scan_none : (k i : ℕ) (s : List ℕ) → scan k i s ≡ None → (j : ℕ) → i ≤ j → j < i + k → frame_at s j ≡ false
unfolding scan
scan_none zero i s h j a b = absurd (omega arith)
scan_none (suc k) i s h j a b = go (frame_at s i) refl h (scan_none k (suc i) s)
  where
    go : (t : Bool) → frame_at s i ≡ t → pick t (Some (found_at i (size_at s i))) (scan k (suc i) s) ≡ None
        → (scan k (suc i) s ≡ None → (m : ℕ) → suc i ≤ m → m < suc i + k → frame_at s m ≡ false) → frame_at s j ≡ false
    go true e q rest = absurd cc
    go false e q rest = ⊎_elim (λ same. rw (← same) e) (λ less. rest q j less (omega arith)) (eq-or-lt_of_le a)

-- the place found is the smallest that has a frame
pub found_is_smallest : (s : List ℕ) (p n : ℕ) → search_of s ≡ Some (found_at p n) → Smallest s 0 p n
unfolding search_of
found_is_smallest s p n h = scan_smallest (length s) 0 s p n h

-- nothing found means that no place has a frame
pub nothing_is_none : (s : List ℕ) → search_of s ≡ None → (j : ℕ) → j < length s → frame_at s j ≡ false
unfolding search_of
nothing_is_none s h j b = scan_none (length s) 0 s h j (omega arith) (omega arith)

-- a part of the input that the frame reader takes is the frame of its place
pub part_is_frame : (s : List ℕ) (i n : ℕ) (f : Frame) → i + n ≤ length s → Ok f ≡ frame_of (take n (drop i s))
    → (n ≡ size_at s i) × (frame_at s i ≡ true)
unfolding frame_at
part_is_frame s i n f h e =
    let p = take n (drop i s) in
    let size : length p ≡ n = length-take-le n (drop i s) (rw (length-drop i s) (omega arith)) in
    let parts = whole_parts p f e in
    let second : get_or p 1 0 ≡ get_or s (i + 1) 0 = get_or-take n (drop i s) 1 0 (omega arith) ∙ get_or-drop i s 1 0 in
    let long : n ≡ size_at s i = omega arith in
    (long, ap (λ (k : ℕ). is_ok (frame_of (take k (drop i s)))) (sym long) ∙ ap is_ok (sym e))
