-- What demand 3 asks, read at the level of calls and bytes, of a restore of a pack that held o towards the wanted values w. `Safe` speaks of the words
-- that the pack holds, and is that of `restore_order`; here is what it asks of the frames, and of restores one after the other.
use Rattle.std.specs.Prelude.{◌≡◌, Bool, true, false, ◌&&◌, List, [], ◌∷◌, map, ℕ, ◌+◌, ◌<◌, ℤ, eqb, length, take, Ok, IsOk}
use Rattle.restore_order.specs.Slots.{slots, at, differs, writes, one, how_many}
use Rattle.restore_order.specs.Demands.{Safe}
use Rattle.restore_next.specs.declared.Step.TheVariants.{Done}
use Rattle.restore_jobs.specs.Jobs.{open_of}
use Rattle.restore_next.specs.Next.{next_of}
use Rattle.restore_pathfinder.specs.Wire.{Device, write_frame, Scene, begin, Event, after_all}
use Rattle.restore_pathfinder.specs.Suppositions.{OnLine}

-- the same bytes, as a test
unfoldable pub same_bytes : List ℕ → List ℕ → Bool
same_bytes [] [] = true
same_bytes [] (b ∷ t) = false
same_bytes (a ∷ s) [] = false
same_bytes (a ∷ s) (b ∷ t) = eqb a b && same_bytes s t

-- how often this frame is among those
unfoldable pub occurrences : List ℕ → List (List ℕ) → ℕ
occurrences f [] = 0
occurrences f (g ∷ fs) = one (same_bytes f g) + occurrences f fs

-- the frame that writes the wanted value of a setting
abbrev pub frame_to : List ℤ → ℕ → List ℕ
frame_to w r = write_frame r (at w r)

-- of a restore that has come to its end: "finishes with exactly one write for each setting that still differs"
pub record Finished (o w : List ℤ) (x : Scene) : Type 0 where
  pub says_done : (room : List ℕ) → (next_of x.job (length room)).step ≡ Ok Done
  -- the very bytes of what went out, in order
  pub frames : x.sent ≡ map (frame_to w) (writes slots o w)
  pub one_frame_each : (n : ℕ) → n < 50 → occurrences (frame_to w n) x.sent ≡ one (differs o w n)
  pub no_other_frame : length x.sent ≡ how_many 50 (differs o w)
  pub reached : (n : ℕ) → n < 50 → at x.words n ≡ at w n
  pub safe : Safe slots o w x.words

-- ---- restores towards the same values one after the other, each opened on a fresh reading of what the one before left, each cut where it ends

module _ (device : Device) (w : List ℤ) where
  abbrev pub leaves : List ℤ → List Event → List ℤ
  leaves q d = (after_all device (begin q q w) d).words

  abbrev pub all_leave : List ℤ → List (List Event) → List ℤ
  all_leave q [] = q
  all_leave q (d ∷ ds) = all_leave (leaves q d) ds

  abbrev pub AllOnLine : List ℤ → List (List Event) → Type 0
  AllOnLine q [] = Unit {0}
  AllOnLine q (d ∷ ds) = OnLine device (begin q q w) d × AllOnLine (leaves q d) ds

  -- each opens, and after any number of its events the pack is safe, as judged by the words o before the first
  abbrev pub AllSafe : List ℤ → List ℤ → List (List Event) → Type 0
  AllSafe o q [] = Unit {0}
  AllSafe o q (d ∷ ds) =
      (IsOk (open_of q w)) × ((n : ℕ) → Safe slots o w (leaves q (take n d))) × AllSafe o (leaves q d) ds
