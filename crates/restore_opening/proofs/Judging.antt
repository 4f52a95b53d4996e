-- The ways out of an opening's tests, each from the facts that the code has there, and what an accepted one has passed.
-- The ladder by its tests. Assumes nothing.
use mathlib.Core.Path.{◌≡◌, refl, ap}
use mathlib.Core.Bool.{Bool, true, false, ◌&&◌}
use mathlib.Core.List.{List}
use Prim.Native.Nat.{ℕ}
use lib.IntN.{ℤ}
use lib.Dec.{eqb}
use lib.ListN.{length}
use borrow.Author.Tests.{eq-eqb, ne_eqb, eqb-true}
use Rattle.std.specs.Prelude.{Ok, Err}
use Rattle.laws.proofs.Ladders.{both}
use Rattle.refusals.specs.declared.Refusal.TheVariants as refusal
use Rattle.restore_order.specs.Slots.{slots, at, sides}
use Rattle.restore_order.specs.Machine.{Job, job_of, ready}
use Rattle.laws.specs.Every.{every}
use Rattle.restore_order.specs.Opening.{pathfinder, opened, in_order, shapely, unmoved, ranged, opening}
use Rattle.restore_rules.specs.Places.{place_at}
use Rattle.restore_opening.specs.Verdicts.{verdict_of, upright}

-- ---- the pairs

module _ (p : List ℤ) where
  -- what has its place at a setting stands right
  abbrev pub up : ℕ → Bool
  up n = upright p (place_at n)

  and_true : (a : Bool) → (a && true) ≡ a
  and_true true = refl
  and_true false = refl

  -- the five places are those of all pairs
  pub all_up : sides slots p ≡ (up 3 && (up 6 && (up 9 && (up 12 && up 28))))
  unfolding sides place_at
  all_up = ap (λ (b : Bool). up 3 && (up 6 && (up 9 && (up 12 && b)))) (and_true (up 28))

-- ---- the tests in their order

module _ (o w : List ℤ) where
  -- without 50 words and 50 values nothing has the right shape; with them the types of the present settings decide
  typed : Bool
  typed = every 50 (λ n. pathfinder.fits_type n (at o n))

  pub unsized_present : (length o ≡ 50 → ⊥) → shapely pathfinder o w ≡ false
  unsized_present h = rw (ne_eqb (length o) 50 h)

  pub unsized_wanted : (length w ≡ 50 → ⊥) → shapely pathfinder o w ≡ false
  unsized_wanted h = rw (ne_eqb (length w) 50 h) (go (eqb (length o) 50))
    where
      go : (a : Bool) → (a && (false && typed)) ≡ false
      go true = refl
      go false = refl

  pub sized : length o ≡ 50 → length w ≡ 50 → shapely pathfinder o w ≡ every 50 (λ n. pathfinder.fits_type n (at o n))
  sized a b = rw (eq-eqb _ _ a, eq-eqb _ _ b)

  pub misshapen : shapely pathfinder o w ≡ false → Err refusal.Shape ≡ verdict_of (opening pathfinder o w)
  unfolding opening
  misshapen h = rw h

  pub few_words : (length o ≡ 50 → ⊥) → Err refusal.Shape ≡ verdict_of (opening pathfinder o w)
  few_words h = misshapen (unsized_present h)

  pub few_values : (length w ≡ 50 → ⊥) → Err refusal.Shape ≡ verdict_of (opening pathfinder o w)
  few_values h = misshapen (unsized_wanted h)

  module _ (shapes : shapely pathfinder o w ≡ true) where
    -- 50 words and 50 values
    pub lengths : (length o ≡ 50) × (length w ≡ 50)
    lengths =
        let typed : Bool = every 50 (λ n. pathfinder.fits_type n (at o n)) in
        let a = both (eqb (length o) 50) (eqb (length w) 50 && typed) shapes in
        let b = both (eqb (length w) 50) typed a.1 in
        (eqb-true (length o) 50 a.0, eqb-true (length w) 50 b.0)

    pub fixed_moved : unmoved pathfinder o w ≡ false → Err refusal.Register ≡ verdict_of (opening pathfinder o w)
    unfolding opening
    fixed_moved h = rw (shapes, h)

    module _ (fixed : unmoved pathfinder o w ≡ true) where
      pub out_of_range : ranged pathfinder w ≡ false → Err refusal.Range ≡ verdict_of (opening pathfinder o w)
      unfolding opening
      out_of_range h = rw (shapes, fixed, h)

      module _ (values : ranged pathfinder w ≡ true) where
        pub wanted_crossed : sides slots w ≡ false → Err refusal.WantedPair ≡ verdict_of (opening pathfinder o w)
        unfolding opening
        wanted_crossed h = rw (shapes, fixed, values, h)

        module _ (wanted : sides slots w ≡ true) where
          pub present_crossed : sides slots o ≡ false → Err refusal.PresentPair ≡ verdict_of (opening pathfinder o w)
          unfolding opening
          present_crossed h = rw (shapes, fixed, values, wanted, h)

          pub accepted : sides slots o ≡ true → Ok tt ≡ verdict_of (opening pathfinder o w)
          unfolding opening
          accepted h = rw (shapes, fixed, values, wanted, h)

  -- the other way: what is accepted has passed every test
  pub is_opened : Ok tt ≡ verdict_of (opening pathfinder o w) → (shapely pathfinder o w ≡ true) × (opening pathfinder o w ≡ opened (job_of o w ready))
  unfolding opening
  is_opened e = go (shapely pathfinder o w) (unmoved pathfinder o w) (ranged pathfinder w) (sides slots w) (sides slots o) e
    where
      j : Job
      j = job_of o w ready

      go : (a b c d e : Bool) → Ok tt ≡ verdict_of (in_order a b c d e j) → (a ≡ true) × (in_order a b c d e j ≡ opened j)
      go true true true true true q = (refl, refl)
      go true true true true false q = absurd cc
      go true true true false e q = absurd cc
      go true true false d e q = absurd cc
      go true false c d e q = absurd cc
      go false b c d e q = absurd cc
