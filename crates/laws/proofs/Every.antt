-- What a test of every number below n says of each of them, and the other way. A test that antt computes has the proof `tt`.
-- Assumes nothing.
use mathlib.Core.Path.{◌≡◌, refl}
use mathlib.Core.Bool.{Bool, true, false, ◌&&◌}
use Prim.Native.Nat.{ℕ, zero, suc, ◌+◌, ◌<◌}
use native.Mathlib.Omega.{arith}
use native.Mathlib.Numerals.{add-one}
use lib.Dec.{T, eqb}
use borrow.Author.Tests.{eqb-true, eqb-false}
use Rattle.laws.specs.Every.{every}
use Rattle.laws.proofs.Ladders.{both}

-- ---- a test that is computed, and one that is true

pub holds : (a : Bool) → T a → a ≡ true
holds true t = refl
holds false t = absurd t

computed : (a : Bool) → a ≡ true → T a
computed true e = tt
computed false e = let z : ◌≡◌ {A = ℕ} 0 1 = cc in absurd (omega arith)

pub both_left : (a b : Bool) → T (a && b) → T a
both_left true b t = tt
both_left false b t = t

pub both_right : (a b : Bool) → T (a && b) → T b
both_right true b t = t
both_right false b t = absurd t

-- ---- every number

pub every_at : (k : ℕ) (f : ℕ → Bool) → every k f ≡ true → (n : ℕ) → n < k → f n ≡ true
unfolding every
every_at zero f e n h = absurd (omega arith)
every_at (suc k) f e n h = go (eqb n k) refl (every_at k f (both (every k f) (f k) e).0 n)
  where
    go : (b : Bool) → eqb n k ≡ b → (n < k → f n ≡ true) → f n ≡ true
    go true q earlier = rw (eqb-true n k q) (both (every k f) (f k) e).1
    go false q earlier = let ne : n ≡ k → ⊥ = eqb-false n k q in earlier (omega arith)

pub at_every : (k : ℕ) (f : ℕ → Bool) → ((n : ℕ) → n < k → f n ≡ true) → every k f ≡ true
unfolding every
at_every zero f h = refl
at_every (suc k) f h = rw (at_every k f (λ n b. h n (omega arith)), h k (omega arith))

-- where antt has computed the test
pub each : (f : ℕ → Bool) (n : ℕ) → T (every n f) → (k : ℕ) → k < n → T (f k)
each f n t k h = computed (f k) (every_at n f (holds (every n f) t) k h)

-- ---- as a loop asks, one number after the other

module _ (f : ℕ → Bool) where
  pub every_none : every 0 f ≡ true
  unfolding every
  every_none = refl

  pub every_more : (n : ℕ) → every n f ≡ true → f n ≡ true → every (n + 1) f ≡ true
  unfolding every
  every_more n h e = rw (add-one, h, e)

  -- one that fails is enough
  pub every_stops : (k n : ℕ) → n < k → f n ≡ false → every k f ≡ false
  every_stops k n h e = go (every k f) refl
    where
      go : (b : Bool) → every k f ≡ b → every k f ≡ false
      go true q = let t : f n ≡ true = every_at k f q n h in let z : ◌≡◌ {A = ℕ} 0 1 = cc in absurd (omega arith)
      go false q = q
