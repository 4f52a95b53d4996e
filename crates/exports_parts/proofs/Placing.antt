-- Values placed in a row by a loop: a store places one more (`one_more`).
-- The library's `paste` is the loop's state. Assumes nothing.
use mathlib.Core.Path.{◌≡◌, refl, sym, ap, ap₂, ◌∙◌}
use mathlib.Core.List.{List, [], ◌∷◌, ◌++◌, map}
use Prim.Native.Nat.{ℕ, ◌+◌, ◌≤◌, ◌<◌}
use native.Mathlib.Numerals.{add-one}
use native.Mathlib.Omega.{arith}
use borrow.Author.Tests.{le-leb, lt-leb}
use lib.IntN.{ℤ}
use lib.ListN.{length, get_or, take, drop, set, length-set}
use lib.Seq.{paste, paste-zero, paste-suc, take_all}
use Rattle.std.specs.Prelude.{Ok, Err}
use Rattle.refusals.specs.declared.Refusal.TheVariants as refusal
use Rattle.exports_parts.specs.Parts.{itself, fit_code, placed}

-- n values are to stand from the place `at` on: the first i do, all else is as it was
abbrev pub Standing : ℕ → ℕ → List ℤ → List ℤ → List ℤ → ℕ → Type 0
Standing n at values old row i = (i ≤ n) × (row ≡ paste old at values i) × (length row ≡ length old) × (at + n ≤ length old)

module _ (n at : ℕ) (values old : List ℤ) (size : length values ≡ n) where
  pub none_stands : at + n ≤ length old → Standing n at values old old 0
  none_stands h = (omega arith, paste-zero old at values, refl, h)

  pub one_more : (row : List ℤ) (i : ℕ) (v z : ℤ) → Standing n at values old row i → i < n → v ≡ get_or values i z
      → Standing n at values old (set row (at + i) v) (i + 1)
  one_more row i v z s k w =
      let h : at + i < length old = omega (arith, s.3) in
      let k' : i < length values = omega arith in (
        omega arith,
        ap₂ (λ (l : List ℤ) (x : ℤ). set l (at + i) x) s.1 w ∙ paste-suc old at values i z h k' ∙ ap (paste old at values) (sym (add-one i)),
        simp length-set s.2,
        s.3,
      )

  pub all_stand : (row : List ℤ) (i : ℕ) → Standing n at values old row i → n ≤ i → row ≡ placed at values old
  unfolding placed
  all_stand row i s k =
      let e : i ≡ length values = omega (arith, s.0) in
      let h : at + length values ≤ length old = omega (arith, s.3) in
      let whole : paste old at values (length values) ≡ take at old ++ values ++ drop (at + length values) old =
      ap (λ (l : List ℤ). take at old ++ l ++ drop (at + length values) old) (take_all (length values) values (omega arith)) in
      simp (le-leb _ _ h) (s.1 ∙ ap (paste old at values) e ∙ whole)

  pub none_placed : length old < at + n → old ≡ placed at values old
  unfolding placed
  none_placed h = let k : length old < at + length values = omega arith in simp (lt-leb _ _ k)

module _ (at n size : ℕ) where
  pub they_fit : at + n ≤ size → Ok tt ≡ fit_code at n size
  unfolding fit_code
  they_fit h = simp (le-leb _ _ h)

  pub none_fits : size < at + n → Err refusal.Room ≡ fit_code at n size
  unfolding fit_code
  none_fits h = simp (lt-leb _ _ h)

-- signed numbers are placed as they are
pub as_they_are : (zs : List ℤ) → map itself zs ≡ zs
as_they_are [] = refl
as_they_are (z ∷ zs) = ap (λ (l : List ℤ). z ∷ l) (as_they_are zs)
