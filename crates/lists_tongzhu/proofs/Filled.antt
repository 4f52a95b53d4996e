-- Places that are filled with values and zeros behind them: how many they are, a widening of each, and a lent part of a row that became them.
-- Assumes nothing.
use mathlib.Core.Path.{◌≡◌, refl, sym, ap, ap₂, ◌∙◌}
use mathlib.Core.List.{List, [], ◌∷◌, ◌++◌, append_assoc, map, map-append}
use Prim.Native.Nat.{ℕ, zero, suc, ◌+◌, ◌≤◌}
use native.Mathlib.Omega.{arith}
use borrow.Author.Tests.{le-leb}
use borrow.Rule.Slice.PartMut.{put_mid}
use lib.IntN.{ℤ}
use lib.ListN.{length, take, drop, replicate, length-append, length-drop, length-replicate}
use lib.Seq.{drop-drop}
use Rattle.laws.specs.Firsts.{firsts}
use Rattle.laws.proofs.Filling.{part_length}
use Rattle.laws.proofs.Firsts.{firsts_length}
use Rattle.exports_parts.specs.Parts.{placed}
use Rattle.monitor3_tongzhu.specs.Values.{places_of}

pub places_length : {A : Type 0} (k : ℕ) (z : A) (f : ℕ → A) (n : ℕ) → n ≤ k → length (places_of k z f n) ≡ k
places_length k z f n h =
    length-append (firsts f n) (drop n (replicate k z))
    ∙ omega (arith, firsts_length f n, length-drop n (replicate k z), length-replicate k z)

module _ {A B : Type 0} (h : A → B) where
  map_firsts : (f : ℕ → A) (n : ℕ) → map h (firsts f n) ≡ firsts (λ i. h (f i)) n
  unfolding firsts
  map_firsts f zero = refl
  map_firsts f (suc n) = map-append h (firsts f n) (f n ∷ []) ∙ ap (λ l. l ++ (h (f n) ∷ [])) (map_firsts f n)

  map_zeros : (k n : ℕ) (z : A) → map h (drop n (replicate k z)) ≡ drop n (replicate k (h z))
  map_zeros zero zero z = refl
  map_zeros zero (suc n) z = refl
  map_zeros (suc k) zero z = ap (λ l. h z ∷ l) (map_zeros k zero z)
  map_zeros (suc k) (suc n) z = map_zeros k n z

  pub map_places : (k : ℕ) (z : A) (f : ℕ → A) (n : ℕ) → map h (places_of k z f n) ≡ places_of k (h z) (λ i. h (f i)) n
  map_places k z f n = map-append h (firsts f n) (drop n (replicate k z)) ∙ ap₂ ◌++◌ (map_firsts f n) (map_zeros k n z)

part_placed : (a k : ℕ) (row part : List ℤ) → length part ≡ k → a + k ≤ length row → put_mid a k row part ≡ placed a part row
unfolding placed
part_placed a k row part e h =
    let fits : a + length part ≤ length row = omega arith in
    simp (le-leb _ _ fits)
    (rw e (ap (λ l. take a row ++ (part ++ l)) (drop-drop k a row) ∙ sym (append_assoc (take a row) part (drop (a + k) row))))

-- ---- a part of a row lent to a call that fills it

pub part_room : (a k n : ℕ) (row : List ℤ) → n ≤ k → a + k ≤ length row → n ≤ length (take k (drop a row))
part_room a k n row few h = omega (arith, part_length a k row h)

pub part_filled : (a k : ℕ) (row part : List ℤ) (z : ℤ) (f : ℕ → ℤ) (n : ℕ) → n ≤ k → a + k ≤ length row → part ≡ places_of (length (take k (drop a row))) z f n
    → put_mid a k row part ≡ placed a (places_of k z f n) row
part_filled a k row part z f n few h e =
    let filled = e ∙ ap (λ (m : ℕ). places_of m z f n) (part_length a k row h) in
    part_placed a k row part (ap length filled ∙ places_length k z f n few) h ∙ ap (λ l. placed a l row) filled
