-- Numbers written as two halves each: lengths, one number more, and a loop that stores both halves.
-- Assumes nothing.
use mathlib.Core.Path.{◌≡◌, refl, ap, ◌∙◌}
use mathlib.Core.List.{List, [], ◌∷◌, ◌++◌, append_assoc}
use Prim.Native.Nat.{ℕ, ◌+◌, ◌*◌, ◌<◌, ◌≤◌}
use native.Mathlib.Numerals.{add-one}
use native.Mathlib.Omega.{arith}
use lib.ListN.{length, get_or, take, drop, set, length-append}
use lib.Seq.{take-suc, length-take-le}
use Rattle.laws.proofs.Filling.{one_more}
use Rattle.characters_pace.specs.Characters.{halves}

module _ (high low : ℕ → ℕ) where
  pub halves_length : (s : List ℕ) → length (halves high low s) ≡ 2 * length s
  unfolding halves
  halves_length [] = refl
  halves_length (x ∷ s) = omega (arith, halves_length s)

  pub halves_append : (a b : List ℕ) → halves high low (a ++ b) ≡ halves high low a ++ halves high low b
  unfolding halves
  halves_append [] b = refl
  halves_append (x ∷ a) b = ap (λ (l : List ℕ). high x ∷ low x ∷ l) (halves_append a b)

  -- two stores of a loop, over what was there
  pub halves_more : (s old out : List ℕ) (i a b : ℕ) → out ≡ halves high low (take i s) ++ drop (2 * i) old → i < length s → 2 * length s ≤ length old
      → a ≡ high (get_or s i 0) → b ≡ low (get_or s i 0)
      → set (set out (2 * i) a) (2 * i + 1) b ≡ halves high low (take (i + 1) s) ++ drop (2 * (i + 1)) old
  unfolding halves
  halves_more s old out i a b o h room ha hb =
      let front = halves high low (take i s) in
      let x = get_or s i 0 in
      let long : length front ≡ 2 * i = halves_length (take i s) ∙ ap (λ (n : ℕ). 2 * n) (length-take-le i s (omega arith)) in
      let long2 : length (front ++ high x ∷ []) ≡ 2 * i + 1 = length-append front (high x ∷ []) ∙ ap (λ (n : ℕ). n + 1) long in
      let next : 2 * i + 1 + 1 ≡ 2 * (i + 1) = omega arith in
      rw (o, ha, hb, one_more front old (2 * i) (high x) 0 long (omega arith), one_more (front ++ high x ∷ []) old (2 * i + 1) (low x) 0 long2 (omega arith), next, add-one i, take-suc s i 0 h, halves_append (take i s) (x ∷ []), append_assoc front (high x ∷ []) (low x ∷ []))
