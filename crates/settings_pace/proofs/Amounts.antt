-- A signed number of 16 bits, widened to 32 and negated there: what the bits hold, that the result fits, and the amount that it is.
-- By cases on the sign.
-- Assumes nothing.
use mathlib.Core.Path.{◌≡◌, refl, sym, ap, ◌∙◌, subst}
use mathlib.Core.Bool.{true, false}
use Prim.Native.Nat.{zero, suc, ◌+◌, ◌≤◌}
use native.Mathlib.Omega.{arith}
use borrow.Author.Tests.{ltb-false}
use lib.Dec.{T}
use lib.IntN.{ℤ, pos, negsuc, neg_ℤ, ◌-ℤ◌, +ℤ_idl, nat_abs}
use lib.Signed.{mag, lt_z, non_neg}
use mir.Syntax.{w16, w32}
use mir.Val.{SFits, Fits, to_z, of_z}
use mir.ValLaws.{to_z-of_z}
use Rattle.std.specs.Prelude.{Some, None}
use Rattle.settings_pace.specs.Reading.{opposite}

mag_neg : (x : ℤ) → mag (neg_ℤ x) ≤ mag x + 1
mag_neg (pos zero) = omega arith
mag_neg (pos (suc n)) = omega arith
mag_neg (negsuc n) = omega arith

abs_neg : (x : ℤ) → nat_abs (neg_ℤ x) ≤ mag x + 1
abs_neg (pos zero) = omega arith
abs_neg (pos (suc n)) = omega arith
abs_neg (negsuc n) = omega arith

not_below : (x : ℤ) → lt_z (pos 0) x ≡ false → T (non_neg (neg_ℤ x))
not_below (pos zero) h = tt
not_below (pos (suc n)) h = absurd (omega (arith, ltb-false 0 (suc n) h))
not_below (negsuc n) h = tt

above : (x : ℤ) → lt_z (pos 0) x ≡ true → None ≡ opposite x
above (pos zero) h = absurd (subst T (sym h) tt)
above (pos (suc n)) h = refl
above (negsuc n) h = absurd (subst T (sym h) tt)

amount : (x : ℤ) → lt_z (pos 0) x ≡ false → Some (nat_abs (neg_ℤ x)) ≡ opposite x
amount (pos zero) h = refl
amount (pos (suc n)) h = absurd (omega (arith, ltb-false 0 (suc n) h))
amount (negsuc n) h = refl

module _ (x : ℤ) (f : SFits w16 x) where
  wider : SFits w32 x
  wider = record { sfits = omega (arith, f.sfits) }

  pub widened_fits : SFits w32 (to_z w16 (of_z w16 x))
  widened_fits = rw (to_z-of_z w16 x f) wider

  held : to_z w32 (of_z w32 (to_z w16 (of_z w16 x))) ≡ x
  held = ap (λ (z : ℤ). to_z w32 (of_z w32 z)) (to_z-of_z w16 x f) ∙ to_z-of_z w32 x wider

  pub negated_fits : SFits w32 (pos 0 -ℤ to_z w32 (of_z w32 (to_z w16 (of_z w16 x))))
  negated_fits = rw (held, +ℤ_idl (neg_ℤ x)) (record { sfits = omega (arith, mag_neg x, f.sfits) })

  negated : to_z w32 (of_z w32 (pos 0 -ℤ to_z w32 (of_z w32 (to_z w16 (of_z w16 x))))) ≡ neg_ℤ x
  negated = to_z-of_z w32 (pos 0 -ℤ to_z w32 (of_z w32 (to_z w16 (of_z w16 x)))) negated_fits ∙ ap (λ (z : ℤ). pos 0 -ℤ z) held ∙ +ℤ_idl (neg_ℤ x)

  pub positive : lt_z (pos 0) (to_z w32 (of_z w32 (to_z w16 (of_z w16 x)))) ≡ true → None ≡ opposite x
  positive h = above x (rw held at h)

  module _ (h : lt_z (pos 0) (to_z w32 (of_z w32 (to_z w16 (of_z w16 x)))) ≡ false) where
    pub amount_fits : T (non_neg (to_z w32 (of_z w32 (pos 0 -ℤ to_z w32 (of_z w32 (to_z w16 (of_z w16 x)))))))
        × Fits w16 (nat_abs (to_z w32 (of_z w32 (pos 0 -ℤ to_z w32 (of_z w32 (to_z w16 (of_z w16 x)))))))
    amount_fits = rw negated (not_below x (rw held at h), record { fits = omega (arith, abs_neg x, f.sfits) })

    pub amount_is : Some (nat_abs (to_z w32 (of_z w32 (pos 0 -ℤ to_z w32 (of_z w32 (to_z w16 (of_z w16 x))))))) ≡ opposite x
    amount_is = ap (λ (z : ℤ). Some (nat_abs z)) negated ∙ amount x (rw held at h)
