-- What holds of every layout, and of the values taken apart and put together: by cases on the setting.
-- Assumes nothing.
use mathlib.Core.Path.{◌≡◌, refl}
use mathlib.Core.Bool.{Bool, true, ◌&&◌}
use mathlib.Core.List.{List, [], ◌∷◌, ◌++◌}
use Prim.Native.Nat.{ℕ, zero, suc, ◌<◌, ◌≤◌}
use native.Mathlib.Omega.{arith}
use borrow.Author.Tests.{leb-true, ltb-true}
use lib.Dec.{leb, ltb}
use lib.ListN.{length, get_or, get_or-append}
use Rattle.laws.specs.Firsts.{firsts}
use Rattle.laws.proofs.Firsts.{listed}
use Rattle.laws.proofs.Ladders.{both}
use Rattle.layouts_pace.specs.declared.Layout.{Layout}
use Rattle.layouts_pace.specs.declared.Setting.{Setting}
use Rattle.layouts_pace.specs.declared.Setting.TheVariants.{Overvoltage, Discharge}
use Rattle.layouts_pace.specs.declared.Values.{Values}
use Rattle.layouts_pace.specs.declared.Values.TheVariants.{CellOvervoltage, SlowDischarge}
use Rattle.layouts_pace.specs.Settings.{layout_of, setting_of, amounts_of, delay_of, values_of}

-- ---- numbers of a layout, tested all at once

unfoldable all : List Bool → Bool
all [] = true
all (t ∷ l) = t && all l

each : (l : List Bool) (i : ℕ) → all l ≡ true → get_or l i true ≡ true
unfolding all
each [] i e = refl
each (t ∷ l) zero e = (both t (all l) e).0
each (t ∷ l) (suc i) e = each l i (both t (all l) e).1

-- three places are enough; steps are counted; what may be written fits two bytes and one; lead byte and command are bytes
abbrev tests : Layout → List Bool
tests layout =
    leb layout.amounts 3 ∷ ltb 0 layout.step ∷ ltb 0 layout.delay_step ∷ ltb layout.high 65536 ∷ ltb layout.delay_high 256
    ∷ ltb layout.lead 256 ∷ ltb layout.writes 256 ∷ []

sound : (s : Setting) → all (tests (layout_of s)) ≡ true
unfolding all layout_of
sound Overvoltage = refl
sound Discharge = refl

test : (s : Setting) (i : ℕ) → get_or (tests (layout_of s)) i true ≡ true
test s i = each (tests (layout_of s)) i (sound s)

pub few : (s : Setting) → (layout_of s).amounts ≤ 3
few s = leb-true (layout_of s).amounts 3 (test s 0)

pub steps : (s : Setting) → (0 < (layout_of s).step) × (0 < (layout_of s).delay_step)
steps s = (ltb-true 0 (layout_of s).step (test s 1), ltb-true 0 (layout_of s).delay_step (test s 2))

pub highs : (s : Setting) → ((layout_of s).high < 65536) × ((layout_of s).delay_high < 256)
highs s = (ltb-true (layout_of s).high 65536 (test s 3), ltb-true (layout_of s).delay_high 256 (test s 4))

pub leads : (s : Setting) → (layout_of s).lead < 256
leads s = ltb-true (layout_of s).lead 256 (test s 5)

pub writes_small : (s : Setting) → (layout_of s).writes < 256
writes_small s = ltb-true (layout_of s).writes 256 (test s 6)

-- ---- values

-- values have their layout's number of amounts
pub amounts_count : (v : Values) → length (amounts_of v) ≡ (layout_of (setting_of v)).amounts
unfolding layout_of
amounts_count (CellOvervoltage alarm protect release delay) = refl
amounts_count (SlowDischarge alarm protect delay) = refl

-- taken apart and put together
pub values_again : (v : Values) → values_of (setting_of v) (amounts_of v) (delay_of v) ≡ v
values_again (CellOvervoltage alarm protect release delay) = refl
values_again (SlowDischarge alarm protect delay) = refl

pub setting_again : (s : Setting) (a : List ℕ) (delay : ℕ) → setting_of (values_of s a delay) ≡ s
setting_again Overvoltage a delay = refl
setting_again Discharge a delay = refl

pub delay_again : (s : Setting) (a : List ℕ) (delay : ℕ) → delay_of (values_of s a delay) ≡ delay
delay_again Overvoltage a delay = refl
delay_again Discharge a delay = refl

-- only the layout's places count
pub values_front : (s : Setting) (a more : List ℕ) (delay : ℕ) → length a ≡ (layout_of s).amounts → values_of s (a ++ more) delay ≡ values_of s a delay
unfolding layout_of
values_front Overvoltage a more delay e = rw (get_or-append a more 0 0 (omega arith), get_or-append a more 0 1 (omega arith), get_or-append a more 0 2 (omega arith))
values_front Discharge a more delay e = rw (get_or-append a more 0 0 (omega arith), get_or-append a more 0 1 (omega arith))

pub amounts_again : (s : Setting) (a : List ℕ) (delay : ℕ) → length a ≡ (layout_of s).amounts → amounts_of (values_of s a delay) ≡ a
unfolding layout_of firsts
amounts_again Overvoltage a delay e = listed a 3 e
amounts_again Discharge a delay e = listed a 2 e
