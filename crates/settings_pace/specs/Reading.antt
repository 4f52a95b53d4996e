-- A setting in the INFO of a reply or a request, over its layout: the bytes d (01, PACE: D1, D0, DB, DA).
-- Assumes nothing.
use Rattle.std.specs.Prelude.{Bool, true, false, ◌&&◌, List, map, Option, Some, None, is_some, unwrap_or, Result, Ok, Err, ℕ, zero, suc, ◌+◌, ◌*◌, eqb, ℤ, pos, negsuc, length, get_or}
use Rattle.laws.specs.Choice.{pick}
use Rattle.signs.specs.Signed.{signed_of}
use Rattle.refusals.specs.declared.Refusal.{Refusal}
use Rattle.refusals.specs.declared.Refusal.TheVariants as refusal
use Rattle.characters_pace.specs.Characters.{all_of, words_at}
use Rattle.layouts_pace.specs.declared.Setting.{Setting}
use Rattle.layouts_pace.specs.declared.Layout.{Layout}
use Rattle.layouts_pace.specs.declared.Values.{Values}
use Rattle.layouts_pace.specs.Settings.{layout_of, values_of}
use Rattle.allowed_pace.specs.Allowed.{allowed_of}

-- of the layout's length, with the layout's lead byte
unfoldable pub shaped : Layout → List ℕ → Bool
shaped layout d = eqb (length d) (2 * layout.amounts + 2) && eqb (get_or d 0 0) layout.lead

abbrev pub words_in : Layout → List ℕ → List ℕ
words_in layout d = words_at 1 layout.amounts d

abbrev pub delay_in : Layout → List ℕ → ℕ
delay_in layout d = get_or d (2 * layout.amounts + 1) 0

-- a negated amount: -n stands for n, and a positive number for none
abbrev pub opposite : ℤ → Option ℕ
opposite (pos zero) = Some 0
opposite (pos (suc n)) = None
opposite (negsuc n) = Some (suc n)

-- what two bytes of a reply stand for: in a negated layout they are a signed number
unfoldable pub amount_of : Bool → ℕ → Option ℕ
amount_of false w = Some w
amount_of true w = opposite (signed_of 15 w)

abbrev pub amount_in : Option ℕ → ℕ
amount_in a = unwrap_or a 0

-- a reply: 8, 9 (a positive amount in a negated layout), or the values, all of them kept
unfoldable pub reply_of : Setting → List ℕ → Result Values Refusal
reply_of s d =
    pick (shaped (layout_of s) d)
    (pick (all_of (λ w. is_some (amount_of (layout_of s).negated w)) (words_in (layout_of s) d))
    (Ok (values_of s (map (λ w. amount_in (amount_of (layout_of s).negated w)) (words_in (layout_of s) d)) (delay_in (layout_of s) d)))
    (Err refusal.Range))
    (Err refusal.Shape)

-- a request: 8, 9, or the values, which hold the plain amounts
unfoldable pub request_of : Setting → List ℕ → Result Values Refusal
request_of s d =
    pick (shaped (layout_of s) d)
    (pick (allowed_of (values_of s (words_in (layout_of s) d) (delay_in (layout_of s) d)))
    (Ok (values_of s (words_in (layout_of s) d) (delay_in (layout_of s) d)))
    (Err refusal.Range))
    (Err refusal.Shape)
