-- A record with its lists told in a row, part by part; and a setting's values told where text is lent too.
-- Assumes nothing.
use mathlib.Core.Path.{◌≡◌, ap, ◌∙◌}
use mathlib.Core.List.{List, [], ◌∷◌, map}
use Prim.Native.Nat.{ℕ, ◌+◌, ◌≤◌, ◌<◌}
use lib.IntN.{ℤ, pos}
use lib.ListN.{length, length-map}
use Rattle.refusals.specs.declared.Refusal.TheVariants as refusal
use Rattle.refusals.specs.Numbers.{number_of}
use Rattle.exports_parts.specs.Parts.{placed}
use Rattle.exports_answers.specs.Told.{coded_as, room_code, over, joined}
use Rattle.exports_answers.proofs.Placing.{total, Sizes, parts_told, parts_untold}
use Rattle.exports_pace.specs.Replies.{parts}

-- a record of n numbers with its lists
abbrev pub sizes : ℕ → List ℕ
sizes n = n ∷ 16 ∷ 8 ∷ []

module _ (kind n : ℕ) (values : List ℤ) (cells : List ℕ) (temperatures row : List ℤ) where
  -- what is answered, and what the row holds then
  abbrev pub Recorded : ℕ → List ℤ → Type 0
  Recorded code after =
      let all = joined (parts values (map pos cells) temperatures) in (code ≡ room_code kind (length all) (length row)) × (after ≡ over all row)

  module _ (v : length values ≡ n) (c : length cells ≡ 16) (t : length temperatures ≡ 8) where
    sized : Sizes (parts values (map pos cells) temperatures) (sizes n)
    sized = (v, (length-map cells pos ∙ c, (t, tt)))

    pub record_untold : length row < total (sizes n) → Recorded (number_of refusal.Room) row
    record_untold h = parts_untold kind (parts values (map pos cells) temperatures) (sizes n) sized row h

    -- its parts were placed one after the other
    pub record_told : total (sizes n) ≤ length row → {code : ℕ} {first one two three : List ℤ} → code ≡ coded_as kind (total (sizes n)) → first ≡ values
        → one ≡ placed 0 first row → two ≡ placed (0 + n) (map pos cells) one → three ≡ placed (0 + n + 16) temperatures two → Recorded code three
    record_told h e f p q r =
        let told = parts_told kind (parts values (map pos cells) temperatures) (sizes n) sized row h in
        (e ∙ told.0, r ∙ ap (placed (0 + n + 16) temperatures) (q ∙ ap (placed (0 + n) (map pos cells)) (p ∙ ap (λ l. placed 0 l row) f)) ∙ told.1)
