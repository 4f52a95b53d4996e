-- A setting in INFO as it is written, over its layout: lead byte, amounts of two bytes each with the high byte first, delay (01, PACE: D0, DA).
-- Assumes nothing.
use Rattle.std.specs.Prelude.{List, [], ◌∷◌, ◌++◌, ℕ, ◌/◌, ◌%◌, length, drop, replicate}
use Rattle.characters_pace.specs.Characters.{halves}
use Rattle.writes_pace.specs.declared.Info.{Info}
use Rattle.layouts_pace.specs.declared.Layout.{Layout}
use Rattle.layouts_pace.specs.declared.Values.{Values}
use Rattle.layouts_pace.specs.Settings.{layout_of, setting_of, amounts_of, delay_of}

-- numbers as two bytes each
abbrev pub pairs_of : List ℕ → List ℕ
pairs_of s = halves (λ n. n / 256 % 256) (λ n. n % 256) s

unfoldable pub payload : Layout → List ℕ → ℕ → List ℕ
payload layout amounts delay = layout.lead ∷ (pairs_of amounts ++ delay ∷ [])

abbrev pub info_of : Values → List ℕ
info_of v = payload (layout_of (setting_of v)) (amounts_of v) (delay_of v)

-- the same beside its command, in an array with zeros behind
abbrev pub info_record : Values → Info
info_record v = record { command = (layout_of (setting_of v)).writes; bytes = info_of v ++ drop (length (info_of v)) (replicate 8 0); len = length (info_of v) }
