-- What a word of a Pathfinder reply means, as numbers, for languages that share no enum (exports_answers, specs/Told.antt).
-- Assumes nothing.
use Rattle.std.specs.Prelude.{Bool, true, false, [], ◌∷◌, ℤ, pos, Option, Some, None, Result, Ok, Err}
use Rattle.refusals.specs.declared.Refusal.{Refusal}
use Rattle.units_pathfinder.specs.declared.TenMillivolts.{TenMillivolts}
use Rattle.units_pathfinder.specs.Units.{millivolts_of}
use Rattle.rows_pathfinder.specs.declared.Row.{Row}
use Rattle.rows_pathfinder.specs.declared.Row.TheVariants as row
use Rattle.exports_answers.specs.Told.{Told, numbers, plain, refused}

-- ten millivolts as their count
abbrev pub tens_of : TenMillivolts → ℤ
tens_of v = v.0

-- so many ten millivolts as millivolts
abbrev pub millivolts_in : ℤ → ℤ
millivolts_in tens = (millivolts_of (record { 0 = tens })).0

abbrev pub truth_of : Bool → ℤ
truth_of true = pos 1
truth_of false = pos 0

-- 1 a number, 2 one in units of ten millivolts, 3 a truth as 1 or 0, 4 no data
abbrev pub told_row : Result (Option Row) Refusal → Told
told_row (Ok (Some (row.Number v))) = numbers 1 (v ∷ [])
told_row (Ok (Some (row.TenMillivolts v))) = numbers 2 (tens_of v ∷ [])
told_row (Ok (Some (row.Truth b))) = numbers 3 (truth_of b ∷ [])
told_row (Ok None) = plain 4 0
told_row (Err why) = refused why
