-- What a PACE reply is to a language that shares no enum: the kind of each answer, its values in the order of their places in the row, its text.
-- Assumes nothing.
use Rattle.std.specs.Prelude.{ℕ, Result, Ok, Err, List, [], ◌∷◌, map, ℤ, pos, take}
use Rattle.analog_pace.specs.declared.Analog.{Analog}
use Rattle.warnings_pace.specs.declared.Warnings.{Warnings}
use Rattle.layouts_pace.specs.declared.Values.{Values}
use Rattle.layouts_pace.specs.declared.Values.TheVariants.{CellOvervoltage, SlowDischarge}
use Rattle.payloads_pace.specs.declared.Answer.{Answer}
use Rattle.payloads_pace.specs.declared.Answer.TheVariants as is
use Rattle.refusals.specs.declared.Refusal.{Refusal}
use Rattle.exports_answers.specs.Told.{Told, numbers, letters, plain, refused, joined}

-- ---- a record with its lists

-- its numbers, behind them 16 places of the cells, behind them 8 of the temperatures
abbrev pub parts : List ℤ → List ℤ → List ℤ → List (List ℤ)
parts values cells temperatures = values ∷ cells ∷ temperatures ∷ []

-- ---- analog information

-- places 0 to 7
abbrev pub analog_numbers : Analog → List ℤ
analog_numbers a =
    pos a.cells ∷ pos a.temperatures ∷ a.current_10ma ∷ pos a.total_mv ∷ pos a.remaining_10mah
    ∷ pos a.full_10mah ∷ pos a.cycles ∷ pos a.design_10mah ∷ []

-- and behind them the cells from place 8 on, the temperatures from 24, to 31
abbrev pub analog_all : Analog → List ℕ → List ℤ → List ℤ
analog_all a cells temperatures = joined (parts (analog_numbers a) (map pos cells) temperatures)

-- ---- warnings

-- places 0 to 13
abbrev pub warning_numbers : Warnings → List ℤ
warning_numbers w =
    pos w.cells ∷ pos w.temperatures ∷ pos w.charge_current ∷ pos w.total_voltage ∷ pos w.discharge_current
    ∷ pos w.protection1 ∷ pos w.protection2 ∷ pos w.system ∷ pos w.configuration ∷ pos w.fault
    ∷ pos w.balance_high ∷ pos w.balance_low ∷ pos w.warning1 ∷ pos w.warning2 ∷ []

-- and behind them those of the cells from place 14 on, of the temperatures from 30, to 37
abbrev pub warning_all : Warnings → List ℕ → List ℕ → List ℤ
warning_all w cells temperatures = joined (parts (warning_numbers w) (map pos cells) (map pos temperatures))

-- ---- the answers

-- 5 cell overvoltage: alarm, protect, release, delay; 6 slow discharge: alarm, protect, delay
abbrev pub values_told : Values → Told
values_told (CellOvervoltage alarm protect release delay) = numbers 5 (pos alarm ∷ pos protect ∷ pos release ∷ pos delay ∷ [])
values_told (SlowDischarge alarm protect delay) = numbers 6 (pos alarm ∷ pos protect ∷ pos delay ∷ [])

-- 1 analog information, 2 warnings, 3 hardware (20 letters), 4 serial number (20 or 40 letters), 7 accepted, 8 the device's failure
abbrev pub told_as : Answer → Told
told_as (is.Analog r) = numbers 1 (analog_all r.numbers r.cells r.temperatures)
told_as (is.Warnings r) = numbers 2 (warning_all r.status r.cells r.temperatures)
told_as (is.Hardware t) = letters 3 t
told_as (is.Serial t n) = letters 4 (take n t)
told_as (is.Setting v) = values_told v
told_as is.Accepted = plain 7 0
told_as (is.DeviceFailure code) = plain 8 code

abbrev pub told_of : Result Answer Refusal → Told
told_of (Ok answer) = told_as answer
told_of (Err why) = refused why
