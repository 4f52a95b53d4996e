-- PACE requests that are read, for a language that shares no enum: the kind of each, and its values in the order of their places in the row.
-- Assumes nothing.
use Rattle.std.specs.Prelude.{ℕ, Result, Ok, Err, [], ◌∷◌, pos}
use Rattle.layouts_pace.specs.declared.Values.{Values}
use Rattle.layouts_pace.specs.declared.Values.TheVariants.{CellOvervoltage, SlowDischarge}
use Rattle.requests_pace.specs.declared.Request.{Request}
use Rattle.requests_pace.specs.declared.Request.TheVariants.{Ask, Set}
use Rattle.refusals.specs.declared.Refusal.{Refusal}
use Rattle.exports_answers.specs.Told.{Told, numbers, refused}

-- 2 sets the cell overvoltage: address, alarm, protect, release, delay; 3 sets the slow discharge: address, alarm, protect, delay
abbrev pub set_told : ℕ → Values → Told
set_told address (CellOvervoltage alarm protect release delay) =
    numbers 2 (pos address ∷ pos alarm ∷ pos protect ∷ pos release ∷ pos delay ∷ [])
set_told address (SlowDischarge alarm protect delay) = numbers 3 (pos address ∷ pos alarm ∷ pos protect ∷ pos delay ∷ [])

-- 1 asks: address, command
abbrev pub request_told : Request → Told
request_told (Ask address command) = numbers 1 (pos address ∷ pos command ∷ [])
request_told (Set address values) = set_told address values

abbrev pub told_request : Result Request Refusal → Told
told_request (Ok q) = request_told q
told_request (Err why) = refused why
