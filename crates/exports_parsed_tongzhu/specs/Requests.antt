-- Tongzhu requests that are read, for a language that shares no struct and no enum: the kind of each, and its values in the order of their places
-- in the row. Assumes nothing.
use Rattle.std.specs.Prelude.{List, [], ◌∷◌, ℤ, pos, Result, Ok, Err}
use Rattle.refusals.specs.declared.Refusal.{Refusal}
use Rattle.times_tongzhu.specs.declared.Time.{Time}
use Rattle.requests_tongzhu.specs.declared.Request.{Request}
use Rattle.requests_tongzhu.specs.declared.Request.TheVariants.{Ask, SetTime}
use Rattle.exports_answers.specs.Told.{Told, numbers, refused}

-- places 0 to 5: the time that function 30 sets
abbrev pub time_numbers : Time → List ℤ
time_numbers t =
    pos t.year ∷ pos t.month ∷ pos t.day ∷ pos t.hour ∷ pos t.minute ∷ pos t.second ∷ []

-- 1 asks: the function; 2 sets the time
abbrev pub request_told : Request → Told
request_told (Ask function) = numbers 1 (pos function ∷ [])
request_told (SetTime t) = numbers 2 (time_numbers t)

abbrev pub told_request : Result Request Refusal → Told
told_request (Ok q) = request_told q
told_request (Err why) = refused why
