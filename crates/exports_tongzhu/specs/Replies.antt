-- What a Tongzhu reply is to a language that shares no enum: the kind of each answer, and its values in the order of their places in the row.
-- Assumes nothing.
use Rattle.std.specs.Prelude.{ℕ, List, [], ◌∷◌, ℤ, Result, Ok, Err}
use Rattle.exports_answers.specs.Told.{Told, numbers, plain, refused, joined}
use Rattle.refusals.specs.declared.Refusal.{Refusal}
use Rattle.monitor3_tongzhu.specs.declared.Monitor3.{Monitor3}
use Rattle.monitor3_tongzhu.specs.declared.Lists.{Lists}
use Rattle.payloads_tongzhu.specs.declared.Answer.{Answer}
use Rattle.payloads_tongzhu.specs.declared.Answer.TheVariants as is
use Rattle.records_tongzhu.specs.declared.Reply.{Reply}
use Rattle.records_tongzhu.specs.Replies.{with_lists}
use Rattle.flat_tongzhu.specs.Numbers.{status_numbers, monitor2_numbers, monitor3_numbers}
use Rattle.lists_tongzhu.specs.Lists.{list_parts, list_sizes}

-- a monitor 3: its numbers, and behind them its lists, to place 79
abbrev pub parts_of : Monitor3 → Lists → List (List ℤ)
parts_of m l = monitor3_numbers m ∷ list_parts l

abbrev pub sizes : List ℕ
sizes = 12 ∷ list_sizes

abbrev pub all_numbers : Monitor3 → Lists → List ℤ
all_numbers m l = joined (parts_of m l)

-- 1 monitor 2, 2 monitor 3, 3 status, 4 current, 5 done, 6 not done, 7 device error
abbrev pub told_as : Answer → Lists → Told
told_as (is.Monitor2 m) l = numbers 1 (monitor2_numbers m)
told_as (is.Monitor3 m) l = numbers 2 (all_numbers m l)
told_as (is.Status s) l = numbers 3 (status_numbers s)
told_as (is.Current v) l = numbers 4 (v ∷ [])
told_as is.Done l = plain 5 0
told_as is.NotDone l = plain 6 0
told_as is.DeviceError l = plain 7 0

abbrev pub told_of : Result Reply Refusal → Told
told_of (Ok r) = told_as r.answer r.lists
told_of (Err why) = refused why

-- an answer with the lists that go with it in its payload
abbrev pub told_in : Result Answer Refusal → List ℕ → Told
told_in a p = told_of (with_lists a p)
