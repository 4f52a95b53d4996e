-- What a reply says (002, 5.2 and 6; 01, Tongzhu and Refusal numbers): the frame's own refusal, 7 where it is no reply to the function asked,
-- the device error, or what its payload says.
-- Assumes nothing.
use Rattle.std.specs.Prelude.{ℕ, List, take, drop, eqb, Option, Some, None, Result, Ok, Err}
use Rattle.laws.specs.Choice.{pick}
use Rattle.refusals.specs.declared.Refusal.{Refusal}
use Rattle.refusals.specs.declared.Refusal.TheVariants as refusal
use Rattle.functions_tongzhu.specs.declared.Kind.{Kind}
use Rattle.functions_tongzhu.specs.Functions.{kind_of}
use Rattle.frames_tongzhu.specs.declared.Frame.{Frame}
use Rattle.frames_tongzhu.specs.Reading.{frame_of}
use Rattle.monitor3_tongzhu.specs.declared.Lists.{Lists}
use Rattle.monitor3_tongzhu.specs.Layout.{no_lists, lists_at}
use Rattle.payloads_tongzhu.specs.declared.Answer.{Answer}
use Rattle.payloads_tongzhu.specs.declared.Answer.TheVariants as is
use Rattle.payloads_tongzhu.specs.Payloads.{sized, payload_of}
use Rattle.records_tongzhu.specs.declared.Reply.{Reply}

-- a frame of the function f with the payload p, as the answer to a listed function: FUN 00 is the device error, another function 7
abbrev pub listed_answer : ℕ → ℕ → List ℕ → Result Answer Refusal
listed_answer asked f p =
    pick (eqb f 0) (sized 0 p (Ok is.DeviceError))
    (pick (eqb f asked) (payload_of asked p) (Err refusal.Request))

-- a function that is not listed (01, Tongzhu: 11, 12, 14, 15 read, 30 sets) is 7 before the device error
abbrev pub by_kind : Option Kind → ℕ → ℕ → List ℕ → Result Answer Refusal
by_kind (Some kind) asked f p = listed_answer asked f p
by_kind None asked f p = Err refusal.Request

unfoldable pub answer_to : ℕ → ℕ → List ℕ → Result Answer Refusal
answer_to asked f p = by_kind (kind_of asked) asked f p

-- the lists of a monitor 3; any other answer has none
abbrev pub lists_beside : Answer → List ℕ → Lists
lists_beside (is.Monitor2 m) p = no_lists
lists_beside (is.Monitor3 m) p = lists_at p 0
lists_beside (is.Status s) p = no_lists
lists_beside (is.Current v) p = no_lists
lists_beside is.Done p = no_lists
lists_beside is.NotDone p = no_lists
lists_beside is.DeviceError p = no_lists

abbrev pub with_lists : Result Answer Refusal → List ℕ → Result Reply Refusal
with_lists (Ok a) p = Ok (record { answer = a; lists = lists_beside a p })
with_lists (Err why) p = Err why

abbrev pub of_frame : ℕ → List ℕ → Result Frame Refusal → Result Reply Refusal
of_frame asked s (Ok f) = with_lists (answer_to asked f.function (take f.len (drop f.start s))) (take f.len (drop f.start s))
of_frame asked s (Err why) = Err why

-- the reply s to the function `asked`
unfoldable pub reply_of : ℕ → List ℕ → Result Reply Refusal
reply_of asked s = of_frame asked s (frame_of s)
