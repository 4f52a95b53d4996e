-- What reading a PACE reply finds: the frame's refusals (1, 2, 3, 13, 4, 5, 6), then 6, 7, the device's failure, 8, 9, or the record (01, PACE; 01, Refusal numbers).
-- Assumes nothing.
use Rattle.std.specs.Prelude.{Bool, List, Option, Some, None, is_some, Result, Ok, Err, ℕ, ◌%◌, eqb, length}
use Rattle.laws.specs.Choice.{pick}
use Rattle.refusals.specs.declared.Refusal.{Refusal}
use Rattle.refusals.specs.declared.Refusal.TheVariants as refusal
use Rattle.characters_pace.specs.Characters.{bytes_in}
use Rattle.frames_pace.specs.declared.Frame.{Frame}
use Rattle.frames_pace.specs.Frame.{info_of, frame_of}
use Rattle.commands_pace.specs.declared.Command.{Command}
use Rattle.commands_pace.specs.Commands.{command_of}
use Rattle.payloads_pace.specs.declared.Answer.{Answer}
use Rattle.payloads_pace.specs.declared.Answer.TheVariants.{DeviceFailure}
use Rattle.payloads_pace.specs.Payload.{payload_reply}
use Rattle.records_pace.specs.declared.Sort.{Sort}
use Rattle.records_pace.specs.declared.Sort.TheVariants.{Failure, Record}

-- a whole frame by its tests: it comes from the address asked, the command asked is listed, the return code is 00, INFO has an even count of
-- characters. 6; 7, before the device's failure; the failure, whose INFO is not looked at; 8
abbrev pub sort_of : Bool → Bool → Bool → Bool → Result Sort Refusal
sort_of same known working even =
    pick same
    (pick known (pick working (pick even (Ok Record) (Err refusal.Shape)) (Ok Failure)) (Err refusal.Request))
    (Err refusal.Address)

-- the record that a command calls for, of the bytes d; a command that is not listed calls for none
abbrev pub record_of : ℕ → Option Command → List ℕ → Result Answer Refusal
record_of a (Some c) d = payload_reply a c d
record_of a None d = Err refusal.Request

-- a frame of that sort, as the answer of the address a to the command c
abbrev pub by_sort : ℕ → Option Command → ℕ → List ℕ → Result Sort Refusal → Result Answer Refusal
by_sort a c code info (Err why) = Err why
by_sort a c code info (Ok Failure) = Ok (DeviceFailure code)
by_sort a c code info (Ok Record) = record_of a c (bytes_in info)

unfoldable pub answered_of : ℕ → ℕ → Option Command → ℕ → List ℕ → Result Answer Refusal
answered_of a from c code info = by_sort a c code info (sort_of (eqb from a) (is_some c) (eqb code 0) (eqb (length info % 2) 0))

abbrev pub of_frame : ℕ → ℕ → List ℕ → Result Frame Refusal → Result Answer Refusal
of_frame a asked s (Err why) = Err why
of_frame a asked s (Ok f) = answered_of a f.address (command_of asked) f.command (info_of s)

unfoldable pub reply_of : ℕ → ℕ → List ℕ → Result Answer Refusal
reply_of a asked s = of_frame a asked s (frame_of s)
