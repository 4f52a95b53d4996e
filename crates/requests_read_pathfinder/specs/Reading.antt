-- What reading a request finds (01, Pathfinder and Refusal numbers): after the frame's own refusals 7, 8, 10, 9.
-- Assumes nothing.
use Rattle.std.specs.Prelude.{ℕ, List, length, get_or, eqb, Result, Ok, Err}
use Rattle.laws.specs.Choice.{pick}
use Rattle.refusals.specs.declared.Refusal.{Refusal}
use Rattle.refusals.specs.declared.Refusal.TheVariants as refusal
use Rattle.frames_pathfinder.specs.declared.Frame.{Frame}
use Rattle.frames_pathfinder.specs.Reading.{frame_of}
use Rattle.registers_pathfinder.specs.Registers.{is_register, in_range}
use Rattle.words_pathfinder.specs.Words.{word_of}
use Rattle.records_pathfinder.specs.Replies.{payload_of}
use Rattle.requests_pathfinder.specs.declared.Request.{Request}
use Rattle.requests_pathfinder.specs.declared.Request.TheVariants.{Ask, Write}
use Rattle.requests_pathfinder.specs.Requests.{asks}

-- the data of 0E: a register and four bytes of value
unfoldable pub parsed_set : List ℕ → Result Request Refusal
parsed_set load =
    pick (eqb (length load) 5)
    (pick (is_register (get_or load 0 0))
    (pick (in_range (get_or load 0 0) (word_of (get_or load 1 0) (get_or load 2 0) (get_or load 3 0) (get_or load 4 0)))
    (Ok (Write (get_or load 0 0) (word_of (get_or load 1 0) (get_or load 2 0) (get_or load 3 0) (get_or load 4 0))))
    (Err refusal.Range))
    (Err refusal.Register))
    (Err refusal.Shape)

-- a whole frame by its opcode
unfoldable pub parsed_of : ℕ → List ℕ → Result Request Refusal
parsed_of op load =
    pick (eqb op 0x0E) (parsed_set load)
    (pick (asks op) (pick (eqb (length load) 0) (Ok (Ask op)) (Err refusal.Shape)) (Err refusal.Request))

abbrev pub of_frame : Result Frame Refusal → List ℕ → Result Request Refusal
of_frame (Err why) load = Err why
of_frame (Ok frame) load = parsed_of frame.opcode load

unfoldable pub request_of : List ℕ → Result Request Refusal
request_of s = of_frame (frame_of s) (payload_of s)
