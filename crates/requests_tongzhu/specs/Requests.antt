-- The requests, the one frame of each, and what is wrong with one (002, 6; 01, Tongzhu and Refusal numbers: writing uses 7, 8, 9, then 11; there
-- are no registers, so no 10). What the writer answers and leaves is the rule of every writer. Assumes nothing.
use Rattle.std.specs.Prelude.{ℕ, List, [], length, Option, Some, None, Result, Ok, Err}
use Rattle.laws.specs.Choice.{pick}
use Rattle.refusals.specs.declared.Refusal.{Refusal}
use Rattle.refusals.specs.declared.Refusal.TheVariants as refusal
use Rattle.refusals.specs.Writing.{written_as}
use Rattle.functions_tongzhu.specs.declared.Kind.{Kind}
use Rattle.functions_tongzhu.specs.declared.Kind.TheVariants.{Reads, Sets}
use Rattle.functions_tongzhu.specs.Functions.{kind_of}
use Rattle.frames_written_tongzhu.specs.Writing.{frame_bytes}
use Rattle.times_tongzhu.specs.Times.{real, time_bytes}
use Rattle.requests_tongzhu.specs.declared.Request.{Request}
use Rattle.requests_tongzhu.specs.declared.Request.TheVariants.{Ask, SetTime}

abbrev pub function_of : Request → ℕ
function_of (Ask f) = f
function_of (SetTime t) = 0x30

abbrev pub load_of : Request → List ℕ
load_of (Ask f) = []
load_of (SetTime t) = time_bytes t

-- the frame that the document gives for a request
abbrev pub frame_for : Request → List ℕ
frame_for q = frame_bytes (function_of q) (load_of q)

-- asking: a function that is not listed is 7, and 30 without its values is 8
abbrev pub ask_fault : Option Kind → Result Unit Refusal
ask_fault (Some Reads) = Ok tt
ask_fault (Some Sets) = Err refusal.Shape
ask_fault None = Err refusal.Request

-- the refusal that a request meets whatever the room, if it meets one; an unreal date or time is 9
unfoldable pub fault_of : Request → Result Unit Refusal
fault_of (Ask f) = ask_fault (kind_of f)
fault_of (SetTime t) = pick (real t) (Ok tt) (Err refusal.Range)

-- what writing it answers, with so many bytes of room
abbrev pub sent_as : Request → ℕ → Result ℕ Refusal
sent_as q places = written_as (fault_of q) (length (frame_for q)) places
