-- PACE requests as they are written: what each carries, the one frame of each, and what is wrong with one (01, PACE; 01, Refusal numbers: writing
-- uses 7, 8, 9, then 11). What the writer answers and leaves is the rule of every writer. Assumes nothing.
use Rattle.std.specs.Prelude.{List, [], ◌∷◌, Option, Some, None, Result, Ok, Err, ℕ, length}
use Rattle.laws.specs.Choice.{pick}
use Rattle.refusals.specs.declared.Refusal.{Refusal}
use Rattle.refusals.specs.declared.Refusal.TheVariants as refusal
use Rattle.refusals.specs.Writing.{written_as}
use Rattle.frames_written_pace.specs.Written as frames
use Rattle.commands_pace.specs.declared.Command.{Command}
use Rattle.commands_pace.specs.declared.Command.TheVariants as command
use Rattle.commands_pace.specs.Commands.{command_of}
use Rattle.layouts_pace.specs.declared.Values.{Values}
use Rattle.layouts_pace.specs.Settings.{layout_of, setting_of}
use Rattle.allowed_pace.specs.Allowed.{allowed_of}
use Rattle.writes_pace.specs.Info as writes
use Rattle.requests_pace.specs.declared.Kind.{Kind}
use Rattle.requests_pace.specs.declared.Kind.TheVariants.{Addressed, Bare, Carries}
use Rattle.requests_pace.specs.declared.Request.{Request}
use Rattle.requests_pace.specs.declared.Request.TheVariants.{Ask, Set}

-- what a command's request carries: 42 and 44 the address, D0 and DA values, the other listed ones nothing
abbrev pub kind_of : Option Command → Option Kind
kind_of (Some command.Analog) = Some Addressed
kind_of (Some command.Warnings) = Some Addressed
kind_of (Some command.Hardware) = Some Bare
kind_of (Some command.Serial) = Some Bare
kind_of (Some (command.Reads s)) = Some Bare
kind_of (Some (command.Writes s)) = Some (Carries s)
kind_of None = None

-- what the request of a code carries, if it is listed
abbrev pub kind_asked : ℕ → Option Kind
kind_asked code = kind_of (command_of code)

-- ---- the frame of a request

abbrev pub address_of : Request → ℕ
address_of (Ask address command) = address
address_of (Set address values) = address

abbrev pub code_of : Request → ℕ
code_of (Ask address command) = command
code_of (Set address values) = (layout_of (setting_of values)).writes

-- INFO of a request without values
abbrev pub ask_info : Option Kind → ℕ → List ℕ
ask_info (Some Addressed) address = address ∷ []
ask_info (Some Bare) address = []
ask_info (Some (Carries s)) address = []
ask_info None address = []

abbrev pub info_of : Request → List ℕ
info_of (Ask address command) = ask_info (kind_asked command) address
info_of (Set address values) = writes.info_of values

-- the frame that the document gives for a request
abbrev pub frame_for : Request → List ℕ
frame_for q = frames.frame_chars (address_of q) (code_of q) (info_of q)

-- ---- writing

-- asking: a command that is not listed is 7, one that carries values is 8
abbrev pub ask_fault : Option Kind → Result Unit Refusal
ask_fault (Some Addressed) = Ok tt
ask_fault (Some Bare) = Ok tt
ask_fault (Some (Carries s)) = Err refusal.Shape
ask_fault None = Err refusal.Request

-- a value outside its range is 9
abbrev pub values_fault : Values → Result Unit Refusal
values_fault v = pick (allowed_of v) (Ok tt) (Err refusal.Range)

-- the refusal that a request meets whatever the room, if it meets one
unfoldable pub fault_of : Request → Result Unit Refusal
fault_of (Ask address command) = ask_fault (kind_asked command)
fault_of (Set address values) = values_fault values

-- what writing it answers, with so many bytes of room
abbrev pub sent_as : Request → ℕ → Result ℕ Refusal
sent_as q places = written_as (fault_of q) (length (frame_for q)) places
