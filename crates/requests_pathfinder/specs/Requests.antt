-- The requests, the one frame of each, and what is wrong with one (000, 0x0E Write parameter register; 01, Pathfinder and Refusal numbers:
-- writing uses 7, 10, 8, 9, 11). What the writer answers and leaves is the rule of every writer. Assumes nothing.
use Rattle.std.specs.Prelude.{ℕ, Bool, ◌&&◌, List, [], ◌∷◌, ℤ, length, leb, eqb, Result, Ok, Err}
use Rattle.laws.specs.Choice.{pick}
use Rattle.refusals.specs.declared.Refusal.{Refusal}
use Rattle.refusals.specs.declared.Refusal.TheVariants as refusal
use Rattle.refusals.specs.Writing.{written_as}
use Rattle.words_pathfinder.specs.Words.{bytes_of_word}
use Rattle.frames_written_pathfinder.specs.Writing.{frame_bytes}
use Rattle.registers_pathfinder.specs.Registers.{is_register, in_range}
use Rattle.requests_pathfinder.specs.declared.Request.{Request}
use Rattle.requests_pathfinder.specs.declared.Request.TheVariants.{Ask, Write}

-- the requests that have no data: 01 to 05
abbrev pub asks : ℕ → Bool
asks op = leb 0x01 op && leb op 0x05

abbrev pub opcode_of : Request → ℕ
opcode_of (Ask op) = op
opcode_of (Write r v) = 0x0E

-- register and value, four bytes, the low one first
abbrev pub set_load : ℕ → ℤ → List ℕ
set_load r v = r ∷ bytes_of_word v

abbrev pub load_of : Request → List ℕ
load_of (Ask op) = []
load_of (Write r v) = set_load r v

-- the frame that the document gives for a request
abbrev pub frame_for : Request → List ℕ
frame_for q = frame_bytes (opcode_of q) (load_of q)

-- the refusal that a request meets whatever the room, if there is one: a request that isn't listed 7, an unknown register 10, 0E asked for
-- without its values 8, a value outside its range 9
unfoldable pub fault_of : Request → Result Unit Refusal
fault_of (Ask op) = pick (asks op) (Ok tt) (pick (eqb op 0x0E) (Err refusal.Shape) (Err refusal.Request))
fault_of (Write r v) = pick (is_register r) (pick (in_range r v) (Ok tt) (Err refusal.Range)) (Err refusal.Register)

-- what writing it answers, with so many bytes of room
abbrev pub sent_as : Request → ℕ → Result ℕ Refusal
sent_as q places = written_as (fault_of q) (length (frame_for q)) places
