-- What the writers answer and leave in the room: header, data and end make the frame of the request, in front of what was there past it.
-- The answer by the size of a request's frame; the room by the laws of the two halves. Assumes nothing.
use mathlib.Core.Path.{◌≡◌, refl, ap, ◌∙◌}
use mathlib.Core.List.{List, [], ◌++◌}
use Prim.Native.Nat.{ℕ, ◌+◌, ◌≤◌}
use borrow.Rule.Slice.PartMut.{put_mid}
use lib.Dec.{leb}
use lib.IntN.{ℤ}
use lib.ListN.{length, drop}
use Rattle.std.specs.Prelude.{Ok, Err}
use Rattle.refusals.specs.declared.Refusal.{Refusal}
use Rattle.refusals.specs.Writing.{written_as}
use Rattle.refusals.proofs.Writing.{fits}
use Rattle.orders.specs.Orders.{writing}
use Rattle.orders.proofs.Answers as orders
use Rattle.frames_written_pathfinder.specs.Writing.{begun, sealed}
use Rattle.frames_written_pathfinder.proofs.Writers.{frame_made, frame_length}
use Rattle.requests_pathfinder.specs.declared.Request.{Request}
use Rattle.requests_pathfinder.specs.declared.Request.TheVariants.{Ask, Write}
use Rattle.requests_pathfinder.specs.Requests.{opcode_of, load_of, set_load, frame_for, fault_of, sent_as}

-- ---- the answer

pub frame_size : (q : Request) → length (frame_for q) ≡ length (load_of q) + 6
frame_size q = frame_length (opcode_of q) (load_of q)

-- there is no fault
pub sent : (q : Request) (places : ℕ) → Ok tt ≡ fault_of q → written_as (Ok tt) (length (load_of q) + 6) places ≡ sent_as q places
sent q places sound = rw (← frame_size q, ← sound)

-- why is the refusal that the writer found for the fault and its room
pub refused : (q : Request) (places : ℕ) (why : Refusal) → Err why ≡ writing (fault_of q) (leb (length (load_of q) + 6) places) → Err why ≡ sent_as q places
refused q places why f = orders.refused (fault_of q) (length (frame_for q)) places why (rw (frame_size q) f)

-- a request without fault goes out where there is room
pub goes_out_lem : (q : Request) (places : ℕ) → fault_of q ≡ Ok tt → length (load_of q) + 6 ≤ places → Ok (length (load_of q) + 6) ≡ sent_as q places
goes_out_lem q places sound h = fits (Ok tt) (length (load_of q) + 6) places refl h ∙ rw (sound, frame_size q)

-- ---- the room

-- header and end, with nothing between them
pub ask_made : (op : ℕ) (out : List ℕ) → sealed 0 (begun op 0 out) ≡ frame_for (Ask op) ++ drop 6 out
ask_made op out = frame_made op [] out

-- the data were put into the part from 3 to 8 between the two
pub set_made : (r : ℕ) (v : ℤ) (out ys : List ℕ) → ys ≡ set_load r v → sealed 5 (put_mid 3 5 (begun 14 5 out) ys) ≡ frame_for (Write r v) ++ drop 11 out
set_made r v out ys e = ap (λ (l : List ℕ). sealed 5 (put_mid 3 5 (begun 14 5 out) l)) e ∙ frame_made 14 (set_load r v) out
