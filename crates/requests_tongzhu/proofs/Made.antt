-- What the writers answer and leave in the room: head, payload and check make the frame of the request, in front of what was there past it.
-- The answer by the size of a request's frame; the room by the laws of the two halves. Assumes nothing.
use mathlib.Core.Path.{◌≡◌, sym, ap, ◌∙◌}
use mathlib.Core.Bool.{Bool}
use mathlib.Core.List.{List, [], ◌++◌}
use Prim.Native.Nat.{ℕ, ◌+◌}
use borrow.Rule.Slice.PartMut.{put_mid}
use lib.Dec.{leb}
use lib.ListN.{length, drop}
use Rattle.std.specs.Prelude.{Result, Ok, Err}
use Rattle.refusals.specs.declared.Refusal.{Refusal}
use Rattle.refusals.specs.Writing.{written_as}
use Rattle.refusals.proofs.Writing.{faulty}
use Rattle.orders.specs.Orders.{writing}
use Rattle.orders.proofs.Answers as orders
use Rattle.frames_written_tongzhu.specs.Writing.{begun, sealed}
use Rattle.frames_written_tongzhu.proofs.Writers.{frame_made, frame_length}
use Rattle.times_tongzhu.specs.declared.Time.{Time}
use Rattle.times_tongzhu.specs.Times.{time_bytes}
use Rattle.requests_tongzhu.specs.declared.Request.{Request}
use Rattle.requests_tongzhu.specs.declared.Request.TheVariants.{Ask, SetTime}
use Rattle.requests_tongzhu.specs.Requests.{function_of, load_of, frame_for, fault_of, sent_as}

-- ---- the answer

pub frame_size : (q : Request) → length (frame_for q) ≡ length (load_of q) + 6
frame_size q = frame_length (function_of q) (load_of q)

-- a request without fault
pub sent : (q : Request) (places : ℕ) → Ok tt ≡ fault_of q → written_as (Ok tt) (length (load_of q) + 6) places ≡ sent_as q places
sent q places e = rw (← frame_size q, e)

pub ask_sent : (f places : ℕ) → Ok tt ≡ fault_of (Ask f) → written_as (Ok tt) 6 places ≡ sent_as (Ask f) places
ask_sent f places e = sent (Ask f) places e

-- one in which the writer found no fault, for the fault and its room
pub time_sent : (t : Time) (places : ℕ) (fault : Result Unit Refusal) (roomy : Bool) → fault ≡ fault_of (SetTime t) → Ok tt ≡ writing fault roomy
    → written_as (Ok tt) 12 places ≡ sent_as (SetTime t) places
time_sent t places fault roomy f e = sent (SetTime t) places (sym (orders.faultless fault roomy e) ∙ f)

pub ask_refused : (f places : ℕ) (why : Refusal) → Err why ≡ fault_of (Ask f) → Err why ≡ sent_as (Ask f) places
ask_refused f places why e = faulty (fault_of (Ask f)) (length (frame_for (Ask f))) places why e

-- the refusal that the writer found for the fault and its room
pub time_refused : (t : Time) (places : ℕ) (fault : Result Unit Refusal) (why : Refusal) → fault ≡ fault_of (SetTime t) → Err why ≡ writing fault (leb 12 places) → Err why ≡ sent_as (SetTime t) places
time_refused t places fault why f e = orders.refused (fault_of (SetTime t)) (length (frame_for (SetTime t))) places why (rw (← f, frame_size (SetTime t)) e)

-- ---- the room

-- head and check, with nothing between them
pub ask_made : (f : ℕ) (out : List ℕ) → sealed 0 (begun f 0 out) ≡ frame_for (Ask f) ++ drop 6 out
ask_made f out = frame_made f [] out

-- the payload was put into the part from 5 to 11 between the two
pub time_made : (t : Time) (out ys : List ℕ) → ys ≡ time_bytes t → sealed 6 (put_mid 5 6 (begun 0x30 6 out) ys) ≡ frame_for (SetTime t) ++ drop 12 out
time_made t out ys e = ap (λ (l : List ℕ). sealed 6 (put_mid 5 6 (begun 0x30 6 out) l)) e ∙ frame_made 0x30 (time_bytes t) out
