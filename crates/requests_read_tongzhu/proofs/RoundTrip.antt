-- The round trip, both ways, for all Tongzhu requests: `written_reads_back` and `read_writes_back`.
-- A written frame is read back whole (`frame_reads_back`), and what is in it by the laws of its payload; a frame that is read is the one made of
-- its function and payload (`frame_writes_back`), and the payload is the one written for what was read. Assumes nothing.
use mathlib.Core.Path.{◌≡◌, refl, sym, ap, ◌∙◌}
use mathlib.Core.Bool.{Bool, true, false}
use mathlib.Core.List.{List, [], ◌∷◌, ◌++◌}
use Prim.Native.Nat.{ℕ, ◌+◌, ◌-◌, ◌<◌, ◌≤◌}
use native.Mathlib.Omega.{arith}
use borrow.Author.Tests.{ltb-true, ltb-false, eqb-true}
use lib.Dec.{ltb, eqb}
use lib.ListN.{length, get_or, take, drop, length-take, get_or-eq_default}
use lib.Seq.{get_or-take, get_or-drop}
use Rattle.std.specs.Prelude.{Option, Some, None, Result, Ok, Err}
use Rattle.laws.specs.Choice.{pick}
use Rattle.laws.proofs.Ladders.{into}
use Rattle.refusals.specs.declared.Refusal.{Refusal}
use Rattle.refusals.specs.declared.Refusal.TheVariants as refusal
use Rattle.refusals.specs.Writing.{room_after}
use Rattle.refusals.proofs.Writing.{fits, frame_says, front_is_frame, not_refused}
use Rattle.functions_tongzhu.specs.declared.Kind.{Kind}
use Rattle.functions_tongzhu.specs.declared.Kind.TheVariants.{Reads, Sets}
use Rattle.frames_tongzhu.specs.declared.Frame.{Frame}
use Rattle.functions_tongzhu.specs.Functions.{kind_of}
use Rattle.frames_tongzhu.specs.Reading.{frame_of}
use Rattle.frames_written_tongzhu.specs.Writing.{frame_bytes}
use Rattle.functions_tongzhu.proofs.Listed.{only_setting}
use Rattle.frames_written_tongzhu.proofs.ReadBack.{frame_reads_back, payload_back, frame_writes_back}
use Rattle.requests_tongzhu.specs.declared.Request.{Request}
use Rattle.requests_tongzhu.specs.declared.Request.TheVariants.{Ask, SetTime}
use Rattle.times_tongzhu.specs.declared.Time.{Time}
use Rattle.times_tongzhu.specs.Times.{real, time_in, time_bytes}
use Rattle.requests_tongzhu.specs.Requests.{frame_for, ask_fault, fault_of, sent_as}
use Rattle.requests_read_tongzhu.specs.Reading.{time_request, by_kind, payload_in, of_frame, parsed_of}
use Rattle.times_tongzhu.proofs.Moments.{time_back, bytes_back}

-- ---- a written request is read back

frame_parsed : (f : ℕ) (load : List ℕ) → parsed_of (frame_bytes f load) ≡ payload_in f load
unfolding parsed_of
frame_parsed f load = ap (of_frame (frame_bytes f load)) (sym (frame_reads_back f load)) ∙ ap (payload_in f) (payload_back f load)

timed : (t : Time) → payload_in 0x30 (time_bytes t) ≡ time_request (time_in (time_bytes t))
unfolding payload_in kind_of
timed t = refl

right_read_back : (q : Request) → fault_of q ≡ Ok tt → parsed_of (frame_for q) ≡ Ok q
unfolding fault_of payload_in time_request
right_read_back (Ask f) h = frame_parsed f [] ∙ go (kind_of f) h
  where
    go : (k : Option Kind) → ask_fault k ≡ Ok tt → by_kind k f [] ≡ Ok (Ask f)
    go (Some Reads) z = refl
    go (Some Sets) z = absurd cc
    go None z = absurd cc
right_read_back (SetTime t) h = go (real t) refl h
  where
    go : (r : Bool) → real t ≡ r → ◌≡◌ {A = Result Unit Refusal} (pick r (Ok tt) (Err refusal.Range)) (Ok tt) → parsed_of (frame_bytes 0x30 (time_bytes t)) ≡ Ok (SetTime t)
    go true e z = frame_parsed 0x30 (time_bytes t) ∙ timed t ∙ ap time_request (time_back t e) ∙ rw e
    go false e z = absurd cc

-- THE FIRST THEOREM: what `write_request` answers `Ok n` for is read back from the n bytes at the front of the room
pub written_reads_back : (q : Request) (out : List ℕ) (n : ℕ) → Ok n ≡ sent_as q (length out) → parsed_of (take n (room_after (Ok n) (frame_for q) out)) ≡ Ok q
written_reads_back q out n h =
    ap parsed_of (front_is_frame (fault_of q) n (frame_for q) out h)
    ∙ right_read_back q (frame_says (fault_of q) (length (frame_for q)) (length out) n h).0

-- ---- a frame that is read as a request is the one written for it

empty : (p : List ℕ) → length p ≡ 0 → p ≡ []
empty [] h = refl
empty (x ∷ p) h = absurd (omega arith)

-- a payload of bytes
part_bytes : (s : List ℕ) → ((i : ℕ) → get_or s i 0 < 256) → (st n i : ℕ) → get_or (take n (drop st s)) i 0 < 256
part_bytes s byte st n i = go (ltb i n) refl
  where
    go : (t : Bool) → ltb i n ≡ t → get_or (take n (drop st s)) i 0 < 256
    go true e = rw (get_or-take n (drop st s) i 0 (ltb-true i n e), get_or-drop) (byte (st + i))
    go false e =
        let past : length (take n (drop st s)) ≤ i = omega (arith, length-take n (drop st s), ltb-false i n e) in
        rw (get_or-eq_default (take n (drop st s)) 0 past) (omega arith)

-- a request that was read: it has no fault, and its frame is what was read
pub record Same (s : List ℕ) (q : Request) : Type 0 where
  pub no_fault : fault_of q ≡ Ok tt
  pub frame : frame_for q ≡ s

payload_written : (f : ℕ) (p : List ℕ) (q : Request) → ((i : ℕ) → get_or p i 0 < 256) → Ok q ≡ payload_in f p → Same (frame_bytes f p) q
unfolding payload_in fault_of time_request
payload_written f p q byte h = go (kind_of f) refl h
  where
    go : (k : Option Kind) → kind_of f ≡ k → Ok q ≡ by_kind k f p → Same (frame_bytes f p) q
    go (Some Reads) e w =
        let a = into (eqb (length p) 0) _ _ _ (not_refused q _) w in
        let same : q ≡ Ask f = cc a.1 in
        let bare = empty p (eqb-true (length p) 0 a.0) in
        record { no_fault = rw (same, e); frame = rw same (ap (frame_bytes f) (sym bare)) }
    go (Some Sets) e w =
        let a = into (eqb (length p) 6) _ _ _ (not_refused q _) w in
        let b = into (real (time_in p)) _ _ _ (not_refused q _) a.1 in
        let same : q ≡ SetTime (time_in p) = cc b.1 in
        let load = bytes_back p (eqb-true (length p) 6 a.0) byte b.0 in
        let fun = only_setting f (sym e) in
        record {
          no_fault = rw (same, b.0);
          frame = rw same (ap (frame_bytes 0x30) load ∙ ap (λ (x : ℕ). frame_bytes x p) (sym fun));
        }
    go None e w = not_refused q _ w

pub read_is_frame : (s : List ℕ) (q : Request) → ((i : ℕ) → get_or s i 0 < 256) → parsed_of s ≡ Ok q → Same s q
unfolding parsed_of
read_is_frame s q byte h = go (frame_of s) refl (sym h)
  where
    go : (r : Result Frame Refusal) → frame_of s ≡ r → Ok q ≡ of_frame s r → Same s q
    go (Err why) e w = not_refused q why w
    go (Ok f) e w =
        let was = payload_written f.function (take f.len (drop f.start s)) q (part_bytes s byte f.start f.len) w in
        record { no_fault = was.no_fault; frame = was.frame ∙ frame_writes_back s f (sym e) (byte (length s - 1)) }

-- THE SECOND THEOREM: for a request that `read_request` finds in the bytes s, `write_request` with room enough writes s
pub read_writes_back : (s : List ℕ) (q : Request) (out : List ℕ) → ((i : ℕ) → get_or s i 0 < 256) → parsed_of s ≡ Ok q → length s ≤ length out
    → (Ok (length s) ≡ sent_as q (length out)) × (room_after (Ok (length s)) (frame_for q) out ≡ s ++ drop (length s) out)
read_writes_back s q out byte h room =
    let was = read_is_frame s q byte h in
    rw was.frame (fits (fault_of q) (length s) (length out) was.no_fault room, refl)
