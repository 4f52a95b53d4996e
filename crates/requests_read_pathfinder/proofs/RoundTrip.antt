-- Demand 2 for Pathfinder requests: a written request is read back, and a frame that is read as a request is the very frame written for it.
-- The frame by the laws of its layer; the value by those of bytes and two's complement. Assumes nothing.
use mathlib.Core.Path.{◌≡◌, refl, sym, ap, ap₂, ◌∙◌}
use mathlib.Core.Bool.{Bool, true, false}
use mathlib.Core.List.{List, [], ◌∷◌}
use Prim.Native.Nat.{ℕ, zero, suc, ◌+◌, ◌-◌, ◌<◌, ◌≤◌, ◌^◌}
use native.Mathlib.Omega.{arith}
use borrow.Author.Tests.{leb-true, eqb-true, ne_eqb}
use lib.Dec.{leb, eqb}
use lib.ListN.{length, get_or, take, drop}
use lib.Signed.{mag}
use Rattle.laws.specs.Choice.{pick}
use Rattle.laws.specs.Firsts.{firsts}
use Rattle.laws.proofs.Fronts.{front}
use Rattle.laws.proofs.Ladders.{into, both}
use Rattle.std.specs.Prelude.{Result, Ok, Err}
use Rattle.refusals.specs.declared.Refusal.{Refusal}
use Rattle.refusals.specs.declared.Refusal.TheVariants as refusal
use Rattle.words_pathfinder.proofs.RoundTrip.{word_back, bytes_back}
use Rattle.frames_pathfinder.specs.declared.Frame.{Frame}
use Rattle.frames_pathfinder.specs.Reading.{frame_of}
use Rattle.frames_pathfinder.proofs.Ladder.{whole_parts}
use Rattle.frames_written_pathfinder.specs.Writing.{frame_bytes}
use Rattle.frames_written_pathfinder.proofs.ReadBack.{frame_reads_back, frame_writes_back, payload_back}
use Rattle.frames_written_pathfinder.proofs.Writers.{frame_length}
use Rattle.registers_pathfinder.specs.Registers.{is_register, in_range}
use Rattle.words_pathfinder.specs.Words.{word_of}
use Rattle.records_pathfinder.specs.Replies.{payload_of}
use Rattle.requests_pathfinder.specs.declared.Request.{Request}
use Rattle.requests_pathfinder.specs.declared.Request.TheVariants.{Ask, Write}
use Rattle.requests_pathfinder.specs.Requests.{asks, opcode_of, load_of, frame_for, fault_of}
use Rattle.requests_read_pathfinder.specs.Reading.{parsed_set, parsed_of, of_frame, request_of}

-- the value of a request is one of 32 bits, as every value that a program holds
abbrev pub Typed : Request → Type 0
Typed (Ask op) = Unit
Typed (Write r v) = mag v < 2 ^ 31

-- ---- a written request is read back

not_sound : (why : Refusal) → ◌≡◌ {A = Result Unit Refusal} (Ok tt) (Err why) → ⊥
not_sound why h = absurd cc

not_asked : (c : Bool) → ◌≡◌ {A = Result Unit Refusal} (Ok tt) (pick c (Err refusal.Shape) (Err refusal.Request)) → ⊥
not_asked true h = absurd cc
not_asked false h = absurd cc

parsed_back : (q : Request) → Typed q → fault_of q ≡ Ok tt → parsed_of (opcode_of q) (load_of q) ≡ Ok q
unfolding fault_of parsed_of parsed_set
parsed_back (Ask op) t e =
    let a = into (asks op) _ _ _ (not_asked (eqb op 0x0E)) (sym e) in
    let b = both (leb 1 op) (leb op 5) a.0 in
    let high : op ≤ 5 = leb-true op 5 b.1 in
    let other : op ≡ 0x0E → ⊥ = λ h. omega arith in
    rw (ne_eqb op 0x0E other, a.0)
parsed_back (Write r v) t e =
    let a = into (is_register r) _ _ _ (not_sound refusal.Register) (sym e) in
    let b = into (in_range r v) _ _ _ (not_sound refusal.Range) a.1 in
    let back = word_back v t in
    rw (a.0, back, b.0)

payload_of_lem : (op : ℕ) (load : List ℕ) → payload_of (frame_bytes op load) ≡ load
payload_of_lem op load =
    let n : length (frame_bytes op load) - 6 ≡ length load = omega (arith, frame_length op load) in
    ap (λ (k : ℕ). take k (drop 3 (frame_bytes op load))) n ∙ payload_back op load

-- every request without a fault is read back from its frame
pub written_reads_back_request : (q : Request) → Typed q → fault_of q ≡ Ok tt → request_of (frame_for q) ≡ Ok q
unfolding request_of
written_reads_back_request q t e =
    ap (λ (f : Result Frame Refusal). of_frame f (payload_of (frame_for q))) (sym (frame_reads_back (opcode_of q) (load_of q)))
    ∙ ap (parsed_of (opcode_of q)) (payload_of_lem (opcode_of q) (load_of q)) ∙ parsed_back q t e

-- ---- a frame that is read as a request is the one written for it

not_refused : (q : Request) (why : Refusal) → ◌≡◌ {A = Result Request Refusal} (Ok q) (Err why) → ⊥
not_refused q why h = absurd cc

-- what the data were where they were read as a request
pub record Read (op : ℕ) (load : List ℕ) (q : Request) : Type 0 where
  pub opcode : op ≡ opcode_of q
  pub data_are : load ≡ load_of q
  pub no_fault : fault_of q ≡ Ok tt

-- five bytes, one by one
five : (load : List ℕ) → length load ≡ 5 → load ≡ get_or load 0 0 ∷ get_or load 1 0 ∷ get_or load 2 0 ∷ get_or load 3 0 ∷ get_or load 4 0 ∷ []
unfolding firsts
five load e = sym (lib.Seq.take_all 5 load (omega arith)) ∙ front load 5 (omega arith)

-- every place of a list holds a byte
abbrev pub AllBytes : List ℕ → Type 0
AllBytes s = (i : ℕ) → get_or s i 0 < 256

set_was : (load : List ℕ) (q : Request) → AllBytes load → Ok q ≡ parsed_set load → Read 14 load q
unfolding parsed_set fault_of
set_was load q byte h =
    let r = get_or load 0 0 in
    let v = word_of (get_or load 1 0) (get_or load 2 0) (get_or load 3 0) (get_or load 4 0) in
    let no = not_refused q in
    let a = into (eqb (length load) 5) _ _ _ (no _) h in
    let b = into (is_register r) _ _ _ (no _) a.1 in
    let d = into (in_range r v) _ _ _ (no _) b.1 in
    let e : q ≡ Write r v = cc d.1 in
    let back = bytes_back (get_or load 1 0) (get_or load 2 0) (get_or load 3 0) (get_or load 4 0) (byte 1) (byte 2) (byte 3) (byte 4) in
    record {
      opcode = rw e;
      data_are = rw e (five load (eqb-true (length load) 5 a.0) ∙ ap (λ (l : List ℕ). r ∷ l) (sym back));
      no_fault = rw (e, b.0, d.0);
    }

parsed_was : (op : ℕ) (load : List ℕ) (q : Request) → AllBytes load → Ok q ≡ parsed_of op load → Read op load q
unfolding parsed_of fault_of
parsed_was op load q byte h = go (eqb op 0x0E) refl h
  where
    go : (t : Bool) → eqb op 0x0E ≡ t → Ok q ≡ pick t (parsed_set load) (pick (asks op) (pick (eqb (length load) 0) (Ok (Ask op)) (Err refusal.Shape)) (Err refusal.Request)) → Read op load q
    go true t p = let e : op ≡ 14 = eqb-true op 14 t in rw e (set_was load q byte p)
    go false t p =
        let no = not_refused q in
        let a = into (asks op) _ _ _ (no _) p in
        let b = into (eqb (length load) 0) _ _ _ (no _) a.1 in
        let e : q ≡ Ask op = cc b.1 in
        record { opcode = rw e; data_are = rw e (empty load (eqb-true (length load) 0 b.0)); no_fault = rw (e, a.0) }
      where
        empty : (l : List ℕ) → length l ≡ 0 → l ≡ []
        empty [] n = refl
        empty (x ∷ l) n = absurd (omega arith)

bytes_take : (k : ℕ) (s : List ℕ) → AllBytes s → AllBytes (take k s)
bytes_take zero s h i = omega arith
bytes_take (suc k) [] h i = omega arith
bytes_take (suc k) (x ∷ s) h zero = h 0
bytes_take (suc k) (x ∷ s) h (suc i) = bytes_take k s (λ j. h (suc j)) i

bytes_drop : (k : ℕ) (s : List ℕ) → AllBytes s → AllBytes (drop k s)
bytes_drop zero s h = h
bytes_drop (suc k) [] h = h
bytes_drop (suc k) (x ∷ s) h = bytes_drop k s (λ j. h (suc j))

-- bytes that are read as a request are the frame that is written for it, and the writer takes the request
pub request_is_its_frame : (s : List ℕ) (q : Request) → AllBytes s → request_of s ≡ Ok q → (frame_for q ≡ s) × (fault_of q ≡ Ok tt)
unfolding request_of
request_is_its_frame s q byte h = go (frame_of s) refl h
  where
    go : (f : Result Frame Refusal) → frame_of s ≡ f → of_frame f (payload_of s) ≡ Ok q → (frame_for q ≡ s) × (fault_of q ≡ Ok tt)
    go (Err why) e p = absurd (not_refused q why (sym p))
    go (Ok f) e p =
        let parts = whole_parts s f (sym e) in
        let was = parsed_was f.opcode (payload_of s) q (bytes_take (length s - 6) (drop 3 s) (bytes_drop 3 s byte)) (sym p) in
        let n : length s - 6 ≡ f.len = omega arith in
        let same : take f.len (drop f.start s) ≡ load_of q =
        ap₂ (λ (a b : ℕ). take a (drop b s)) (sym n) parts.start ∙ was.data_are in (
          ap₂ frame_bytes (sym was.opcode) (sym same) ∙ frame_writes_back s f (sym e) (byte (f.len + 3)) (byte (f.len + 4)),
          was.no_fault,
        )
