-- The two ways round: a request that was written is read back, and a frame that is read as a request is the very frame that the writer writes for it.
-- Each puts together the frame's round trip and, where there are values, that of the setting's layout. Assumes nothing.
use mathlib.Core.Path.{◌≡◌, refl, sym, ap, ◌∙◌, subst}
use mathlib.Core.Bool.{Bool, true, false, ◌&&◌}
use mathlib.Core.List.{List, [], ◌∷◌, ◌++◌}
use Prim.Native.Nat.{ℕ, ◌*◌, ◌/◌, ◌%◌, ◌<◌, ◌≤◌}
use native.Mathlib.Omega.{arith}
use borrow.Author.Tests.{eqb-true}
use lib.Dec.{lit≤, eqb}
use lib.ListN.{length, get_or, take, drop}
use Rattle.std.specs.Prelude.{Option, Some, None, Result, Ok, Err}
use Rattle.laws.specs.Choice.{pick}
use Rattle.laws.specs.Firsts.{firsts}
use Rattle.laws.proofs.Firsts.{listed}
use Rattle.laws.proofs.Ladders.{into, both}
use Rattle.numbers.proofs.Orders.{Bytes}
use Rattle.refusals.specs.declared.Refusal.{Refusal}
use Rattle.refusals.specs.declared.Refusal.TheVariants as refusal
use Rattle.refusals.specs.Writing.{room_after}
use Rattle.refusals.proofs.Writing.{not_refused, fits, frame_says, front_is_frame}
use Rattle.characters_pace.specs.Characters.{bytes_in}
use Rattle.characters_pace.proofs.Carried.{bytes_length}
use Rattle.frames_pace.specs.declared.Frame.{Frame}
use Rattle.frames_pace.specs.Frame as frames
use Rattle.frames_written_pace.specs.Written as written
use Rattle.frames_pace.proofs.Parts.{info_length}
use Rattle.frames_written_pace.proofs.RoundTrip.{payload_reads_back, frame_reads_back, payload_bytes, frame_writes_back}
use Rattle.frames_pace.proofs.Whole.{whole_says}
use Rattle.frames_written_pace.proofs.Writing.{chars_length}
use Rattle.commands_pace.specs.declared.Command.{Command}
use Rattle.commands_pace.specs.declared.Command.TheVariants as command
use Rattle.layouts_pace.specs.declared.Setting.{Setting}
use Rattle.layouts_pace.specs.declared.Values.{Values}
use Rattle.commands_pace.specs.Commands.{command_of}
use Rattle.layouts_pace.specs.Settings.{layout_of, setting_of}
use Rattle.allowed_pace.specs.Allowed.{allowed_of}
use Rattle.writes_pace.specs.Info as writes
use Rattle.commands_pace.proofs.Commands.{writes_itself, writes_only}
use Rattle.layouts_pace.proofs.Settings.{writes_small}
use Rattle.settings_pace.specs.Reading as settings
use Rattle.settings_pace.proofs.RoundTrip.{info_bytes, info_short, values_read_back, values_write_back}
use Rattle.requests_pace.specs.declared.Kind.{Kind}
use Rattle.requests_pace.specs.declared.Kind.TheVariants.{Addressed, Bare, Carries}
use Rattle.requests_pace.specs.declared.Request.{Request}
use Rattle.requests_pace.specs.declared.Request.TheVariants.{Ask, Set}
use Rattle.requests_pace.specs.Request.{kind_of, kind_asked, address_of, code_of, ask_info, info_of, frame_for, ask_fault, fault_of, sent_as}
use Rattle.requests_read_pace.specs.Parsed.{of_found, of_kind, whole_of, of_frame, parsed_of}
use Rattle.requests_read_pace.proofs.Reading.{addressed, empty, carried, a_frame}

-- ---- written, then read

-- address and command are bytes; the values' own limits are those of their layout
abbrev pub Fits : Request → Type 0
Fits (Ask address command) = (address < 256) × (command < 256)
Fits (Set address values) = address < 256

-- a frame that was written, taken apart as a request
module _ (address code : ℕ) (info : List ℕ) (a : address < 256) (c : code < 256) (b : Bytes info) (short : length info ≤ 2047) where
  chars : List ℕ
  chars = written.frame_chars address code info

  whole_back : whole_of address code (frames.info_of chars) ≡ parsed_of chars
  unfolding chars
  whole_back =
      a_frame chars (record { address = address; command = code; start = 13; len = 2 * length info }) (sym (frame_reads_back address code info a c b short))

  count_back : length (frames.info_of chars) ≡ 2 * length info
  unfolding chars
  count_back = let n = chars_length address code info in info_length chars (omega arith) ∙ omega arith

  bytes_back : bytes_in (frames.info_of chars) ≡ info
  unfolding chars
  bytes_back = payload_reads_back address code info a c b

-- a request without values: the frame that asks
ask_back : (address code : ℕ) (k : Option Kind) → kind_asked code ≡ k → address < 256 → code < 256 → ask_fault k ≡ Ok tt
    → Ok (Ask address code) ≡ parsed_of (written.frame_chars address code (ask_info k address))
unfolding Bytes chars
ask_back address code (Some Addressed) k a c e =
    let info = address ∷ [] in
    let short : length info ≤ 2047 = lit≤ tt in
    addressed address code (frames.info_of (chars address code info a c (a, tt) short)) k
    (count_back address code info a c (a, tt) short) (ap (λ (l : List ℕ). get_or l 0 0) (bytes_back address code info a c (a, tt) short))
    ∙ whole_back address code info a c (a, tt) short
ask_back address code (Some Bare) k a c e =
    empty address code (frames.info_of (chars address code [] a c tt (lit≤ tt))) k (count_back address code [] a c tt (lit≤ tt)) ∙ whole_back address code [] a c tt (lit≤ tt)
ask_back address code (Some (Carries s)) k a c e = absurd cc
ask_back address code None k a c e = absurd cc

-- a request with values
values_back : (address : ℕ) (v : Values) → address < 256 → allowed_of v ≡ true
    → Ok (Set address v) ≡ parsed_of (written.frame_chars address (layout_of (setting_of v)).writes (writes.info_of v))
unfolding chars
values_back address v a e =
    let code = (layout_of (setting_of v)).writes in
    let info = writes.info_of v in
    let c = writes_small (setting_of v) in
    let b = info_bytes v e in
    let short = info_short v in
    let size = count_back address code info a c b short in
    let even : length (frames.info_of (written.frame_chars address code info)) % 2 ≡ 0 = omega arith in
    ap (of_found address) (values_read_back v e ∙ ap (settings.request_of (setting_of v)) (sym (bytes_back address code info a c b short)))
    ∙ carried address code (frames.info_of (written.frame_chars address code info)) (setting_of v) (ap kind_of (writes_itself (setting_of v))) even
    ∙ whole_back address code info a c b short

-- every request without a fault is read back from its frame
pub right_reads_back : (q : Request) → Fits q → fault_of q ≡ Ok tt → Ok q ≡ parsed_of (frame_for q)
unfolding fault_of
right_reads_back (Ask address code) f e = ask_back address code (kind_asked code) refl f.0 f.1 e
right_reads_back (Set address v) f e = go (allowed_of v) refl e
  where
    go : (t : Bool) → allowed_of v ≡ t → ◌≡◌ {A = Result Unit Refusal} (pick t (Ok tt) (Err refusal.Range)) (Ok tt) → Ok (Set address v) ≡ parsed_of (frame_for (Set address v))
    go true h z = values_back address v f h
    go false h z = absurd cc

-- what the writer left at the front of the room is read as the request that was written
pub written_reads_back : (q : Request) (out : List ℕ) (n : ℕ) → Fits q → Ok n ≡ sent_as q (length out) → Ok q ≡ parsed_of (take n (room_after (Ok n) (frame_for q) out))
written_reads_back q out n f e =
    right_reads_back q f (frame_says (fault_of q) (length (frame_for q)) (length out) n e).0
    ∙ ap parsed_of (sym (front_is_frame (fault_of q) n (frame_for q) out e))

-- ---- read, then written

-- only the command that writes a setting carries its values
carries : (c : Option Command) (s : Setting) → kind_of c ≡ Some (Carries s) → c ≡ Some (command.Writes s)
carries (Some command.Analog) s e = absurd cc
carries (Some command.Warnings) s e = absurd cc
carries (Some command.Hardware) s e = absurd cc
carries (Some command.Serial) s e = absurd cc
carries (Some (command.Reads x)) s e = absurd cc
carries (Some (command.Writes x)) s e = let same : x ≡ s = cc in ap (λ (y : Setting). Some (command.Writes y)) same
carries None s e = absurd cc

-- a request that was read: it has no fault, and its frame is what was read
pub record Same (s : List ℕ) (q : Request) : Type 0 where
  pub no_fault : fault_of q ≡ Ok tt
  pub frame : frame_for q ≡ s

module _ (s : List ℕ) (f : Frame) (w : Ok f ≡ frames.frame_of s) where
  -- the characters of INFO are as many as the frame says, and the payload is theirs
  size_of : length (frames.info_of s) ≡ f.len
  size_of = let d = whole_says s f w in info_length s (omega (arith, d.size)) ∙ omega (arith, d.size)

  payload_size : length (frames.payload_of s) ≡ f.len / 2
  payload_size = omega (arith, bytes_length (frames.info_of s), size_of)

  again : (q : Request) (k : ℕ) → address_of q ≡ f.address → code_of q ≡ f.command → info_of q ≡ frames.payload_of s → f.len ≡ 2 * k → frame_for q ≡ s
  again q k a c i e =
      rw (a, c, i) (frame_writes_back s f w k e)

  of_found_lem : (q : Request) (found : Result Values Refusal) → Ok q ≡ of_found f.address found → (v : Values) × ((q ≡ Set f.address v) × (Ok v ≡ found))
  of_found_lem q (Ok v) e = (v, (cc, refl))
  of_found_lem q (Err r) e = not_refused q r e

  -- a request without values
  asked : (k : Option Kind) → kind_asked f.command ≡ k → ask_fault k ≡ Ok tt → (i : ℕ) → f.len ≡ 2 * i → ask_info k f.address ≡ frames.payload_of s → Same s (Ask f.address f.command)
  unfolding fault_of
  asked k e right i even p =
      record {
        no_fault = ap ask_fault e ∙ right;
        frame = again (Ask f.address f.command) i refl refl (ap (λ (x : Option Kind). ask_info x f.address) e ∙ p) even;
      }

  by_kind_lem : (q : Request) (k : Option Kind) → kind_asked f.command ≡ k → Ok q ≡ of_kind k f.address f.command (frames.info_of s) → Same s q
  unfolding firsts fault_of
  by_kind_lem q (Some Addressed) e h =
      let d = frames.payload_of s in
      let t = into (eqb (length (frames.info_of s)) 2 && eqb (get_or d 0 0) f.address) _ _ _ (λ x. not_refused q _ x) h in
      let g = both (eqb (length (frames.info_of s)) 2) (eqb (get_or d 0 0) f.address) t.0 in
      let two : length (frames.info_of s) ≡ 2 = eqb-true _ _ g.0 in
      let one : length d ≡ 1 = omega (arith, payload_size, size_of) in
      let info : ask_info (Some Addressed) f.address ≡ d = ap (λ (x : ℕ). x ∷ []) (sym (eqb-true _ _ g.1)) ∙ listed d 1 one in
      let is : Ask f.address f.command ≡ q = cc t.1 in
      subst (Same s) is (asked (Some Addressed) e refl 1 (omega (arith, size_of)) info)
  by_kind_lem q (Some Bare) e h =
      let d = frames.payload_of s in
      let t = into (eqb (length (frames.info_of s)) 0) _ _ _ (λ x. not_refused q _ x) h in
      let none : length (frames.info_of s) ≡ 0 = eqb-true _ _ t.0 in
      let zero : length d ≡ 0 = omega (arith, payload_size, size_of) in
      let is : Ask f.address f.command ≡ q = cc t.1 in
      subst (Same s) is (asked (Some Bare) e refl 0 (omega (arith, size_of)) (listed d 0 zero))
  by_kind_lem q (Some (Carries x)) e h =
      let d = frames.payload_of s in
      let t = into (eqb (length (frames.info_of s) % 2) 0) _ _ _ (λ y. not_refused q _ y) h in
      let even : length (frames.info_of s) % 2 ≡ 0 = eqb-true _ _ t.0 in
      let g = of_found_lem q (settings.request_of x d) t.1 in
      let v = g.0 in
      let r = values_write_back x d v (payload_bytes s f w) g.1.1 in
      let same : (layout_of (setting_of v)).writes ≡ f.command = ap (λ (y : Setting). (layout_of y).writes) r.setting ∙ sym (writes_only f.command x (carries (command_of f.command) x e)) in
      subst (Same s) (sym g.1.0)
      (record { no_fault = rw r.may; frame = again (Set f.address v) (f.len / 2) refl same r.info (omega (arith, size_of)) })
  by_kind_lem q None e h = not_refused q _ h

-- a frame that is read as a request is the very frame that is written for it
pub request_again : (s : List ℕ) (q : Request) → Ok q ≡ parsed_of s → Same s q
unfolding parsed_of whole_of
request_again s q h = go (frames.frame_of s) refl h
  where
    go : (f : Result Frame Refusal) → f ≡ frames.frame_of s → Ok q ≡ of_frame s f → Same s q
    go (Err r) e g = absurd cc
    go (Ok f) e g = by_kind_lem s f e q (kind_asked f.command) refl g

-- and the writer leaves it at the front of the room, before what was there past it
pub read_writes_back : (s : List ℕ) (q : Request) → Ok q ≡ parsed_of s → (out : List ℕ) → length s ≤ length out
    → (Ok (length s) ≡ sent_as q (length out)) × (room_after (Ok (length s)) (frame_for q) out ≡ s ++ drop (length s) out)
read_writes_back s q h out room =
    let r = request_again s q h in
    rw r.frame (fits (fault_of q) (length s) (length out) r.no_fault room, refl)
