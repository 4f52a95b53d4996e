-- The cases of the definitions of a reply, each from the facts that the reader has at that place.
-- Assumes nothing.
use mathlib.Core.Path.{◌≡◌, sym, ap, ◌∙◌}
use mathlib.Core.Bool.{Bool, true}
use mathlib.Core.List.{List}
use Prim.Native.Nat.{ℕ, ◌%◌}
use borrow.Author.Tests.{eqb-true}
use lib.Dec.{eqb}
use lib.ListN.{length}
use Rattle.std.specs.Prelude.{Option, Some, None, is_some, Result, Ok, Err}
use Rattle.laws.proofs.Ladders.{into}
use Rattle.refusals.specs.declared.Refusal.{Refusal}
use Rattle.refusals.proofs.Writing.{not_refused}
use Rattle.characters_pace.specs.Characters.{all_hex}
use Rattle.characters_pace.proofs.Checked.{fault_none, checked_bytes}
use Rattle.frames_pace.specs.declared.Frame.{Frame}
use Rattle.frames_pace.specs.Frame.{info_of, frame_of}
use Rattle.commands_pace.specs.declared.Command.{Command}
use Rattle.commands_pace.specs.Commands.{command_of}
use Rattle.payloads_pace.specs.Payload.{payload_reply, payload_of}
use Rattle.records_pace.specs.declared.Sort.{Sort}
use Rattle.records_pace.specs.declared.Sort.TheVariants.{Failure, Record}
use Rattle.records_pace.specs.Reply.{sort_of, by_sort, answered_of, reply_of}

-- ---- a whole frame

-- a record has passed every test
no_failure : ◌≡◌ {A = Result Sort Refusal} (Ok Record) (Ok Failure) → ⊥
no_failure h = cc

record_passed : (same known working even : Bool) → Ok Record ≡ sort_of same known working even → (known ≡ true) × (even ≡ true)
record_passed same known working even h =
    let no = λ (w : Refusal). not_refused {A = ⊥} Record w in
    let one = into same _ _ _ (no _) h in
    let two = into known _ _ _ (no _) one.1 in
    let three = into working _ _ _ no_failure two.1 in
    (two.0, (into even _ _ _ (no _) three.1).0)

module _ (a from : ℕ) (c : Option Command) (code : ℕ) (info : List ℕ) (sort : Result Sort Refusal) (e : sort ≡ sort_of (eqb from a) (is_some c) (eqb code 0) (eqb (length info % 2) 0)) where
  pub sorted : (k : Result Sort Refusal) → sort ≡ k → by_sort a c code info k ≡ answered_of a from c code info
  unfolding answered_of
  sorted k h = ap (by_sort a c code info) (sym h ∙ e)

-- hex digits in an even count: what INFO says is what its bytes say
pub record_is : (a from : ℕ) (c : Option Command) (code : ℕ) (info : List ℕ) (sort : Result Sort Refusal)
    → sort ≡ sort_of (eqb from a) (is_some c) (eqb code 0) (eqb (length info % 2) 0)
    → all_hex info ≡ true → sort ≡ Ok Record → payload_of a c info ≡ answered_of a from c code info
unfolding payload_of
record_is a from (Some c) code info sort e hex h =
    let p = record_passed (eqb from a) true (eqb code 0) (eqb (length info % 2) 0) (sym h ∙ e) in
    let fine = fault_none info hex (eqb-true _ _ p.1) in
    sym (checked_bytes (payload_reply a c) info fine) ∙ sorted a from (Some c) code info sort e (Ok Record) h
record_is a from None code info sort e hex h = sorted a from None code info sort e (Ok Record) h

-- ---- the reply

module _ (a asked : ℕ) (s : List ℕ) where
  pub no_frame : (w : Refusal) → frame_of s ≡ Err w → Err w ≡ reply_of a asked s
  unfolding reply_of
  no_frame w e = rw e

  pub whole_frame : (f : Frame) → frame_of s ≡ Ok f → answered_of a f.address (command_of asked) f.command (info_of s) ≡ reply_of a asked s
  unfolding reply_of
  whole_frame f e = rw e
