-- `requests_pace::write_ask` meets its contract: by the kind of the command, the frame by its writer's contract.
-- Assumes nothing.
use Prim.Native.Nat.{ℕ}
use mathlib.Core.Path.{◌≡◌, sym, ap, ◌∙◌}
use Rattle.std.specs.Prelude.{Option, Some}
use Rattle.refusals.specs.declared.Refusal.TheVariants as refusal
use Rattle.refusals.proofs.Writing.{faulty}
use Rattle.commands_pace.specs.declared.Command.{Command}
use Rattle.commands_pace.specs.Commands.{command_of}
use Rattle.requests_pace.specs.declared.Kind.{Kind}
use Rattle.requests_pace.specs.declared.Request.TheVariants.{Ask}
use Rattle.requests_pace.specs.Request.{kind_of, kind_asked, ask_info}
use Rattle.requests_pace.proofs.Writing.{ask_fault_lem, sent}
use Rattle.requests_pace.proofs.write_ask.Goals as goal

-- the kind of the command
asked : (code : ℕ) (found : Option Command) (k kind : Kind) (what : Option Kind) → found ≡ command_of code → what ≡ kind_of found → what ≡ Some k → k ≡ kind
    → Some kind ≡ kind_asked code
asked code found k kind what e f g h = ap (λ (x : Kind). Some x) (sym h) ∙ sym g ∙ f ∙ ap kind_of e

pub returns-in-Some-Addressed-clause-answer : goal.returns-in-Some-Addressed-clause-answer
returns-in-Some-Addressed-clause-answer c =
    let a = c.args in
    let is = asked a.command _ _ _ _ c.command_of.ensures c.kind_of.ensures c.in-Some-Addressed.is c.in-Some-Addressed.field-0-is in
    (sent (Ask a.address a.command) _ a.out.now _ _ (ask_fault_lem _ _ _ is) (ap (λ (x : Option Kind). ask_info x a.address) is) c.write_frame.ensures.answer
    c.write_frame.ensures.room).0

pub returns-in-Some-Bare-clause-answer : goal.returns-in-Some-Bare-clause-answer
returns-in-Some-Bare-clause-answer c =
    let a = c.args in
    let is = asked a.command _ _ _ _ c.command_of.ensures c.kind_of.ensures c.in-Some-Bare.is c.in-Some-Bare.field-0-is in
    (sent (Ask a.address a.command) _ a.out.now _ _ (ask_fault_lem _ _ _ is) (ap (λ (x : Option Kind). ask_info x a.address) is)
    c.write_frame-in-Some-Bare.ensures.answer c.write_frame-in-Some-Bare.ensures.room).0

pub returns-in-Some-Carries-clause-answer : goal.returns-in-Some-Carries-clause-answer
returns-in-Some-Carries-clause-answer c =
    faulty _ _ _ refusal.Shape (ask_fault_lem c.args.address _ _ (asked c.args.command _ _ _ _ c.command_of.ensures c.kind_of.ensures c.in-Some-Carries.is c.in-Some-Carries.field-0-is))

pub returns-in-None-clause-answer : goal.returns-in-None-clause-answer
returns-in-None-clause-answer c =
    faulty _ _ _ refusal.Request (ask_fault_lem c.args.address _ _ (c.in-None.ensures ∙ ap kind_of c.command_of.ensures))
