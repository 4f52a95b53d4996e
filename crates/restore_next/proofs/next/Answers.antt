-- `next` meets its contract. Each way out is a law of `Steps`; what is written first is a setting, and its value is handed on by its bits, which
-- read back.
-- Assumes nothing.
use native.Mathlib.Omega.{arith}
use mathlib.Core.Path.{◌≡◌, sym, ap, ◌∙◌}
use lib.IntN.{ℤ}
use lib.ListN.{length}
use mir.Syntax.{w32}
use mir.Val.{of_z, to_z}
use Rattle.refusals.specs.Writing.{room_after}
use Rattle.requests_pathfinder.specs.declared.Request.TheVariants.{Write}
use Rattle.requests_pathfinder.specs.Requests.{frame_for, sent_as}
use Rattle.restore_order.specs.Slots.{at}
use Rattle.restore_rules.proofs.Numbers.{from_bits}
use Rattle.restore_next.proofs.Steps.{out_of_turn, nothing_to_write, no_room, one_write, first_below}
use Rattle.restore_next.proofs.next.Goals as goal

pub returns-then-not-ready : goal.returns-then-not-ready
returns-then-not-ready c =
    let a = c.args in
    let r = out_of_turn a.job a.out.now (sym c.is_ready-ready.ensures ∙ c.if-not-ready.true) in
    record { answer = c.declined.ensures ∙ r.0; room = r.1 }

pub returns-in_default : goal.returns-in_default
returns-in_default c =
    let a = c.args in
    let r = nothing_to_write a.job a.out.now (cc) (sym c.first_write.ensures ∙ c.in_default.is) in
    record { answer = r.0; room = r.1 }

pub returns-then-not-roomy : goal.returns-then-not-roomy
returns-then-not-roomy c =
    let a = c.args in
    let r =
    no_room a.job a.out.now (cc) c.in-Some.register (sym c.first_write.ensures ∙ c.in-Some.is) (omega arith) in
    record { answer = c.declined-then-not-roomy.ensures ∙ r.0; room = r.1 }

pub bounds-wanted-register : goal.bounds-wanted-register
bounds-wanted-register c =
    let a = c.args in
    first_below a.job.present a.job.wanted c.in-Some.register (sym c.first_write.ensures ∙ c.in-Some.is)

pub returns : goal.returns
returns c =
    let a = c.args in
    let e : to_z w32 (of_z w32 (at a.job.wanted c.in-Some.register)) ≡ at a.job.wanted c.in-Some.register = from_bits (at a.job.wanted c.in-Some.register) c.value-1.given in
    let answer : c.write_set-written.result ≡ sent_as (Write c.in-Some.register (at a.job.wanted c.in-Some.register)) (length a.out.now) =
    c.write_set-written.ensures.answer ∙ ap (λ (z : ℤ). sent_as (Write c.in-Some.register z) (length a.out.now)) e in
    let room : c.write_set-written.new.out ≡ room_after c.write_set-written.result (frame_for (Write c.in-Some.register (at a.job.wanted c.in-Some.register))) a.out.now =
    c.write_set-written.ensures.room ∙ ap (λ (z : ℤ). room_after c.write_set-written.result (frame_for (Write c.in-Some.register z)) a.out.now) e in
    let all =
    one_write a.job a.out.now (cc) c.in-Some.register (sym c.first_write.ensures ∙ c.in-Some.is) (omega arith)
    c.write_set-written.result answer in
    record { answer = c.sent.ensures ∙ all.0; room = room ∙ all.1 }
