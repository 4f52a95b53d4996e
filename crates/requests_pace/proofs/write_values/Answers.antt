-- `requests_pace::write_values` meets its contract: the first refusal changes nothing; where there is none, the part that is lent is the INFO of the values.
-- Assumes nothing.
use mathlib.Core.Path.{sym, ap, ◌∙◌}
use Prim.Native.Nat.{ℕ, ◌+◌, ◌-◌, ◌*◌}
use lib.Dec.{leb}
use lib.ListN.{length, take}
use Rattle.std.proofs.lemmas.Result.{err_from_is_err_and}
use Rattle.refusals.specs.Writing.{room_after}
use Rattle.orders.proofs.Answers.{faultless}
use Rattle.frames_written_pace.specs.Written.{frame_chars}
use Rattle.writes_pace.specs.declared.Info.{Info}
use Rattle.requests_pace.specs.declared.Request.TheVariants.{Set}
use Rattle.requests_pace.proofs.Writing.{values_fault_lem, sent, refused, info_size, info_fits, info_lent}
use Rattle.requests_pace.proofs.write_values.Goals as goal

pub slice_bounds-write_frame-end : goal.slice_bounds-write_frame-end
slice_bounds-write_frame-end c = info_fits c.args.values c.info_of-info.result c.info_of-info.ensures

pub returns-in_err-writing-clause-answer : goal.returns-in_err-writing-clause-answer
returns-in_err-writing-clause-answer c =
    let a = c.args in
    let i = c.info_of-info in
    let p = err_from_is_err_and c.from_residual.result c.from_residual.ensures.1 in
    rw (p.1, p.2)
    (refused (Set a.address a.values) _ _ _ _ (info_size a.values i.result i.ensures) (c.check_values.ensures ∙ values_fault_lem a.address a.values)
    (sym c.in_err-writing.was ∙ c.writing.ensures))

pub returns : goal.returns
returns c =
    let a = c.args in
    let i = c.info_of-info in
    let none = faultless _ (leb (2 * i.result.len + 18) (length a.out.now)) (sym c.in_ok-writing.was ∙ c.writing.ensures) in
    let command = ap (λ (y : Info). y.command) i.ensures in
    let p =
    sent (Set a.address a.values) _ a.out.now _ _ (sym none ∙ c.check_values.ensures ∙ values_fault_lem a.address a.values)
    (info_lent a.values i.result i.ensures) c.write_frame.ensures.answer
    (c.write_frame.ensures.room
    ∙ ap (λ (n : ℕ). room_after c.write_frame.result (frame_chars a.address n (take (i.result.len - 0) i.result.bytes)) a.out.now) command) in
    record { answer = p.0; room = p.1 }
