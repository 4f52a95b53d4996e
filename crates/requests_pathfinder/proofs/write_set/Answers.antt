-- `requests_pathfinder::write_set` meets its contract: the first refusal, if there is one; else the frame. Assumes nothing.
use mathlib.Core.Path.{sym, ap, ◌∙◌}
use lib.Dec.{leb}
use lib.ListN.{length}
use mir.Syntax.{w32}
use mir.ValLaws.{to_z-of_z}
use Rattle.std.specs.Prelude.{Result}
use Rattle.std.proofs.lemmas.Result.{err_from_is_err_and}
use Rattle.refusals.specs.declared.Refusal.{Refusal}
use Rattle.orders.specs.Orders.{writing}
use Rattle.orders.proofs.Answers.{faultless}
use Rattle.requests_pathfinder.specs.declared.Request.TheVariants.{Write}
use Rattle.requests_pathfinder.specs.Requests.{fault_of}
use Rattle.requests_pathfinder.proofs.Made.{sent, refused}
use Rattle.requests_pathfinder.proofs.write_set.Goals as goal

pub returns-in_err-writing-clause-answer : goal.returns-in_err-writing-clause-answer
returns-in_err-writing-clause-answer c =
    let a = c.args in
    let fault = c.check_write.ensures ∙ ap (λ v. fault_of (Write a.register v)) (to_z-of_z w32 a.value c.ranges.value) in
    let p = err_from_is_err_and c.from_residual.result c.from_residual.ensures.1 in
    rw (p.1, p.2)
    (refused (Write a.register a.value) _ _ (c.in_err-writing.ensures ∙ ap (λ (f : Result Unit Refusal). writing f (leb 11 (length a.out.now))) fault))

pub returns-clause-answer : goal.returns-clause-answer
returns-clause-answer c =
    let a = c.args in
    let fault = c.check_write.ensures ∙ ap (λ v. fault_of (Write a.register v)) (to_z-of_z w32 a.value c.ranges.value) in
    c.set_frame.ensures.answer ∙ sent (Write a.register a.value) _ (sym (faultless _ (leb 11 (length a.out.now)) c.in_ok-writing.ensures) ∙ fault)
