-- `records_pace::answered` meets its contract: by the sort of the frame.
-- Assumes nothing.
use mathlib.Core.Path.{◌≡◌, ap, ◌∙◌}
use mathlib.Core.Bool.{Bool}
use mathlib.Core.List.{List}
use Prim.Native.Nat.{ℕ, ◌%◌}
use lib.Dec.{eqb}
use lib.ListN.{length}
use Rattle.std.specs.Prelude.{Option, is_some, Result, Ok}
use Rattle.std.proofs.lemmas.Result.{err_from_is_err_and}
use Rattle.refusals.specs.declared.Refusal.{Refusal}
use Rattle.commands_pace.specs.declared.Command.{Command}
use Rattle.records_pace.specs.declared.Sort.{Sort}
use Rattle.records_pace.specs.Reply.{sort_of}
use Rattle.records_pace.proofs.Cases.{sorted, record_is}
use Rattle.records_pace.proofs.answered.Goals as goal

-- the sort, by its tests
tested : (from address code : ℕ) (command : Option Command) (info : List ℕ) (heard : Bool) (s : Result Sort Refusal)
    → s ≡ sort_of (eqb from address) heard (eqb code 0) (eqb (length info % 2) 0) → heard ≡ is_some command
    → s ≡ sort_of (eqb from address) (is_some command) (eqb code 0) (eqb (length info % 2) 0)
tested from address code command info heard s e h = e ∙ ap (λ (b : Bool). sort_of (eqb from address) b (eqb code 0) (eqb (length info % 2) 0)) h

pub returns-in_err-sort : goal.returns-in_err-sort
returns-in_err-sort c =
    let a = c.args in
    let p = err_from_is_err_and c.from_residual.result c.from_residual.ensures.1 in
    rw (p.1, p.2)
    (sorted a.address a.from a.command a.code a.info.now _ (tested a.from a.address a.code a.command a.info.now _ _ c.sort_of.ensures c.is_some.ensures) _ c.in_err-sort.was)

pub returns-in-Failure : goal.returns-in-Failure
returns-in-Failure c =
    let a = c.args in
    sorted a.address a.from a.command a.code a.info.now _ (tested a.from a.address a.code a.command a.info.now _ _ c.sort_of.ensures c.is_some.ensures) _
    (c.in_ok-sort.was ∙ ap (λ (k : Sort). Ok k) c.in-Failure.is)

pub returns-in-Record : goal.returns-in-Record
returns-in-Record c =
    let a = c.args in
    c.read_payload.ensures
    ∙ record_is a.address a.from a.command a.code a.info.now _ (tested a.from a.address a.code a.command a.info.now _ _ c.sort_of.ensures c.is_some.ensures) c.requires
    (c.in_ok-sort.was ∙ ap (λ (k : Sort). Ok k) c.in-Record.is)
