-- `records_pace::read_reply` meets its contract: the frame by its reader's contract, the part that is handed on is INFO.
-- Assumes nothing.
use mathlib.Core.Path.{sym, ap₂, ◌∙◌}
use mathlib.Core.List.{List}
use Prim.Native.Nat.{ℕ}
use native.Mathlib.Omega.{arith}
use Rattle.std.specs.Prelude.{Option}
use Rattle.std.proofs.lemmas.Result.{err_from_is_err_and}
use Rattle.frames_pace.proofs.Whole.{whole_says, info_lent, info_hex}
use Rattle.commands_pace.specs.declared.Command.{Command}
use Rattle.records_pace.specs.Reply.{answered_of}
use Rattle.records_pace.proofs.Cases.{no_frame, whole_frame}
use Rattle.records_pace.proofs.read_reply.Goals as goal

pub overflow_add-frame : goal.overflow_add-frame
overflow_add-frame c = let d = whole_says _ _ (sym c.in_ok-frame.was ∙ c.read_frame.ensures) in omega arith

pub slice_bounds-answered-end : goal.slice_bounds-answered-end
slice_bounds-answered-end c = let d = whole_says _ _ (sym c.in_ok-frame.was ∙ c.read_frame.ensures) in omega arith

pub answered-requires : goal.answered-requires
answered-requires c =
    let d = whole_says _ _ (sym c.in_ok-frame.was ∙ c.read_frame.ensures) in rw (info_lent _ _ d) (info_hex _ _ d)

pub returns-in_err-frame : goal.returns-in_err-frame
returns-in_err-frame c =
    let p = err_from_is_err_and c.from_residual.result c.from_residual.ensures.1 in
    rw (p.1, p.2) (no_frame _ _ _ _ (sym c.read_frame.ensures ∙ c.in_err-frame.was))

pub returns : goal.returns
returns c =
    let a = c.args in
    let f = c.in_ok-frame.frame in
    let d = whole_says _ f (sym c.in_ok-frame.was ∙ c.read_frame.ensures) in
    c.answered.ensures
    ∙ ap₂ (λ (x : Option Command) (l : List ℕ). answered_of a.address f.address x f.command l) c.command_of.ensures (info_lent _ _ d)
    ∙ whole_frame _ _ _ _ (sym c.read_frame.ensures ∙ c.in_ok-frame.was)
