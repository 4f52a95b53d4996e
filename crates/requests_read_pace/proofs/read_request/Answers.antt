-- `requests_read_pace::read_request` meets its contract: the frame by its reader's contract, the part that is handed on is INFO.
-- Assumes nothing.
use mathlib.Core.Path.{sym, ap, ◌∙◌}
use native.Mathlib.Omega.{arith}
use Rattle.std.proofs.lemmas.Result.{err_from_is_err_and}
use Rattle.frames_pace.proofs.Whole.{whole_says, info_lent, info_hex}
use Rattle.requests_read_pace.specs.Parsed.{whole_of}
use Rattle.requests_read_pace.proofs.Reading.{no_frame, a_frame}
use Rattle.requests_read_pace.proofs.read_request.Goals as goal

pub overflow_add-frame : goal.overflow_add-frame
overflow_add-frame c = let d = whole_says _ _ (sym c.in_ok-frame.was ∙ c.read_frame.ensures) in omega arith

pub slice_bounds-whole-end : goal.slice_bounds-whole-end
slice_bounds-whole-end c = let d = whole_says _ _ (sym c.in_ok-frame.was ∙ c.read_frame.ensures) in omega arith

pub whole-requires : goal.whole-requires
whole-requires c =
    let d = whole_says _ _ (sym c.in_ok-frame.was ∙ c.read_frame.ensures) in rw (info_lent _ _ d) (info_hex _ _ d)

pub returns-in_err-frame : goal.returns-in_err-frame
returns-in_err-frame c =
    let p = err_from_is_err_and c.from_residual.result c.from_residual.ensures.1 in
    rw (p.1, p.2) (no_frame _ _ (sym c.read_frame.ensures ∙ c.in_err-frame.was))

pub returns : goal.returns
returns c =
    let f = c.in_ok-frame.frame in
    let d = whole_says _ f (sym c.in_ok-frame.was ∙ c.read_frame.ensures) in
    c.whole.ensures ∙ ap (whole_of f.address f.command) (info_lent _ _ d) ∙ a_frame _ _ (sym c.read_frame.ensures ∙ c.in_ok-frame.was)
