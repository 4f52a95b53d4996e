-- `warnings_pace::read_warnings` meets its contract: what the counts are decides.
-- Assumes nothing.
use mathlib.Core.Path.{sym, ◌∙◌}
use mathlib.Core.Bool.{false}
use Rattle.std.proofs.lemmas.Result.{err_from_is_err_and}
use Rattle.counts_pace.proofs.Cases.{counted}
use Rattle.warnings_pace.proofs.Cases.{by_counts_lem}
use Rattle.warnings_pace.proofs.read_warnings.Goals as goal

pub with_counts-requires : goal.with_counts-requires
with_counts-requires c =
    let l = counted false 12 c.args.address c.args.info.now _ (sym c.in_ok-counts.was ∙ c.counts_of.ensures) in
    (l.few, l.cool)

pub returns-in_err-counts : goal.returns-in_err-counts
returns-in_err-counts c =
    let p = err_from_is_err_and c.from_residual.result c.from_residual.ensures.1 in
    rw (p.1, p.2) (by_counts_lem _ _ _ (sym c.counts_of.ensures ∙ c.in_err-counts.was))

pub returns : goal.returns
returns c = rw c.with_counts.ensures (by_counts_lem _ _ _ (sym c.counts_of.ensures ∙ c.in_ok-counts.was))
