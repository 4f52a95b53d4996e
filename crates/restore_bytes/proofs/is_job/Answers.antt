-- `restore_bytes::is_job` meets its contract: by the tests on the way.
-- Assumes nothing.
use mathlib.Core.Path.{ap, ◌∙◌}
use borrow.Author.Tests.{eq-eqb, ne_eqb, le-leb, lt-leb}
use Rattle.restore_bytes.specs.Jobs.{stands, is_job}
use Rattle.restore_bytes.proofs.Standing.{calm_bytes}
use Rattle.restore_bytes.proofs.is_job.Goals as goal

pub returns-then-b-ne-JOB : goal.returns-then-b-ne-JOB
unfolding is_job
returns-then-b-ne-JOB c = simp (ne_eqb _ _ c.if-b-ne-JOB.true)

pub returns-then-b-gt2 : goal.returns-then-b-gt2
unfolding is_job
returns-then-b-gt2 c = simp (eq-eqb _ _ c.if-b-ne-JOB.false, lt-leb _ _ c.if-b-gt2.true)

pub returns-then-b-ne1 : goal.returns-then-b-ne1
unfolding is_job
returns-then-b-ne1 c =
    let long = eq-eqb _ _ c.if-b-ne-JOB.false in
    simp (long, le-leb _ _ c.if-b-gt2.false) (calm_bytes _ long c.if-b-ne1.true)

pub returns : goal.returns
unfolding is_job
returns c = simp (eq-eqb _ _ c.if-b-ne-JOB.false, le-leb _ _ c.if-b-gt2.false) (c.can_stand.ensures ∙ ap stands c.job_of.ensures)
