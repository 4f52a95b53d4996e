-- `restore_stored::put_job` meets its contract: the parts one after the other are the job's bytes.
-- Assumes nothing.
use mathlib.Core.Path.{◌≡◌}
use lib.ListN.{length}
use borrow.Author.Tests.{eq-eqb, ne_eqb}
use Rattle.restore_stored.specs.Stored.{job_after}
use Rattle.restore_stored.proofs.Bytes.{one_there, two_there, job_put}
use borrow.Author.Rules.{rules}
use Rattle.restore_stored.proofs.put_job.Goals as goal

pub returns-then-b-ne-JOB : goal.returns-then-b-ne-JOB
unfolding job_after
returns-then-b-ne-JOB c = record { answer = rw (ne_eqb _ _ c.if-b-ne-JOB.true); held = rw (ne_eqb _ _ c.if-b-ne-JOB.true) }

pub returns : goal.returns
unfolding job_after
returns c =
    let a = c.args in
    let long : length a.b.now ≡ 402 = c.if-b-ne-JOB.false in
    let p : length a.j.present ≡ 50 = search rules in
    let w : length a.j.wanted ≡ 50 = search rules in
    let one = one_there a.j a.b.now p w long _ c.put_words.ensures.filled in
    let two = two_there a.j a.b.now p w long _ _ one c.put_words-2.ensures.filled in
    record { answer = rw (eq-eqb _ _ long); held = rw (eq-eqb _ _ long) (job_put a.j a.b.now p w long _ _ two c.put_phase.ensures) }
