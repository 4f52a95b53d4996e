-- `restore_bytes::job_of` meets its contract: from its three parts.
-- Assumes nothing.
use mathlib.Core.Path.{◌≡◌, ◌∙◌}
use native.Mathlib.Omega.{arith}
use lib.IntN.{pos}
use lib.ListN.{length, take, drop, replicate, length-drop}
use lib.Seq.{length-take-le}
use borrow.Author.Tests.{eq-eqb, ne_eqb}
use Rattle.lists_pathfinder.proofs.Rows.{row_read_lem}
use Rattle.restore_bytes.specs.Jobs.{job_of}
use Rattle.restore_bytes.proofs.Held.{job_is}
use Rattle.restore_bytes.proofs.job_of.Goals as goal

pub returns-then-b-ne-JOB : goal.returns-then-b-ne-JOB
unfolding job_of
returns-then-b-ne-JOB c = rw (ne_eqb _ _ c.if-b-ne-JOB.true)

pub returns : goal.returns
returns c =
    let b = c.args.b.now in
    let long : length b ≡ 402 = c.if-b-ne-JOB.false in
    let first : length (take 200 b) ≡ 200 = length-take-le 200 b (omega arith) in
    let second : length (take 200 (drop 200 b)) ≡ 200 = length-take-le 200 (drop 200 b) (omega (arith, length-drop 200 b)) in
    job_is b (eq-eqb _ _ long) (c.read_words.ensures.filled ∙ row_read_lem (take 200 b) (replicate 50 (pos 0)) first) (c.read_words-2.ensures.filled ∙ row_read_lem (take 200 (drop 200 b)) (replicate 50 (pos 0)) second) c.phase_of.ensures
