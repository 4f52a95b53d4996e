-- What an accepted opening has: 50 words and 50 values, and the job of them. The laws of `restore_opening`, in one. Assumes nothing.
use mathlib.Core.Path.{◌≡◌, ap}
use mathlib.Core.List.{List}
use lib.IntN.{ℤ}
use lib.ListN.{length}
use Rattle.std.specs.Prelude.{Ok}
use Rattle.restore_order.specs.Machine.{job_of, ready}
use Rattle.restore_order.specs.Opening.{pathfinder, opened, opening}
use Rattle.restore_opening.specs.Verdicts.{verdict_of}
use Rattle.restore_opening.proofs.Judging.{lengths, is_opened}
use Rattle.restore_jobs.specs.Jobs.{opened_as, open_of}

pub record Accepted (o w : List ℤ) : Type 0 where
  pub words : length o ≡ 50
  pub values : length w ≡ 50
  pub gives : open_of o w ≡ opened_as (opened (job_of o w ready))

pub accepted : (o w : List ℤ) → Ok tt ≡ verdict_of (opening pathfinder o w) → Accepted o w
accepted o w e =
    let passed = is_opened o w e in
    let sizes = lengths o w passed.0 in
    record { words = sizes.0; values = sizes.1; gives = ap opened_as passed.1 }
