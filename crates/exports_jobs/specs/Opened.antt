-- What open answers as a number (exports_answers, specs/Told.antt), 1 opened, and what becomes of the job's bytes: after a refusal they are as they were.
-- Assumes nothing.
use Rattle.std.specs.Prelude.{ℕ, List, Result, Ok, Err}
use Rattle.refusals.specs.declared.Refusal.{Refusal}
use Rattle.refusals.specs.Numbers.{number_of}
use Rattle.restore_jobs.specs.declared.Job.{Job}
use Rattle.exports_answers.specs.Told.{coded_as}
use Rattle.restore_stored.specs.Stored.{job_after}

abbrev pub opened_code : Result Job Refusal → ℕ
opened_code (Ok j) = coded_as 1 0
opened_code (Err why) = number_of why

abbrev pub opened_job : Result Job Refusal → List ℕ → List ℕ
opened_job (Ok j) b = job_after j b
opened_job (Err why) b = b
