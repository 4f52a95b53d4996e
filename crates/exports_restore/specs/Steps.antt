-- What next and reply answer as numbers (exports_answers, specs/Told.antt), and what becomes of the job's bytes: after a refusal, and where
-- nothing is left to write, they are as they were.
-- Assumes nothing.
use Rattle.std.specs.Prelude.{ℕ, List, Result, Ok, Err}
use Rattle.refusals.specs.declared.Refusal.{Refusal}
use Rattle.refusals.specs.Numbers.{number_of}
use Rattle.restore_jobs.specs.declared.Job.{Job}
use Rattle.restore_next.specs.declared.Step.{Step}
use Rattle.restore_next.specs.declared.Step.TheVariants.{Frame, Done}
use Rattle.restore_next.specs.declared.Stepped.{Stepped}
use Rattle.restore_reply.specs.declared.Outcome.{Outcome}
use Rattle.restore_reply.specs.declared.Outcome.TheVariants.{Written, Failure}
use Rattle.restore_reply.specs.declared.Heard.{Heard}
use Rattle.exports_answers.specs.Told.{coded_as}
use Rattle.restore_stored.specs.Stored.{job_after}

-- ---- next: 1 a frame of so many bytes, 2 done

abbrev pub step_code : Result Step Refusal → ℕ
step_code (Ok (Frame n)) = coded_as 1 n
step_code (Ok Done) = coded_as 2 0
step_code (Err why) = number_of why

abbrev pub step_job : Result Step Refusal → Job → List ℕ → List ℕ
step_job (Ok (Frame n)) j b = job_after j b
step_job (Ok Done) j b = b
step_job (Err why) j b = b

abbrev pub stepped_code : Stepped → ℕ
stepped_code n = step_code n.step

abbrev pub stepped_job : Stepped → List ℕ → List ℕ
stepped_job n b = step_job n.step n.job b

-- ---- reply: 1 the register is written, 2 the device's failure

abbrev pub answer_code : Result Outcome Refusal → ℕ
answer_code (Ok Written) = coded_as 1 0
answer_code (Ok (Failure code)) = coded_as 2 code
answer_code (Err why) = number_of why

abbrev pub answer_job : Result Outcome Refusal → Job → List ℕ → List ℕ
answer_job (Ok outcome) j b = job_after j b
answer_job (Err why) j b = b

abbrev pub heard_code : Heard → ℕ
heard_code h = answer_code h.answer

abbrev pub heard_job : Heard → List ℕ → List ℕ
heard_job h b = answer_job h.answer h.job b
