-- A job as the machine of `restore_order` has it, and what opening one gives (01, Restore): a step of the machine, as this crate's types say it.
-- Assumes nothing.
use Rattle.std.specs.Prelude.{List, ℕ, ℤ, pos, replicate, Result, Ok, Err}
use Rattle.refusals.specs.declared.Refusal.{Refusal}
use Rattle.restore_order.specs.Machine as M
use Rattle.restore_order.specs.Opening as O
use Rattle.restore_jobs.specs.declared.Phase.{Phase}
use Rattle.restore_jobs.specs.declared.Phase.TheVariants.{Ready, Waiting, Stopped}
use Rattle.restore_jobs.specs.declared.Job.{Job}

-- ---- the job

-- as the machine has it
abbrev pub phase_of : Phase → M.Phase
phase_of Ready = M.ready
phase_of (Waiting r) = M.waiting r
phase_of Stopped = M.stopped

abbrev pub machine : Job → M.Job
machine j = M.job_of j.present j.wanted (phase_of j.phase)

-- and back
abbrev pub held_phase : M.Phase → Phase
held_phase M.ready = Ready
held_phase (M.waiting r) = Waiting r
held_phase M.stopped = Stopped

abbrev pub held : M.Job → Job
held m = record { present = m.present; wanted = m.wanted; phase = held_phase m.phase }

-- the job in bytes that are none: nothing is wanted, and nothing goes on
abbrev pub no_job : Job
no_job = record { present = replicate 50 (pos 0); wanted = replicate 50 (pos 0); phase = Stopped }

-- ---- open

abbrev pub opened_as : O.Opened → Result Job Refusal
opened_as (O.opened m) = Ok (held m)
opened_as (O.unopened why) = Err why

abbrev pub open_of : List ℤ → List ℤ → Result Job Refusal
open_of o w = opened_as (O.opening O.pathfinder o w)

-- ---- left

abbrev pub left_of : Job → ℕ
left_of j = M.left 50 (machine j)
