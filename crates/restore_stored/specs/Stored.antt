-- A restore's job written: the 402 bytes that hold it, each part where restore_bytes (specs/Jobs.antt) says, and what bytes that are lent hold then.
-- Assumes nothing.
use Rattle.std.specs.Prelude.{ℕ, List, [], ◌∷◌, ◌++◌, Result, Ok, Err}
use Rattle.laws.specs.Choice.{pick}
use Rattle.refusals.specs.declared.Refusal.{Refusal}
use Rattle.refusals.specs.declared.Refusal.TheVariants as refusal
use Rattle.lists_pathfinder.specs.Lists.{bytes_of_words}
use Rattle.restore_jobs.specs.declared.Phase.{Phase}
use Rattle.restore_jobs.specs.declared.Phase.TheVariants.{Ready, Waiting, Stopped}
use Rattle.restore_jobs.specs.declared.Job.{Job}
use Rattle.restore_bytes.specs.Jobs.{sized}

abbrev pub phase_byte : Phase → ℕ
phase_byte Ready = 0
phase_byte (Waiting r) = 1
phase_byte Stopped = 2

abbrev pub register_byte : Phase → ℕ
register_byte Ready = 0
register_byte (Waiting r) = r
register_byte Stopped = 0

abbrev pub phase_bytes : Phase → List ℕ
phase_bytes p = phase_byte p ∷ register_byte p ∷ []

unfoldable pub job_bytes : Job → List ℕ
job_bytes j = bytes_of_words j.present ++ bytes_of_words j.wanted ++ phase_bytes j.phase

-- whether bytes that are to hold a job are refused: they are not so many
abbrev pub size_fault : List ℕ → Result Unit Refusal
size_fault b = pick (sized b) (Ok tt) (Err refusal.Shape)

-- a job put into bytes; where they are not so many, they are as they were
unfoldable pub job_after : Job → List ℕ → List ℕ
job_after j b = pick (sized b) (job_bytes j) b
