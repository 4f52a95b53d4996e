-- A restore's job in 402 bytes: the 50 words of its picture and the 50 wanted values, four bytes each with the low one first, then a byte for the
-- phase (0 ready, 1 waiting, 2 stopped) and one for the register waited for, 0 in the other phases (docs/DECISIONS.md, C and Rust).
-- Assumes nothing.
use Rattle.std.specs.Prelude.{ℕ, Bool, true, false, ◌&&◌, List, [], ◌∷◌, leb, eqb, length, get_or, take, drop}
use Rattle.laws.specs.Choice.{pick}
use Rattle.lists_pathfinder.specs.Lists.{words}
use Rattle.restore_order.specs.Slots.{writes, slots}
use Rattle.restore_jobs.specs.declared.Phase.{Phase}
use Rattle.restore_jobs.specs.declared.Phase.TheVariants.{Ready, Waiting, Stopped}
use Rattle.restore_jobs.specs.declared.Job.{Job}
use Rattle.restore_jobs.specs.Jobs.{no_job}

-- so many bytes
abbrev pub sized : List ℕ → Bool
sized b = eqb (length b) 402

-- ---- read

unfoldable pub phase_in : ℕ → ℕ → Phase
phase_in p r = pick (eqb p 0) Ready (pick (eqb p 1) (Waiting r) Stopped)

-- the job in so many bytes
abbrev pub job_in : List ℕ → Job
job_in b =
    record { present = words 50 (take 200 b); wanted = words 50 (take 200 (drop 200 b)); phase = phase_in (get_or b 400 0) (get_or b 401 0) }

-- the job in the bytes; where they are not so many, the one that comes with a refusal
unfoldable pub job_of : List ℕ → Job
job_of b = pick (sized b) (job_in b) no_job

-- ---- which bytes hold a job

-- "else one frame, then waiting" (01, Restore, Next): what is waited for is the first of the writes that the job has to come, and nothing else
abbrev pub is_first : ℕ → List ℕ → Bool
is_first r [] = false
is_first r (n ∷ rest) = eqb r n

abbrev pub phase_stands : Phase → List ℕ → Bool
phase_stands Ready ws = true
phase_stands (Waiting r) ws = is_first r ws
phase_stands Stopped ws = true

unfoldable pub stands : Job → Bool
stands j = phase_stands j.phase (writes slots j.present j.wanted)

-- so many bytes, one of the three phases, and a job that a restore can come to
unfoldable pub is_job : List ℕ → Bool
is_job b = sized b && (leb (get_or b 400 0) 2 && stands (job_of b))
