-- The job in its bytes, put together from its parts.
-- Assumes nothing.
use mathlib.Core.Path.{◌≡◌}
use mathlib.Core.Bool.{true}
use mathlib.Core.List.{List}
use Prim.Native.Nat.{ℕ}
use lib.IntN.{ℤ}
use lib.ListN.{get_or, take, drop}
use Rattle.lists_pathfinder.specs.Lists.{words}
use Rattle.restore_jobs.specs.declared.Phase.{Phase}
use Rattle.restore_jobs.specs.declared.Job.{Job}
use Rattle.restore_bytes.specs.Jobs.{phase_in, sized, job_of}

pub job_is : (b : List ℕ) {p w : List ℤ} {ph : Phase} → sized b ≡ true → p ≡ words 50 (take 200 b) → w ≡ words 50 (take 200 (drop 200 b))
    → ph ≡ phase_in (get_or b 400 0) (get_or b 401 0)
    → ◌≡◌ {A = Job} (record { present = p; wanted = w; phase = ph }) (job_of b)
unfolding job_of
job_is b s e f g = rw (s, e, f, g)
