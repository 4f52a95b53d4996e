-- Whether a restore can come to a job, from what the code knows of it: no waiting one always; a waiting one by the first of its writes.
-- Assumes nothing.
use mathlib.Core.Path.{◌≡◌, refl, sym, ap, ◌∙◌}
use mathlib.Core.Bool.{Bool, true, false}
use mathlib.Core.List.{List, [], ◌∷◌}
use Prim.Native.Nat.{ℕ}
use lib.Dec.{eqb}
use lib.ListN.{get_or}
use borrow.Author.Tests.{ne_eqb}
use Rattle.laws.specs.Choice.{pick}
use Rattle.restore_order.specs.Slots.{writes, slots}
use Rattle.std.specs.Prelude.{Some, None}
use Rattle.restore_rules.specs.Rules.{first_of}
use Rattle.restore_jobs.specs.declared.Phase.{Phase}
use Rattle.restore_jobs.specs.declared.Phase.TheVariants.{Ready, Waiting, Stopped}
use Rattle.restore_jobs.specs.declared.Job.{Job}
use Rattle.restore_bytes.specs.Jobs.{sized, phase_in, job_in, job_of, is_first, phase_stands, stands}

calm_phase : (p : Phase) (ws : List ℕ) → ((r : ℕ) → p ≡ Waiting r → ⊥) → true ≡ phase_stands p ws
calm_phase Ready ws h = refl
calm_phase (Waiting r) ws h = absurd (h r refl)
calm_phase Stopped ws h = refl

none_first : (r : ℕ) (ws : List ℕ) → None ≡ first_of ws → false ≡ is_first r ws
none_first r [] h = refl
none_first r (n ∷ ws) h = absurd cc

one_first : (r n : ℕ) (ws : List ℕ) → Some n ≡ first_of ws → eqb r n ≡ is_first r ws
one_first r n [] h = absurd cc
one_first r n (m ∷ ws) h = let e : n ≡ m = cc in ap (eqb r) e

-- bytes of a job in another phase than the waiting one
pub calm_bytes : (b : List ℕ) → sized b ≡ true → (get_or b 400 0 ≡ 1 → ⊥) → true ≡ stands (job_of b)
unfolding job_of stands phase_in
calm_bytes b long other = rw (long, ne_eqb (get_or b 400 0) 1 other) (go (eqb (get_or b 400 0) 0))
  where
    go : (t : Bool) → true ≡ phase_stands (pick t Ready Stopped) (writes slots (job_in b).present (job_in b).wanted)
    go true = refl
    go false = refl

module _ (j : Job) where
  pub calm : ((r : ℕ) → j.phase ≡ Waiting r → ⊥) → true ≡ stands j
  unfolding stands
  calm h = calm_phase j.phase (writes slots j.present j.wanted) h

  module _ (r : ℕ) (waits : j.phase ≡ Waiting r) where
    by_first : is_first r (writes slots j.present j.wanted) ≡ stands j
    unfolding stands
    by_first = ap (λ (p : Phase). phase_stands p (writes slots j.present j.wanted)) (sym waits)

    pub nothing_to_come : None ≡ first_of (writes slots j.present j.wanted) → false ≡ stands j
    nothing_to_come h = none_first r (writes slots j.present j.wanted) h ∙ by_first

    pub first_to_come : (n : ℕ) → Some n ≡ first_of (writes slots j.present j.wanted) → eqb r n ≡ stands j
    first_to_come n h = one_first r n (writes slots j.present j.wanted) h ∙ by_first
