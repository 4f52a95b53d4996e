-- Every job that open, next and reply give is one that a restore can come to (`stands`), so that its bytes are taken for a job
-- (restore_stored, `is_job_back`): by the phase, and then by what the machine asks or hears. Assumes nothing.
use mathlib.Core.Path.{◌≡◌, refl, ap, ◌∙◌}
use mathlib.Core.Bool.{Bool, true, false}
use mathlib.Core.List.{List, [], ◌∷◌}
use Prim.Native.Nat.{ℕ}
use borrow.Author.Tests.{eq-eqb}
use lib.IntN.{ℤ}
use lib.Dec.{ltb}
use Rattle.std.specs.Prelude.{Result, Ok, Err}
use Rattle.refusals.specs.declared.Refusal.{Refusal}
use Rattle.requests_pathfinder.specs.declared.Request.TheVariants.{Write}
use Rattle.requests_pathfinder.specs.Requests.{sent_as}
use Rattle.restore_order.specs.Slots.{at, writes, sides, slots}
use Rattle.restore_order.specs.Machine as M
use Rattle.restore_order.specs.Opening.{pathfinder, in_order, shapely, unmoved, ranged, opening}
use Rattle.restore_jobs.specs.declared.Phase.{Phase}
use Rattle.restore_jobs.specs.declared.Phase.TheVariants.{Ready, Waiting, Stopped}
use Rattle.restore_jobs.specs.declared.Job.{Job}
use Rattle.restore_jobs.specs.Jobs.{opened_as, open_of}
use Rattle.restore_next.specs.Next.{sent_of, step_for, next_of}
use Rattle.restore_reply.specs.Reply.{heard_as, heard_of, read_as}
use Rattle.restore_bytes.specs.Jobs.{is_first, phase_stands, stands}
use Rattle.restore_pathfinder.specs.Wire.{job_opened}

-- ---- open

pub opened_stands : (o w : List ℤ) → stands (job_opened (open_of o w)) ≡ true
unfolding opening stands
opened_stands o w = go (shapely pathfinder o w) (unmoved pathfinder o w) (ranged pathfinder w) (sides slots w) (sides slots o)
  where
    go : (a b c d e : Bool) → stands (job_opened (opened_as (in_order a b c d e (M.job_of o w M.ready)))) ≡ true
    go false b c d e = refl
    go true false c d e = refl
    go true true false d e = refl
    go true true true false e = refl
    go true true true true false = refl
    go true true true true true = refl

-- ---- next

module _ (p w : List ℤ) (n : ℕ) where
  abbrev between : Job
  between = record { present = p; wanted = w; phase = Ready }

  sent_stands : (r : ℕ) (rest : List ℕ) → writes slots p w ≡ r ∷ rest → (x : Result ℕ Refusal)
      → stands (sent_of between (record { present = p; wanted = w; phase = Waiting r }) x).job ≡ true
  unfolding stands
  sent_stands r rest e (Ok k) = ap (is_first r) e ∙ eq-eqb r r refl
  sent_stands r rest e (Err why) = refl

  asked_stands : (r : ℕ) (rest : List ℕ) → writes slots p w ≡ r ∷ rest → (small : Bool) → stands (step_for between n (M.unless small r (at w r))).job ≡ true
  unfolding stands
  asked_stands r rest e true = refl
  asked_stands r rest e false = sent_stands r rest e (sent_as (Write r (at w r)) n)

  offered_stands : (ws : List ℕ) → writes slots p w ≡ ws → stands (step_for between n (M.offered n w ws)).job ≡ true
  unfolding stands
  offered_stands [] e = refl
  offered_stands (r ∷ rest) e = asked_stands r rest e (ltb n 11)

pub next_stands : (j : Job) (n : ℕ) → stands j ≡ true → stands (next_of j n).job ≡ true
unfolding stands
next_stands j n = go j.present j.wanted j.phase
  where
    go : (p w : List ℤ) (ph : Phase) → phase_stands ph (writes slots p w) ≡ true
        → stands (next_of (record { present = p; wanted = w; phase = ph }) n).job ≡ true
    go p w Ready h = offered_stands p w n (writes slots p w) refl
    go p w (Waiting r) h = h
    go p w Stopped h = refl

-- ---- reply

pub reply_stands : (j : Job) (s : List ℕ) → stands j ≡ true → stands (heard_of j s).job ≡ true
unfolding stands
reply_stands j s = go j.present j.wanted j.phase (read_as s)
  where
    go : (p w : List ℤ) (ph : Phase) (a : M.Answer) → phase_stands ph (writes slots p w) ≡ true
        → stands (heard_as (record { present = p; wanted = w; phase = ph }) a).job ≡ true
    go p w Ready a h = refl
    go p w (Waiting r) M.success h = refl
    go p w (Waiting r) (M.failure c) h = refl
    go p w (Waiting r) (M.refused why) h = h
    go p w Stopped a h = refl
