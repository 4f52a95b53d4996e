-- The ways out of reply, each from the facts that the code has there: by the phase, then by what the machine hears.
-- Assumes nothing.
use mathlib.Core.Path.{◌≡◌, refl, sym, ap, ◌∙◌}
use mathlib.Core.List.{List}
use Prim.Native.Nat.{ℕ}
use lib.IntN.{ℤ}
use Rattle.std.specs.Prelude.{Result, Ok, Err}
use Rattle.refusals.specs.declared.Refusal.{Refusal}
use Rattle.restore_order.specs.Slots.{put}
use Rattle.restore_order.specs.Machine as M
use Rattle.restore_jobs.specs.declared.Phase.{Phase}
use Rattle.restore_jobs.specs.declared.Phase.TheVariants.{Ready, Waiting, Stopped}
use Rattle.restore_jobs.specs.declared.Job.{Job}
use Rattle.restore_reply.specs.declared.Outcome.TheVariants.{Written as Marked, Failure}
use Rattle.restore_reply.specs.declared.Outcome.{Outcome}
use Rattle.restore_reply.specs.declared.Heard.{Heard}
use Rattle.restore_reply.specs.Reply.{is_waiting, answer_of, read_as, answer_in, heard_as, heard_of}

-- what reply's answer says of what was read
refused_read : (a : M.Answer) (why : Refusal) → answer_of a ≡ Err why → a ≡ M.refused why
refused_read M.success why e = absurd cc
refused_read (M.failure c) why e = absurd cc
refused_read (M.refused n) why e = let q : n ≡ why = cc in ap M.refused q

success_read : (a : M.Answer) → answer_of a ≡ Ok Marked → a ≡ M.success
success_read M.success e = refl
success_read (M.failure c) e = absurd cc
success_read (M.refused n) e = absurd cc

failure_read : (a : M.Answer) (code : ℕ) → answer_of a ≡ Ok (Failure code) → a ≡ M.failure code
failure_read M.success code e = absurd cc
failure_read (M.failure c) code e = let q : c ≡ code = cc in ap M.failure q
failure_read (M.refused n) code e = absurd cc

-- 14, before the reply is read
pub not_waiting : (p w : List ℤ) (ph : Phase) (s : List ℕ) (answer : Result Outcome Refusal) → ((r : ℕ) → ph ≡ Waiting r → ⊥)
    → answer ≡ answer_in (is_waiting ph) s
    → ◌≡◌ {A = Heard} (record { answer = answer; job = record { present = p; wanted = w; phase = ph } })
    (heard_of (record { present = p; wanted = w; phase = ph }) s)
not_waiting p w Ready s answer h e = rw e
not_waiting p w (Waiting r) s answer h e = absurd (h r refl)
not_waiting p w Stopped s answer h e = rw e

module _ (p w : List ℤ) (ph : Phase) (r : ℕ) (waits : ph ≡ Waiting r) (s : List ℕ) (answer : Result Outcome Refusal) (heard : answer ≡ answer_in (is_waiting ph) s) where
  abbrev job : Job
  job = record { present = p; wanted = w; phase = ph }

  read : answer ≡ answer_of (read_as s)
  read = heard ∙ rw waits

  -- what the machine hears decides
  by_heard : (a : M.Answer) → read_as s ≡ a → heard_as (record { present = p; wanted = w; phase = Waiting r }) a ≡ heard_of job s
  by_heard a e = rw waits (ap (heard_as (record { present = p; wanted = w; phase = Waiting r })) (sym e))

  pub reply_refused : (why : Refusal) → answer ≡ Err why → ◌≡◌ {A = Heard} (record { answer = answer; job = job }) (heard_of job s)
  reply_refused why h = rw h (ap (λ (x : Phase). heard_in x why) waits ∙ by_heard (M.refused why) (refused_read (read_as s) why (sym read ∙ h)))
    where
      heard_in : Phase → Refusal → Heard
      heard_in x n = record { answer = Err n; job = record { present = p; wanted = w; phase = x } }

  pub register_written : answer ≡ Ok Marked
      → ◌≡◌ {A = Heard} (record { answer = Ok Marked; job = record { present = put p w r; wanted = w; phase = Ready } }) (heard_of job s)
  register_written h = by_heard M.success (success_read (read_as s) (sym read ∙ h))

  pub device_failed : (code : ℕ) → answer ≡ Ok (Failure code)
      → ◌≡◌ {A = Heard} (record { answer = Ok (Failure code); job = record { present = p; wanted = w; phase = Stopped } }) (heard_of job s)
  device_failed code h = by_heard (M.failure code) (failure_read (read_as s) code (sym read ∙ h))
