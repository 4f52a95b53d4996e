-- The ways out of next, each from the facts that the code has there: by the phase, then by what the machine asks.
-- Assumes nothing.
use mathlib.Core.Path.{◌≡◌, refl, sym, ap, ◌∙◌}
use mathlib.Core.Bool.{Bool, true, false}
use mathlib.Core.List.{List, [], ◌∷◌}
use Prim.Native.Nat.{ℕ, ◌<◌, ◌≤◌}
use lib.IntN.{ℤ}
use lib.Dec.{ltb}
use lib.ListN.{length}
use borrow.Author.Tests.{lt-ltb, le-ltb}
use Rattle.std.specs.Prelude.{Result, Ok, Err, Some, None}
use Rattle.refusals.specs.declared.Refusal.{Refusal}
use Rattle.refusals.specs.declared.Refusal.TheVariants as refusal
use Rattle.refusals.specs.Writing.{room_after}
use Rattle.requests_pathfinder.specs.declared.Request.TheVariants.{Write}
use Rattle.requests_pathfinder.specs.Requests.{frame_for, sent_as}
use Rattle.restore_order.specs.Slots.{slots, at, writes, is_in, apart}
use Rattle.restore_order.specs.Machine as M
use Rattle.restore_order.proofs.Ordering.{in_below, first_in}
use Rattle.restore_rules.specs.Rules.{first_of}
use Rattle.restore_jobs.specs.declared.Phase.{Phase}
use Rattle.restore_jobs.specs.declared.Phase.TheVariants.{Ready, Waiting, Stopped}
use Rattle.restore_jobs.specs.declared.Job.{Job}
use Rattle.restore_jobs.specs.Jobs.{phase_of, machine}
use Rattle.restore_next.specs.declared.Step.TheVariants.{Done}
use Rattle.restore_next.specs.declared.Stepped.{Stepped}
use Rattle.restore_next.specs.Next.{is_ready, sent_of, step_for, next_of, room_for, room_of}

settings_apart : apart 50 slots ≡ true
unfolding apart is_in
settings_apart = refl

module _ (j : Job) (out : List ℕ) where
  -- by what the machine asks
  by_asked : (a : M.Asked) → M.asked slots (length out) (machine j) ≡ a → (step_for j (length out) a ≡ next_of j (length out)) × (room_for a out ≡ room_of j out)
  by_asked a e = (ap (step_for j (length out)) (sym e), ap (λ (x : M.Asked). room_for x out) (sym e))

  module _ (p w : List ℤ) where
    idle : (ph : Phase) → is_ready ph ≡ false → M.asked_in slots (length out) p w (phase_of ph) ≡ M.declined refusal.Turn
    idle Ready h = cc
    idle (Waiting r) h = refl
    idle Stopped h = refl

    none_offered : (ws : List ℕ) → first_of ws ≡ None → M.offered (length out) w ws ≡ M.done
    none_offered [] e = refl
    none_offered (r ∷ rest) e = cc

    first_offered : (ws : List ℕ) (r : ℕ) → first_of ws ≡ Some r → M.offered (length out) w ws ≡ M.unless (ltb (length out) 11) r (at w r)
    first_offered [] r e = absurd cc
    first_offered (x ∷ rest) r e = let q : x ≡ r = cc in rw q

  pub out_of_turn : is_ready j.phase ≡ false
      → (◌≡◌ {A = Stepped} (record { step = Err refusal.Turn; job = j }) (next_of j (length out))) × (out ≡ room_of j out)
  out_of_turn h = by_asked (M.declined refusal.Turn) (idle j.present j.wanted j.phase h)

  module _ (turn : is_ready j.phase ≡ true) where
    between : j.phase ≡ Ready
    between = go j.phase turn
      where
        go : (ph : Phase) → is_ready ph ≡ true → ph ≡ Ready
        go Ready h = refl
        go (Waiting r) h = cc
        go Stopped h = cc

    pub nothing_to_write : first_of (writes slots j.present j.wanted) ≡ None
        → (◌≡◌ {A = Stepped} (record { step = Ok Done; job = j }) (next_of j (length out))) × (out ≡ room_of j out)
    nothing_to_write e = by_asked M.done (rw between (none_offered j.present j.wanted (writes slots j.present j.wanted) e))

    module _ (r : ℕ) (first : first_of (writes slots j.present j.wanted) ≡ Some r) where
      asks : (b : Bool) → ltb (length out) 11 ≡ b → M.asked slots (length out) (machine j) ≡ M.unless b r (at j.wanted r)
      asks b e =
          rw between
          (first_offered j.present j.wanted (writes slots j.present j.wanted) r first ∙ ap (λ (t : Bool). M.unless t r (at j.wanted r)) e)

      pub no_room : length out < 11 → (◌≡◌ {A = Stepped} (record { step = Err refusal.Room; job = j }) (next_of j (length out))) × (out ≡ room_of j out)
      no_room h = by_asked (M.declined refusal.Room) (asks true (lt-ltb (length out) 11 h))

      -- one write: what the writer of requests gives for it
      pub one_write : 11 ≤ length out → (written : Result ℕ Refusal) → written ≡ sent_as (Write r (at j.wanted r)) (length out)
          → (sent_of j (record { present = j.present; wanted = j.wanted; phase = Waiting r }) written ≡ next_of j (length out))
          × (room_after written (frame_for (Write r (at j.wanted r))) out ≡ room_of j out)
      one_write h written e = rw e (by_asked (M.write r (at j.wanted r)) (asks false (le-ltb (length out) 11 h)))

-- what is written first is a setting
pub first_below : (p w : List ℤ) (r : ℕ) → first_of (writes slots p w) ≡ Some r → r < 50
first_below p w r = go (writes slots p w) refl
  where
    go : (ws : List ℕ) → writes slots p w ≡ ws → first_of ws ≡ Some r → r < 50
    go [] e h = absurd cc
    go (n ∷ rest) e h = let q : n ≡ r = cc in rw (← q) (in_below 50 n slots settings_apart (first_in slots p w n rest e))
