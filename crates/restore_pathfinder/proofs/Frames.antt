-- Each call is a step of the machine of `restore_order`; and where the machine writes, next puts the one frame of request 0E into the room, which is
-- read back as that register and value. Assumes nothing.
use mathlib.Core.Path.{◌≡◌, refl, sym, ap, ◌∙◌}
use mathlib.Core.Bool.{Bool, true, false}
use mathlib.Core.List.{List, [], ◌∷◌, ◌++◌}
use Prim.Native.Nat.{ℕ, ◌<◌, ◌≤◌, ◌^◌}
use lib.IntN.{ℤ}
use lib.Dec.{ltb}
use lib.Signed.{mag}
use lib.ListN.{length, drop}
use borrow.Author.Tests.{ltb-false}
use Rattle.std.specs.Prelude.{Result, Ok, Err}
use Rattle.laws.proofs.Ladders.{both}
use Rattle.refusals.specs.declared.Refusal.{Refusal}
use Rattle.numbers.specs.declared.Order.TheVariants.{LowFirst}
use Rattle.numbers.specs.Bytes.{bytes_of}
use Rattle.signs.specs.Signed.{bits_of}
use Rattle.frames_written_pathfinder.specs.Writing.{frame_bytes}
use Rattle.registers_pathfinder.specs.Registers.{in_range, fits_type}
use Rattle.registers_pathfinder.proofs.Words.{in_range_known, fits_word}
use Rattle.requests_pathfinder.specs.declared.Request.TheVariants.{Write}
use Rattle.requests_pathfinder.specs.Requests.{fault_of, sent_as}
use Rattle.requests_pathfinder.proofs.Made.{goes_out_lem}
use Rattle.requests_read_pathfinder.specs.Reading.{request_of}
use Rattle.requests_read_pathfinder.proofs.RoundTrip.{written_reads_back_request}
use Rattle.restore_order.specs.Slots.{slots, at, writes, is_in}
use Rattle.restore_order.specs.Machine as M
use Rattle.restore_order.specs.Opening.{pathfinder, opened, allows, opening}
use Rattle.restore_order.proofs.Ordering.{in_below, first_in}
use Rattle.restore_order.proofs.Openings.{passed}
use Rattle.restore_order.proofs.Demand3.{slots_apart}
use Rattle.restore_jobs.specs.declared.Phase.{Phase}
use Rattle.restore_jobs.specs.declared.Phase.TheVariants.{Ready, Waiting, Stopped}
use Rattle.restore_jobs.specs.declared.Job.{Job}
use Rattle.restore_next.specs.declared.Step.TheVariants.{Frame}
use Rattle.restore_next.specs.declared.Stepped.{Stepped}
use Rattle.restore_jobs.specs.Jobs.{phase_of, machine, held_phase, held}
use Rattle.restore_next.specs.Next.{sent_of, step_for, next_of, room_of}
use Rattle.restore_reply.specs.Reply.{read_as, heard_of}

-- ---- a job is the machine's

held_phase_lem : (ph : M.Phase) → phase_of (held_phase ph) ≡ ph
held_phase_lem M.ready = refl
held_phase_lem (M.waiting r) = refl
held_phase_lem M.stopped = refl

pub held_is : (m : M.Job) → machine (held m) ≡ m
held_is m = ap (M.job_of m.present m.wanted) (held_phase_lem m.phase)

-- ---- an opened job's values are in range, and stay so, since no call changes what is wanted

abbrev pub Ranged : Job → Type 0
Ranged j = (n : ℕ) → is_in n slots ≡ true → allows pathfinder n (at j.wanted n) ≡ true

pub opened_in_range : (o w : List ℤ) → opening pathfinder o w ≡ opened (M.job_of o w M.ready) → Ranged (held (M.job_of o w M.ready))
opened_in_range o w e n i = (passed pathfinder o w e).in_range_lem n (in_below 50 n slots slots_apart i) i

pub next_keeps_wanted : (j : Job) (places : ℕ) (a : M.Asked) → (step_for j places a).job.wanted ≡ j.wanted
next_keeps_wanted j places (M.write r v) = go (sent_as (Write r v) places)
  where
    go : (x : Result ℕ Refusal) → (sent_of j (held (M.after_asked (M.write r v) (machine j))) x).job.wanted ≡ j.wanted
    go (Ok n) = refl
    go (Err why) = refl
next_keeps_wanted j places M.done = refl
next_keeps_wanted j places (M.declined why) = refl

pub reply_keeps_wanted : (p w : List ℤ) (ph : Phase) (a : M.Answer) → (M.after_heard_in p w (phase_of ph) a).wanted ≡ w
reply_keeps_wanted p w Ready a = refl
reply_keeps_wanted p w (Waiting r) M.success = refl
reply_keeps_wanted p w (Waiting r) (M.failure c) = refl
reply_keeps_wanted p w (Waiting r) (M.refused n) = refl
reply_keeps_wanted p w Stopped a = refl

pub next_in_range : (j : Job) (places : ℕ) → Ranged j → Ranged (next_of j places).job
next_in_range j places h n b = rw (next_keeps_wanted j places (M.asked slots places (machine j))) (h n b)

pub reply_in_range : (j : Job) (s : List ℕ) → Ranged j → Ranged (heard_of j s).job
reply_in_range j s h n b = rw (reply_keeps_wanted j.present j.wanted j.phase (read_as s)) (h n b)

-- ---- where the machine writes

-- the write that goes out: a setting, its wanted value, and room for its frame
pub record Writes (j : Job) (places r : ℕ) (v : ℤ) : Type 0 where
  pub setting : is_in r slots ≡ true
  pub value : v ≡ at j.wanted r
  pub enough : 11 ≤ places

module _ (places r : ℕ) (v : ℤ) where
  offered_write : (w : List ℤ) (ws : List ℕ) → M.offered places w ws ≡ M.write r v → (rest : List ℕ) × ((ws ≡ r ∷ rest) × ((v ≡ at w r) × (11 ≤ places)))
  offered_write w [] e = absurd cc
  offered_write w (x ∷ rest) e = go (ltb places 11) refl e
    where
      go : (b : Bool) → ltb places 11 ≡ b → M.unless b x (at w x) ≡ M.write r v → (l : List ℕ) × ((x ∷ rest ≡ r ∷ l) × ((v ≡ at w r) × (11 ≤ places)))
      go true h q = absurd cc
      go false h q =
          let f : x ≡ r = cc in
          let g : at w x ≡ v = cc in
          (rest, (ap (λ (n : ℕ). n ∷ rest) f, (sym g ∙ ap (at w) f, ltb-false places 11 h)))

  asked_write : (p w : List ℤ) (ph : Phase) → M.asked_in slots places p w (phase_of ph) ≡ M.write r v → (is_in r slots ≡ true) × ((v ≡ at w r) × (11 ≤ places))
  asked_write p w Ready e =
      let o = offered_write w (writes slots p w) e in
      (first_in slots p w r o.0 o.1.0, o.1.1)
  asked_write p w (Waiting n) e = absurd cc
  asked_write p w Stopped e = absurd cc

pub writes_what : (j : Job) (places r : ℕ) (v : ℤ) → M.asked slots places (machine j) ≡ M.write r v → Writes j places r v
writes_what j places r v e =
    let a = asked_write places r v j.present j.wanted j.phase e in
    record { setting = a.0; value = a.1.0; enough = a.1.1 }

-- ---- a value that may be wanted

module _ (r : ℕ) (v : ℤ) (h : allows pathfinder r v ≡ true) where
  tests : (in_range r v ≡ true) × (fits_type r v ≡ true)
  tests = both (in_range r v) (fits_type r v) h

  -- the writer of requests takes it
  pub no_fault : fault_of (Write r v) ≡ Ok tt
  unfolding fault_of
  no_fault = rw (in_range_known r v tests.0, tests.0)

  -- it has 32 bits
  pub small : mag v < 2 ^ 31
  small = fits_word r v tests.1

  takes : (places : ℕ) → 11 ≤ places → sent_as (Write r v) places ≡ Ok 11
  takes places enough = sym (goes_out_lem (Write r v) places no_fault enough)

module _ (j : Job) (ranged : Ranged j) (places r : ℕ) (v : ℤ) (e : M.asked slots places (machine j) ≡ M.write r v) where
  facts : Writes j places r v
  facts = writes_what j places r v e

  in_range_lem : allows pathfinder r v ≡ true
  in_range_lem = rw facts.value (ranged r facts.setting)

  -- one frame, then waiting
  pub one_frame : ◌≡◌ {A = Stepped} (next_of j places) (record { step = Ok (Frame 11); job = held (M.after_asked (M.write r v) (machine j)) })
  one_frame = rw (e, takes r v in_range_lem places facts.enough)

  -- it is the frame of request 0E with the register and the four bytes of the value, and the bytes after it keep their contents
  pub its_bytes : (out : List ℕ) → length out ≡ places → room_of j out ≡ frame_bytes 0x0E (r ∷ bytes_of LowFirst 4 (bits_of 32 v)) ++ drop 11 out
  its_bytes out h = rw (h, e, h, takes r v in_range_lem places facts.enough)

  -- which the reader of requests reads back as that register and value
  pub reads_back : request_of (frame_bytes 0x0E (r ∷ bytes_of LowFirst 4 (bits_of 32 v))) ≡ Ok (Write r v)
  reads_back = written_reads_back_request (Write r v) (small r v in_range_lem) (no_fault r v in_range_lem)

-- ---- each call is a step of the machine

pub next_is_step : (j : Job) → Ranged j → (places : ℕ) → machine (next_of j places).job ≡ M.after_asked (M.asked slots places (machine j)) (machine j)
next_is_step j ranged places = go (M.asked slots places (machine j)) refl
  where
    go : (a : M.Asked) → M.asked slots places (machine j) ≡ a → machine (next_of j places).job ≡ M.after_asked a (machine j)
    go (M.write r v) e = ap (λ (x : Stepped). machine x.job) (one_frame j ranged places r v e) ∙ held_is (M.after_asked (M.write r v) (machine j))
    go M.done e = rw e
    go (M.declined why) e = rw e

pub reply_is_step : (j : Job) (s : List ℕ) → machine (heard_of j s).job ≡ M.after_heard (machine j) (read_as s)
reply_is_step j s = held_is (M.after_heard (machine j) (read_as s))
