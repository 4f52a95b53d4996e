-- A restore call by call is a history of the machine: the same calls, with each frame as the write that it asks for and each reply as what it is read as.
-- By induction over the dialogue, each call by `next_is_step` and `reply_is_step`, its frame by `one_frame` and `its_bytes`. Assumes nothing.
use mathlib.Core.Path.{◌≡◌, refl, sym, ap, ap₂, ◌∙◌}
use mathlib.Core.Bool.{Bool, true, false}
use mathlib.Core.List.{List, [], ◌∷◌, ◌++◌, map, map-append}
use mathlib.Core.Logic.{inl, inr, ⊎_elim}
use Prim.Native.Nat.{ℕ, zero, suc, ◌+◌}
use lib.IntN.{ℤ}
use lib.ListN.{length, take, drop}
use lib.Seq.{take_at}
use Rattle.std.specs.Prelude.{Result}
use Rattle.frames_written_pathfinder.specs.Writing.{frame_bytes}
use Rattle.refusals.specs.declared.Refusal.{Refusal}
use Rattle.restore_order.specs.Slots.{slots, at}
use Rattle.restore_order.specs.Machine as M
use Rattle.restore_order.specs.Opening.{pathfinder, allows}
use Rattle.restore_order.specs.Line as L
use Rattle.restore_order.specs.Suppositions as S
use Rattle.restore_jobs.specs.declared.Phase.{Phase}
use Rattle.restore_jobs.specs.declared.Phase.TheVariants.{Ready, Waiting, Stopped}
use Rattle.restore_jobs.specs.declared.Job.{Job}
use Rattle.restore_next.specs.declared.Step.{Step}
use Rattle.restore_next.specs.declared.Stepped.{Stepped}
use Rattle.restore_jobs.specs.Jobs.{phase_of, machine}
use Rattle.restore_reply.specs.Reply.{read_as, answer_of}
use Rattle.restore_pathfinder.specs.Wire.{Device, write_frame, WriteRule, Scene, Event, next, reply, outgoing, goes_out, answering, after, after_all}
use Rattle.restore_pathfinder.specs.Suppositions.{Always, Delivered, AtOnceOrNever, Taken, AnswersFrameSent, Quiet, NobodyElse, OnLine, OwnReply, chances}
use Rattle.restore_pathfinder.specs.Demands.{frame_to}
use Rattle.restore_pathfinder.proofs.Frames.{Ranged, next_keeps_wanted, reply_keeps_wanted, next_in_range, reply_in_range, writes_what, one_frame, its_bytes, next_is_step, reply_is_step}
use Rattle.restore_pathfinder.proofs.Received.{success_is_read}

-- ---- the frames

-- those that the machine's step asks for
abbrev pub as_frames : M.Asked → List (List ℕ)
as_frames (M.write r v) = write_frame r v ∷ []
as_frames M.done = []
as_frames (M.declined why) = []

eleven : (r : ℕ) (v : ℤ) → length (write_frame r v) ≡ 11
unfolding frame_bytes
eleven r v = refl

-- are the bytes that go out
pub goes_out_is : (j : Job) → Ranged j → (room : List ℕ) → goes_out j room ≡ as_frames (M.asked slots (length room) (machine j))
goes_out_is j ranged room = go (M.asked slots (length room) (machine j)) refl
  where
    go : (a : M.Asked) → M.asked slots (length room) (machine j) ≡ a → goes_out j room ≡ as_frames a
    go (M.write r v) e =
        ap₂ (λ (st : Result Step Refusal) (bytes : List ℕ). outgoing st bytes) (ap (λ (x : Stepped). x.step) (one_frame j ranged (length room) r v e))
        (its_bytes j ranged (length room) r v e room refl)
        ∙ ap (λ (f : List ℕ). f ∷ []) (take_at (write_frame r v) (drop 11 room) 11 (eleven r v))
    go M.done e = rw e
    go (M.declined why) e = rw e

-- ---- the pack as the machine has it

abbrev pub pack_of : Device → L.Pack
pack_of device q r v = record { words = (device q (write_frame r v)).words; answer = read_as (device q (write_frame r v)).reply }

pub pack_obeys : (device : Device) → WriteRule device → L.WriteRule slots 50 (allows pathfinder) (pack_of device)
pack_obeys device rule q r v long i e = rw (rule q r v long i e, success_is_read)

-- ---- one call

module _ (device : Device) where
  abbrev pub world_of : Scene → List ℕ → L.World
  world_of x log = record { job = machine x.job; words = x.words; answers = map read_as x.answers; sent = log }

  abbrev pub moment_of : Event → L.Moment
  moment_of (next room reached q) = L.asks (length room) reached q
  moment_of (reply s q) = L.hears (read_as s) q

  -- the registers sent so far
  abbrev pub log_after : Scene → List ℕ → Event → List ℕ
  log_after x log (next room reached q) = log ++ L.register (M.asked slots (length room) (machine x.job))
  log_after x log (reply s q) = log

  answer_is : (reached : Bool) (q : List ℤ) (before : List (List ℕ)) (a : M.Asked)
      → L.answering slots (pack_of device) reached q (map read_as before) a ≡ map read_as (answering device reached q before (as_frames a))
  answer_is true q before (M.write r v) = refl
  answer_is false q before (M.write r v) = refl
  answer_is reached q before M.done = refl
  answer_is reached q before (M.declined why) = refl

  pub step_is : (x : Scene) (log : List ℕ) (e : Event) → Ranged x.job
      → L.after slots (pack_of device) (world_of x log) (moment_of e) ≡ world_of (after device x e) (log_after x log e)
  unfolding after L.after
  step_is x log (next room reached q) ranged =
      ap₂ (λ (j : M.Job) (line : List M.Answer). world_with j line) (sym (next_is_step x.job ranged (length room)))
      (answer_is reached x.words x.answers (M.asked slots (length room) (machine x.job))
      ∙ ap (λ (fs : List (List ℕ)). map read_as (answering device reached x.words x.answers fs)) (sym (goes_out_is x.job ranged room)))
    where
      world_with : M.Job → List M.Answer → L.World
      world_with j line =
          record { job = j; words = q; answers = line; sent = log ++ L.register (M.asked slots (length room) (machine x.job)) }
  step_is x log (reply s q) ranged =
      ap (λ (j : M.Job). world_with j) (sym (reply_is_step x.job s))
    where
      world_with : M.Job → L.World
      world_with j = record { job = j; words = q; answers = map read_as x.answers; sent = log }

-- ---- what every scene shows: the wanted values, all in range, and in the frames sent the registers of the log with their wanted values

pub record Shows (w : List ℤ) (x : Scene) (log : List ℕ) : Type 0 where
  pub ranged : Ranged x.job
  pub wanted : x.job.wanted ≡ w
  pub frames : x.sent ≡ map (frame_to w) log

module _ (device : Device) (w : List ℤ) where
  -- each frame is that of a register and its wanted value
  frames_to : (j : Job) → j.wanted ≡ w → (places : ℕ) (a : M.Asked) → M.asked slots places (machine j) ≡ a → as_frames a ≡ map (frame_to w) (L.register a)
  frames_to j same places (M.write r v) e =
      ap (λ (u : ℤ). write_frame r u ∷ []) ((writes_what j places r v e).value ∙ ap (λ (l : List ℤ). at l r) same)
  frames_to j same places M.done e = refl
  frames_to j same places (M.declined why) e = refl

  pub shows_after : (x : Scene) (log : List ℕ) (e : Event) → Shows w x log → Shows w (after device x e) (log_after device x log e)
  unfolding after
  shows_after x log (next room reached q) h =
      let a : M.Asked = M.asked slots (length room) (machine x.job) in
      record {
        ranged = next_in_range x.job (length room) h.ranged;
        wanted = next_keeps_wanted x.job (length room) a ∙ h.wanted;
        frames =
            ap₂ (λ (s t : List (List ℕ)). s ++ t) h.frames (goes_out_is x.job h.ranged room ∙ frames_to x.job h.wanted (length room) a refl)
            ∙ sym (map-append (frame_to w) log (L.register a));
      }
  shows_after x log (reply s q) h =
      record {
        ranged = reply_in_range x.job s h.ranged;
        wanted = reply_keeps_wanted x.job.present x.job.wanted x.job.phase (read_as s) ∙ h.wanted;
        frames = h.frames;
      }

  -- ---- the suppositions, call by call

  delivered : (reached : Bool) (p : List ℤ) (a : M.Asked) (q : List ℤ) → Delivered device reached p (as_frames a) q
      → S.Delivered slots (pack_of device) reached p a q
  delivered true p (M.write r v) q h = h
  delivered false p (M.write r v) q h = h
  delivered true p M.done q h = tt
  delivered false p M.done q h = tt
  delivered true p (M.declined why) q h = tt
  delivered false p (M.declined why) q h = tt

  quiet : (a : M.Asked) (p q : List ℤ) → Quiet device (as_frames a) p q → S.Quiet slots (pack_of device) a p q
  quiet (M.write r v) p q h = tt
  quiet M.done p q h = h
  quiet (M.declined why) p q h = h

  taken : (ph : Phase) (line : List (List ℕ)) (s : List ℕ) → Taken device line s (answer_of (M.heard (phase_of ph) (read_as s)))
      → S.Taken slots (pack_of device) (map read_as line) (M.heard (phase_of ph) (read_as s))
  taken Ready line s h = tt
  taken Stopped line s h = tt
  taken (Waiting r) line s h = go (read_as s) refl h
    where
      go : (a : M.Answer) → read_as s ≡ a → Taken device line s (answer_of a) → S.Taken slots (pack_of device) (map read_as line) a
      go M.success e y = ap (map read_as) y ∙ ap (λ (b : M.Answer). b ∷ []) e
      go (M.failure c) e y = ⊎_elim (λ z. inl (ap (map read_as) z ∙ ap (λ (b : M.Answer). b ∷ []) e)) (λ z. inr (ap (map read_as) z)) y
      go (M.refused n) e y = tt

  module _ (x : Scene) (log : List ℕ) (shows : Shows w x log) where
    at_once : (e : Event) → AtOnceOrNever device x e → S.AtOnceOrNever slots (pack_of device) (world_of device x log) (moment_of device e)
    at_once (next room reached q) h =
        delivered reached x.words (M.asked slots (length room) (machine x.job)) q (rw (goes_out_is x.job shows.ranged room) at h)
    at_once (reply s q) h = tt

    answers : (e : Event) → AnswersFrameSent device x e → S.AnswersFrameSent slots (pack_of device) (world_of device x log) (moment_of device e)
    answers (next room reached q) h = tt
    answers (reply s q) h = taken x.job.phase x.answers s h

    nobody : (e : Event) → NobodyElse device x e → S.NobodyElse slots (pack_of device) (world_of device x log) (moment_of device e)
    nobody (next room reached q) h =
        quiet (M.asked slots (length room) (machine x.job)) x.words q (rw (goes_out_is x.job shows.ranged room) at h)
    nobody (reply s q) h = h

    own : (e : Event) → OwnReply device x e → S.OwnReply slots (pack_of device) (world_of device x log) (moment_of device e)
    own (next room reached q) h = tt
    own (reply s q) h = ap (map read_as) h

  -- ---- the whole dialogue

  abbrev pub moments : List Event → List L.Moment
  moments d = map (moment_of device) d

  pub on_line : (d : List Event) (x : Scene) (log : List ℕ) → Shows w x log → OnLine device x d
      → S.OnLine slots (pack_of device) (world_of device x log) (moments d)
  on_line [] x log shows on = record { at_once_or_never = tt; answers_frame_sent = tt; nobody_else = tt }
  on_line (e ∷ d) x log shows on =
      let rest : S.OnLine slots (pack_of device) (world_of device (after device x e) (log_after device x log e)) (moments d) =
      on_line d (after device x e) (log_after device x log e) (shows_after x log e shows)
      (record { at_once_or_never = on.at_once_or_never.1; answers_frame_sent = on.answers_frame_sent.1; nobody_else = on.nobody_else.1 }) in
      let moved : S.OnLine slots (pack_of device) (L.after slots (pack_of device) (world_of device x log) (moment_of device e)) (moments d) =
      rw (step_is device x log e shows.ranged) rest in
      record {
        at_once_or_never = (at_once x log shows e on.at_once_or_never.0, moved.at_once_or_never);
        answers_frame_sent = (answers x log shows e on.answers_frame_sent.0, moved.answers_frame_sent);
        nobody_else = (nobody x log shows e on.nobody_else.0, moved.nobody_else);
      }

  pub own_replies : (d : List Event) (x : Scene) (log : List ℕ) → Shows w x log → Always device (OwnReply device) x d
      → S.Always slots (pack_of device) (S.OwnReply slots (pack_of device)) (world_of device x log) (moments d)
  own_replies [] x log shows a = tt
  own_replies (e ∷ d) x log shows a =
      let moved : S.Always slots (pack_of device) (S.OwnReply slots (pack_of device)) (L.after slots (pack_of device) (world_of device x log) (moment_of device e)) (moments d) =
      rw (step_is device x log e shows.ranged)
      (own_replies d (after device x e) (log_after device x log e) (shows_after x log e shows) a.1) in
      (own x log shows e a.0, moved)

  chance_is : (x : Scene) (log : List ℕ) (e : Event)
      → Rattle.restore_pathfinder.specs.Suppositions.chance device x e ≡ S.chance slots (pack_of device) (world_of device x log) (moment_of device e)
  chance_is x log (next room reached q) = refl
  chance_is x log (reply s q) = refl

  pub chances_are : (d : List Event) (x : Scene) (log : List ℕ) → Shows w x log
      → chances device x d ≡ S.chances slots (pack_of device) (world_of device x log) (moments d)
  unfolding chances S.chances
  chances_are [] x log shows = refl
  chances_are (e ∷ d) x log shows =
      ap₂ (λ (a b : ℕ). a + b) (chance_is x log e)
      (chances_are d (after device x e) (log_after device x log e) (shows_after x log e shows)
      ∙ ap (λ (y : L.World). S.chances slots (pack_of device) y (moments d)) (sym (step_is device x log e shows.ranged)))

  -- where a dialogue ends, the machine's history of it ends
  pub record Same (d : List Event) (x : Scene) (y : L.World) : Type 0 where
    pub log : List ℕ
    pub world : L.after_all slots (pack_of device) y (moments d) ≡ world_of device (after_all device x d) log
    pub shows : Shows w (after_all device x d) log

  pub ends_same : (d : List Event) (x : Scene) (log : List ℕ) → Shows w x log → Same d x (world_of device x log)
  unfolding after_all L.after_all
  ends_same [] x log shows = record { log = log; world = refl; shows = shows }
  ends_same (e ∷ d) x log shows =
      let rest = ends_same d (after device x e) (log_after device x log e) (shows_after x log e shows) in
      record {
        log = rest.log;
        world =
            ap (λ (y : L.World). L.after_all slots (pack_of device) y (moments d)) (step_is device x log e shows.ranged) ∙ rest.world;
        shows = rest.shows;
      }

  pub cut_moments : (n : ℕ) (d : List Event) → take n (moments d) ≡ moments (take n d)
  cut_moments zero d = refl
  cut_moments (suc n) [] = refl
  cut_moments (suc n) (e ∷ d) = ap (λ (h : List L.Moment). moment_of device e ∷ h) (cut_moments n d)
