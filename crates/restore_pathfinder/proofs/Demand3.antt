-- DEMAND 3, of the calls and their bytes: a restore of a pack that reads and answers bytes, call by call. What is supposed stands in
-- specs/Suppositions.antt, what is shown in specs/Demands.antt; that the suppositions can all be met is shown in proofs/Witness.antt. Put together from
-- the machine's demand 3 (`restore_order`) and the law that a dialogue is a history of the machine (proofs/Shadows.antt). Assumes nothing.
use mathlib.Core.Path.{◌≡◌, refl, sym, ap, subst, ◌∙◌}
use mathlib.Core.Bool.{Bool, true, false}
use mathlib.Core.List.{List, [], ◌∷◌, ◌++◌, map, map-append}
use mathlib.Core.Logic.{◌⊎◌, inl}
use Prim.Native.Nat.{ℕ, ◌<◌, ◌≤◌}
use native.Mathlib.Omega.{arith}
use lib.IntN.{ℤ}
use lib.ListN.{length, take, length-map}
use lib.Seq.{take_all}
use Rattle.std.specs.Prelude.{Ok, Err, IsOk, is_ok}
use Rattle.refusals.specs.declared.Refusal.TheVariants as refusal
use Rattle.restore_order.specs.Slots.{slots, at, differs, writes, is_in, sides, one, times}
use Rattle.restore_order.specs.Machine as M
use Rattle.restore_order.specs.Opening as O
use Rattle.restore_order.specs.Line as L
use Rattle.restore_order.specs.Suppositions.{in_turn}
use Rattle.restore_order.specs.Suppositions as S
use Rattle.restore_order.specs.Demands.{Safe}
use Rattle.restore_order.specs.Demands as E
use Rattle.restore_order.proofs.Integers.{clash}
use Rattle.restore_order.proofs.Openings.{Passed, passed, passes}
use Rattle.restore_order.proofs.Demand3 as D
use Rattle.restore_jobs.specs.declared.Phase.{Phase}
use Rattle.restore_jobs.specs.declared.Phase.TheVariants.{Ready, Waiting, Stopped}
use Rattle.restore_jobs.specs.declared.Job.{Job}
use Rattle.restore_jobs.specs.Jobs.{phase_of, machine, held_phase, held, opened_as, open_of, left_of}
use Rattle.restore_next.specs.declared.Step.TheVariants.{Done}
use Rattle.restore_next.specs.declared.Stepped.{Stepped}
use Rattle.restore_next.specs.Next.{next_of, room_of}
use Rattle.restore_reply.specs.declared.Outcome.TheVariants.{Failure}
use Rattle.restore_reply.specs.Reply.{read_as, answer_of, heard_of}
use Rattle.restore_pathfinder.specs.Wire.{Device, WriteRule, Scene, begin, Event, goes_out, after_all}
use Rattle.restore_pathfinder.specs.Suppositions.{OnLine, Answered, chances, Supposed}
use Rattle.restore_pathfinder.specs.Demands.{occurrences, frame_to, Finished, leaves, all_leave, AllOnLine, AllSafe}
use Rattle.restore_pathfinder.proofs.Frames.{Ranged, opened_in_range, one_frame}
use Rattle.restore_pathfinder.proofs.Repeats.{occurrences_are}
use Rattle.restore_pathfinder.proofs.Shadows.{pack_of, pack_obeys, world_of, Shows, moments, on_line, own_replies, chances_are, Same, ends_same, cut_moments}
use Rattle.restore_pathfinder.specs.Wire.{job_opened}

-- ---- open: not refused is opened

pub accepted_opens : (o w : List ℤ) → IsOk (open_of o w) → O.opening O.pathfinder o w ≡ O.opened (M.job_of o w M.ready)
unfolding O.opening
accepted_opens o w e =
    go (O.shapely O.pathfinder o w) (O.unmoved O.pathfinder o w) (O.ranged O.pathfinder w) (sides slots w) (sides slots o) e
  where
    go : (a b c d e : Bool) → IsOk (opened_as (O.in_order a b c d e (M.job_of o w M.ready))) → O.in_order a b c d e (M.job_of o w M.ready) ≡ O.opened (M.job_of o w M.ready)
    go true true true true true h = refl
    go true true true true false h = absurd cc
    go true true true false e h = absurd cc
    go true true false d e h = absurd cc
    go true false c d e h = absurd cc
    go false b c d e h = absurd cc

pub opens_accepted : (o w : List ℤ) → Passed O.pathfinder o w → IsOk (open_of o w)
opens_accepted o w p = ap (λ (x : O.Opened). is_ok (opened_as x)) (passes O.pathfinder o w p)

-- ---- done is done

says_done : (j : Job) (places : ℕ) → M.asked slots places (machine j) ≡ M.done → (next_of j places).step ≡ Ok Done
says_done j places e = rw e

said_done : (j : Job) → Ranged j → (places : ℕ) → (next_of j places).step ≡ Ok Done → M.asked slots places (machine j) ≡ M.done
said_done j ranged places e = go (M.asked slots places (machine j)) refl
  where
    go : (a : M.Asked) → M.asked slots places (machine j) ≡ a → a ≡ M.done
    go (M.write r v) h =
        let f = ap (λ (x : Stepped). x.step) (one_frame j ranged places r v h) in
        absurd cc
    go M.done h = refl
    go (M.declined why) h = let f = rw h at e in absurd cc

-- ---- out of turn, and after a device failure

-- next while a reply is due, or of a job that is stopped, is refused with 14: job and room stay as they were, and nothing goes out
pub record Harmless (j : Job) (room : List ℕ) : Type 0 where
  pub refused : (next_of j (length room)).step ≡ Err refusal.Turn
  pub same_job : (next_of j (length room)).job ≡ j
  pub same_room : room_of j room ≡ room
  pub nothing_out : goes_out j room ≡ []

pub out_of_turn : (j : Job) (room : List ℕ) → in_turn (phase_of j.phase) ≡ false → Harmless j room
out_of_turn j room h = go j.phase refl h
  where
    go : (ph : Phase) → j.phase ≡ ph → in_turn (phase_of ph) ≡ false → Harmless j room
    go Ready e f = clash refl f
    go (Waiting r) e f = record { refused = rw e; same_job = rw e; same_room = rw e; nothing_out = rw e }
    go Stopped e f = record { refused = rw e; same_job = rw e; same_room = rw e; nothing_out = rw e }

-- a device failure that is taken stops the job
pub failure_stops : (j : Job) (s : List ℕ) (code : ℕ) → (heard_of j s).answer ≡ Ok (Failure code) → (heard_of j s).job.phase ≡ Stopped
failure_stops j s code e = go j.phase (read_as s) e
  where
    go : (ph : Phase) (a : M.Answer) → answer_of (M.heard (phase_of ph) a) ≡ Ok (Failure code)
        → held_phase (M.after_heard_in j.present j.wanted (phase_of ph) a).phase ≡ Stopped
    go Ready a h = absurd cc
    go (Waiting r) M.success h = absurd cc
    go (Waiting r) (M.failure c) h = refl
    go (Waiting r) (M.refused why) h = absurd cc
    go Stopped a h = refl

-- and stopped it stays, whatever is heard
pub stopped_stays : (j : Job) (s : List ℕ) → j.phase ≡ Stopped → (heard_of j s).job.phase ≡ Stopped
stopped_stays j s e = rw e

-- ---- a dialogue and the machine's history of it

module _ (device : Device) (q o w : List ℤ) (accepted : IsOk (open_of o w)) where
  opens : O.opening O.pathfinder o w ≡ O.opened (M.job_of o w M.ready)
  opens = accepted_opens o w accepted

  passed_first : Passed O.pathfinder o w
  passed_first = passed O.pathfinder o w opens

  -- a fixed setting is not written, and holds what is wanted
  once : (n : ℕ) → n < 50 → (log : List ℕ) → (b : Bool) → is_in n slots ≡ b → (is_in n slots ≡ true → times n log ≡ one (differs o w n))
      → (is_in n slots ≡ false → times n log ≡ 0)
      → times n log ≡ one (differs o w n)
  once n h log true i each none = each i
  once n h log false out each none = none out ∙ sym (ap one (D.fixed_alike o w passed_first.fixed n h out))

  there : (n : ℕ) → n < 50 → (p : List ℤ) → (b : Bool) → is_in n slots ≡ b → (is_in n slots ≡ true → at p n ≡ at w n) → (is_in n slots ≡ false → at p n ≡ at o n) → at p n ≡ at w n
  there n h p true i written fixed = written i
  there n h p false out written fixed = fixed out ∙ sym (passed_first.fixed n h out)

  job_is : job_opened (open_of o w) ≡ held (M.job_of o w M.ready)
  job_is = ap (λ (x : O.Opened). (job_opened (opened_as x))) opens

  starts : world_of device (begin q o w) [] ≡ L.begin q o w
  starts = ap (λ (j : Job). world_of device (record { job = j; words = q; answers = []; sent = [] }) []) job_is

  shows : Shows w (begin q o w) []
  shows =
      record {
        ranged = subst (λ (j : Job). Ranged j) (sym job_is) (opened_in_range o w opens);
        wanted = ap (λ (j : Job). j.wanted) job_is;
        frames = refl;
      }

  module _ (d : List Event) where
    same : Same device w d (begin q o w) (L.begin q o w)
    same = subst (λ (y : L.World). Same device w d (begin q o w) y) starts (ends_same device w d (begin q o w) [] shows)

    to_line : OnLine device (begin q o w) d → S.OnLine slots (pack_of device) (L.begin q o w) (moments device w d)
    to_line on =
        subst (λ (y : L.World). S.OnLine slots (pack_of device) y (moments device w d)) starts (on_line device w d (begin q o w) [] shows on)

    to_answered : Answered device (begin q o w) d → S.Answered slots (pack_of device) (L.begin q o w) (moments device w d)
    to_answered own =
        record {
          own_reply =
              subst (λ (y : L.World). S.Always slots (pack_of device) (S.OwnReply slots (pack_of device)) y (moments device w d)) starts
              (own_replies device w d (begin q o w) [] shows own.own_reply);
          not_cut = subst (λ (y : L.World). S.Idle y.job.phase) (sym same.world) own.not_cut;
        }

    same_chances : chances device (begin q o w) d ≡ S.chances slots (pack_of device) (L.begin q o w) (moments device w d)
    same_chances =
        chances_are device w d (begin q o w) [] shows ∙ ap (λ (y : L.World). S.chances slots (pack_of device) y (moments device w d)) starts

    same_words : (L.after_all slots (pack_of device) (L.begin q o w) (moments device w d)).words ≡ (after_all device (begin q o w) d).words
    same_words = ap (λ (y : L.World). y.words) same.world

    finished_is : E.Finished slots o w (L.after_all slots (pack_of device) (L.begin q o w) (moments device w d)) → Finished o w (after_all device (begin q o w) d)
    finished_is h =
        let x : Scene = after_all device (begin q o w) d in
        let f : E.Finished slots o w (world_of device x same.log) = subst (λ (y : L.World). E.Finished slots o w y) same.world h in
        let went : x.sent ≡ map (frame_to w) same.log = same.shows.frames in
        record {
          says_done = λ room. says_done x.job (length room) (f.says_done (length room));
          frames = went ∙ ap (map (frame_to w)) f.all_sent;
          one_frame_each = λ n b. ap (occurrences (frame_to w n)) went ∙ occurrences_are w n same.log ∙ once n b same.log (is_in n slots) refl (f.one_write_each n) (f.no_other_write n);
          no_other_frame = ap length went ∙ length-map same.log (frame_to w) ∙ ap length f.all_sent ∙ D.left_is_writes o w passed_first.fixed;
          reached = λ n b. there n b x.words (is_in n slots) refl (f.reached n) (f.safe.others n);
          safe = f.safe;
        }

-- ---- DEMAND 3

module _ (device : Device) (q o w : List ℤ) (d : List Event) (supposed : Supposed device q o w d) where
  not_refused : IsOk (open_of o w)
  not_refused = supposed.opened_truly.not_refused

  of_machine : S.Supposed O.pathfinder (pack_of device) q o w (moments device w d)
  of_machine =
      record {
        write_rule = pack_obeys device supposed.write_rule;
        on_line = to_line device q o w not_refused d supposed.on_line;
        opened_truly = record { true_reading = supposed.opened_truly.true_reading; not_refused = accepted_opens o w not_refused };
      }

  -- after so many calls
  abbrev pub scene : ℕ → Scene
  scene n = after_all device (begin q o w) (take n d)

  -- (a) "Cut the restore after any frame, its reply seen or lost: every setting in the job holds its opening value or the wanted one, each threshold
  -- stands on its right side of its recovery value, and nothing else has moved." After any number of calls.
  pub cut_anywhere : (n : ℕ) → Safe slots o w (scene n).words
  cut_anywhere n =
      subst (λ (p : List ℤ). Safe slots o w p)
      (ap (λ (h : List L.Moment). (L.after_all slots (pack_of device) (L.begin q o w) h).words) (cut_moments device w n d)
      ∙ same_words device q o w not_refused (take n d))
      (D.cut_anywhere (pack_of device) q o w (moments device w d) of_machine n)

  -- "every setting in the job": all 50, since a fixed one holds its opening value
  pub every_setting : (n m : ℕ) → (at (scene n).words m ≡ at o m) ⊎ (at (scene n).words m ≡ at w m)
  every_setting n = D.of_all o w (scene n).words (cut_anywhere n)

  -- The frames that went out by then are the front of the frames of the differing settings in their order, so that none went out twice
  pub frames_by_then : (n : ℕ) → (rest : List ℕ) × ((scene n).sent ++ map (frame_to w) rest ≡ map (frame_to w) (writes slots o w))
  frames_by_then n =
      let s = same device q o w not_refused (take n d) in
      let front = D.sent_by_then (pack_of device) q o w (moments device w d) of_machine n in
      let logs : (L.after_all slots (pack_of device) (L.begin q o w) (take n (moments device w d))).sent ≡ s.log =
      ap (λ (h : List L.Moment). (L.after_all slots (pack_of device) (L.begin q o w) h).sent) (cut_moments device w n d) ∙ ap (λ (y : L.World). y.sent) s.world in (
        front.0,
        ap (λ (fs : List (List ℕ)). fs ++ map (frame_to w) front.0) s.shows.frames ∙ sym (map-append (frame_to w) s.log front.0)
            ∙ ap (λ (log : List ℕ). map (frame_to w) (log ++ front.0)) (sym logs)
            ∙ ap (map (frame_to w)) front.1,
      )

  pub at_the_end : Safe slots o w (after_all device (begin q o w) d).words
  at_the_end =
      subst (λ (c : List Event). Safe slots o w (after_all device (begin q o w) c).words) (take_all (length d) d (omega arith)) (cut_anywhere (length d))

  -- (b) "A restore opened on a fresh reading, if every frame gets its own reply and no other, finishes with exactly one write for each setting that
  -- still differs." It finishes once next was called in turn, with room for a frame, as often as left said at the opening; and whenever next says
  -- done it is so.
  pub finishes : Answered device (begin q o w) d → left_of (job_opened (open_of o w)) ≤ chances device (begin q o w) d → Finished o w (after_all device (begin q o w) d)
  finishes own enough =
      let first : left_of (job_opened (open_of o w)) ≡ M.left 50 (M.job_of o w M.ready) = ap left_of (job_is device q o w not_refused) in
      finished_is device q o w not_refused d
      (D.finishes (pack_of device) q o w (moments device w d) of_machine (to_answered device q o w not_refused d own)
      (omega (arith, first, same_chances device q o w not_refused d, enough)))

  pub done_is_true : (n : ℕ) (room : List ℕ) → (next_of (scene n).job (length room)).step ≡ Ok Done → Finished o w (scene n)
  done_is_true n room e =
      let s = same device q o w not_refused (take n d) in
      let cut : L.after_all slots (pack_of device) (L.begin q o w) (take n (moments device w d)) ≡ L.after_all slots (pack_of device) (L.begin q o w) (moments device w (take n d)) =
      ap (λ (h : List L.Moment). L.after_all slots (pack_of device) (L.begin q o w) h) (cut_moments device w n d) in
      let said : M.asked slots (length room) (machine (scene n).job) ≡ M.done = said_done (scene n).job s.shows.ranged (length room) e in
      finished_is device q o w not_refused (take n d)
      (subst (λ (y : L.World). E.Finished slots o w y) cut
      (D.done_is_true (pack_of device) q o w (moments device w d) of_machine n (length room)
      (ap (λ (y : L.World). M.asked slots (length room) y.job) (cut ∙ s.world) ∙ said)))

  pub passed_opening : Passed O.pathfinder o w
  passed_opening = passed O.pathfinder o w (accepted_opens o w not_refused)

-- from whatever cuts left, a restore towards the opening values brings every word back
module _ (device : Device) (rule : WriteRule device) (o w : List ℤ) (p : Passed O.pathfinder o w) (q : List ℤ) (safe : Safe slots o w q) (in_range_lem : O.ranged O.pathfinder o ≡ true) where
  pub opens_back : IsOk (open_of q o)
  opens_back = opens_accepted q o (D.back o w p q safe in_range_lem)

  pub all_back : (b : List Event) → OnLine device (begin q q o) b → Answered device (begin q q o) b
      → left_of (job_opened (open_of q o)) ≤ chances device (begin q q o) b
      → leaves device o q b ≡ o
  all_back b on own enough =
      let v : List ℤ = o in
      let first : left_of (job_opened (open_of q v)) ≡ M.left 50 (M.job_of q v M.ready) = ap left_of (job_is device q q v opens_back) in
      sym (same_words device q q v opens_back b)
      ∙ D.all_back (pack_of device) (pack_obeys device rule) o w p q safe in_range_lem (moments device v b) (to_line device q q v opens_back b on) (to_answered device q q v opens_back b own)
      (omega (arith, first, same_chances device q q v opens_back b, enough))

-- (c) "If the opening values were in range, such a restore towards them brings all 50 words back."
module _ (device : Device) (q o w : List ℤ) (d : List Event) (supposed : Supposed device q o w d) (in_range_lem : O.ranged O.pathfinder o ≡ true) (n : ℕ) where
  abbrev found : List ℤ
  found = (scene device q o w d supposed n).words

  pub opens_towards_opening : IsOk (open_of found o)
  opens_towards_opening =
      opens_back device supposed.write_rule o w (passed_opening device q o w d supposed) found (cut_anywhere device q o w d supposed n) in_range_lem

  pub brings_back : (b : List Event) → OnLine device (begin found found o) b → Answered device (begin found found o) b
      → left_of (job_opened (open_of found o)) ≤ chances device (begin found found o) b
      → leaves device o found b ≡ o
  brings_back b on own enough =
      all_back device supposed.write_rule o w (passed_opening device q o w d supposed) found (cut_anywhere device q o w d supposed n) in_range_lem b on own enough

-- (d) As its user lives it: any number of cut restores one after the other, each opened on a fresh reading, and then one that is not cut. Only the first
-- opening is supposed not to be refused.
module _ (device : Device) (rule : WriteRule device) (o w : List ℤ) (first : IsOk (open_of o w)) where
  first_passed : Passed O.pathfinder o w
  first_passed = passed O.pathfinder o w (accepted_opens o w first)

  unmoved : Safe slots o w o
  unmoved = record { long = refl; either = λ n i. inl refl; side = first_passed.present; others = λ n out. refl }

  module _ (q : List ℤ) (safe : Safe slots o w q) where
    again : IsOk (open_of q w)
    again = opens_accepted q w (D.again (pack_of device) (pack_obeys device rule) o w first_passed q safe)

    further : (r : List ℤ) → Safe slots q w r → Safe slots o w r
    further r s = D.further (pack_of device) (pack_obeys device rule) o w first_passed q safe r s

    night : (d : List Event) → OnLine device (begin q q w) d → Supposed device q q w d
    night d on = record { write_rule = rule; on_line = on; opened_truly = record { true_reading = refl; not_refused = again } }

  each_night : (ds : List (List Event)) (q : List ℤ) → Safe slots o w q → AllOnLine device w q ds
      → AllSafe device w o q ds × Safe slots o w (all_leave device w q ds)
  each_night [] q safe on = (tt, safe)
  each_night (d ∷ ds) q safe on =
      let s : Supposed device q q w d = night q safe d on.0 in
      let here : (n : ℕ) → Safe slots o w (leaves device w q (take n d)) =
      λ n. further q safe (leaves device w q (take n d)) (cut_anywhere device q q w d s n) in
      let whole : Safe slots o w (leaves device w q d) = further q safe (leaves device w q d) (at_the_end device q q w d s) in
      let rest = each_night ds (leaves device w q d) whole on.1 in
      ((again q safe, here, rest.0), rest.1)

  module _ (ds : List (List Event)) (nights : AllOnLine device w o ds) where
    -- every one of them opens, and the pack is safe after every call
    pub every_night_safe : AllSafe device w o o ds
    every_night_safe = (each_night ds o unmoved nights).0

    abbrev last_found : List ℤ
    last_found = all_leave device w o ds

    safe_before_last : Safe slots o w last_found
    safe_before_last = (each_night ds o unmoved nights).1

    -- so does the last one
    pub last_opens : IsOk (open_of last_found w)
    last_opens = again last_found safe_before_last

    module _ (d : List Event) (on : OnLine device (begin last_found last_found w) d) where
      last_supposed : Supposed device last_found last_found w d
      last_supposed = night last_found safe_before_last d on

      pub last_safe : (n : ℕ) → Safe slots o w (leaves device w last_found (take n d))
      last_safe n =
          further last_found safe_before_last (leaves device w last_found (take n d)) (cut_anywhere device last_found last_found w d last_supposed n)

      -- and, not cut, it finishes at the wanted values, with one frame for each setting that still differed, and has moved nothing else
      pub last_finishes : Answered device (begin last_found last_found w) d
          → left_of (job_opened (open_of last_found w)) ≤ chances device (begin last_found last_found w) d
          → Finished last_found w (after_all device (begin last_found last_found w) d) × Safe slots o w (leaves device w last_found d)
      last_finishes own enough = (
        finishes device last_found last_found w d last_supposed own enough,
        further last_found safe_before_last (leaves device w last_found d) (at_the_end device last_found last_found w d last_supposed),
      )

    -- (c) again, after all these cut nights: a restore towards the values before the first of them opens, and brings all 50 words back
    module _ (in_range_lem : O.ranged O.pathfinder o ≡ true) where
      pub nights_open_back : IsOk (open_of last_found o)
      nights_open_back = opens_back device rule o w first_passed last_found safe_before_last in_range_lem

      pub nights_brought_back : (b : List Event) → OnLine device (begin last_found last_found o) b
          → Answered device (begin last_found last_found o) b
          → left_of (job_opened (open_of last_found o)) ≤ chances device (begin last_found last_found o) b
          → leaves device o last_found b ≡ o
      nights_brought_back b on own enough = all_back device rule o w first_passed last_found safe_before_last in_range_lem b on own enough
