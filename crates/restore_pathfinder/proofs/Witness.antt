-- The suppositions of demand 3 at the level of calls and bytes can all be met. For every pack that obeys the write rule and every opening that is not
-- refused there is a dialogue in which each frame gets its own reply, and one in which the first frame is spoilt and a device failure is heard; there is
-- such a pack, and P11's pack is such an opening. Assumes nothing.
use mathlib.Core.Path.{◌≡◌, refl, sym, ap, ap₂, subst, ◌∙◌}
use mathlib.Core.Bool.{true, false}
use mathlib.Core.List.{List, [], ◌∷◌, ◌++◌}
use mathlib.Core.Logic.{inr}
use Prim.Native.Nat.{ℕ, suc, ◌≤◌}
use native.Mathlib.Omega.{arith}
use lib.IntN.{ℤ, pos}
use lib.ListN.{length, replicate, set}
use Rattle.std.specs.Prelude.{Result, Ok, Err, IsOk, is_ok}
use Rattle.laws.specs.Choice.{pick}
use Rattle.checks.specs.Crc.{shift, shifts, crc_from, crc_of}
use Rattle.refusals.specs.declared.Refusal.TheVariants as refusal
use Rattle.refusals.specs.declared.Refusal.{Refusal}
use Rattle.frames_pathfinder.specs.Reading.{frame_of}
use Rattle.refusals.specs.Writing.{written_as}
use Rattle.frames_written_pathfinder.specs.Writing.{frame_bytes}
use Rattle.registers_pathfinder.specs.Registers.{registers, is_register, in_range}
use Rattle.opcodes_pathfinder.specs.Opcodes.{is_failure, is_listed, kind_of, shape_of}
use Rattle.records_pathfinder.specs.Replies.{judged, reply_of}
use Rattle.requests_pathfinder.specs.declared.Request.TheVariants.{Ask, Write}
use Rattle.requests_pathfinder.specs.Requests.{fault_of}
use Rattle.requests_read_pathfinder.specs.Reading.{parsed_set, parsed_of, request_of}
use Rattle.requests_read_pathfinder.proofs.RoundTrip.{written_reads_back_request}
use Rattle.restore_order.specs.Slots.{slots, at, writes, put, is_in}
use Rattle.restore_order.specs.Machine as M
use Rattle.restore_order.specs.Opening as O
use Rattle.restore_order.specs.Suppositions.{Idle}
use Rattle.restore_order.specs.Demands.{Safe}
use Rattle.restore_order.proofs.Openings.{Passed, passed, tested}
use Rattle.restore_order.proofs.Ordering.{first_in}
use Rattle.restore_order.proofs.Histories.{Tested, begins, in_order_lem, written_safe}
use Rattle.restore_order.proofs.Demand3 as D
use Rattle.restore_order.proofs.Witness.{present, wanted, p11_opens}
use Rattle.restore_jobs.specs.declared.Phase.TheVariants.{Stopped}
use Rattle.restore_jobs.specs.declared.Job.{Job}
use Rattle.restore_next.specs.declared.Stepped.{Stepped}
use Rattle.restore_jobs.specs.Jobs.{phase_of, machine, held, opened_as, open_of, left_of}
use Rattle.restore_next.specs.Next.{next_of}
use Rattle.restore_reply.specs.Reply.{answer_of}
use Rattle.restore_pathfinder.specs.Wire.{Reaction, Device, write_frame, success_frame, WriteRule, Scene, begin, Event, next, reply, goes_out, answering, after, after_all}
use Rattle.restore_pathfinder.specs.Suppositions.{Always, Delivered, Taken, AnswersFrameSent, Quiet, OnLine, OwnReply, Answered, chances, Supposed}
use Rattle.restore_pathfinder.proofs.Frames.{Ranged, no_fault, small, one_frame}
use Rattle.restore_pathfinder.proofs.Received.{success_is_read, failure_is_read}
use Rattle.restore_pathfinder.proofs.Shadows.{pack_of, pack_obeys, as_frames, goes_out_is}
use Rattle.restore_pathfinder.proofs.Demand3.{accepted_opens}
use Rattle.restore_pathfinder.specs.Wire.{job_opened}
use Rattle.requests_pathfinder.specs.declared.Request.{Request}

-- ---- a pack

-- it reads a request as the request reader does, obeys a write, which moves a word if its register is a setting's, and answers bytes that are no
-- request with the failure 24
abbrev pub reaction : List ℤ → Result Request Refusal → Reaction
reaction q (Ok (Write r v)) = record { words = pick (is_in r slots) (set q r v) q; reply = success_frame }
reaction q (Ok (Ask op)) = record { words = q; reply = frame_bytes 0x21 [] }
reaction q (Err why) = record { words = q; reply = frame_bytes 0x24 [] }

pub plain : Device
plain q s = reaction q (request_of s)

pub plain_obeys : WriteRule plain
unfolding plain
plain_obeys q r v long i e =
    ap (reaction q) (written_reads_back_request (Write r v) (small r v e) (no_fault r v e)) ∙ rw i

-- a frame spoilt on the way changes nothing
pub plain_answers_spoilt : (q : List ℤ) (s : List ℕ) (why : Refusal) → request_of s ≡ Err why → plain q s ≡ record { words = q; reply = frame_bytes 0x24 [] }
unfolding plain
plain_answers_spoilt q s why e = ap (reaction q) e

-- ---- a dialogue for every opening

module _ (device : Device) (rule : WriteRule device) (o w : List ℤ) (p : Passed O.pathfinder o w) where
  t : Tested slots 50 50 (O.allows O.pathfinder) o w
  t = tested O.pathfinder D.slots_apart o w p

  abbrev room : List ℕ
  room = replicate 11 0

  abbrev between : List ℤ → List (List ℕ) → List (List ℕ) → Scene
  between q line fs = record { job = held (M.job_of q w M.ready); words = q; answers = line; sent = fs }

  -- all that is asked of a dialogue at once
  record Meets (n : ℕ) (x : Scene) (d : List Event) : Type 0 where
    on_line : OnLine device x d
    own_reply : Always device (OwnReply device) x d
    not_cut : Idle (phase_of (after_all device x d).job.phase)
    enough : n ≤ chances device x d

  module _ (q : List ℤ) (line fs : List (List ℕ)) (safe : Safe slots o w q) (r : ℕ) (rest : List ℕ) (e : writes slots q w ≡ r ∷ rest) where
    abbrev job : Job
    job = held (M.job_of q w M.ready)

    ranged : Ranged job
    ranged n i = t.in_range_lem n i

    asks : M.asked slots 11 (machine job) ≡ M.write r (at w r)
    asks = rw e

    frame_out : goes_out job room ≡ write_frame r (at w r) ∷ []
    frame_out = goes_out_is job ranged room ∙ ap as_frames asks

    waits : (next_of job 11).job ≡ held (M.job_of q w (M.waiting r))
    waits = ap (λ (x : Stepped). x.job) (one_frame job ranged 11 r (at w r) asks)

    -- the frame and its reply
    module _ where
      is_setting_lem : is_in r slots ≡ true
      is_setting_lem = first_in slots q w r rest e

      made : device q (write_frame r (at w r)) ≡ record { words = put q w r; reply = success_frame }
      made = rule q r (at w r) (safe.long ∙ t.words) is_setting_lem (t.in_range_lem r is_setting_lem)

      abbrev sending : Event
      sending = next room true (put q w r)

      abbrev hearing : Event
      hearing = reply success_frame (put q w r)

      abbrev midway : Scene
      midway =
          record {
            job = held (M.job_of q w (M.waiting r));
            words = put q w r;
            answers = success_frame ∷ [];
            sent = fs ++ (write_frame r (at w r) ∷ []);
          }

      first : after device (between q line fs) sending ≡ midway
      unfolding after
      first =
          ap₂ (λ (j : Job) (out : List (List ℕ)). scene_with j (answering device true q line out) out) waits frame_out
          ∙ ap (λ (m : Reaction). scene_with (held (M.job_of q w (M.waiting r))) (m.reply ∷ []) (write_frame r (at w r) ∷ [])) made
        where
          scene_with : Job → List (List ℕ) → List (List ℕ) → Scene
          scene_with j answers out = record { job = j; words = put q w r; answers = answers; sent = fs ++ out }

      abbrev later : Scene
      later = between (put q w r) (success_frame ∷ []) (fs ++ (write_frame r (at w r) ∷ []))

      second : after device midway hearing ≡ later
      unfolding after
      second = ap scene_with success_is_read
        where
          scene_with : M.Answer → Scene
          scene_with a =
              record {
                job = held (M.after_heard (M.job_of q w (M.waiting r)) a);
                words = put q w r;
                answers = success_frame ∷ [];
                sent = fs ++ (write_frame r (at w r) ∷ []);
              }

      both_calls : after device (after device (between q line fs) sending) hearing ≡ later
      both_calls = ap (λ (x : Scene). after device x hearing) first ∙ second

      taken : AnswersFrameSent device (after device (between q line fs) sending) hearing
      taken =
          subst (λ (x : Scene). AnswersFrameSent device x hearing) (sym first)
          (subst (λ (a : M.Answer). Taken device (success_frame ∷ []) success_frame (answer_of a)) (sym success_is_read) refl)

      round : (n : ℕ) (d : List Event) → Meets n later d → Meets (suc n) (between q line fs) (sending ∷ hearing ∷ d)
      unfolding after after_all chances
      round n d m =
          let on : OnLine device (after device (after device (between q line fs) sending) hearing) d = subst (λ (x : Scene). OnLine device x d) (sym both_calls) m.on_line in
          let enough : n ≤ chances device (after device (after device (between q line fs) sending) hearing) d =
          subst (λ (x : Scene). n ≤ chances device x d) (sym both_calls) m.enough in
          record {
            on_line =
                record {
                  at_once_or_never = (
                    subst (λ (out : List (List ℕ)). Delivered device true q out (put q w r)) (sym frame_out) (sym (ap (λ (x : Reaction). x.words) made)),
                    (tt, on.at_once_or_never),
                  );
                  answers_frame_sent = (tt, (taken, on.answers_frame_sent));
                  nobody_else =
                      (subst (λ (out : List (List ℕ)). Quiet device out q (put q w r)) (sym frame_out) tt, (refl, on.nobody_else));
                };
            own_reply = (
              tt,
              (
                ap (λ (x : Scene). x.answers) first,
                subst (λ (x : Scene). Always device (OwnReply device) x d) (sym both_calls) m.own_reply,
              ),
            );
            not_cut = subst (λ (x : Scene). Idle (phase_of (after_all device x d).job.phase)) (sym both_calls) m.not_cut;
            enough = omega (arith, enough);
          }

  -- the writes one after the other: each frame reaches the pack, which holds q, and its reply is taken
  dialogue : List ℕ → List ℤ → List Event
  dialogue [] q = []
  dialogue (r ∷ rest) q = next room true (put q w r) ∷ reply success_frame (put q w r) ∷ dialogue rest (put q w r)

  meets : (ws : List ℕ) (q : List ℤ) (line fs : List (List ℕ)) → Safe slots o w q → writes slots q w ≡ ws → Meets (length ws) (between q line fs) (dialogue ws q)
  unfolding dialogue
  meets [] q line fs safe e =
      record {
        on_line = record { at_once_or_never = tt; answers_frame_sent = tt; nobody_else = tt };
        own_reply = tt;
        not_cut = unfold after_all in tt;
        enough = omega arith;
      }
  meets (r ∷ rest) q line fs safe e =
      round q line fs safe r rest e (length rest) (dialogue rest (put q w r))
      (meets rest (put q w r) (success_frame ∷ []) (fs ++ (write_frame r (at w r) ∷ []))
      (written_safe slots 50 50 (O.allows O.pathfinder) (pack_of device) (pack_obeys device rule) o w t q safe r rest e)
      (in_order_lem slots 50 50 (O.allows O.pathfinder) (pack_of device) (pack_obeys device rule) o w t q safe r rest e).1)

  -- ---- and one with a failure: the first frame is spoilt on the way, the pack goes on holding what it held, and answers with a device failure;
  -- the job is stopped, and refuses both calls

  module _ (r : ℕ) (rest : List ℕ) (e : writes slots o w ≡ r ∷ rest) (code : ℕ) (fails : is_failure code ≡ true) where
    abbrev failing : List Event
    failing = next room false o ∷ reply (frame_bytes code []) o ∷ next room true o ∷ reply success_frame o ∷ []

    unmoved : Safe slots o w o
    unmoved = (begins slots 50 50 (O.allows O.pathfinder) (pack_of device) (pack_obeys device rule) o w t).0

    out : goes_out (held (M.job_of o w M.ready)) room ≡ write_frame r (at w r) ∷ []
    out = frame_out o [] [] unmoved r rest e

    abbrev unanswered : Scene
    unanswered = record { job = held (M.job_of o w (M.waiting r)); words = o; answers = []; sent = write_frame r (at w r) ∷ [] }

    abbrev failed : Scene
    failed = record { job = held (M.job_of o w M.stopped); words = o; answers = []; sent = write_frame r (at w r) ∷ [] }

    goes_lost : after device (between o [] []) (next room false o) ≡ unanswered
    unfolding after
    goes_lost =
        ap₂ (λ (j : Job) (fs : List (List ℕ)). scene_with j (answering device false o [] fs) fs) (waits o [] [] unmoved r rest e) out
      where
        scene_with : Job → List (List ℕ) → List (List ℕ) → Scene
        scene_with j answers fs = record { job = j; words = o; answers = answers; sent = fs }

    is_stopped : after device unanswered (reply (frame_bytes code []) o) ≡ failed
    unfolding after
    is_stopped = ap scene_with (failure_is_read code fails)
      where
        scene_with : M.Answer → Scene
        scene_with a =
            record { job = held (M.after_heard (M.job_of o w (M.waiting r)) a); words = o; answers = []; sent = write_frame r (at w r) ∷ [] }

    taken_failure : AnswersFrameSent device unanswered (reply (frame_bytes code []) o)
    taken_failure =
        subst (λ (a : M.Answer). Taken device [] (frame_bytes code []) (answer_of a)) (sym (failure_is_read code fails)) (inr refl)

    -- once stopped: nothing goes out, nothing is taken
    rest_on_line : OnLine device failed (next room true o ∷ reply success_frame o ∷ [])
    unfolding after
    rest_on_line =
        record { at_once_or_never = (tt, (tt, tt)); answers_frame_sent = (tt, (tt, tt)); nobody_else = (refl, (refl, tt)) }

    then_on_line : OnLine device unanswered (reply (frame_bytes code []) o ∷ next room true o ∷ reply success_frame o ∷ [])
    then_on_line =
        let on = subst (λ (x : Scene). OnLine device x (next room true o ∷ reply success_frame o ∷ [])) (sym is_stopped) rest_on_line in
        record {
          at_once_or_never = (tt, on.at_once_or_never);
          answers_frame_sent = (taken_failure, on.answers_frame_sent);
          nobody_else = (refl, on.nobody_else);
        }

    failing_on_line : OnLine device (between o [] []) failing
    failing_on_line =
        let on = subst (λ (x : Scene). OnLine device x (reply (frame_bytes code []) o ∷ next room true o ∷ reply success_frame o ∷ [])) (sym goes_lost) then_on_line in
        record {
          at_once_or_never = (subst (λ (fs : List (List ℕ)). Delivered device false o fs o) (sym out) refl, on.at_once_or_never);
          answers_frame_sent = (tt, on.answers_frame_sent);
          nobody_else = (subst (λ (fs : List (List ℕ)). Quiet device fs o o) (sym out) tt, on.nobody_else);
        }

    failing_ends : after_all device (between o [] []) failing ≡ failed
    unfolding after_all after
    failing_ends =
        ap (λ (x : Scene). after_all device x (reply (frame_bytes code []) o ∷ next room true o ∷ reply success_frame o ∷ [])) goes_lost
        ∙ ap (λ (x : Scene). after_all device x (next room true o ∷ reply success_frame o ∷ [])) is_stopped

-- ---- put together

-- a run to its end: what is supposed is met, each frame gets its own reply, and next is called often enough
abbrev pub WholeRun : Device → List ℤ → List ℤ → Type 0
WholeRun device o w =
    (d : List Event) × (Supposed device o o w d × (Answered device (begin o o w) d × (left_of (job_opened (open_of o w)) ≤ chances device (begin o o w) d)))

-- a run that a device failure stops: what is supposed is met, and the job is stopped
abbrev pub StoppedRun : Device → List ℤ → List ℤ → Type 0
StoppedRun device o w = (d : List Event) × (Supposed device o o w d × ((after_all device (begin o o w) d).job.phase ≡ Stopped))

module _ (device : Device) (rule : WriteRule device) (o w : List ℤ) (accepted : IsOk (open_of o w)) where
  opens : O.opening O.pathfinder o w ≡ O.opened (M.job_of o w M.ready)
  opens = accepted_opens o w accepted

  p : Passed O.pathfinder o w
  p = passed O.pathfinder o w opens

  starts : between device rule o w p o [] [] ≡ begin o o w
  starts =
      ap (λ (x : O.Opened). scene_with (job_opened (opened_as x))) (sym opens)
    where
      scene_with : Job → Scene
      scene_with j = record { job = j; words = o; answers = []; sent = [] }

  supposed : (d : List Event) → OnLine device (between device rule o w p o [] []) d → Supposed device o o w d
  supposed d on =
      record {
        write_rule = rule;
        on_line = subst (λ (x : Scene). OnLine device x d) starts on;
        opened_truly = record { true_reading = refl; not_refused = accepted };
      }

  pub some_run : WholeRun device o w
  some_run =
      let ws : List ℕ = writes slots o w in
      let d : List Event = dialogue device rule o w p ws o in
      let safe = (begins slots 50 50 (O.allows O.pathfinder) (pack_of device) (pack_obeys device rule) o w (t device rule o w p)).0 in
      let m : Meets device rule o w p (length ws) (between device rule o w p o [] []) d = meets device rule o w p ws o [] [] safe refl in
      let left : left_of (job_opened (open_of o w)) ≡ M.left 50 (M.job_of o w M.ready) = ap (λ (x : Scene). left_of x.job) (sym starts) in
      let enough : length ws ≤ chances device (begin o o w) d = subst (λ (x : Scene). length ws ≤ chances device x d) starts m.enough in (
        d,
        (
          supposed d m.on_line,
          (
            record {
              own_reply = subst (λ (x : Scene). Always device (OwnReply device) x d) starts m.own_reply;
              not_cut = subst (λ (x : Scene). Idle (phase_of (after_all device x d).job.phase)) starts m.not_cut;
            },
            omega (arith, left, enough, D.left_is_writes o w p.fixed),
          ),
        ),
      )

  pub some_failure : (r : ℕ) (rest : List ℕ) → writes slots o w ≡ r ∷ rest → (code : ℕ) → is_failure code ≡ true → StoppedRun device o w
  some_failure r rest e code fails =
      let d : List Event = failing device rule o w p r rest e code fails in (
        d,
        (
          supposed d (failing_on_line device rule o w p r rest e code fails),
          ap (λ (x : Scene). (after_all device x d).job.phase) (sym starts)
              ∙ ap (λ (x : Scene). x.job.phase) (failing_ends device rule o w p r rest e code fails),
        ),
      )

-- ---- P11's pack, 55 and 50 to 70 and 60

pub p11_accepted : IsOk (open_of present wanted)
p11_accepted = ap (λ (x : O.Opened). is_ok (opened_as x)) p11_opens

pub p11_whole : WholeRun plain present wanted
p11_whole = some_run plain plain_obeys present wanted p11_accepted

pub p11_fails : StoppedRun plain present wanted
unfolding writes is_failure
p11_fails = some_failure plain plain_obeys present wanted p11_accepted 3 (4 ∷ []) refl 0x24 refl

-- its first frame, 70 to register 3; and the same with one bit turned over, which is no request: so the pack answers 24 and changes nothing
pub p11_frame : write_frame 3 (pos 70) ≡ 0xFE ∷ 0x06 ∷ 0x0E ∷ 0x03 ∷ 0x46 ∷ 0x00 ∷ 0x00 ∷ 0x00 ∷ 0x86 ∷ 0x51 ∷ 0xFD ∷ []
unfolding frame_bytes crc_of crc_from shifts shift
p11_frame = refl

abbrev pub spoilt : List ℕ
spoilt = 0xFE ∷ 0x06 ∷ 0x0E ∷ 0x03 ∷ 0x47 ∷ 0x00 ∷ 0x00 ∷ 0x00 ∷ 0x86 ∷ 0x51 ∷ 0xFD ∷ []

pub p11_spoilt : plain present spoilt ≡ record { words = present; reply = frame_bytes 0x24 [] }
unfolding request_of frame_of crc_of crc_from shifts shift
p11_spoilt = plain_answers_spoilt present spoilt refusal.Checksum refl

-- a run of it that is cut: too little room; 3 goes out and arrives; next out of turn; a reply with a wrong checksum; the reply itself; 4 goes out, never
-- arrives, and the restore is cut. All of it computed, to the checksums
abbrev raised : List ℤ
raised = set present 3 (pos 70)

pub story : List Event
story =
    next (replicate 5 0) true present ∷ next (replicate 11 0) true raised ∷ next (replicate 11 0) true raised
    ∷ reply (0xFE ∷ 0x01 ∷ 0x0E ∷ 0xD2 ∷ 0xFE ∷ 0xFD ∷ []) raised
    ∷ reply success_frame raised
    ∷ next (replicate 64 0) false raised
    ∷ []

pub p11_cut : Supposed plain present present wanted story
unfolding story plain after writes request_of parsed_of parsed_set frame_of frame_bytes written_as fault_of reply_of judged kind_of is_failure is_listed shape_of crc_of crc_from shifts shift is_register in_range registers is_in
p11_cut =
    supposed plain plain_obeys present wanted p11_accepted story
    (record {
      at_once_or_never = (tt, (refl, (tt, (tt, (tt, (refl, tt))))));
      answers_frame_sent = (tt, (tt, (tt, (tt, (refl, (tt, tt))))));
      nobody_else = (refl, (tt, (refl, (refl, (refl, (tt, tt))))));
    })
