-- What demand 3 supposes of a restore, read at the level of calls and bytes: each supposition a definition, under the words of demand 3 that it states.
-- That all of them can be met at once is shown in proofs/Witness.antt.
use Rattle.std.specs.Prelude.{◌≡◌, Bool, true, false, ◌&&◌, List, [], ◌∷◌, ◌⊎◌, ℕ, ◌+◌, ℤ, leb, length, Result, Ok, Err, IsOk}
use Rattle.restore_order.specs.Slots.{one}
use Rattle.restore_order.specs.Suppositions.{Idle, in_turn}
use Rattle.restore_reply.specs.declared.Outcome.TheVariants.{Written as Marked, Failure}
use Rattle.restore_reply.specs.declared.Outcome.{Outcome}
use Rattle.refusals.specs.declared.Refusal.{Refusal}
use Rattle.restore_jobs.specs.Jobs.{phase_of, open_of}
use Rattle.restore_reply.specs.Reply.{heard_of}
use Rattle.restore_pathfinder.specs.Wire.{Device, WriteRule, Scene, begin, Event, next, reply, goes_out, after, after_all}

module _ (device : Device) where
  -- something holds of every event of a dialogue, in the scene in which it came
  abbrev pub Always : (Scene → Event → Type 0) → Scene → List Event → Type 0
  Always P x [] = Unit {0}
  Always P x (e ∷ d) = P x e × Always P (after device x e) d

  -- "a frame reaches it at once or never": as a frame goes out, the pack does with its bytes what it does, or goes on holding what it held
  abbrev pub Delivered : Bool → List ℤ → List (List ℕ) → List ℤ → Type 0
  Delivered reached p [] q = Unit {0}
  Delivered true p (f ∷ fs) q = q ≡ (device p f).words
  Delivered false p (f ∷ fs) q = q ≡ p

  abbrev pub AtOnceOrNever : Scene → Event → Type 0
  AtOnceOrNever x (next room reached q) = Delivered reached x.words (goes_out x.job room) q
  AtOnceOrNever x (reply s q) = Unit {0}

  -- "each reply taken answers the frame just sent": the bytes s are refused, so that nothing is taken, or they are the pack's answer to that frame.
  -- Where the frame never reached the pack as it was sent, because it was spoilt on the way, the answer can only be a device failure
  abbrev pub Taken : List (List ℕ) → List ℕ → Result Outcome Refusal → Type 0
  Taken line s (Ok Marked) = line ≡ s ∷ []
  Taken line s (Ok (Failure code)) = (line ≡ s ∷ []) ⊎ (line ≡ [])
  Taken line s (Err why) = Unit {0}

  abbrev pub AnswersFrameSent : Scene → Event → Type 0
  AnswersFrameSent x (next room reached q) = Unit {0}
  AnswersFrameSent x (reply s q) = Taken x.answers s (heard_of x.job s).answer

  -- "nobody else writes to it": where no frame goes out, the pack goes on holding what it held
  abbrev pub Quiet : List (List ℕ) → List ℤ → List ℤ → Type 0
  Quiet [] p q = q ≡ p
  Quiet (f ∷ fs) p q = Unit {0}

  abbrev pub NobodyElse : Scene → Event → Type 0
  NobodyElse x (next room reached q) = Quiet (goes_out x.job room) x.words q
  NobodyElse x (reply s q) = q ≡ x.words

  -- the three that speak of the line
  pub record OnLine (x : Scene) (d : List Event) : Type 0 where
    pub at_once_or_never : Always AtOnceOrNever x d
    pub answers_frame_sent : Always AnswersFrameSent x d
    pub nobody_else : Always NobodyElse x d

  -- "every frame gets its own reply and no other": nothing else is heard than the bytes that the pack answered to the frame just sent. Next may be
  -- called at any time, also while a reply is due
  abbrev pub OwnReply : Scene → Event → Type 0
  OwnReply x (next room reached q) = Unit {0}
  OwnReply x (reply s q) = x.answers ≡ s ∷ []

  -- and it is not cut between a frame and its reply
  pub record Answered (x : Scene) (d : List Event) : Type 0 where
    pub own_reply : Always OwnReply x d
    pub not_cut : Idle (phase_of (after_all device x d).job.phase)

  -- how often next was called in turn, with room for a frame
  abbrev pub chance : Scene → Event → ℕ
  chance x (next room reached q) = one (in_turn (phase_of x.job.phase) && leb 11 (length room))
  chance x (reply s q) = 0

  unfoldable pub chances : Scene → List Event → ℕ
  chances x [] = 0
  chances x (e ∷ d) = chance x e + chances (after device x e) d

-- "the restore opened on a true reading": the words o that it was opened on are those that the pack holds, and open did not refuse
pub record OpenedTruly (q o w : List ℤ) : Type 0 where
  pub true_reading : o ≡ q
  pub not_refused : IsOk (open_of o w)

-- all that is supposed, of a pack that holds q, a restore opened on the reading o towards w, and its dialogue d
pub record Supposed (device : Device) (q o w : List ℤ) (d : List Event) : Type 0 where
  -- "the pack obeys the write rule"
  pub write_rule : WriteRule device
  pub on_line : OnLine device (begin q o w) d
  pub opened_truly : OpenedTruly q o w
