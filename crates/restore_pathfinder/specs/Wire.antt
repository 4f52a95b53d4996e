-- The pack at the other end of the wire, which reads and answers bytes, and a restore of it call by call: what goes into each call, what goes out
-- over the wire, and what the pack holds afterwards. A dialogue may be cut anywhere, that is be a list of any length.
use Rattle.std.specs.Prelude.{◌≡◌, Bool, true, List, [], ◌∷◌, ◌++◌, ℕ, ℤ, length, take, set, Result, Ok, Err}
use Rattle.laws.specs.Choice.{pick}
use Rattle.numbers.specs.declared.Order.TheVariants.{LowFirst}
use Rattle.numbers.specs.Bytes.{bytes_of}
use Rattle.signs.specs.Signed.{bits_of}
use Rattle.frames_written_pathfinder.specs.Writing.{frame_bytes}
use Rattle.restore_order.specs.Slots.{is_in, slots}
use Rattle.restore_order.specs.Opening.{pathfinder, allows}
use Rattle.restore_jobs.specs.declared.Job.{Job}
use Rattle.restore_next.specs.declared.Step.{Step}
use Rattle.restore_next.specs.declared.Step.TheVariants.{Frame, Done}
use Rattle.restore_jobs.specs.Jobs.{no_job, open_of}
use Rattle.restore_next.specs.Next.{next_of, room_of}
use Rattle.restore_reply.specs.Reply.{heard_of}
use Rattle.refusals.specs.declared.Refusal.{Refusal}

-- ---- the pack

-- what it makes of bytes that reach it: the words that it holds then, and the bytes that it answers
pub record Reaction : Type 0 where
  pub words : List ℤ
  pub reply : List ℕ

abbrev pub Device : Type 0
Device = List ℤ → List ℕ → Reaction

-- the frame that writes a value to a register: request 0E, the register, the value in four bytes with the low one first
abbrev pub write_frame : ℕ → ℤ → List ℕ
write_frame r v = frame_bytes 0x0E (r ∷ bytes_of LowFirst 4 (bits_of 32 v))

-- the answer "success"
abbrev pub success_frame : List ℕ
success_frame = 0xFE ∷ 0x01 ∷ 0x0E ∷ 0xD2 ∷ 0xFF ∷ 0xFD ∷ []

-- "Write rule of a pack: a known register and a value in range change that register only, and answer success."
-- Of the registers that settings have, and of values that are of the setting's type, as all wanted ones are: nothing is supposed of others
abbrev pub WriteRule : Device → Type 0
WriteRule device =
    (q : List ℤ) (r : ℕ) (v : ℤ)
    → length q ≡ 50
    → is_in r slots ≡ true
    → allows pathfinder r v ≡ true
    → device q (write_frame r v) ≡ record { words = set q r v; reply = success_frame }

-- ---- a restore

-- the gateway's job, the words that the pack holds, the pack's answer to the frame just sent (none if that never reached it), and all frames sent
-- so far, byte by byte
pub record Scene : Type 0 where
  pub job : Job
  pub words : List ℤ
  pub answers : List (List ℕ)
  pub sent : List (List ℕ)

-- the job that opening gives; after a refusal one that wants nothing
abbrev pub job_opened : Result Job Refusal → Job
job_opened (Ok j) = j
job_opened (Err why) = no_job

-- a restore just opened on the reading o, while the pack holds q
abbrev pub begin : List ℤ → List ℤ → List ℤ → Scene
begin q o w = record { job = job_opened (open_of o w); words = q; answers = []; sent = [] }

-- one call, and what the pack holds afterwards: next with this room, where a frame that goes out reaches the pack or does not; or reply with these
-- bytes, whatever they are
pub data Event : Type 0 where
  next : List ℕ → Bool → List ℤ → Event
  reply : List ℕ → List ℤ → Event

-- the frame that goes out after next: so many bytes of the room
abbrev pub outgoing : Result Step Refusal → List ℕ → List (List ℕ)
outgoing (Ok (Frame n)) room = take n room ∷ []
outgoing (Ok Done) room = []
outgoing (Err why) room = []

abbrev pub goes_out : Job → List ℕ → List (List ℕ)
goes_out j room = outgoing (next_of j (length room)).step (room_of j room)

module _ (device : Device) where
  -- the answer that is on its way after these frames went out, where there was one before
  abbrev pub answering : Bool → List ℤ → List (List ℕ) → List (List ℕ) → List (List ℕ)
  answering reached q before [] = before
  answering reached q before (f ∷ fs) = pick reached ((device q f).reply ∷ []) []

  unfoldable pub after : Scene → Event → Scene
  after x (next room reached q) =
      record {
        job = (next_of x.job (length room)).job;
        words = q;
        answers = answering reached x.words x.answers (goes_out x.job room);
        sent = x.sent ++ goes_out x.job room;
      }
  after x (reply s q) = record { job = (heard_of x.job s).job; words = q; answers = x.answers; sent = x.sent }

  unfoldable pub after_all : Scene → List Event → Scene
  after_all x [] = x
  after_all x (e ∷ d) = after_all (after x e) d
