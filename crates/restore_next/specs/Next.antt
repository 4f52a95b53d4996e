-- What next gives (01, Restore): a step of the machine of `restore_order` on the job, and the step as this crate's types say it.
-- Number and values of each case stand here: a frame's bytes are those that the request writer gives for request 0E.
use Rattle.std.specs.Prelude.{Bool, true, false, List, ℕ, length, Result, Ok, Err}
use Rattle.refusals.specs.declared.Refusal.{Refusal}
use Rattle.refusals.specs.Writing.{room_after}
use Rattle.requests_pathfinder.specs.declared.Request.TheVariants.{Write}
use Rattle.requests_pathfinder.specs.Requests.{frame_for, sent_as}
use Rattle.restore_order.specs.Slots.{slots}
use Rattle.restore_order.specs.Machine as M
use Rattle.restore_jobs.specs.declared.Phase.{Phase}
use Rattle.restore_jobs.specs.declared.Phase.TheVariants.{Ready, Waiting, Stopped}
use Rattle.restore_jobs.specs.declared.Job.{Job}
use Rattle.restore_jobs.specs.Jobs.{machine, held}
use Rattle.restore_next.specs.declared.Step.TheVariants.{Frame, Done}
use Rattle.restore_next.specs.declared.Stepped.{Stepped}

-- between two frames: neither waiting nor stopped
abbrev pub is_ready : Phase → Bool
is_ready Ready = true
is_ready (Waiting r) = false
is_ready Stopped = false

-- the writer's answer: its frame, and the job then waits; or its refusal, with the job as it was
abbrev pub sent_of : Job → Job → Result ℕ Refusal → Stepped
sent_of j waits (Ok n) = record { step = Ok (Frame n); job = waits }
sent_of j waits (Err why) = record { step = Err why; job = j }

abbrev pub step_for : Job → ℕ → M.Asked → Stepped
step_for j places (M.write r v) = sent_of j (held (M.after_asked (M.write r v) (machine j))) (sent_as (Write r v) places)
step_for j places M.done = record { step = Ok Done; job = j }
step_for j places (M.declined why) = record { step = Err why; job = j }

-- with so many bytes of room
abbrev pub next_of : Job → ℕ → Stepped
next_of j places = step_for j places (M.asked slots places (machine j))

abbrev pub room_for : M.Asked → List ℕ → List ℕ
room_for (M.write r v) out = room_after (sent_as (Write r v) (length out)) (frame_for (Write r v)) out
room_for M.done out = out
room_for (M.declined why) out = out

-- the room afterwards
abbrev pub room_of : Job → List ℕ → List ℕ
room_of j out = room_for (M.asked slots (length out) (machine j)) out
