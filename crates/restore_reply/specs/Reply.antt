-- What reply gives (01, Restore): what the machine of `restore_order` hears, and the step as this crate's types say it.
use Rattle.std.specs.Prelude.{Bool, true, false, List, ℕ, Result, Ok, Err}
use Rattle.refusals.specs.declared.Refusal.{Refusal}
use Rattle.refusals.specs.declared.Refusal.TheVariants as refusal
use Rattle.records_pathfinder.specs.declared.Reply.{Reply}
use Rattle.records_pathfinder.specs.declared.Reply.TheVariants.{Words, Name, Written as IsWritten, Failure as IsFailure}
use Rattle.records_pathfinder.specs.Replies.{reply_of}
use Rattle.restore_order.specs.Machine as M
use Rattle.restore_jobs.specs.declared.Phase.{Phase}
use Rattle.restore_jobs.specs.declared.Phase.TheVariants.{Ready, Waiting, Stopped}
use Rattle.restore_jobs.specs.declared.Job.{Job}
use Rattle.restore_jobs.specs.Jobs.{phase_of, machine, held}
use Rattle.restore_reply.specs.declared.Outcome.TheVariants.{Written as Marked, Failure}
use Rattle.restore_reply.specs.declared.Outcome.{Outcome}
use Rattle.restore_reply.specs.declared.Heard.{Heard}

-- a reply is due
abbrev pub is_waiting : Phase → Bool
is_waiting Ready = false
is_waiting (Waiting r) = true
is_waiting Stopped = false

-- what a decoded reply to request 0E is to the machine; one with words or a name answers another request
abbrev pub decoded_of : Result Reply Refusal → M.Answer
decoded_of (Ok (Words n)) = M.refused refusal.Request
decoded_of (Ok (Name n)) = M.refused refusal.Request
decoded_of (Ok IsWritten) = M.success
decoded_of (Ok (IsFailure code)) = M.failure code
decoded_of (Err why) = M.refused why

-- what these bytes are to it
abbrev pub read_as : List ℕ → M.Answer
read_as s = decoded_of (reply_of 0x0E 0 0 s)

abbrev pub answer_of : M.Answer → Result Outcome Refusal
answer_of M.success = Ok Marked
answer_of (M.failure code) = Ok (Failure code)
answer_of (M.refused why) = Err why

-- what is heard of them: out of turn 14
abbrev pub answer_in : Bool → List ℕ → Result Outcome Refusal
answer_in true s = answer_of (read_as s)
answer_in false s = Err refusal.Turn

abbrev pub heard_as : Job → M.Answer → Heard
heard_as j a = record { answer = answer_of (M.heard (phase_of j.phase) a); job = held (M.after_heard (machine j) a) }

abbrev pub heard_of : Job → List ℕ → Heard
heard_of j s = heard_as j (read_as s)
