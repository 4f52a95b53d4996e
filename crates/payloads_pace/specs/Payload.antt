-- What the INFO of a PACE reply says, by the command asked (01, PACE): the record that the command calls for, or why there is none.
-- Assumes nothing.
use Rattle.std.specs.Prelude.{◌||◌, List, ◌++◌, Option, Some, None, Result, Ok, Err, ℕ, eqb, length, drop, replicate}
use Rattle.laws.specs.Choice.{pick}
use Rattle.refusals.specs.declared.Refusal.{Refusal}
use Rattle.refusals.specs.declared.Refusal.TheVariants as refusal
use Rattle.characters_pace.specs.Characters.{bytes_at, checked_info}
use Rattle.commands_pace.specs.declared.Command.{Command}
use Rattle.commands_pace.specs.declared.Command.TheVariants as command
use Rattle.settings_pace.specs.Reading as settings
use Rattle.analog_pace.specs.Analog as analogs
use Rattle.warnings_pace.specs.Warnings as status
use Rattle.payloads_pace.specs.declared.Answer.{Answer}
use Rattle.payloads_pace.specs.declared.Answer.TheVariants.{Analog, Warnings, Hardware, Serial, Setting, Accepted}

-- what was found, as an answer; a refusal stays one
abbrev pub answered : {A : Type 0} → (A → Answer) → Result A Refusal → Result Answer Refusal
answered f (Ok x) = Ok (f x)
answered f (Err why) = Err why

-- ---- the bytes d of INFO: the record by the command asked

-- C1: 20 bytes
unfoldable pub hardware_of : List ℕ → Result Answer Refusal
hardware_of d = pick (eqb (length d) 20) (Ok (Hardware (bytes_at 0 20 d))) (Err refusal.Shape)

-- C2: 20 or 40
unfoldable pub serial_of : List ℕ → Result Answer Refusal
serial_of d =
    pick (eqb (length d) 20 || eqb (length d) 40) (Ok (Serial (bytes_at 0 (length d) d ++ drop (length d) (replicate 40 0)) (length d))) (Err refusal.Shape)

-- "Replies to D0 and DA have empty INFO"
unfoldable pub accepted_of : List ℕ → Result Answer Refusal
accepted_of d = pick (eqb (length d) 0) (Ok Accepted) (Err refusal.Shape)

abbrev pub payload_reply : ℕ → Command → List ℕ → Result Answer Refusal
payload_reply a command.Analog d = answered Analog (analogs.reading_of a d)
payload_reply a command.Warnings d = answered Warnings (status.reading_of a d)
payload_reply a command.Hardware d = hardware_of d
payload_reply a command.Serial d = serial_of d
payload_reply a (command.Reads s) d = answered Setting (settings.reply_of s d)
payload_reply a (command.Writes s) d = accepted_of d

-- ---- the characters of INFO

-- "If the request asked about isn't listed, 7 comes before any device failure or error"; then why the characters are no bytes, or the record
unfoldable pub payload_of : ℕ → Option Command → List ℕ → Result Answer Refusal
payload_of a (Some c) info = checked_info (payload_reply a c) info
payload_of a None info = Err refusal.Request
