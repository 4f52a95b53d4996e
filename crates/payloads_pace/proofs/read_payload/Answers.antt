-- `payloads_pace::read_payload` meets its contract: by the command, each record by its own reader.
-- Assumes nothing.
use Prim.Native.Nat.{ℕ}
use mathlib.Core.List.{List}
use mathlib.Core.Path.{◌≡◌, sym, ap, ◌∙◌}
use Rattle.std.specs.Prelude.{Option, Some}
use Rattle.commands_pace.specs.declared.Command.{Command}
use Rattle.payloads_pace.specs.declared.Answer.TheVariants as answer
use Rattle.payloads_pace.specs.Payload.{answered, payload_of}
use Rattle.payloads_pace.proofs.Cases.{mapped, analog_is, warnings_is, setting_is, bytes_are}
use Rattle.payloads_pace.proofs.read_payload.Goals as goal

-- what INFO says to a known command
known : (address : ℕ) (info : List ℕ) (command : Option Command) (heard k : Command) → command ≡ Some heard → heard ≡ k
    → payload_of address (Some k) info ≡ payload_of address command info
known address info command heard k e h = sym (ap (λ (x : Option Command). payload_of address x info) (e ∙ ap Some h))

pub returns-in_default : goal.returns-in_default
unfolding payload_of
returns-in_default c = rw c.in_default.is

pub returns-in-Analog : goal.returns-in-Analog
returns-in-Analog c =
    mapped answer.Analog _ _ c.map.ensures.cases ∙ ap (answered answer.Analog) c.read_analog.ensures ∙ analog_is _ _ ∙ known _ _ _ _ _ c.in-Some.is c.in-Analog.is

pub returns-in-Warnings : goal.returns-in-Warnings
returns-in-Warnings c =
    mapped answer.Warnings _ _ c.map-in-Warnings.ensures.cases ∙ ap (answered answer.Warnings) c.read_warnings.ensures ∙ warnings_is _ _ ∙ known _ _ _ _ _ c.in-Some.is c.in-Warnings.is

pub returns-in-Hardware : goal.returns-in-Hardware
returns-in-Hardware c = c.checked.ensures ∙ bytes_are _ _ _ _ c.hardware.ensures ∙ known _ _ _ _ _ c.in-Some.is c.in-Hardware.is

pub returns-in-Serial : goal.returns-in-Serial
returns-in-Serial c = c.checked-in-Serial.ensures ∙ bytes_are _ _ _ _ c.serial.ensures ∙ known _ _ _ _ _ c.in-Some.is c.in-Serial.is

pub returns-in-Reads : goal.returns-in-Reads
returns-in-Reads c =
    mapped answer.Setting _ _ c.map-in-Reads.ensures.cases ∙ ap (answered answer.Setting) c.read_setting.ensures ∙ setting_is _ _ _ ∙ known _ _ _ _ _ c.in-Some.is c.in-Reads.is

pub returns-in-Writes : goal.returns-in-Writes
returns-in-Writes c = c.checked-in-Writes.ensures ∙ bytes_are _ _ _ _ c.accepted.ensures ∙ known _ _ _ _ _ c.in-Some.is c.in-Writes.is
