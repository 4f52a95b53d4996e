-- The cases of the definitions of a payload, each from the facts that the reader has at that place.
-- Assumes nothing.
use mathlib.Core.Path.{◌≡◌, refl, ap}
use mathlib.Core.List.{List}
use Prim.Native.Nat.{ℕ}
use Rattle.std.specs.Prelude.{Some, Result, Ok, Err, MatchResult, IsOkAnd}
use Rattle.refusals.specs.declared.Refusal.{Refusal}
use Rattle.characters_pace.specs.Characters.{bytes_in, checked_info}
use Rattle.characters_pace.proofs.Checked.{checked_next}
use Rattle.commands_pace.specs.declared.Command.{Command}
use Rattle.commands_pace.specs.declared.Command.TheVariants as command
use Rattle.layouts_pace.specs.declared.Setting.{Setting as ASetting}
use Rattle.settings_pace.specs.Reading as settings
use Rattle.analog_pace.specs.Analog as analogs
use Rattle.warnings_pace.specs.Warnings as status
use Rattle.payloads_pace.specs.declared.Answer.{Answer}
use Rattle.payloads_pace.specs.declared.Answer.TheVariants.{Analog, Warnings, Setting}
use Rattle.payloads_pace.specs.Payload.{answered, payload_reply, payload_of}

-- what `map` gives of a record's own reader
pub mapped : {A : Type 0} (f : A → Answer) (found : Result A Refusal) (said : Result Answer Refusal)
    → MatchResult found (λ x. IsOkAnd said (λ r. r ≡ f x)) (λ why. said ≡ Err why) → said ≡ answered f found
mapped f (Ok x) (Ok r) h = ap Ok h
mapped f (Ok x) (Err why) h = absurd h
mapped f (Err why) said h = h

module _ (a : ℕ) (s : List ℕ) where
  -- a reader that looks at the characters itself
  pub analog_is : answered Analog (checked_info (analogs.reading_of a) s) ≡ payload_of a (Some command.Analog) s
  unfolding payload_of
  analog_is = checked_next (analogs.reading_of a) (λ r d. answered Analog r) (λ w d. refl) s

  pub warnings_is : answered Warnings (checked_info (status.reading_of a) s) ≡ payload_of a (Some command.Warnings) s
  unfolding payload_of
  warnings_is = checked_next (status.reading_of a) (λ r d. answered Warnings r) (λ w d. refl) s

  pub setting_is : (k : ASetting) → answered Setting (checked_info (settings.reply_of k) s) ≡ payload_of a (Some (command.Reads k)) s
  unfolding payload_of
  setting_is k = checked_next (settings.reply_of k) (λ r d. answered Setting r) (λ w d. refl) s

  -- a reader of the bytes alone
  module _ (c : Command) (said : Result Answer Refusal) (e : said ≡ payload_reply a c (bytes_in s)) where
    pub bytes_are : checked_info (λ _. said) s ≡ payload_of a (Some c) s
    unfolding payload_of checked_info
    bytes_are = rw e
