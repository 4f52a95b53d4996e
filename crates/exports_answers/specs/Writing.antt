-- What became of a request that was to be written, as one number (specs/Told.antt).
-- Assumes nothing.
use Rattle.std.specs.Prelude.{ℕ, Result, Ok, Err}
use Rattle.refusals.specs.declared.Refusal.{Refusal}
use Rattle.refusals.specs.Numbers.{number_of}
use Rattle.exports_answers.specs.Told.{coded_as}

-- 1 a frame of so many bytes
abbrev pub written_code : Result ℕ Refusal → ℕ
written_code (Ok n) = coded_as 1 n
written_code (Err why) = number_of why
