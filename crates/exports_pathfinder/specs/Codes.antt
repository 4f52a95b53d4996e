-- Pathfinder's answers as numbers, for languages that share no enum (exports_answers, specs/Told.antt).
-- Assumes nothing.
use Rattle.std.specs.Prelude.{ℕ, List, [], ◌∷◌, Option, Some, None, Result, Ok, Err}
use Rattle.refusals.specs.declared.Refusal.{Refusal}
use Rattle.refusals.specs.Numbers.{number_of}
use Rattle.records_pathfinder.specs.declared.Reply.{Reply}
use Rattle.records_pathfinder.specs.declared.Reply.TheVariants.{Words, Name, Written, Failure}
use Rattle.search_pathfinder.specs.declared.Found.{Found}
use Rattle.exports_answers.specs.Told.{coded_as, room_code, over}

-- 1 words, 2 a name, 3 written, 4 the device's failure
abbrev pub reply_code : Result Reply Refusal → ℕ
reply_code (Ok (Words n)) = coded_as 1 n
reply_code (Ok (Name n)) = coded_as 2 n
reply_code (Ok Written) = coded_as 3 0
reply_code (Ok (Failure code)) = coded_as 4 code
reply_code (Err why) = number_of why

-- 1 a frame: its place and its whole length where there is room for both; 2 none
abbrev pub found_code : Option Found → ℕ → ℕ
found_code (Some frame) places = room_code 1 2 places
found_code None places = coded_as 2 0

abbrev pub found_after : Option Found → List ℕ → List ℕ
found_after (Some frame) found = over (frame.place ∷ frame.len ∷ []) found
found_after None found = found
