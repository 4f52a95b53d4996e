-- Pathfinder requests that are read, for a language that shares no enum: the kind of each, and its values in the order of their places in the row.
-- Assumes nothing.
use Rattle.std.specs.Prelude.{[], ◌∷◌, pos, Result, Ok, Err}
use Rattle.refusals.specs.declared.Refusal.{Refusal}
use Rattle.requests_pathfinder.specs.declared.Request.{Request}
use Rattle.requests_pathfinder.specs.declared.Request.TheVariants.{Ask, Write}
use Rattle.exports_answers.specs.Told.{Told, numbers, refused}

-- 1 a request without data: its opcode; 2 one that sets a register: the register and the value
abbrev pub told_fields : Request → Told
told_fields (Ask opcode) = numbers 1 (pos opcode ∷ [])
told_fields (Write register value) = numbers 2 (pos register ∷ value ∷ [])

abbrev pub told_request : Result Request Refusal → Told
told_request (Ok q) = told_fields q
told_request (Err why) = refused why
