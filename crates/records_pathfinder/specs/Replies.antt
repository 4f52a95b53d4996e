-- What reading a Pathfinder reply finds, and what it leaves in the lent row and bytes (01, Pathfinder and Refusal numbers).
-- After the frame's own refusals the order is 7, 8, 11. Assumes nothing.
use Rattle.std.specs.Prelude.{ℕ, ◌-◌, ◌*◌, List, ◌++◌, ℤ, length, take, drop, ltb, eqb, Option, Some, None, Result, Ok, Err}
use Rattle.laws.specs.Choice.{pick}
use Rattle.refusals.specs.declared.Refusal.{Refusal}
use Rattle.refusals.specs.declared.Refusal.TheVariants as refusal
use Rattle.frames_pathfinder.specs.declared.Frame.{Frame}
use Rattle.frames_pathfinder.specs.Reading.{frame_of}
use Rattle.lists_pathfinder.specs.Lists.{words}
use Rattle.opcodes_pathfinder.specs.declared.Kind.{Kind}
use Rattle.opcodes_pathfinder.specs.declared.Kind.TheVariants.{Failure as Fails, Asked, Other}
use Rattle.opcodes_pathfinder.specs.declared.Shape.{Shape}
use Rattle.opcodes_pathfinder.specs.declared.Shape.TheVariants.{Words as HasWords, Name as HasName, Nothing}
use Rattle.opcodes_pathfinder.specs.Opcodes.{kind_of, shape_of}
use Rattle.records_pathfinder.specs.declared.Reply.{Reply}
use Rattle.records_pathfinder.specs.declared.Reply.TheVariants.{Words, Name, Written, Failure}

-- n words in data of so many bytes, with room for so many words
unfoldable pub words_judged : ℕ → ℕ → ℕ → Result Reply Refusal
words_judged n len places = pick (eqb len (4 * n)) (pick (ltb places n) (Err refusal.Room) (Ok (Words n))) (Err refusal.Shape)

-- the asked reply; there is none to a request that is not listed
abbrev pub shaped : Option Shape → ℕ → ℕ → ℕ → Result Reply Refusal
shaped (Some (HasWords n)) len places bytes = words_judged n len places
shaped (Some HasName) len places bytes = pick (ltb bytes len) (Err refusal.Room) (Ok (Name len))
shaped (Some Nothing) len places bytes = pick (eqb len 0) (Ok Written) (Err refusal.Shape)
shaped None len places bytes = Err refusal.Request

-- a whole frame by what its opcode makes it: a failure has no data; what is no reply to the request asked is refused
abbrev pub by_kind : Kind → ℕ → ℕ → Result Reply Refusal → Result Reply Refusal
by_kind Fails op len answer = pick (eqb len 0) (Ok (Failure op)) (Err refusal.Shape)
by_kind Asked op len answer = answer
by_kind Other op len answer = Err refusal.Request

unfoldable pub judged : ℕ → ℕ → ℕ → ℕ → ℕ → Result Reply Refusal
judged asked op len places bytes = by_kind (kind_of asked op) op len (shaped (shape_of asked) len places bytes)

abbrev pub of_frame : ℕ → ℕ → ℕ → Result Frame Refusal → Result Reply Refusal
of_frame asked places bytes (Ok frame) = judged asked frame.opcode frame.len places bytes
of_frame asked places bytes (Err why) = Err why

unfoldable pub reply_of : ℕ → ℕ → ℕ → List ℕ → Result Reply Refusal
reply_of asked places bytes s = of_frame asked places bytes (frame_of s)

-- the data of a whole frame
abbrev pub payload_of : List ℕ → List ℕ
payload_of s = take (length s - 6) (drop 3 s)

-- the row after: the words in front of what was there past them; on any other answer as it was
abbrev pub row_after : Result Reply Refusal → List ℕ → List ℤ → List ℤ
row_after (Ok (Words n)) s row = words n (payload_of s) ++ drop n row
row_after (Ok (Name n)) s row = row
row_after (Ok Written) s row = row
row_after (Ok (Failure code)) s row = row
row_after (Err why) s row = row

-- the bytes after: the name in front of what was there past it; on any other answer as they were
abbrev pub name_after : Result Reply Refusal → List ℕ → List ℕ → List ℕ
name_after (Ok (Words n)) s name = name
name_after (Ok (Name n)) s name = payload_of s ++ drop n name
name_after (Ok Written) s name = name
name_after (Ok (Failure code)) s name = name
name_after (Err why) s name = name
