-- The rule of every writer, whatever the device: what it answers, and what it leaves in the room that it was lent.
-- 01, Refusal numbers: "writing one uses 7, 10, 8, 9, 11", so the room comes last; "Lent memory and the job keep their earlier contents."
-- 01, Restore: "Bytes after the frame keep their contents. So with every writer." Assumes nothing.
use Rattle.std.specs.Prelude.{ℕ, List, ◌++◌, ltb, leb, drop, Result, Ok, Err}
use Rattle.laws.specs.Choice.{pick}
use Rattle.refusals.specs.declared.Refusal.{Refusal}
use Rattle.refusals.specs.declared.Refusal.TheVariants as refusal

-- the answer: the refusal that is met whatever the room, if there is one; then the room; then a frame of this size
unfoldable pub written_as : Result Unit Refusal → ℕ → ℕ → Result ℕ Refusal
written_as (Ok sound) size places = pick (ltb places size) (Err refusal.Room) (Ok size)
written_as (Err why) size places = Err why

-- the room after: the frame in front of what was there past it; after a refusal as it was
abbrev pub room_after : Result ℕ Refusal → List ℕ → List ℕ → List ℕ
room_after (Ok n) frame out = frame ++ drop n out
room_after (Err why) frame out = out

-- the room after one half of a frame's writer: what that half makes of it; after a refusal as it was
abbrev pub left_after : Result ℕ Refusal → List ℕ → List ℕ → List ℕ
left_after (Ok n) made out = made
left_after (Err why) made out = out

-- whether a payload's length, which may be so much at most, is refused
abbrev pub over_long : ℕ → ℕ → Result Unit Refusal
over_long most len = pick (leb len most) (Ok tt) (Err refusal.Shape)
