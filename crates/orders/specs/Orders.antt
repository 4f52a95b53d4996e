-- The orders in which refusals are given, over tests that hold or fail: the first refusal, if there is one (01, Refusal numbers).
-- Assumes nothing.
use Rattle.std.specs.Prelude.{Bool, Result, Ok, Err}
use Rattle.laws.specs.Choice.{pick}
use Rattle.refusals.specs.declared.Refusal.{Refusal}
use Rattle.refusals.specs.declared.Refusal.TheVariants as refusal

-- "PACE 1, 2, 3, 13, 4, 5, 6", after 1: the frame starts with its mark, ends with its mark, is hex between them, has the length it declares,
-- closes its sum, and has a known version and CID1
abbrev pub pace_frame : Bool → Bool → Bool → Bool → Bool → Bool → Result Unit Refusal
pace_frame starts ends hex fits closed knows =
    pick starts
    (pick ends
    (pick hex
    (pick fits (pick closed (pick knows (Ok tt) (Err refusal.Address)) (Err refusal.Checksum)) (Err refusal.Length))
    (Err refusal.Character))
    (Err refusal.LastMark))
    (Err refusal.FirstMark)

-- "writing one uses 7, 10, 8, 9, 11": what is refused whatever the room, if it is; then the room
abbrev pub writing : Result Unit Refusal → Bool → Result Unit Refusal
writing (Ok sound) roomy = pick roomy (Ok tt) (Err refusal.Room)
writing (Err why) roomy = Err why
