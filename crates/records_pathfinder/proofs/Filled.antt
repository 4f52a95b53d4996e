-- The part of the bytes that the reader hands on is the frame's data.
-- Assumes nothing.
use mathlib.Core.Path.{◌≡◌, ap, ◌∙◌}
use mathlib.Core.List.{List}
use Prim.Native.Nat.{ℕ, ◌+◌, ◌-◌}
use native.Mathlib.Omega.{arith}
use lib.ListN.{length, take, drop, length-drop}
use lib.Seq.{length-take-le}
use Rattle.std.specs.Prelude.{Ok}
use Rattle.frames_pathfinder.specs.declared.Frame.{Frame}
use Rattle.frames_pathfinder.specs.Reading.{frame_of}
use Rattle.frames_pathfinder.proofs.Ladder.{whole_parts}
use Rattle.records_pathfinder.specs.Replies.{payload_of}

-- the part that the reader hands on is the data
pub part_payload : (s : List ℕ) (f : Frame) → Ok f ≡ frame_of s → take (f.start + f.len - f.start) (drop f.start s) ≡ payload_of s
part_payload s f e =
    let p = whole_parts s f e in
    let n : f.start + f.len - f.start ≡ length s - 6 = omega arith in
    rw (n, p.start)

pub payload_length : (s : List ℕ) (f : Frame) → Ok f ≡ frame_of s → length (payload_of s) ≡ f.len
payload_length s f e =
    let p = whole_parts s f e in
    length-take-le (length s - 6) (drop 3 s) (rw (length-drop 3 s) (omega arith)) ∙ omega arith

pub data_length : (s : List ℕ) (f : Frame) → Ok f ≡ frame_of s → length (take (f.start + f.len - f.start) (drop f.start s)) ≡ f.len
data_length s f e = ap length (part_payload s f e) ∙ payload_length s f e
