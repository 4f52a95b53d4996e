-- What the pack's two kinds of answer are read as: its success frame as success, the frame of a device failure as that failure. By the law that a
-- frame written is read back, and the reader's rules. Assumes nothing.
use mathlib.Core.Path.{◌≡◌, refl, sym, ap, ◌∙◌}
use mathlib.Core.Bool.{true}
use mathlib.Core.List.{[]}
use Prim.Native.Nat.{ℕ}
use Rattle.std.specs.Prelude.{Result}
use Rattle.checks.specs.Crc.{shift, shifts, crc_from, crc_of}
use Rattle.frames_pathfinder.specs.declared.Frame.{Frame}
use Rattle.frames_written_pathfinder.specs.Writing.{frame_bytes}
use Rattle.frames_written_pathfinder.proofs.ReadBack.{frame_reads_back}
use Rattle.opcodes_pathfinder.specs.Opcodes.{is_failure, is_listed, kind_of, shape_of}
use Rattle.records_pathfinder.specs.Replies.{judged, of_frame, reply_of}
use Rattle.restore_order.specs.Machine as M
use Rattle.restore_reply.specs.Reply.{decoded_of, read_as}
use Rattle.restore_pathfinder.specs.Wire.{success_frame}
use Rattle.refusals.specs.declared.Refusal.{Refusal}

-- FE 01 0E D2 FF FD is the frame of 0E without data
pub success_is_its_frame : success_frame ≡ frame_bytes 0x0E []
unfolding frame_bytes crc_of crc_from shifts shift
success_is_its_frame = refl

-- a frame without data goes by its opcode
by_opcode : (op : ℕ) → read_as (frame_bytes op []) ≡ decoded_of (judged 0x0E op 0 0 0)
unfolding reply_of
by_opcode op = ap (λ (f : Result Frame Refusal). decoded_of (of_frame 0x0E 0 0 f)) (sym (frame_reads_back op []))

pub success_is_read : read_as success_frame ≡ M.success
unfolding judged kind_of is_failure is_listed shape_of
success_is_read = ap read_as success_is_its_frame ∙ by_opcode 0x0E

asked_is_listed : is_listed 0x0E ≡ true
unfolding is_listed
asked_is_listed = refl

-- 20 to 24, 26, 27 and 2D
pub failure_is_read : (code : ℕ) → is_failure code ≡ true → read_as (frame_bytes code []) ≡ M.failure code
unfolding judged kind_of shape_of
failure_is_read code e = by_opcode code ∙ rw (e, asked_is_listed)
