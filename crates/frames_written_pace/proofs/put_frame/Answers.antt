-- `frames_written_pace::put_frame` meets its contract: what the rule answers; where that is a frame, mark, header, INFO and end stand at the
-- front, in this order.
-- Assumes nothing.
use mathlib.Core.Path.{refl, ◌∙◌}
use Prim.Native.Nat.{◌+◌, ◌-◌, ◌*◌}
use native.Mathlib.Omega.{arith}
use borrow.Rule.Slice.PartMut.{put_mid, same_len_mid}
use lib.ListN.{length, set, length-set}
use Rattle.laws.proofs.Filling.{part_length}
use Rattle.frames_written_pace.proofs.Writing.{frame_is}
use Rattle.frames_written_pace.proofs.put_frame.Goals as goal

pub bounds-out-0 : goal.bounds-out-0
bounds-out-0 c = omega arith

pub overflow_cast-n : goal.overflow_cast-n
overflow_cast-n c = omega arith

pub slice_bounds-put_head-end : goal.slice_bounds-put_head-end
slice_bounds-put_head-end c = simp length-set (omega arith)

pub put_head-requires : goal.put_head-requires
put_head-requires c =
    (omega arith, part_length 1 12 (set c.args.out.now 0 0x7E) (simp length-set (omega arith)))

pub overflow_add-n : goal.overflow_add-n
overflow_add-n c = omega arith

pub slice_bounds-put_hex-end : goal.slice_bounds-put_hex-end
slice_bounds-put_hex-end c =
    let first = set c.args.out.now 0 0x7E in
    simp (same_len_mid 1 12 first c.put_head.new.out c.put_head.auto.out, length-set) (omega arith)

pub seal-requires : goal.seal-requires
seal-requires c =
    let first = set c.args.out.now 0 0x7E in
    simp
    (same_len_mid 13 (2 * length c.args.info.now + 13 - 13) (put_mid 1 12 first c.put_head.new.out) c.put_hex.new.out c.put_hex.auto.out, same_len_mid 1 12 first c.put_head.new.out c.put_head.auto.out, length-set)
    (omega arith)

pub returns : goal.returns
returns c =
    let a = c.args in
    c.seal.ensures ∙ frame_is a.out.now _ _ a.info.now a.address a.command _ _ c.requires.1 refl c.put_head.ensures c.put_hex.ensures.answer c.put_hex.ensures.room
