-- `frames_written_pace::put_end` meets its contract: four characters in the lent part, then one store.
-- Assumes nothing.
use mathlib.Core.Path.{◌≡◌, ap}
use native.Mathlib.Omega.{arith}
use lib.ListN.{length, take}
use Rattle.laws.proofs.Filling.{front_length}
use Rattle.frames_written_pace.proofs.Writing.{put_exact, end_is}
use Rattle.frames_written_pace.proofs.put_end.Goals as goal

pub returns : goal.returns
returns c =
    let put = c.put_hex in
    let pair = c.bytes16.result in
    let two : length pair ≡ 2 = ap length c.bytes16.ensures in
    let four = front_length 4 c.args.out.now (omega arith) in
    end_is c.args.out.now _ pair c.args.sum c.requires
    (put_exact pair (take 4 c.args.out.now) _ _ (omega arith) put.ensures.answer put.ensures.room) c.bytes16.ensures
