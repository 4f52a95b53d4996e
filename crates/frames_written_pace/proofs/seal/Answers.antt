-- `frames_written_pace::seal` meets its contract: the sum is taken of the lent part, and the part for its characters and the last mark comes back
-- written.
-- Assumes nothing.
use Rattle.frames_written_pace.proofs.Writing.{sealed_is}
use Rattle.frames_written_pace.proofs.seal.Goals as goal

pub returns : goal.returns
returns c = sealed_is c.args.out.now _ c.args.n _ c.put_end.ensures c.close65536-sum.ensures
