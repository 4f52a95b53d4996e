-- `arrays_tongzhu::flags_of` meets its contract: the bytes are put in the place of the front, and 0 stands past them.
-- Assumes nothing.
use Rattle.arrays_tongzhu.proofs.Filled.{part_placed}
use Rattle.arrays_tongzhu.proofs.flags_of.Goals as goal

pub returns : goal.returns
returns c = let a = c.args in part_placed a.q.now a.from a.n 4 _ c.requires.1 c.copy_from_slice.ensures.after
