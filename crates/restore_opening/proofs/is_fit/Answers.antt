-- `is_fit` meets its contract. The number is handed on by its bits, which read back.
-- Assumes nothing.
use mir.Syntax.{w32}
use mir.ValLaws.{to_z-of_z}
use Rattle.restore_opening.proofs.is_fit.Goals as goal

pub returns-then-wanted : goal.returns-then-wanted
returns-then-wanted c =
    rw c.if-wanted.true (rw (to_z-of_z w32 c.args.value c.ranges.value) at c.is_writable.ensures)

pub returns-else-wanted : goal.returns-else-wanted
returns-else-wanted c =
    rw c.if-wanted.false (rw (to_z-of_z w32 c.args.value c.ranges.value) at c.fits_type.ensures)
