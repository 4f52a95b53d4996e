-- `checks::crc_pair` meets its contract: two bytes are sixteen moves of the register with both added.
-- Assumes nothing.
use Prim.Native.Nat.{◌+◌, ◌*◌}
use mathlib.Core.Path.{sym, ◌∙◌}
use native.Mathlib.Omega.{arith}
use lib.Bits.{xor_lt}
use Rattle.checks.proofs.Damage.{two}
use Rattle.checks.proofs.crc_pair.Goals as goal

pub sixteen-requires : goal.sixteen-requires
sixteen-requires c = let a = c.args in xor_lt 16 a.r (a.a * 256 + a.b) c.requires (omega arith)

pub returns : goal.returns
returns c = let a = c.args in (c.sixteen.ensures.0 ∙ sym (two a.r a.a a.b (omega arith)), c.sixteen.ensures.1)
