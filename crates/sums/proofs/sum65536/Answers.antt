-- `sums::sum65536` meets its contract. The loop's invariant: the sum so far with what is left is the whole sum, modulo 65,536.
-- Assumes nothing.
use Rattle.std.proofs.Common.{arith}
use Rattle.sums.proofs.Adding.{total_next, total_none}
use Rattle.sums.proofs.sum65536.Goals as goal

pub loop-byte-preserved : goal.loop-byte-preserved
loop-byte-preserved c =
    let s = c.args.s.now in
    let l = c.loop-byte in
    let next = total_next s l.byte-index (omega arith) in (omega arith, omega arith, omega arith)

pub returns : goal.returns
returns c =
    let s = c.args.s.now in
    let l = c.loop-byte in
    omega (arith, total_none s l.byte-index (omega arith))
