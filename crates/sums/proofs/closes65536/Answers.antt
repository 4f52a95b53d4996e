-- `sums::closes65536` meets its contract: what the low 16 bits of the sum leave modulo 65536 is what the sum leaves.
-- Assumes nothing.
use Rattle.std.proofs.Common.{◌≡◌, ℕ, ◌+◌, ◌%◌, eqb, ap, arith}
use Rattle.sums.specs.Sums.{total}
use Rattle.sums.proofs.closes65536.Goals as goal

pub returns : goal.returns
returns c =
    let a = c.args in
    let e : (c.sum65536.result + a.check) % 65536 ≡ (total a.s.now + a.check) % 65536 = omega arith in
    ap (λ (x : ℕ). eqb x 0) e
