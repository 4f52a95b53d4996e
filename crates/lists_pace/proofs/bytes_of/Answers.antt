-- `lists_pace::bytes_of` meets its contract. The loop's invariant: the bytes passed stand in front of what was there.
-- Assumes nothing.
use Prim.Native.Nat.{◌+◌}
use mathlib.Core.Path.{refl}
use native.Mathlib.Omega.{arith}
use lib.ListN.{get_or}
use Rattle.laws.specs.Firsts.{firsts}
use Rattle.laws.proofs.Firsts.{firsts_more, firsts_all}
use Rattle.characters_pace.specs.Characters.{bytes_in}
use Rattle.lists_pace.proofs.bytes_of.Goals as goal

pub loop-i-init : goal.loop-i-init
unfolding firsts
loop-i-init c = refl

pub loop-i-preserved : goal.loop-i-preserved
loop-i-preserved c =
    let l = c.loop-i in
    let a = c.args in
    firsts_more (λ k. get_or (bytes_in a.s.now) (a.at + k) 0) a.row.now l.row l.i _ l.invariant (omega arith) c.byte_of.ensures

pub returns : goal.returns
returns c =
    let l = c.loop-i in
    let a = c.args in
    firsts_all (λ k. get_or (bytes_in a.s.now) (a.at + k) 0) a.row.now l.row l.i l.invariant (omega arith)
