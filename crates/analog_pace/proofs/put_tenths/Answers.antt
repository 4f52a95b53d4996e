-- `analog_pace::put_tenths` meets its contract. The loop's invariant: the temperatures passed stand in front of what was there.
-- Assumes nothing.
use Prim.Native.Nat.{◌+◌, ◌*◌}
use mathlib.Core.Path.{◌≡◌, refl, ap, ◌∙◌}
use native.Mathlib.Omega.{arith}
use mir.Syntax.{w32}
use mir.Val.{to_z, of_z}
use borrow.Author.Rules.{rules}
use Rattle.laws.specs.Firsts.{firsts}
use Rattle.laws.proofs.Firsts.{firsts_more, firsts_all}
use Rattle.characters_pace.specs.Characters.{bytes_in, word_at}
use Rattle.analog_pace.specs.Analog.{tenths_of}
use Rattle.analog_pace.proofs.put_tenths.Goals as goal

pub loop-i-init : goal.loop-i-init
unfolding firsts
loop-i-init c = refl

pub loop-i-preserved : goal.loop-i-preserved
loop-i-preserved c =
    let l = c.loop-i in
    let a = c.args in
    let held : to_z w32 (of_z w32 c.tenths_of.result) ≡ c.tenths_of.result = search rules in
    firsts_more (λ k. tenths_of (word_at (bytes_in a.info.now) (a.at + 2 * k))) a.row.now l.row l.i _ l.invariant (omega arith) (held ∙ c.tenths_of.ensures ∙ ap tenths_of c.word_of.ensures)

pub returns : goal.returns
returns c =
    let l = c.loop-i in
    let a = c.args in
    firsts_all (λ k. tenths_of (word_at (bytes_in a.info.now) (a.at + 2 * k))) a.row.now l.row l.i l.invariant (omega arith)
