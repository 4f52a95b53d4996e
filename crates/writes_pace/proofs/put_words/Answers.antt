-- `writes_pace::put_words` meets its contract. The loop's invariant: the bytes of the numbers passed stand in front of what was there.
-- Assumes nothing.
use Prim.Native.Nat.{ℕ, ◌*◌, ◌/◌, ◌%◌}
use mathlib.Core.Path.{refl, ap, ◌∙◌}
use mathlib.Core.List.{List, append-nil}
use native.Mathlib.Omega.{arith}
use lib.ListN.{get_or, drop_of_length-le}
use lib.Seq.{take_all}
use Rattle.characters_pace.specs.Characters.{halves}
use Rattle.characters_pace.proofs.Halves.{halves_more}
use Rattle.writes_pace.specs.Info.{pairs_of}
use Rattle.writes_pace.proofs.put_words.Goals as goal

pub loop-i-init : goal.loop-i-init
unfolding halves
loop-i-init c = refl

pub loop-i-preserved : goal.loop-i-preserved
loop-i-preserved c =
    let a = c.args in
    let l = c.loop-i in
    halves_more (λ n. n / 256 % 256) (λ n. n % 256) a.words.now a.out.now l.out l.i _ _ l.invariant (omega arith) (omega arith) (ap (λ (p : List ℕ). get_or p 0 0) c.bytes16.ensures) (ap (λ (p : List ℕ). get_or p 1 0) c.bytes16.ensures)

pub returns : goal.returns
returns c =
    let a = c.args in
    let l = c.loop-i in
    let done = take_all l.i a.words.now (omega arith) in
    let none = drop_of_length-le a.out.now {i = 2 * l.i} (omega arith) in
    l.invariant ∙ rw (done, none) (append-nil (pairs_of a.words.now))
