-- `faults_pace::all_hex` meets its contract. The loop's invariant: what is noted so far, with what is left, has the answer of the whole.
-- Assumes nothing.
use native.Mathlib.Omega.{arith}
use Rattle.std.specs.Option.{is_some}
use Rattle.digits.specs.Hexes.{digit_of}
use Rattle.characters_pace.proofs.Tests.{all_noted, noted_ended}
use Rattle.faults_pace.proofs.all_hex.Goals as goal

pub loop-c-preserved : goal.loop-c-preserved
loop-c-preserved c =
    let l = c.loop-c in rw c.is_hex-hex.ensures (all_noted (λ x. is_some (digit_of x)) c.args.s.now l.hex l.c-index l.invariant (omega arith))

pub returns : goal.returns
returns c = let l = c.loop-c in noted_ended (λ x. is_some (digit_of x)) c.args.s.now l.hex l.c-index l.invariant (omega arith)
