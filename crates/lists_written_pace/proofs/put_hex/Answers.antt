-- `lists_written_pace::put_hex` meets its contract. The loop's invariant: the characters of the bytes passed stand in front of what was there.
-- Assumes nothing.
use Prim.Native.Nat.{ℕ, ◌/◌, ◌%◌}
use mathlib.Core.Path.{refl, ap}
use mathlib.Core.List.{List}
use native.Mathlib.Omega.{arith}
use lib.ListN.{length, get_or}
use Rattle.std.specs.Prelude.{Ok}
use Rattle.refusals.proofs.Writing.{no_room, fits}
use Rattle.digits.specs.Hexes.{char_of}
use Rattle.characters_pace.specs.Characters.{halves, hexed}
use Rattle.characters_pace.proofs.Carried.{hexed_length}
use Rattle.characters_pace.proofs.Halves.{halves_more}
use Rattle.lists_written_pace.proofs.put_hex.Goals as goal

pub returns-then-out-bytes-clause-answer : goal.returns-then-out-bytes-clause-answer
returns-then-out-bytes-clause-answer c =
    let a = c.args in no_room (Ok tt) (length (hexed a.bytes.now)) _ refl (omega (arith, hexed_length a.bytes.now))

pub loop-i-init : goal.loop-i-init
unfolding halves
loop-i-init c = refl

pub loop-i-preserved : goal.loop-i-preserved
loop-i-preserved c =
    let a = c.args in
    let l = c.loop-i in
    halves_more (λ b. char_of (b / 16)) (λ b. char_of (b % 16)) a.bytes.now a.out.now l.out l.i _ _ l.invariant (omega arith) (omega arith) (ap (λ (p : List ℕ). get_or p 0 0) c.write_byte.ensures) (ap (λ (p : List ℕ). get_or p 1 0) c.write_byte.ensures)

pub returns-clause-answer : goal.returns-clause-answer
returns-clause-answer c =
    let bytes = c.args.bytes.now in
    rw (← (hexed_length bytes)) (fits (Ok tt) (length (hexed bytes)) (length c.args.out.now) refl (omega (arith, hexed_length bytes)))
