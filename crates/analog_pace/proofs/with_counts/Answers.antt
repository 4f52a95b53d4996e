-- `analog_pace::with_counts` meets its contract: each way out is the case of `with_counts` that its test names.
-- Assumes nothing.
use mathlib.Core.Path.{sym, ◌∙◌}
use native.Mathlib.Omega.{arith}
use Rattle.characters_pace.specs.Characters.{bytes_in}
use Rattle.laws.proofs.Filling.{front_length}
use Rattle.analog_pace.proofs.Cases.{tenth_places, no_constant, read}
use Rattle.analog_pace.proofs.with_counts.Goals as goal

pub returns-then-byte_of-ne3 : goal.returns-then-byte_of-ne3
returns-then-byte_of-ne3 c =
    let a = c.args in
    no_constant a.cells a.temperatures (bytes_in a.info.now) (λ e. c.if-byte_of-ne3.true (c.byte_of.ensures ∙ e))

pub put_tenths-requires : goal.put_tenths-requires
put_tenths-requires c = let n = front_length c.args.temperatures tenth_places c.requires.1 in (omega arith, omega arith)

pub returns : goal.returns
returns c =
    let a = c.args in
    read a.cells a.temperatures (bytes_in a.info.now) (sym c.byte_of.ensures ∙ c.if-byte_of-ne3.false) c.requires.0 c.requires.1
    c.numbers_of.result _ _ c.numbers_of.ensures c.words_of.ensures c.put_tenths.ensures
