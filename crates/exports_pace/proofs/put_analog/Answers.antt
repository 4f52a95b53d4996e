-- `exports_pace::put_analog` meets its contract: 11 where the row is too short, else its parts, placed one behind the other.
-- Assumes nothing.
use mathlib.Core.Path.{refl, ap, ◌∙◌}
use native.Mathlib.Omega.{arith}
use Rattle.exports_parts.specs.Parts.{placed}
use Rattle.exports_parts.proofs.Placing.{as_they_are}
use Rattle.exports_answers.proofs.Placing.{total}
use Rattle.exports_pace.specs.Replies.{analog_numbers}
use Rattle.exports_pace.proofs.Rows.{record_untold, record_told}
use borrow.Author.Rules.{rules}
use Rattle.exports_pace.proofs.put_analog.Goals as goal

pub returns-then-row-lt-ANALOG : goal.returns-then-row-lt-ANALOG
unfolding total
returns-then-row-lt-ANALOG c =
    let a = c.args in
    let p = record_untold 1 8 (analog_numbers a.r.numbers) a.r.cells a.r.temperatures a.row.now refl (search rules) (search rules) (search rules) in
    record { answer = c.told.ensures ∙ p.0; filled = p.1 }

pub returns : goal.returns
unfolding total
returns c =
    let a = c.args in
    let p =
    record_told 1 8 (analog_numbers a.r.numbers) a.r.cells a.r.temperatures a.row.now refl (search rules) (search rules)
    (omega (arith, c.if-row-lt-ANALOG.false))
    c.coded.ensures
    c.analog_numbers.ensures
    (c.put.ensures.filled ∙ ap (λ zs. placed 0 zs a.row.now) (as_they_are _))
    c.put-2.ensures.filled
    (c.put-3.ensures.filled ∙ ap (λ zs. placed 24 zs c.put-2.new.row) (as_they_are _)) in
    record { answer = p.0; filled = p.1 }
