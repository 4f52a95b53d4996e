-- `exports_pace::put_warnings` meets its contract: 11 where the row is too short, else its parts, placed one behind the other.
-- Assumes nothing.
use mathlib.Core.Path.{refl, ap, ◌∙◌}
use mathlib.Core.List.{map}
use native.Mathlib.Omega.{arith}
use lib.IntN.{pos}
use lib.ListN.{length-map}
use Rattle.exports_parts.specs.Parts.{placed}
use Rattle.exports_parts.proofs.Placing.{as_they_are}
use Rattle.exports_answers.proofs.Placing.{total}
use Rattle.exports_pace.specs.Replies.{warning_numbers}
use Rattle.exports_pace.proofs.Rows.{record_untold, record_told}
use borrow.Author.Rules.{rules}
use Rattle.exports_pace.proofs.put_warnings.Goals as goal

pub returns-then-row-lt-WARNINGS : goal.returns-then-row-lt-WARNINGS
unfolding total
returns-then-row-lt-WARNINGS c =
    let a = c.args in
    let p =
    record_untold 2 14 (warning_numbers a.r.status) a.r.cells (map pos a.r.temperatures) a.row.now refl (search rules) (length-map a.r.temperatures pos ∙ search rules)
    (search rules) in
    record { answer = c.told.ensures ∙ p.0; filled = p.1 }

pub returns : goal.returns
unfolding total
returns c =
    let a = c.args in
    let p =
    record_told 2 14 (warning_numbers a.r.status) a.r.cells (map pos a.r.temperatures) a.row.now refl (search rules) (length-map a.r.temperatures pos ∙ search rules)
    (omega (arith, c.if-row-lt-WARNINGS.false))
    c.coded.ensures
    c.warning_numbers.ensures
    (c.put.ensures.filled ∙ ap (λ zs. placed 0 zs a.row.now) (as_they_are _))
    c.put-2.ensures.filled
    c.put-3.ensures.filled in
    record { answer = p.0; filled = p.1 }
