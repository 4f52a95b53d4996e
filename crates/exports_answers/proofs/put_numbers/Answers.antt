-- `exports_answers::put_numbers` meets its contract: by what `put` answers, 11 where the row is too short, else the numbers placed at its front.
-- Assumes nothing.
use mathlib.Core.Path.{ap, ◌∙◌}
use Rattle.exports_parts.proofs.Placing.{as_they_are}
use Rattle.exports_parts.specs.Parts.{placed}
use Rattle.exports_answers.proofs.Placing.{numbers_refused, numbers_told}
use Rattle.exports_answers.proofs.put_numbers.Goals as goal

pub returns-in-Ok : goal.returns-in-Ok
returns-in-Ok c =
    let a = c.args in
    let front = c.in-Ok.ensures.filled ∙ ap (λ zs. placed 0 zs a.row.now) (as_they_are a.numbers.now) in
    let told = numbers_told a.kind a.numbers.now a.row.now _ front c.in-Ok.ensures.answer in
    record { answer = c.coded.ensures ∙ told.0; filled = told.1 }

pub returns-in-Err : goal.returns-in-Err
returns-in-Err c =
    let a = c.args in
    let front = c.in-Err.ensures.filled ∙ ap (λ zs. placed 0 zs a.row.now) (as_they_are a.numbers.now) in
    let told = numbers_refused a.kind a.numbers.now a.row.now _ front c.in-Err.why c.in-Err.ensures.answer in
    record { answer = c.told.ensures ∙ told.0; filled = told.1 }
