-- `exports_pace::tell` meets its contract: by the answer; the calls that put the values say the rest.
-- Assumes nothing.
use mathlib.Core.Path.{refl, sym, ap}
use Rattle.exports_answers.proofs.Telling.{tells_numbers}
use Rattle.exports_pace.specs.Replies.{told_as}
use Rattle.exports_pace.proofs.tell.Goals as goal

pub returns-in-Warnings : goal.returns-in-Warnings
returns-in-Warnings c =
    let a = c.args in
    let p =
    tells_numbers (told_as a.answer) a.row.now a.text.now (ap told_as (sym c.in-Warnings.is)) refl c.put_warnings.ensures.answer
    c.put_warnings.ensures.filled in
    record { answer = p.0; filled = p.1.0; copied = p.1.1 }
