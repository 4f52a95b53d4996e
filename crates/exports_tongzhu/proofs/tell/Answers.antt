-- `exports_tongzhu::tell` meets its contract: by the answer; the calls that put the values say the rest.
-- Assumes nothing.
use mathlib.Core.Path.{refl, sym, ap}
use Rattle.exports_answers.proofs.Telling.{told_numbers}
use Rattle.records_tongzhu.specs.Replies.{lists_beside}
use Rattle.exports_tongzhu.specs.Replies.{told_as}
use Rattle.exports_tongzhu.proofs.tell.Goals as goal

pub returns-in-Monitor3 : goal.returns-in-Monitor3
returns-in-Monitor3 c =
    let e = c.put_monitor3.ensures in
    let a = c.args in
    let told = told_numbers (told_as a.answer (lists_beside a.answer a.p.now)) a.row.now 0 (ap (λ x. told_as x (lists_beside x a.p.now)) (sym c.in-Monitor3.is)) refl e.answer e.filled in
    record { answer = told.0; filled = told.1 }
