-- `exports_answers::put_text` meets its contract: 11 where there is too little room, else the text at the front.
-- Assumes nothing.
use Prim.Native.Nat.{◌≤◌}
use mathlib.Core.Path.{ap, ◌∙◌}
use mathlib.Core.List.{◌++◌}
use lib.ListN.{length, drop}
use Rattle.exports_answers.proofs.Placing.{no_room, kind_told, values_over}
use borrow.Author.Rules.{rules}
use Rattle.exports_answers.proofs.put_text.Goals as goal

pub returns-then-out-text : goal.returns-then-out-text
returns-then-out-text c = let a = c.args in let told = no_room a.kind a.text.now a.out.now (search rules) in
    record { answer = c.told.ensures ∙ told.0; copied = told.1 }

pub returns : goal.returns
returns c =
    let a = c.args in
    let fits : length a.text.now ≤ length a.out.now = search rules in
    record {
      answer = c.coded.ensures ∙ kind_told a.kind a.text.now a.out.now fits;
      copied = ap (λ l. l ++ drop (length a.text.now) a.out.now) c.copy_from_slice.ensures.after ∙ values_over a.kind a.text.now a.out.now fits;
    }
