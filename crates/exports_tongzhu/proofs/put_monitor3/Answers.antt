-- `exports_tongzhu::put_monitor3` meets its contract: 11 where the row is too short, else the numbers and the lists, placed one after the other.
-- Assumes nothing.
use mathlib.Core.Path.{refl, sym, ap, ◌∙◌}
use Rattle.exports_parts.specs.Parts.{placed}
use Rattle.exports_parts.proofs.Placing.{as_they_are}
use Rattle.exports_answers.proofs.Placing.{total, parts_told, parts_untold}
use Rattle.monitor3_tongzhu.specs.Layout.{lists_at}
use Rattle.lists_tongzhu.specs.Lists.{placed_lists}
use Rattle.lists_tongzhu.proofs.Listed.{lists_sized, listed_all}
use Rattle.exports_tongzhu.specs.Replies.{parts_of, sizes}
use borrow.Author.Rules.{rules}
use Rattle.exports_tongzhu.proofs.put_monitor3.Goals as goal

pub returns-then-row-lt-MONITOR3 : goal.returns-then-row-lt-MONITOR3
unfolding total
returns-then-row-lt-MONITOR3 c =
    let a = c.args in
    let told = parts_untold 2 (parts_of a.m (lists_at a.p.now 0)) sizes (refl, lists_sized a.p.now) a.row.now (search rules) in
    record { answer = c.told.ensures ∙ told.0; filled = told.1 }

pub returns : goal.returns
unfolding total
returns c =
    let a = c.args in
    let told = parts_told 2 (parts_of a.m (lists_at a.p.now 0)) sizes (refl, lists_sized a.p.now) a.row.now (search rules) in record {
      answer = c.coded.ensures ∙ told.0;
      filled = c.put_lists.ensures.filled ∙ sym (listed_all (lists_at a.p.now 0) _ (search rules))
          ∙ ap (placed_lists (lists_at a.p.now 0)) (c.put.ensures.filled ∙ ap (λ ns. placed 0 ns a.row.now) (as_they_are _ ∙ c.monitor3_numbers-numbers.ensures))
          ∙ told.1;
    }
