-- `settings_pace::amount_of` meets its contract: a plain word is itself; a negated one goes by the laws of the widened number.
-- Assumes nothing.
use mir.Syntax.{w16}
use mir.Val.{SFits}
use mathlib.Core.Path.{sym, ap, ◌∙◌}
use mathlib.Core.Bool.{Bool}
use Rattle.settings_pace.specs.Reading.{amount_of, opposite}
use Rattle.settings_pace.proofs.Amounts.{widened_fits, negated_fits, positive, amount_fits, amount_is}
use Rattle.settings_pace.proofs.amount_of.Goals as goal

pub returns-then-not-negated : goal.returns-then-not-negated
unfolding amount_of
returns-then-not-negated c = let a = c.args in sym (ap (λ (b : Bool). amount_of b a.word) c.if-not-negated.true)

pub overflow_cast-v : goal.overflow_cast-v
overflow_cast-v c = widened_fits c.signed16-v.result (record { sfits = c.signed16-v.type_inv })

pub returns-then-v-gt0 : goal.returns-then-v-gt0
unfolding amount_of
returns-then-v-gt0 c =
    let a = c.args in
    let fits : SFits w16 c.signed16-v.result = record { sfits = c.signed16-v.type_inv } in
    positive c.signed16-v.result fits c.if-v-gt0.true ∙ ap opposite c.signed16-v.ensures
    ∙ sym (ap (λ (b : Bool). amount_of b a.word) c.if-not-negated.false)

pub overflow_sub-result : goal.overflow_sub-result
overflow_sub-result c = negated_fits c.signed16-v.result (record { sfits = c.signed16-v.type_inv })

pub overflow_cast-result : goal.overflow_cast-result
overflow_cast-result c = amount_fits c.signed16-v.result (record { sfits = c.signed16-v.type_inv }) c.if-v-gt0.false

pub returns : goal.returns
unfolding amount_of
returns c =
    let a = c.args in
    let fits : SFits w16 c.signed16-v.result = record { sfits = c.signed16-v.type_inv } in
    amount_is c.signed16-v.result fits c.if-v-gt0.false ∙ ap opposite c.signed16-v.ensures
    ∙ sym (ap (λ (b : Bool). amount_of b a.word) c.if-not-negated.false)
