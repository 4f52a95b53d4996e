-- `commands_pace::by_setting` meets its contract. The loop's invariant: the settings that are left have the answer of all.
-- Assumes nothing.
use mathlib.Core.Path.{◌≡◌, refl, sym, ap, ◌∙◌}
use native.Mathlib.Omega.{arith}
use lib.ListN.{length}
use Rattle.layouts_pace.specs.declared.Layout.{Layout}
use Rattle.layouts_pace.specs.Settings.{settings}
use Rattle.commands_pace.proofs.Commands.{reads_here, writes_here, neither_here, none_left}
use Rattle.commands_pace.proofs.by_setting.Goals as goal

-- the table has every setting
all : length settings ≡ 2
unfolding settings
all = refl

pub loop-setting-init : goal.loop-setting-init
loop-setting-init c = refl

pub returns-then-code-layout : goal.returns-then-code-layout
unfolding settings
returns-then-code-layout c =
    let l = c.loop-setting in
    reads_here settings _ l.setting-index l.invariant _ (omega (arith, all)) (c.if-code-layout.true ∙ ap (λ (q : Layout). q.reads) c.layout_of-layout.ensures)

pub returns-then-code-layout-2 : goal.returns-then-code-layout-2
unfolding settings
returns-then-code-layout-2 c =
    let l = c.loop-setting in
    writes_here settings _ l.setting-index l.invariant _ (omega (arith, all)) (λ e. c.if-code-layout.false (e ∙ sym (ap (λ (q : Layout). q.reads) c.layout_of-layout.ensures)))
    (c.if-code-layout-2.true ∙ ap (λ (q : Layout). q.writes) c.layout_of-layout.ensures)

pub loop-setting-preserved : goal.loop-setting-preserved
unfolding settings
loop-setting-preserved c =
    let l = c.loop-setting in
    neither_here settings _ l.setting-index l.invariant _ (omega (arith, all)) (λ e. c.if-code-layout.false (e ∙ sym (ap (λ (q : Layout). q.reads) c.layout_of-layout.ensures)))
    (λ e. c.if-code-layout-2.false (e ∙ sym (ap (λ (q : Layout). q.writes) c.layout_of-layout.ensures)))

pub returns : goal.returns
returns c = let l = c.loop-setting in none_left settings _ l.setting-index l.invariant (omega (arith, all))
