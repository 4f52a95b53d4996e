-- `settings_pace::in_request` meets its contract: each way out is the case of `request_of` that its tests name.
-- Assumes nothing.
use mathlib.Core.Path.{sym, ◌∙◌}
use native.Mathlib.Omega.{arith}
use Rattle.characters_pace.specs.Characters.{bytes_in}
use Rattle.settings_pace.proofs.Taken.{setting_few, misparsed, unparsed, parsed}
use Rattle.settings_pace.proofs.in_request.Goals as goal

pub returns-then-not-has_shape : goal.returns-then-not-has_shape
returns-then-not-has_shape c =
    let a = c.args in
    misparsed a.setting c.layout_of-layout.result c.layout_of-layout.ensures (bytes_in a.info.now) c.has_shape.result c.has_shape.ensures (c.if-not-has_shape.true)

pub has_shape-requires : goal.has_shape-requires
has_shape-requires c = setting_few c.args.setting c.layout_of-layout.result c.layout_of-layout.ensures (bytes_in c.args.info.now)

pub overflow_mul-n : goal.overflow_mul-n
overflow_mul-n c = omega (arith, setting_few c.args.setting c.layout_of-layout.result c.layout_of-layout.ensures (bytes_in c.args.info.now))

pub overflow_add-n : goal.overflow_add-n
overflow_add-n c = omega (arith, setting_few c.args.setting c.layout_of-layout.result c.layout_of-layout.ensures (bytes_in c.args.info.now))

pub returns-then-not-may_write : goal.returns-then-not-may_write
returns-then-not-may_write c =
    let a = c.args in
    unparsed a.setting c.layout_of-layout.result c.layout_of-layout.ensures (bytes_in a.info.now) c.has_shape.result c.has_shape.ensures
    c.if-not-has_shape.false _ c.words_of.ensures c.byte_of.result c.values_of-v.result c.byte_of.ensures c.values_of-v.ensures
    (sym c.may_write.ensures ∙ c.if-not-may_write.true)

pub returns : goal.returns
returns c =
    let a = c.args in
    parsed a.setting c.layout_of-layout.result c.layout_of-layout.ensures (bytes_in a.info.now) c.has_shape.result c.has_shape.ensures
    c.if-not-has_shape.false _ c.words_of.ensures c.byte_of.result c.values_of-v.result c.byte_of.ensures c.values_of-v.ensures
    (sym c.may_write.ensures ∙ c.if-not-may_write.false)
