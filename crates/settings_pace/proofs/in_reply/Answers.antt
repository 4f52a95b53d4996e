-- `settings_pace::in_reply` meets its contract: each way out is the case of `reply_of` that its tests name.
-- Assumes nothing.
use lib.ListN.{length}
use Rattle.laws.proofs.Firsts.{firsts_length}
use Rattle.characters_pace.specs.Characters.{bytes_in}
use mathlib.Core.Path.{◌≡◌, ap, ◌∙◌}
use native.Mathlib.Omega.{arith}
use Prim.Native.Nat.{ℕ}
use mathlib.Core.Bool.{Bool}
use Rattle.std.specs.Prelude.{Ok, is_some}
use Rattle.characters_pace.proofs.Tests.{all_is}
use Rattle.settings_pace.specs.Reading.{amount_of}
use Rattle.settings_pace.proofs.Taken.{setting_few, misread, unread, read}
use Rattle.settings_pace.proofs.in_reply.Goals as goal

-- the test of a word
abbrev test : Bool → ℕ → Bool
test negated w = is_some (amount_of negated w)

pub returns-then-not-has_shape : goal.returns-then-not-has_shape
returns-then-not-has_shape c =
    let a = c.args in
    misread a.setting c.layout_of-layout.result c.layout_of-layout.ensures (bytes_in a.info.now) c.has_shape.result c.has_shape.ensures (c.if-not-has_shape.true)

pub returns-then-not-all_readable : goal.returns-then-not-all_readable
returns-then-not-all_readable c =
    let a = c.args in
    unread a.setting c.layout_of-layout.result c.layout_of-layout.ensures (bytes_in a.info.now) c.has_shape.result c.has_shape.ensures (c.if-not-has_shape.false)
    _ c.words_of.ensures c.all_readable.result (all_is (test c.layout_of-layout.result.negated) _ _ c.all_readable.ensures.0 c.all_readable.ensures.1) (c.if-not-all_readable.true)

pub returns : goal.returns
returns c =
    let a = c.args in
    ap Ok c.values_of.ensures
    ∙ read a.setting c.layout_of-layout.result c.layout_of-layout.ensures (bytes_in a.info.now) c.has_shape.result c.has_shape.ensures (c.if-not-has_shape.false)
    _ c.words_of.ensures c.all_readable.result (all_is (test c.layout_of-layout.result.negated) _ _ c.all_readable.ensures.0 c.all_readable.ensures.1) (c.if-not-all_readable.false) _ c.byte_of.result c.turn.ensures c.byte_of.ensures

pub has_shape-requires : goal.has_shape-requires
has_shape-requires c = setting_few c.args.setting c.layout_of-layout.result c.layout_of-layout.ensures (bytes_in c.args.info.now)

pub slice_bounds-all_readable-end : goal.slice_bounds-all_readable-end
slice_bounds-all_readable-end c =
    let small = setting_few c.args.setting c.layout_of-layout.result c.layout_of-layout.ensures (bytes_in c.args.info.now) in
    let wide : length c.words_of.new.row ≡ 3 = ap length c.words_of.ensures ∙ firsts_length _ 3 in
    omega arith
