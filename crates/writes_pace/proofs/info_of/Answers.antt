-- `writes_pace::info_of` meets its contract: lead byte, amounts and delay are stored one after another over zeros.
-- Assumes nothing.
use mathlib.Core.Path.{◌≡◌, ap, ◌∙◌}
use native.Mathlib.Omega.{arith}
use lib.ListN.{length}
use Rattle.layouts_pace.specs.Settings.{layout_of, setting_of}
use Rattle.writes_pace.proofs.Stored.{layout_few, info_is}
use borrow.Author.Rules.{rules}
use Rattle.writes_pace.proofs.info_of.Goals as goal

pub slice_bounds-put_words-end : goal.slice_bounds-put_words-end
slice_bounds-put_words-end c =
    let size : length c.parts_of-p.result.amounts ≡ 3 = search rules in
    omega (arith, layout_few c.args.v c.layout_of-layout.result (c.layout_of-layout.ensures ∙ ap layout_of c.parts_of-p.ensures.0))

pub returns : goal.returns
returns c =
    let p = c.parts_of-p in
    let is_layout : c.layout_of-layout.result ≡ layout_of (setting_of c.args.v) = c.layout_of-layout.ensures ∙ ap layout_of p.ensures.0 in
    info_is c.args.v c.layout_of-layout.result is_layout p.result.amounts _ p.result.delay p.ensures.1.0 c.put_words.ensures p.ensures.1.1
