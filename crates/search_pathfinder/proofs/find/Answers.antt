-- `search_pathfinder::find` meets its contract. The outer loop: no place passed has a frame. The inner one: the sum so far, and at the
-- span's end that it differs. The label is left with nothing where too few bytes are left, and where the sum agrees with place and length.
-- Assumes nothing.
use mathlib.Core.Path.{◌≡◌, sym, ap, ◌∙◌}
use Prim.Native.Nat.{ℕ, ◌<◌}
use native.Mathlib.Omega.{arith}
use lib.ListN.{length}
use Rattle.checks.proofs.Pairs.{from_zero}
use Rattle.std.specs.Prelude.{Some}
use Rattle.search_pathfinder.specs.Places.{found_at}
use Rattle.search_pathfinder.proofs.Spans.{sum_more, sum_whole, sum_agrees, sum_differs, scan_here, scan_on, scan_start}
use Rattle.search_pathfinder.proofs.Frames.{scan_short, passed, found}
use borrow.Author.Rules.{rules}
use Rattle.search_pathfinder.proofs.find.Goals as goal

pub places-init : goal.places-init
places-init c = (omega arith, scan_start _)

pub mark_from-i-requires : goal.mark_from-i-requires
mark_from-i-requires c = c.places.invariant.0

pub span-n-requires : goal.span-n-requires
span-n-requires c = (omega arith, c.mark_from-i.ensures.2 (omega arith))

pub loop-k-init : goal.loop-k-init
loop-k-init c = (search rules, from_zero _, λ e z. absurd (z (sym e)))

pub loop-k-preserved-else-sum-number16 : goal.loop-k-preserved-else-sum-number16
loop-k-preserved-else-sum-number16 c =
    let l = c.loop-k in
    let span = c.span-n in
    let i = c.mark_from-i.result in
    let more = c.loop-k-test.true in
    let s = c.args.s.now in (
      omega arith,
      sum_more s i span.result span.ensures.1 l.k more l.sum _ c.crc_step-sum.ensures l.invariant.1,
      λ e z. sum_differs s i span.result _ _ (sum_whole s i span.result span.ensures.1 l.k more l.sum _ c.crc_step-sum.ensures l.invariant.1 e) c.number16.ensures c.if-sum-number16.false,
    )

pub loop-k-preserved : goal.loop-k-preserved
loop-k-preserved c =
    let l = c.loop-k in
    let span = c.span-n in
    let i = c.mark_from-i.result in
    let more = c.loop-k-test.true in
    let s = c.args.s.now in (
      omega arith,
      sum_more s i span.result span.ensures.1 l.k more l.sum _ c.crc_step-sum.ensures l.invariant.1,
      λ e z. absurd (c.if-k-n.false e),
    )

pub places-smaller : goal.places-smaller
places-smaller c = omega (arith, c.mark_from-i.ensures.1)

pub places-preserved : goal.places-preserved
places-preserved c =
    let l = c.loop-k in
    let span = c.span-n in
    let i = c.mark_from-i.result in
    let s = c.args.s.now in
    let k : l.k ≡ span.result = omega arith in
    (omega arith, c.places.invariant.1 ∙ c.mark_from-i.ensures.3 ∙ scan_on s i (omega arith) (passed s i span.result span.ensures.0 (l.invariant.2 k)))

pub returns-then-s-i : goal.returns-then-s-i
returns-then-s-i c =
    sym (c.places.invariant.1 ∙ c.mark_from-i.ensures.3 ∙ scan_short c.args.s.now _ c.mark_from-i.result c.if-s-i.true)

pub returns-then-sum-number16 : goal.returns-then-sum-number16
returns-then-sum-number16 c =
    let l = c.loop-k in
    let span = c.span-n in
    let i = c.mark_from-i.result in
    let more = c.loop-k-test.true in
    let s = c.args.s.now in
    let sums = sum_whole s i span.result span.ensures.1 l.k more l.sum _ c.crc_step-sum.ensures l.invariant.1 c.if-k-n.true in
    let some : span.result ≡ 0 → ⊥ = λ z. omega (arith, more) in
    let f = found s i span.result span.ensures.0 some (sum_agrees s i span.result _ _ sums c.number16.ensures c.if-sum-number16.true) in
    let fits : i < length s = omega (arith, c.if-s-i.false) in
    ap (λ (n : ℕ). Some (found_at i n)) f.1 ∙ sym (c.places.invariant.1 ∙ c.mark_from-i.ensures.3 ∙ scan_here s i fits f.0)
