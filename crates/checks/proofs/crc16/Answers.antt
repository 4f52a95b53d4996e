-- `checks::crc16` meets its contract. The loop's invariant: the register, moved over the bytes of the pairs that are left, gives the checksum.
-- Assumes nothing.
use Prim.Native.Nat.{ℕ, ◌+◌, ◌*◌, ◌/◌, ◌%◌, ◌≤◌, ◌<◌}
use mathlib.Core.Path.{◌≡◌, ap, ap₂, sym, ◌∙◌}
use native.Mathlib.Omega.{arith}
use lib.ListN.{length, get_or, take, drop}
use mathlib.Core.List.{List, []}
use Rattle.std.proofs.Common.{add-zero}
use lib.Seq.{take_all}
use Rattle.checks.specs.Crc.{crc_step, crc_from}
use Rattle.checks.proofs.Pairs.{rest_after, two_next, none_left, pair_byte}
use Rattle.checks.proofs.crc16.Goals as goal

pub loop-pair-init : goal.loop-pair-init
loop-pair-init c =
    let s = c.args.s.now in
    let e = c.crc_first-r.ensures in
    let front : length s % 2 ≡ length s % 2 + 2 * 0 = omega arith in
    let odd = c.as_rchunks.result.0.now in
    let only : take 1 odd ≡ take (length s % 2) s = take_all 1 odd (omega (arith, c.as_rchunks.ensures.front_len)) ∙ c.as_rchunks.ensures.front in
    (e.1, ap (λ (n : ℕ). crc_from c.crc_first-r.result (drop n s)) (sym front) ∙ rest_after s (length s % 2) c.crc_first-r.result (e.0 ∙ ap (crc_from 0) only))

pub loop-pair-preserved : goal.loop-pair-preserved
loop-pair-preserved c =
    let s = c.args.s.now in
    let l = c.loop-pair in
    let e = c.crc_pair-r.ensures in
    let i = length s % 2 + 2 * l.pair-index in
    let more : i + 2 ≡ length s % 2 + 2 * (l.pair-index + 1) = omega arith in
    let pairs = c.as_rchunks.ensures in
    let here : l.pair-index < length s / 2 = omega (arith, pairs.back_len) in
    let byte = λ (j : ℕ) (two : j < 2).
    ap (λ (ps : List (List ℕ)). get_or (get_or ps l.pair-index []) j 0) pairs.back ∙ pair_byte (length s / 2) l.pair-index (length s % 2) j s here two in
    let both = ap₂ (λ (a b : ℕ). crc_step (crc_step l.r a) b) (byte 0 (omega arith) ∙ ap (λ (n : ℕ). get_or s n 0) (add-zero i)) (byte 1 (omega arith)) in (
      e.1,
      ap₂ (λ (n x : ℕ). crc_from x (drop n s)) (sym more) (e.0 ∙ both) ∙ two_next s i l.r (omega (arith, pairs.back_len)) ∙ l.invariant.1,
    )

pub returns : goal.returns
returns c =
    let s = c.args.s.now in
    let l = c.loop-pair in
    let i = length s % 2 + 2 * l.pair-index in
    let end : length s ≤ i = omega (arith, c.as_rchunks.ensures.back_len) in
    sym (none_left s i l.r end) ∙ l.invariant.1
