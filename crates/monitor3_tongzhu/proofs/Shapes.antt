-- What counts that were accepted say of the number of bytes: their test is taken apart; and fields that begin at an offset.
-- Assumes nothing.
use mathlib.Core.Path.{◌≡◌, refl, sym, ap}
use mathlib.Core.List.{List, []}
use Prim.Native.Nat.{ℕ, ◌+◌, ◌-◌, ◌*◌, ◌<◌, ◌≤◌}
use native.Mathlib.Omega.{arith}
use borrow.Author.Tests.{leb-true, eqb-true}
use lib.Dec.{leb}
use lib.ListN.{length, get_or, take, drop, length-drop, drop_of_length-le}
use lib.Seq.{take_all}
use Rattle.std.specs.Prelude.{Option, Some, None, Err}
use Rattle.laws.proofs.Ladders.{into, both}
use Rattle.refusals.specs.declared.Refusal.TheVariants as refusal
use Rattle.monitor3_tongzhu.specs.declared.Counts.{Counts}
use Rattle.monitor3_tongzhu.specs.Layout.{flag_bytes, shaped, counts_of, judged_shape, shape_of, Shaped, found_in, found_of, found_at, nowhere, places_in, places_at, Within}

-- ---- what accepted counts say

judged_shaped : (n c t m : ℕ) (k : Counts) → Some k ≡ judged_shape n c t m → Shaped n k
judged_shaped n c t m k h =
    let w = into (shaped n c t m) _ _ _ (λ (e : Some k ≡ None). cc) h in
    let a = both (leb 1 c) _ w.0 in
    let b = both (leb c 32) _ a.1 in
    let d = both (leb t 16) _ b.1 in
    let e = both (leb m 16) _ d.1 in
    let few : c ≤ 32 = leb-true c 32 b.0 in
    let same : k ≡ counts_of c t m = cc w.1 in
    rw same (record {
      few_cells = few;
      few_flags = omega arith;
      few_sensors = leb-true t 16 d.0;
      few_mosfets = leb-true m 16 e.0;
      total = eqb-true _ _ e.1;
    })

pub counted_shaped : (q : List ℕ) (k : Counts) → Some k ≡ shape_of q → Shaped (length q) k
unfolding shape_of
counted_shaped q k h =
    let c = get_or q 6 0 in
    let t = get_or q (7 + 2 * c + flag_bytes c) 0 in
    judged_shaped (length q) c t (get_or q (8 + 2 * c + flag_bytes c + t) 0) k h

-- ---- fields that begin at an offset

-- past the end nothing has a shape
beyond : (p : List ℕ) (at : ℕ) → length p < at → shape_of (drop at p) ≡ None
unfolding shape_of
beyond p at h = let none : drop at p ≡ [] = drop_of_length-le p {i = at} (omega arith) in ap shape_of none

pub found_beyond : (p : List ℕ) (at : ℕ) → length p < at → Err refusal.Shape ≡ found_at p at
unfolding found_at found_of
found_beyond p at h = sym (ap (found_in (drop at p)) (beyond p at h))

pub places_beyond : (p : List ℕ) (at : ℕ) → length p < at → nowhere ≡ places_at p at
unfolding places_at
places_beyond p at h = sym (ap (places_in at) (beyond p at h))

-- what is lent from there on is what the definitions drop to
pub from_there : (p : List ℕ) (at : ℕ) → take (length p - at) (drop at p) ≡ drop at p
from_there p at = take_all (length p - at) (drop at p) (rw length-drop (omega arith))

-- the places of the lists lie within the bytes
pub places_within : (p : List ℕ) (at : ℕ) → Within (length p) (places_at p at)
unfolding places_at
places_within p at = go (shape_of (drop at p)) refl
  where
    go : (s : Option Counts) → s ≡ shape_of (drop at p) → Within (length p) (places_in at s)
    go (Some k) e =
        let b = counted_shaped (drop at p) k e in
        let n = length-drop at p in
        record {
          few_cells = b.few_cells;
          few_flags = b.few_flags;
          few_sensors = b.few_sensors;
          few_mosfets = b.few_mosfets;
          cells_lie = omega (arith, b.total, n);
          flags_lie = omega (arith, b.total, n);
          sensors_lie = omega (arith, b.total, n);
          mosfets_lie = omega (arith, b.total, n);
        }
    go None e =
        record {
          few_cells = omega arith;
          few_flags = omega arith;
          few_sensors = omega arith;
          few_mosfets = omega arith;
          cells_lie = omega arith;
          flags_lie = omega arith;
          sensors_lie = omega arith;
          mosfets_lie = omega arith;
        }
