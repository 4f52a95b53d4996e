-- The ways out of `span_of`, the running checksum over a span, and a turn of the search from a place on.
-- Assumes nothing.
use mathlib.Core.Path.{◌≡◌, sym, ap, ◌∙◌}
use mathlib.Core.Bool.{true, false}
use mathlib.Core.List.{List, [], ◌∷◌}
use Prim.Native.Nat.{ℕ, suc, ◌+◌, ◌-◌, ◌<◌, ◌≤◌}
use native.Mathlib.Omega.{arith}
use native.Mathlib.Numerals.{add-one}
use borrow.Author.Tests.{le-leb, lt-leb, eq-eqb, ne_eqb}
use lib.ListN.{length, get_or, take, drop, length-drop}
use lib.Seq.{get_or-take, get_or-drop, length-take-le}
use Rattle.checks.specs.Crc.{crc_step, crc_from, crc_of}
use Rattle.checks.proofs.Pairs.{one_next, none_left}
use Rattle.numbers.specs.declared.Order.TheVariants.{HighFirst}
use Rattle.numbers.specs.Bytes.{number_of}
use Rattle.std.specs.Prelude.{Some}
use Rattle.search_pathfinder.specs.Places.{size_at, frame_at, found_at, scan, search_of, span_of, agrees}

module _ (s : List ℕ) (i : ℕ) where
  pub too_short : length s < i + 6 → 0 ≡ span_of s i
  unfolding span_of
  too_short h = simp (lt-leb _ _ h)

  module _ (long : i + 6 ≤ length s) where
    module _ (mark : get_or s i 0 ≡ 0xFE) (n : ℕ) (e : n ≡ get_or s (i + 1) 0) where
      pub no_length : n ≡ 0 → 0 ≡ span_of s i
      unfolding span_of
      no_length h = simp (le-leb _ _ long, eq-eqb _ _ mark, ← e, eq-eqb _ _ h)

      module _ (some : n ≡ 0 → ⊥) where
        pub cut_off : length s < i + n + 5 → 0 ≡ span_of s i
        unfolding span_of
        cut_off h = simp (le-leb _ _ long, eq-eqb _ _ mark, ← e, ne_eqb _ _ some, lt-leb _ _ h)

        pub no_end : i + n + 5 ≤ length s → (get_or s (i + n + 4) 0 ≡ 0xFD → ⊥) → 0 ≡ span_of s i
        unfolding span_of
        no_end g h = simp (le-leb _ _ long, eq-eqb _ _ mark, ← e, ne_eqb _ _ some, le-leb _ _ g, ne_eqb _ _ h)

        pub a_span : i + n + 5 ≤ length s → get_or s (i + n + 4) 0 ≡ 0xFD → n + 1 ≡ span_of s i
        unfolding span_of
        a_span g h = simp (le-leb _ _ long, eq-eqb _ _ mark, ← e, ne_eqb _ _ some, le-leb _ _ g, eq-eqb _ _ h)

-- ---- the bytes that the checksum covers

module _ (s : List ℕ) (i n : ℕ) (fits : n ≤ length s - (i + 4)) (k : ℕ) (more : k < n) (sum next : ℕ)
    (e : next ≡ crc_step sum (get_or s (i + 1 + k) 0)) (so_far : crc_from sum (drop k (take n (drop (i + 1) s))) ≡ crc_of (take n (drop (i + 1) s))) where
  long : length (take n (drop (i + 1) s)) ≡ n
  long = length-take-le n (drop (i + 1) s) (rw (length-drop (i + 1) s) (omega arith))

  at : get_or (take n (drop (i + 1) s)) k 0 ≡ get_or s (i + 1 + k) 0
  at = get_or-take n (drop (i + 1) s) k 0 more ∙ get_or-drop (i + 1) s k 0

  pub sum_more : crc_from next (drop (k + 1) (take n (drop (i + 1) s))) ≡ crc_of (take n (drop (i + 1) s))
  sum_more =
      ap (λ (x : ℕ). crc_from x (drop (k + 1) (take n (drop (i + 1) s)))) (e ∙ ap (crc_step sum) (sym at))
      ∙ one_next (take n (drop (i + 1) s)) k sum (omega (arith, long)) ∙ so_far

  -- after the last byte
  pub sum_whole : k + 1 ≡ n → crc_of (take n (drop (i + 1) s)) ≡ next
  sum_whole l = sym sum_more ∙ none_left (take n (drop (i + 1) s)) (k + 1) next (omega (arith, long))

module _ (s : List ℕ) (i n sum told : ℕ) (a : crc_of (take n (drop (i + 1) s)) ≡ sum)
    (b : told ≡ number_of HighFirst (get_or s (i + 1 + n) 0 ∷ get_or s (i + 2 + n) 0 ∷ [])) where
  pub sum_agrees : sum ≡ told → agrees s i n ≡ true
  unfolding agrees
  sum_agrees h = rw (a, ← b) (eq-eqb sum told h)

  pub sum_differs : (sum ≡ told → ⊥) → agrees s i n ≡ false
  unfolding agrees
  sum_differs h = rw (a, ← b) (ne_eqb sum told h)

-- ---- a turn of the search

pub scan_start : (s : List ℕ) → search_of s ≡ scan (length s - 0) 0 s
unfolding search_of
scan_start s = let e : length s ≡ length s - 0 = omega arith in ap (λ (k : ℕ). scan k 0 s) e

module _ (s : List ℕ) (i : ℕ) (h : i < length s) where
  one : length s - i ≡ suc (length s - (i + 1))
  one = omega arith

  pub scan_on : frame_at s i ≡ false → scan (length s - i) i s ≡ scan (length s - (i + 1)) (i + 1) s
  unfolding scan
  scan_on f = ap (λ (m : ℕ). scan m i s) one ∙ rw (f, ← add-one i)

  pub scan_here : frame_at s i ≡ true → scan (length s - i) i s ≡ Some (found_at i (size_at s i))
  unfolding scan
  scan_here f = ap (λ (m : ℕ). scan m i s) one ∙ rw f
