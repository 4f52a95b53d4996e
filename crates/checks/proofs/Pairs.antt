-- A walk over the bytes two at a time, after the first one where their number is odd: what the register makes of the bytes that are left.
-- Assumes nothing.
use mathlib.Core.Path.{◌≡◌, refl, sym, ap, ◌∙◌}
use mathlib.Core.List.{List, [], ◌∷◌}
use Prim.Native.Nat.{ℕ, zero, suc, ◌+◌, ◌*◌, ◌<◌, ◌≤◌}
use native.Mathlib.Omega.{arith}
use lib.ListN.{length, get_or, take, drop, take-append-drop}
use lib.Seq.{drop-drop, get_or-take, get_or-drop}
use Rattle.std.specs.Prelude.{Some, None, slice_get}
use Rattle.std.specs.Simd.{first_chunks}
use Rattle.laws.proofs.Walk.{left_next, left_none}
use Rattle.checks.specs.Crc.{shift, shifts, crc_step, crc_from, crc_of}
use Rattle.checks.proofs.Damage.{from_append}

-- a byte 0 before the first one leaves the register at 0
pub odd_first : (odd : List ℕ) (b : ℕ) → Some b ≡ slice_get odd 0 → crc_step (crc_step 0 0) b ≡ crc_from 0 (take 1 odd)
unfolding crc_from shifts shift
odd_first [] b first = absurd cc
odd_first (a ∷ s) b first = let same : b ≡ a = cc in rw same

pub even_first : (odd : List ℕ) → None ≡ slice_get odd 0 → 0 ≡ crc_from 0 (take 1 odd)
unfolding crc_from
even_first [] none = refl
even_first (a ∷ s) none = absurd cc

-- the pair at i of the first k pairs has the bytes at 2 * i and behind it
pub pair_at : (k i : ℕ) (s d : List ℕ) → i < k → get_or (first_chunks 2 k s) i d ≡ take 2 (drop (2 * i) s)
pair_at zero i s d h = absurd (omega arith)
pair_at (suc k) zero s d h = refl
pair_at (suc k) (suc i) s d h =
    let e : 2 + 2 * i ≡ 2 * suc i = omega arith in
    pair_at k i (drop 2 s) d (omega arith) ∙ ap (take 2) (drop-drop (2 * i) 2 s ∙ ap (λ (n : ℕ). drop n s) e)

-- and so has the pair at i of those behind the first m bytes: its j-th byte is the one at m + 2 * i + j
pub pair_byte : (k i m j : ℕ) (s : List ℕ) → i < k → j < 2
    → get_or (get_or (first_chunks 2 k (drop m s)) i []) j 0 ≡ get_or s (m + 2 * i + j) 0
pair_byte k i m j s h two =
    ap (λ (pair : List ℕ). get_or pair j 0) (pair_at k i (drop m s) [] h)
    ∙ get_or-take 2 (drop (2 * i) (drop m s)) j 0 two
    ∙ ap (λ (l : List ℕ). get_or l j 0) (drop-drop (2 * i) m s)
    ∙ get_or-drop (m + 2 * i) s j 0

pub rest_after : (s : List ℕ) (k r : ℕ) → r ≡ crc_from 0 (take k s) → crc_from r (drop k s) ≡ crc_of s
unfolding crc_of
rest_after s k r e =
    ap (λ (x : ℕ). crc_from x (drop k s)) e ∙ sym (from_append (take k s) (drop k s) 0) ∙ ap (crc_from 0) (take-append-drop k s)

pub two_next : (s : List ℕ) (i r : ℕ) → i + 1 < length s
    → crc_from (crc_step (crc_step r (get_or s i 0)) (get_or s (i + 1) 0)) (drop (i + 2) s) ≡ crc_from r (drop i s)
unfolding crc_from
two_next s i r h =
    let more : i + 1 + 1 ≡ i + 2 = omega arith in
    sym
    (ap (crc_from r) (left_next s i (omega arith)) ∙ ap (crc_from (crc_step r (get_or s i 0))) (left_next s (i + 1) h)
    ∙ ap (λ (n : ℕ). crc_from (crc_step (crc_step r (get_or s i 0)) (get_or s (i + 1) 0)) (drop n s)) more)

-- ---- one at a time, for a caller that walks the bytes itself

pub one_next : (s : List ℕ) (i r : ℕ) → i < length s → crc_from (crc_step r (get_or s i 0)) (drop (i + 1) s) ≡ crc_from r (drop i s)
unfolding crc_from
one_next s i r h = sym (ap (crc_from r) (left_next s i h))

pub none_left : (s : List ℕ) (i r : ℕ) → length s ≤ i → crc_from r (drop i s) ≡ r
unfolding crc_from
none_left s i r h = ap (crc_from r) (left_none s i h)

pub from_zero : (s : List ℕ) → crc_from 0 s ≡ crc_of s
unfolding crc_of
from_zero s = refl
