-- `frame_of` of a long enough input: the refusal with its first fault, or a whole frame; parts of the input are written as the code lends them.
-- Assumes nothing.
use mathlib.Core.Path.{◌≡◌, refl, sym, ap, ap₂, ◌∙◌}
use mathlib.Core.Bool.{Bool, true, false}
use mathlib.Core.List.{List}
use Prim.Native.Nat.{ℕ, ◌-◌, ◌<◌, ◌≤◌}
use native.Mathlib.Omega.{arith}
use borrow.Author.Tests.{lt-ltb, le-ltb, eq-eqb}
use lib.Dec.{eqb}
use lib.ListN.{length, get_or, take, drop}
use Rattle.std.specs.Prelude.{Some, Result, Ok, Err}
use Rattle.laws.specs.Choice.{pick}
use Rattle.sums.specs.Sums.{total, closes}
use Rattle.lengths_pace.specs.Lengths.{count_of}
use Rattle.refusals.specs.declared.Refusal.{Refusal}
use Rattle.refusals.specs.declared.Refusal.TheVariants as refusal
use Rattle.orders.specs.Orders.{pace_frame}
use Rattle.frames_pace.specs.declared.Frame.{Frame}
use Rattle.characters_pace.specs.Characters.{all_hex, bytes_in, word_at}
use Rattle.frames_pace.specs.Frame.{inner_of, head_of, covered_of, check_of, counted, known, read_as, frame_of}

-- ---- parts as the code lends them

inner_lent : (s : List ℕ) → take (length s - 1 - 1) (drop 1 s) ≡ inner_of s
inner_lent s = let e : length s - 1 - 1 ≡ length s - 2 = omega arith in ap (λ (n : ℕ). take n (drop 1 s)) e

-- what the reader computes of the sum is the definition's test
sum_lent : (s : List ℕ) (w : ℕ) (t : Bool) → 18 ≤ length s → w ≡ word_at (bytes_in (take (length s - 1 - (length s - 5)) (drop (length s - 5) s))) 0
    → t ≡ closes 65536 (total (take (length s - 5 - 1) (drop 1 s))) w → closes 65536 (total (covered_of s)) (check_of s) ≡ t
sum_lent s w t long e f =
    let four : length s - 1 - (length s - 5) ≡ 4 = omega arith in
    let cover : length s - 5 - 1 ≡ length s - 6 = omega arith in
    let check : w ≡ check_of s = rw four at e in
    sym (f ∙ ap₂ (λ (n c : ℕ). closes 65536 (total (take n (drop 1 s))) c) cover check)

-- ---- the ladder

-- w where there is no fault, else the fault
abbrev answer : Result Unit Refusal → Frame → Result Frame Refusal
answer (Ok sound) w = Ok w
answer (Err why) w = Err why

-- a ladder of refusals goes by the first fault
by_number : (a b c d e f : Bool) (w : Frame)
    → pick a (pick b (pick c (pick d (pick e (pick f (Ok w) (Err refusal.Address)) (Err refusal.Checksum))
    (Err refusal.Length)) (Err refusal.Character)) (Err refusal.LastMark)) (Err refusal.FirstMark)
    ≡ answer (pace_frame a b c d e f) w
by_number false b c d e f w = refl
by_number true false c d e f w = refl
by_number true true false d e f w = refl
by_number true true true false e f w = refl
by_number true true true true false f w = refl
by_number true true true true true false w = refl
by_number true true true true true true w = refl

-- the first fault of an input that is long enough, if it has one
abbrev pub fault : List ℕ → Result Unit Refusal
fault s =
    pace_frame (eqb (get_or s 0 0) 0x7E) (eqb (get_or s (length s - 1) 0) 0x0D) (all_hex (inner_of s)) (counted s)
    (closes 65536 (total (covered_of s)) (check_of s)) (known s)

-- what the reader finds, by tests of the parts that it lends, is this fault
pub fault_lent : (s : List ℕ) (hex fits closed knows : Bool) (w : ℕ) (n : Result Unit Refusal) → 18 ≤ length s
    → n ≡ pace_frame (eqb (get_or s 0 0) 0x7E) (eqb (get_or s (length s - 1) 0) 0x0D) hex fits closed knows
    → hex ≡ all_hex (take (length s - 1 - 1) (drop 1 s)) → fits ≡ counted s
    → w ≡ word_at (bytes_in (take (length s - 1 - (length s - 5)) (drop (length s - 5) s))) 0
    → closed ≡ closes 65536 (total (take (length s - 5 - 1) (drop 1 s))) w → knows ≡ known s → n ≡ fault s
fault_lent s hex fits closed knows w n long first h f e k o = first ∙ rw (h, inner_lent s, f, ← (sum_lent s w closed long e k), o)

module _ (s : List ℕ) where
  pub too_short : length s < 18 → Err refusal.Short ≡ frame_of s
  unfolding frame_of
  too_short h = rw (lt-ltb _ _ h)

  module _ (long : 18 ≤ length s) where
    by_fault : frame_of s ≡ answer (fault s) (read_as s)
    unfolding frame_of
    by_fault = rw (le-ltb _ _ long, by_number)

    pub faulty : (why : Refusal) → Err why ≡ fault s → Err why ≡ frame_of s
    faulty why e = ap (λ (f : Result Unit Refusal). answer f (read_as s)) e ∙ sym by_fault

    pub faultless : Ok tt ≡ fault s → Ok (read_as s) ≡ frame_of s
    faultless e = ap (λ (f : Result Unit Refusal). answer f (read_as s)) e ∙ sym by_fault

    -- from its parts, as a writer knows them
    pub whole : get_or s 0 0 ≡ 0x7E → get_or s (length s - 1) 0 ≡ 0x0D → all_hex (inner_of s) ≡ true
        → (n : ℕ) → count_of (word_at (head_of s) 4) ≡ Some n → n ≡ length s - 18 → closes 65536 (total (covered_of s)) (check_of s) ≡ true
        → get_or (head_of s) 0 0 ≡ 0x25 → get_or (head_of s) 2 0 ≡ 0x46
        → Ok (read_as s) ≡ frame_of s
    whole first last hex n word count sum version cid1 =
        faultless (rw (eq-eqb _ _ first, eq-eqb _ _ last, hex, word, eq-eqb _ _ count, sum, eq-eqb _ _ version, eq-eqb _ _ cid1))
