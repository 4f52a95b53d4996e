-- The ways out of `frame_of`, each from the tests that the reader has made there, and what a whole frame says of its bytes.
-- Each way rewrites the ladder with its tests; the inversion goes down the ladder past each refusal. Assumes nothing.
use mathlib.Core.Path.{◌≡◌, ap}
use mathlib.Core.Bool.{Bool, true, false}
use mathlib.Core.List.{List, [], ◌∷◌}
use Prim.Native.Nat.{ℕ, ◌+◌, ◌-◌, ◌<◌, ◌≤◌}
use native.Mathlib.Omega.{arith}
use borrow.Author.Tests.{lt-ltb, le-ltb, eq-eqb, ltb-false, eqb-true}
use lib.Dec.{ltb, eqb}
use lib.ListN.{length, get_or, take, drop}
use Rattle.std.specs.Prelude.{Result, Ok, Err}
use Rattle.laws.proofs.Ladders.{past, into}
use Rattle.refusals.specs.declared.Refusal.{Refusal}
use Rattle.refusals.specs.declared.Refusal.TheVariants as refusal
use Rattle.checks.specs.Crc.{crc_of}
use Rattle.numbers.specs.declared.Order.TheVariants.{HighFirst}
use Rattle.numbers.specs.Bytes.{number_of}
use Rattle.frames_pathfinder.specs.declared.Frame.{Frame}
use Rattle.frames_pathfinder.specs.Reading.{declared, covered, given, whole_of, frame_of}

pub too_short : (s : List ℕ) → length s < 6 → Err refusal.Short ≡ frame_of s
unfolding frame_of
too_short s h = simp (lt-ltb _ _ h)

-- ---- by the reader's tests, whose places are counted from the input's end

-- the test of the checksum
abbrev pub closes : List ℕ → Bool
closes s =
    eqb (crc_of (take (length s - 1 - 2 - 1) (drop 1 s))) (number_of HighFirst (get_or s (length s - 1 - 2) 0 ∷ get_or s (length s - 1 - 1) 0 ∷ []))

module _ (s : List ℕ) (long : 6 ≤ length s) where
  pub wrong_start : eqb (get_or s 0 0) 0xFE ≡ false → Err refusal.FirstMark ≡ frame_of s
  unfolding frame_of
  wrong_start h = simp (le-ltb _ _ long, h)

  pub wrong_length : eqb (get_or s 0 0) 0xFE ≡ true → eqb (length s) (declared s + 5) ≡ false → Err refusal.Length ≡ frame_of s
  unfolding frame_of
  wrong_length starts h = simp (le-ltb _ _ long, starts, h)

-- what the reader knows of an input that starts with the mark and has the length that it declares
pub record Fitting (s : List ℕ) : Type 0 where
  pub long : 6 ≤ length s
  pub starts : eqb (get_or s 0 0) 0xFE ≡ true
  pub fits : eqb (length s) (declared s + 5) ≡ true

pub fitting : (s : List ℕ) → 6 ≤ length s → eqb (get_or s 0 0) 0xFE ≡ true → eqb (length s) (declared s + 5) ≡ true → Fitting s
fitting s l m n = record { long = l; starts = m; fits = n }

module _ (s : List ℕ) (k : Fitting s) where
  size : length s ≡ declared s + 5
  size = eqb-true _ _ k.fits

  -- of such an input the places are those of the definition
  last : length s - 1 ≡ declared s + 4
  last = omega (arith, size)

  sum : eqb (crc_of (covered s)) (given s) ≡ closes s
  sum =
      let a : length s - 1 - 2 - 1 ≡ declared s + 1 = omega (arith, size) in
      let b : length s - 1 - 2 ≡ declared s + 2 = omega (arith, size) in
      let d : length s - 1 - 1 ≡ declared s + 3 = omega (arith, size) in
      rw (a, b, d)

  pub wrong_end : eqb (get_or s (length s - 1) 0) 0xFD ≡ false → Err refusal.LastMark ≡ frame_of s
  unfolding frame_of
  wrong_end h = simp (le-ltb _ _ k.long, k.starts, k.fits, rw last at h)

  module _ (ends : eqb (get_or s (length s - 1) 0) 0xFD ≡ true) where
    pub wrong_sum : closes s ≡ false → Err refusal.Checksum ≡ frame_of s
    unfolding frame_of
    wrong_sum h = simp (le-ltb _ _ k.long, k.starts, k.fits, rw last at ends, sum, h)

    pub taken : closes s ≡ true → Ok (whole_of (get_or s 2 0) 3 (length s - 1 - 5)) ≡ frame_of s
    unfolding frame_of
    taken h =
        let len : length s - 1 - 5 ≡ declared s - 1 = omega (arith, size) in
        simp (len, le-ltb _ _ k.long, k.starts, k.fits, rw last at ends, sum, h)

-- ---- what is a whole frame

pub whole : (s : List ℕ) → 6 ≤ length s → get_or s 0 0 ≡ 0xFE → (n : ℕ) → n ≡ declared s → length s ≡ n + 5 → get_or s (n + 4) 0 ≡ 0xFD
    → (sum told : ℕ) → sum ≡ crc_of (take (n + 2 - 1) (drop 1 s)) → told ≡ number_of HighFirst (get_or s (n + 2) 0 ∷ get_or s (n + 3) 0 ∷ [])
    → sum ≡ told → Ok (whole_of (get_or s 2 0) 3 (n - 1)) ≡ frame_of s
unfolding frame_of
whole s long mark n e fits end sum told sums tells h =
    let k : n + 2 - 1 ≡ n + 1 = omega arith in
    let same : crc_of (take (n + 1) (drop 1 s)) ≡ sum = cc in
    simp (le-ltb _ _ long, eq-eqb _ _ mark, ← e, eq-eqb _ _ fits, eq-eqb _ _ end, same, ← tells, eq-eqb _ _ h)

-- ---- what a whole frame says of its bytes

not_refused : (f : Frame) (r : Refusal) → ◌≡◌ {A = Result Frame Refusal} (Ok f) (Err r) → ⊥
not_refused f r h = absurd cc

pub record Parts (s : List ℕ) (f : Frame) : Type 0 where
  pub start_mark : get_or s 0 0 ≡ 0xFE
  pub length_byte : declared s ≡ f.len + 1
  pub opcode : f.opcode ≡ get_or s 2 0
  pub start : f.start ≡ 3
  pub count : f.len + 6 ≡ length s
  pub end_mark : get_or s (f.len + 5) 0 ≡ 0xFD
  pub sum : crc_of (take (f.len + 2) (drop 1 s)) ≡ number_of HighFirst (get_or s (f.len + 3) 0 ∷ get_or s (f.len + 4) 0 ∷ [])

pub whole_parts : (s : List ℕ) (f : Frame) → Ok f ≡ frame_of s → Parts s f
unfolding frame_of
whole_parts s f h =
    let no = not_refused f in
    let n = f.len in
    let a = past (ltb (length s) 6) _ _ _ (no _) h in
    let b = into (eqb (get_or s 0 0) 0xFE) _ _ _ (no _) a.1 in
    let d = into (eqb (length s) (declared s + 5)) _ _ _ (no _) b.1 in
    let e = into (eqb (get_or s (declared s + 4) 0) 0xFD) _ _ _ (no _) d.1 in
    let w = into (eqb (crc_of (covered s)) (given s)) _ _ _ (no _) e.1 in
    let own : f ≡ whole_of (get_or s 2 0) 3 (declared s - 1) = cc w.1 in
    let long : 6 ≤ length s = ltb-false _ _ a.0 in
    let fits : length s ≡ declared s + 5 = eqb-true _ _ d.0 in
    let l : n ≡ declared s - 1 = ap (λ (x : Frame). x.len) own in
    let len : declared s ≡ n + 1 = omega arith in
    let e₁ : declared s + 1 ≡ n + 2 = omega arith in
    let e₂ : declared s + 2 ≡ n + 3 = omega arith in
    let e₃ : declared s + 3 ≡ n + 4 = omega arith in
    let e₄ : declared s + 4 ≡ n + 5 = omega arith in
    record {
      start_mark = eqb-true _ _ b.0;
      length_byte = len;
      opcode = ap (λ (x : Frame). x.opcode) own;
      start = ap (λ (x : Frame). x.start) own;
      count = omega arith;
      end_mark = rw e₄ at (eqb-true (get_or s (declared s + 4) 0) 0xFD e.0);
      sum = rw (e₁, e₂, e₃) at (eqb-true (crc_of (covered s)) (given s) w.0);
    }
