-- The ways out of `frame_of`, each from the tests that the reader has made there, and what a whole frame says of its bytes.
-- Each way rewrites the ladder with its tests; the inversion goes down the ladder past each refusal. Assumes nothing.
use mathlib.Core.Path.{◌≡◌, refl, sym, ap, ◌∙◌}
use mathlib.Core.Bool.{Bool, true, false, ◌&&◌}
use mathlib.Core.List.{List, []}
use Prim.Native.Nat.{ℕ, suc, ◌+◌, ◌-◌, ◌%◌, ◌<◌, ◌≤◌}
use native.Mathlib.Omega.{arith}
use borrow.Author.Tests.{le-ltb, eq-eqb, ne_eqb, ltb-false, eqb-true}
use lib.Dec.{ltb, eqb}
use lib.ListN.{length, get_or, take, drop}
use lib.Seq.{get_or-take, length-take-le, take_all, take-suc}
use Rattle.std.specs.Prelude.{Ok, Err}
use Rattle.laws.proofs.Ladders.{past, into, both}
use Rattle.refusals.specs.declared.Refusal.TheVariants as refusal
use Rattle.refusals.proofs.Writing.{not_refused}
use Rattle.sums.specs.Sums.{total, closes}
use Rattle.sums.proofs.Closing.{total_at}
use Rattle.frames_tongzhu.specs.declared.Frame.{Frame}
use Rattle.frames_tongzhu.specs.Reading.{checked, check, framed, frame_of}

-- the sum of all bytes is that of all but the last, and the last: the check
all_summed : (s : List ℕ) → 6 ≤ length s → total s ≡ total (checked s) + check s
unfolding total
all_summed s long =
    let n = length s - 1 in
    let e : length s ≡ suc n = omega arith in
    let last = ap total (sym (take_all (length s) s (omega arith)) ∙ ap (λ (k : ℕ). take k s) e ∙ take-suc s n 0 (omega arith)) in
    omega (arith, last, total_at (checked s) [] (check s))

-- so the sum of all is 0 where the check closes it
pub check_test : (s : List ℕ) (sum : ℕ) → 6 ≤ length s → sum ≡ total s % 256 → closes 256 (total (checked s)) (check s) ≡ eqb sum 0
check_test s sum long e = rw (e, all_summed s long)

module _ (s : List ℕ) (long : 6 ≤ length s) where
  pub wrong_mark : eqb (get_or s 0 0) 0x7F ≡ false → Err refusal.FirstMark ≡ frame_of s
  unfolding frame_of
  wrong_mark h = simp (le-ltb _ _ long, h)

  pub wrong_length : eqb (get_or s 0 0) 0x7F ≡ true → eqb (length s) (get_or s 3 0) ≡ false → Err refusal.Length ≡ frame_of s
  unfolding frame_of
  wrong_length starts h = simp (le-ltb _ _ long, starts, h)

-- what the reader knows of an input that starts with the mark and has the length that it declares
pub record Fitting (s : List ℕ) : Type 0 where
  pub long : 6 ≤ length s
  pub starts : eqb (get_or s 0 0) 0x7F ≡ true
  pub fits : eqb (length s) (get_or s 3 0) ≡ true

module _ (s : List ℕ) (k : Fitting s) where
  module _ (closed : closes 256 (total (checked s)) (check s) ≡ true) where
    pub taken : eqb (get_or s 1 0) 0x10 && eqb (get_or s 2 0) 0x02 ≡ true → Ok (framed (get_or s 4 0) 5 (length s - 6)) ≡ frame_of s
    unfolding frame_of
    taken h = simp (le-ltb _ _ k.long, k.starts, k.fits, closed, h)

-- ---- what is a whole frame

pub whole : (s : List ℕ) → 6 ≤ length s → get_or s 0 0 ≡ 0x7F → length s ≡ get_or s 3 0 → closes 256 (total (checked s)) (check s) ≡ true
    → get_or s 1 0 ≡ 0x10 → get_or s 2 0 ≡ 0x02 → Ok (framed (get_or s 4 0) 5 (length s - 6)) ≡ frame_of s
whole s long mark declared closed home version =
    taken s (record { long = long; starts = eq-eqb _ _ mark; fits = eq-eqb _ _ declared }) closed (rw (eq-eqb _ _ home, eq-eqb _ _ version))

-- ---- more bytes than a frame can have

-- of an input over 255 bytes the first 256 are refused as the whole is: for the mark, or for a LEN that no byte can be
pub long_input : (s : List ℕ) → 256 ≤ length s → get_or s 3 0 < 256 → frame_of (take 256 s) ≡ frame_of s
long_input s long byte = go (eqb (get_or s 0 0) 0x7F) refl
  where
    front : (i : ℕ) → i < 256 → get_or (take 256 s) i 0 ≡ get_or s i 0
    front i h = get_or-take 256 s i 0 h

    too_long : (l : List ℕ) → 256 ≤ length l → get_or l 3 0 < 256 → eqb (length l) (get_or l 3 0) ≡ false
    too_long l h b = ne_eqb _ _ (λ (e : length l ≡ get_or l 3 0). omega arith)

    go : (b : Bool) → eqb (get_or s 0 0) 0x7F ≡ b → frame_of (take 256 s) ≡ frame_of s
    go true e =
        let size = length-take-le 256 s long in
        let mark = front 0 (omega arith) in
        let len = front 3 (omega arith) in
        sym (wrong_length (take 256 s) (omega arith) (rw mark e) (too_long (take 256 s) (omega arith) (omega arith)))
        ∙ wrong_length s (omega arith) e (too_long s long byte)
    go false e =
        let size = length-take-le 256 s long in
        let mark = front 0 (omega arith) in
        sym (wrong_mark (take 256 s) (omega arith) (rw mark e)) ∙ wrong_mark s (omega arith) e

-- ---- what a whole frame says of its bytes

-- what a caller hands on as `&s[start..start + len]`
pub payload_part : (st n : ℕ) (s : List ℕ) → take (st + n - st) (drop st s) ≡ take n (drop st s)
payload_part st n s = let e : st + n - st ≡ n = omega arith in rw e

pub record Parts (s : List ℕ) (f : Frame) : Type 0 where
  pub mark : get_or s 0 0 ≡ 0x7F
  pub home : get_or s 1 0 ≡ 0x10
  pub version : get_or s 2 0 ≡ 0x02
  pub declared : length s ≡ get_or s 3 0
  pub function : f.function ≡ get_or s 4 0
  pub start : f.start ≡ 5
  pub count : f.len + 6 ≡ length s
  pub closed : closes 256 (total (checked s)) (check s) ≡ true

pub whole_parts : (s : List ℕ) (f : Frame) → Ok f ≡ frame_of s → Parts s f
unfolding frame_of
whole_parts s f h =
    let no = not_refused f in
    let a = past (ltb (length s) 6) _ _ _ (no _) h in
    let b = into (eqb (get_or s 0 0) 0x7F) _ _ _ (no _) a.1 in
    let d = into (eqb (length s) (get_or s 3 0)) _ _ _ (no _) b.1 in
    let e = into (closes 256 (total (checked s)) (check s)) _ _ _ (no _) d.1 in
    let w = into (eqb (get_or s 1 0) 0x10 && eqb (get_or s 2 0) 0x02) _ _ _ (no _) e.1 in
    let v = both (eqb (get_or s 1 0) 0x10) (eqb (get_or s 2 0) 0x02) w.0 in
    let long : 6 ≤ length s = ltb-false _ _ a.0 in
    let is : f ≡ framed (get_or s 4 0) 5 (length s - 6) = cc w.1 in
    let l : f.len ≡ length s - 6 = ap (λ (x : Frame). x.len) is in
    record {
      mark = eqb-true _ _ b.0;
      home = eqb-true _ _ v.0;
      version = eqb-true _ _ v.1;
      declared = eqb-true _ _ d.0;
      function = ap (λ (x : Frame). x.function) is;
      start = ap (λ (x : Frame). x.start) is;
      count = omega arith;
      closed = e.0;
    }
