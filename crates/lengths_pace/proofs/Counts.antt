-- A count's LENGTH word gives the count back, and a word that has a count is that count's word: the law of the closing number, at 16.
-- Assumes nothing.
use mathlib.Core.Path.{◌≡◌, refl, sym, ap, ap₂, ◌∙◌}
use mathlib.Core.Bool.{Bool, true, false}
use Prim.Native.Nat.{ℕ, ◌+◌, ◌*◌, ◌/◌, ◌%◌, ◌<◌}
use native.Mathlib.Omega.{arith}
use lib.Dec.{lit<}
use Rattle.laws.specs.Choice.{pick}
use Rattle.sums.specs.Sums.{closing, closes}
use Rattle.sums.proofs.Closing.{closing_lt, test_closing, test_only}
use Rattle.std.specs.Prelude.{Some, None}
use Rattle.lengths_pace.specs.Lengths.{low_digits, length_word, count_of}

-- a word is its top digit and the rest: the low digits of the word are those of the rest
module _ (d n : ℕ) (hd : d < 16) (hn : n < 4096) where
  low_same : low_digits (d * 4096 + n) ≡ low_digits n
  low_same =
      let a : (d * 4096 + n) / 256 % 16 ≡ n / 256 % 16 = omega arith in
      let b : (d * 4096 + n) / 16 % 16 ≡ n / 16 % 16 = omega arith in
      let c : (d * 4096 + n) % 16 ≡ n % 16 = omega arith in
      omega arith

  top : (d * 4096 + n) / 4096 % 16 ≡ d
  top = omega arith

  rest : (d * 4096 + n) % 4096 ≡ n
  rest = omega arith

pub count_reads_back : (n : ℕ) → n < 4096 → count_of (length_word n) ≡ Some n
unfolding count_of
count_reads_back n h =
    let d = closing 16 (low_digits n) in
    let hd : d < 16 = closing_lt 16 (lit< tt) (low_digits n) in
    let right : closes 16 (low_digits (length_word n)) (length_word n / 4096 % 16) ≡ true =
    ap₂ (closes 16) (low_same d n hd h) (top d n hd h) ∙ test_closing 16 (lit< tt) (low_digits n) in
    ap₂ (λ (b : Bool) (k : ℕ). pick b (Some k) None) right (rest d n hd h)

whole : (w n : ℕ) → w < 65536 → w % 4096 ≡ n → w / 4096 % 16 * 4096 + n ≡ w
whole w n h k = omega arith

pub word_writes_back : (w n : ℕ) → w < 65536 → count_of w ≡ Some n → length_word n ≡ w
unfolding count_of
word_writes_back w n h e = go (closes 16 (low_digits w) (w / 4096 % 16)) refl e
  where
    go : (b : Bool) → closes 16 (low_digits w) (w / 4096 % 16) ≡ b → pick b (Some (w % 4096)) None ≡ Some n → length_word n ≡ w
    go true t p =
        let k : w % 4096 ≡ n = cc in
        let split : w ≡ w / 4096 * 4096 + w % 4096 = omega arith in
        let low : low_digits w ≡ low_digits n =
        ap low_digits split ∙ low_same (w / 4096) (w % 4096) (omega arith) (omega arith) ∙ ap low_digits k in
        let digit : w / 4096 % 16 ≡ closing 16 (low_digits n) =
        test_only 16 (lit< tt) (low_digits n) (w / 4096 % 16) (omega arith) (ap (λ (x : ℕ). closes 16 x (w / 4096 % 16)) (sym low) ∙ t) in
        ap (λ (x : ℕ). x * 4096 + n) (sym digit) ∙ whole w n h k
    go false t p = absurd cc
