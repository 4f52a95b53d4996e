-- Sixteen moves of the register in closed form. Both sides are linear, so that they agree on every register if they agree on each of its bits
-- alone: a test that antt computes over the sixteen.
-- Assumes nothing.
use mathlib.Core.Path.{◌≡◌, refl, sym, ap, ap₂, ◌∙◌, subst}
use Prim.Native.Nat.{ℕ, zero, suc, ◌*◌, ◌/◌, ◌%◌, ◌^◌, ◌<◌}
use native.Mathlib.Nat.{mod-lt, zero-mul, one-mul, le_of_suc-le-suc, not-suc-le-zero}
use native.Mathlib.Numerals.{one-add}
use lib.Bits.{bit_xor, xor_self, xor_mod, xor_shr, xor_shifted}
use lib.Dec.{T, eqb, eqb→eq}
use lib.Pow.{pow_pos, split, shr_lt}
use Rattle.laws.specs.Every.{every}
use Rattle.laws.proofs.Every.{both_left, both_right}
use Rattle.checks.specs.Crc.{shift, shifts}
use Rattle.checks.proofs.Xor.{xor_shl, xor_swap}
use Rattle.checks.proofs.Linear.{shifts_xor, shifts_lt}

-- what f makes of a ^ b is what it makes of a, ^ what it makes of b
pub record Linear (f : ℕ → ℕ) : Type 0 where
  pub of_both : (a b : ℕ) → f (bit_xor a b) ≡ bit_xor (f a) (f b)

-- ---- what is linear

same : Linear (λ x. x)
same = record { of_both = λ a b. refl }

down : (k : ℕ) → Linear (λ x. x / 2 ^ k)
down k = record { of_both = λ a b. xor_shr a b k }

low : (k : ℕ) → Linear (λ x. x % 2 ^ k)
low k = record { of_both = λ a b. xor_mod a b k }

up : (k : ℕ) → Linear (λ x. x * 2 ^ k)
up k = record { of_both = λ a b. xor_shl k a b }

moved : (n : ℕ) → Linear (shifts n)
moved n = record { of_both = shifts_xor n }

both : {f g : ℕ → ℕ} → Linear f → Linear g → Linear (λ x. bit_xor (f x) (g x))
both {f} {g} p q =
    record { of_both = λ a b. ap₂ bit_xor (p.of_both a b) (q.of_both a b) ∙ xor_swap (f a) (f b) (g a) (g b) }

then : {f g : ℕ → ℕ} → Linear f → Linear g → Linear (λ x. g (f x))
then {f} {g} p q = record { of_both = λ a b. ap g (p.of_both a b) ∙ q.of_both (f a) (f b) }

-- ---- where two linear functions agree

none_to_none : {f : ℕ → ℕ} → Linear f → f 0 ≡ 0
none_to_none {f} p = p.of_both 0 0 ∙ xor_self (f 0)

-- on each bit below n, and so on each number below 2 ^ n
pub agree : (f g : ℕ → ℕ) → Linear f → Linear g → (n : ℕ) → T (every n (λ k. eqb (f (2 ^ k)) (g (2 ^ k)))) → (x : ℕ) → x < 2 ^ n → f x ≡ g x
unfolding every
agree f g p q zero t zero h = none_to_none p ∙ sym (none_to_none q)
agree f g p q zero t (suc x) h = absurd (not-suc-le-zero (le_of_suc-le-suc h))
agree f g p q (suc n) t x h =
    let parts : bit_xor (x / 2 ^ n * 2 ^ n) (x % 2 ^ n) ≡ x = xor_shifted (x / 2 ^ n) n (x % 2 ^ n) (mod-lt x (pow_pos n)) ∙ split x n in
    let rest = agree f g p q n (both_left (every n (λ k. eqb (f (2 ^ k)) (g (2 ^ k)))) (eqb (f (2 ^ n)) (g (2 ^ n))) t) (x % 2 ^ n) (mod-lt x (pow_pos n)) in
    ap f (sym parts) ∙ p.of_both (x / 2 ^ n * 2 ^ n) (x % 2 ^ n) ∙ ap₂ bit_xor (bit (x / 2 ^ n) (shr_lt 1 n (subst (λ (k : ℕ). x < 2 ^ k) (sym (one-add n)) h))) rest
    ∙ sym (q.of_both (x / 2 ^ n * 2 ^ n) (x % 2 ^ n)) ∙ ap g parts
  where
    alone : f (2 ^ n) ≡ g (2 ^ n)
    alone = eqb→eq (f (2 ^ n)) (g (2 ^ n)) (both_right (every n (λ k. eqb (f (2 ^ k)) (g (2 ^ k)))) (eqb (f (2 ^ n)) (g (2 ^ n))) t)

    bit : (b : ℕ) → b < 2 → f (b * 2 ^ n) ≡ g (b * 2 ^ n)
    bit zero l = rw (zero-mul (2 ^ n)) (none_to_none p ∙ sym (none_to_none q))
    bit (suc zero) l = rw (one-mul (2 ^ n)) alone
    bit (suc (suc b)) l = absurd (not-suc-le-zero (le_of_suc-le-suc (le_of_suc-le-suc l)))

-- ---- the closed form

unfoldable pub mixed : ℕ → ℕ
mixed x = bit_xor (bit_xor (bit_xor x (x / 16)) (bit_xor x (x / 16) / 256)) (x / 2048)

unfoldable pub spread : ℕ → ℕ
spread z = bit_xor (bit_xor z (z % 2048 * 32)) (z % 16 * 4096)

mixed_linear : Linear mixed
unfolding mixed
mixed_linear = both (both (both same (down 4)) (then (both same (down 4)) (down 8))) (down 11)

spread_linear : Linear spread
unfolding spread
spread_linear = both (both same (then (low 11) (up 5))) (then (low 4) (up 12))

pub sixteen_moves : (x : ℕ) → x < 65536 → spread (mixed x) ≡ shifts 8 (shifts 8 x)
unfolding mixed spread every shifts shift
sixteen_moves =
    agree (λ x. spread (mixed x)) (λ x. shifts 8 (shifts 8 x)) (then mixed_linear spread_linear)
    (then (moved 8) (moved 8)) 16 tt

pub spread_lt : (x : ℕ) → x < 65536 → spread (mixed x) < 65536
spread_lt x h = subst (λ (y : ℕ). y < 65536) (sym (sixteen_moves x h)) (shifts_lt 8 (shifts 8 x) (shifts_lt 8 x h))

-- ---- eight moves

unfoldable pub eighth : ℕ → ℕ
eighth x =
    bit_xor
    (bit_xor (bit_xor (x % 256 * 256) (bit_xor (x / 256) (x / 4096))) (bit_xor (x / 256) (x / 4096) % 256 * 32))
    (bit_xor (x / 256) (x / 4096) % 16 * 4096)

eighth_linear : Linear eighth
unfolding eighth
eighth_linear =
    let top : Linear (λ (x : ℕ). bit_xor (x / 256) (x / 4096)) = both (down 8) (down 12) in
    both (both (both (then (low 8) (up 8)) top) (then (then top (low 8)) (up 5))) (then (then top (low 4)) (up 12))

pub eight_moves : (x : ℕ) → x < 65536 → eighth x ≡ shifts 8 x
unfolding eighth every shifts shift
eight_moves = agree eighth (shifts 8) eighth_linear (moved 8) 16 tt
