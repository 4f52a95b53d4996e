-- Hex digits and bytes that were written are read back, and what was read is written again: tests that antt computes over the 16 digits and the 256 characters.
-- Assumes nothing.
use mathlib.Core.Path.{◌≡◌, refl, ap, ap₂, ◌∙◌}
use mathlib.Core.Bool.{Bool, true, false, ◌&&◌}
use mathlib.Core.List.{[], ◌∷◌}
use Prim.Native.Nat.{ℕ, ◌+◌, ◌*◌, ◌/◌, ◌%◌, ◌<◌}
use native.Mathlib.Omega.{arith}
use borrow.Author.Tests.{ltb-true}
use lib.Dec.{T, ltb, eqb, eqb→eq}
use Rattle.laws.specs.Every.{every}
use Rattle.laws.proofs.Every.{each, both_left, both_right, holds}
use Rattle.std.specs.Prelude.{Option, Some, None}
use Rattle.digits.specs.Hexes.{digit_of, joined, byte_of, char_of, chars_of}

-- the test that a reading is the number n
is_value : Option ℕ → ℕ → Bool
is_value (Some v) n = eqb v n
is_value None n = false

is : (d : Option ℕ) (n : ℕ) → T (is_value d n) → d ≡ Some n
unfolding is_value
is (Some v) n t = ap Some (eqb→eq v n t)
is None n t = absurd t

back : ℕ → Bool
back n = is_value (digit_of (char_of n)) n

pub digit_reads_back : (n : ℕ) → n < 16 → digit_of (char_of n) ≡ Some n
unfolding back is_value every digit_of
digit_reads_back n h = is (digit_of (char_of n)) n (each back 16 tt n h)

-- the test that what the character c stands for is below 16 and has c for its character
right : Option ℕ → ℕ → Bool
right (Some v) c = ltb v 16 && eqb (char_of v) c
right None c = true

same : ℕ → Bool
same c = right (digit_of c) c

fact : (c v : ℕ) → c < 256 → digit_of c ≡ Some v → T (ltb v 16 && eqb (char_of v) c)
unfolding same right every digit_of
fact c v h e = rw e at (each same 256 tt c h)

pub digit_small : (c v : ℕ) → c < 256 → digit_of c ≡ Some v → v < 16
digit_small c v h e = ltb-true v 16 (holds (ltb v 16) (both_left (ltb v 16) (eqb (char_of v) c) (fact c v h e)))

pub digit_writes_back : (c v : ℕ) → c < 256 → digit_of c ≡ Some v → char_of v ≡ c
digit_writes_back c v h e = eqb→eq (char_of v) c (both_right (ltb v 16) (eqb (char_of v) c) (fact c v h e))

-- a byte that was written is read back
pub byte_reads_back : (b : ℕ) → b < 256 → byte_of (char_of (b / 16)) (char_of (b % 16)) ≡ Some b
byte_reads_back b h =
    let e : b / 16 * 16 + b % 16 ≡ b = omega arith in
    ap₂ joined (digit_reads_back (b / 16) (omega arith)) (digit_reads_back (b % 16) (omega arith)) ∙ ap Some e

-- two characters that were read as a byte are the two written for it
pub byte_writes_back : (h l b : ℕ) → h < 256 → l < 256 → byte_of h l ≡ Some b → chars_of b ≡ h ∷ l ∷ []
byte_writes_back h l b hh hl e = go (digit_of h) (digit_of l) refl refl e
  where
    go : (d f : Option ℕ) → digit_of h ≡ d → digit_of l ≡ f → joined d f ≡ Some b → chars_of b ≡ h ∷ l ∷ []
    go (Some x) (Some y) dx fy j =
        let sx = digit_small h x hh dx in
        let sy = digit_small l y hl fy in
        let whole : x * 16 + y ≡ b = cc in
        let hx : b / 16 ≡ x = omega arith in
        let ly : b % 16 ≡ y = omega arith in
        ap₂ (λ (p q : ℕ). p ∷ q ∷ []) (ap char_of hx ∙ digit_writes_back h x hh dx) (ap char_of ly ∙ digit_writes_back l y hl fy)
    go (Some x) None dx fy j = absurd cc
    go None f dx fy j = absurd cc
