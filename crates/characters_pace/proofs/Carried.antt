-- Bytes and the characters that carry them: where each byte stands, that written bytes are read back, and that read characters are written again.
-- Each goes along the list two characters at a time, with the laws of one digit from the lower layer.
-- Assumes nothing.
use mathlib.Core.Path.{◌≡◌, refl, sym, ap₂, ◌∙◌}
use mathlib.Core.Bool.{Bool, true, false, ◌&&◌}
use mathlib.Core.List.{List, [], ◌∷◌, ◌++◌}
use Prim.Native.Nat.{ℕ, zero, suc, ◌+◌, ◌-◌, ◌*◌, ◌/◌, ◌%◌, ◌<◌, ◌≤◌}
use native.Mathlib.Omega.{arith}
use borrow.Author.Tests.{ltb-true, ltb-false, le-ltb}
use lib.Dec.{ltb}
use lib.ListN.{length, get_or, get_or-eq_default}
use Rattle.std.specs.Prelude.{Option, Some, None}
use Rattle.digits.specs.Hexes.{digit_of, byte_of, joined, char_of}
use Rattle.digits.proofs.Characters.{digit_reads_back, digit_small, byte_reads_back, byte_writes_back}
use Rattle.laws.proofs.Ladders.{both}
use Rattle.numbers.proofs.Orders.{Bytes}
use Rattle.std.specs.Option.{is_some}
use Rattle.characters_pace.specs.Characters.{value_in, all_of, all_hex, bytes_in, halves, hexed}
use Rattle.characters_pace.proofs.Halves.{halves_length}

-- ---- places

pub bytes_length : (s : List ℕ) → length (bytes_in s) ≡ length s / 2
unfolding bytes_in
bytes_length [] = refl
bytes_length (h ∷ []) = refl
bytes_length (h ∷ l ∷ s) = omega (arith, bytes_length s)

pub bytes_at_lem : (s : List ℕ) (i : ℕ) → i < length s / 2 → get_or (bytes_in s) i 0 ≡ value_in (byte_of (get_or s (2 * i) 0) (get_or s (2 * i + 1) 0))
unfolding bytes_in
bytes_at_lem [] i h = absurd (omega arith)
bytes_at_lem (a ∷ []) i h = absurd (omega arith)
bytes_at_lem (a ∷ b ∷ s) zero h = refl
bytes_at_lem (a ∷ b ∷ s) (suc i) h =
    let e : 2 * suc i ≡ suc (suc (2 * i)) = omega arith in
    let f : 2 * suc i + 1 ≡ suc (suc (2 * i + 1)) = omega arith in
    bytes_at_lem s i (omega arith) ∙ sym (rw (f, e))

pub bytes_past : (s : List ℕ) (i : ℕ) → length s / 2 ≤ i → get_or (bytes_in s) i 0 ≡ 0
bytes_past s i h = get_or-eq_default (bytes_in s) 0 (omega (arith, bytes_length s))

pub hexed_length : (bs : List ℕ) → length (hexed bs) ≡ 2 * length bs
hexed_length bs = halves_length (λ b. char_of (b / 16)) (λ b. char_of (b % 16)) bs

-- ---- written, then read

pub hexed_all : (bs : List ℕ) → Bytes bs → all_hex (hexed bs) ≡ true
unfolding halves all_of Bytes
hexed_all [] h = refl
hexed_all (b ∷ bs) h =
    let high : digit_of (char_of (b / 16)) ≡ Some (b / 16) = digit_reads_back (b / 16) (omega (arith, h.0)) in
    let low : digit_of (char_of (b % 16)) ≡ Some (b % 16) = digit_reads_back (b % 16) (omega (arith, h.0)) in
    rw (high, low) (hexed_all bs h.1)

pub hexed_reads_back : (bs : List ℕ) → Bytes bs → bytes_in (hexed bs) ≡ bs
unfolding halves bytes_in Bytes
hexed_reads_back [] h = refl
hexed_reads_back (b ∷ bs) h = ap₂ (λ (d : Option ℕ) (l : List ℕ). value_in d ∷ l) (byte_reads_back b h.0) (hexed_reads_back bs h.1)

-- ---- read, then written

-- a digit is a byte
digit_byte : (c : ℕ) → is_some (digit_of c) ≡ true → c < 256
unfolding digit_of
digit_byte c e = go (ltb c 71) refl e
  where
    go : (t : Bool) → ltb c 71 ≡ t → is_some (digit_of c) ≡ true → c < 256
    go true h e = omega (arith, ltb-true c 71 h)
    go false h e =
        let far = ltb-false c 71 h in
        let off : is_some (digit_of c) ≡ false = simp (le-ltb c 48 (omega arith), le-ltb c 58 (omega arith), le-ltb c 65 (omega arith), h) in
        let z : ◌≡◌ {A = ℕ} 0 1 = cc in
        absurd (omega arith)

-- two digits are a byte
pair_byte : (h l : ℕ) → is_some (digit_of h) ≡ true → is_some (digit_of l) ≡ true → (value_in (byte_of h l) < 256) × (byte_of h l ≡ Some (value_in (byte_of h l)))
pair_byte h l eh el = go (digit_of h) (digit_of l) refl refl eh el
  where
    go : (d f : Option ℕ) → digit_of h ≡ d → digit_of l ≡ f → is_some d ≡ true → is_some f ≡ true
        → (value_in (joined d f) < 256) × (joined d f ≡ Some (value_in (joined d f)))
    go (Some x) (Some y) dx fy p q = (omega (arith, digit_small h x (digit_byte h eh) dx, digit_small l y (digit_byte l el) fy), refl)
    go (Some x) None dx fy p q = absurd cc
    go None f dx fy p q = absurd cc

-- what the first two of some digits are
first_two : (h l : ℕ) (s : List ℕ) → all_hex (h ∷ l ∷ s) ≡ true → (is_some (digit_of h) ≡ true) × ((is_some (digit_of l) ≡ true) × (all_hex s ≡ true))
unfolding all_of
first_two h l s e =
    let a = both (is_some (digit_of h)) (is_some (digit_of l) && all_hex s) e in
    let b = both (is_some (digit_of l)) (all_hex s) a.1 in
    (a.0, (b.0, b.1))

pub bytes_small : (s : List ℕ) → all_hex s ≡ true → Bytes (bytes_in s)
unfolding bytes_in Bytes
bytes_small [] e = tt
bytes_small (h ∷ []) e = tt
bytes_small (h ∷ l ∷ s) e =
    let f = first_two h l s e in
    ((pair_byte h l f.0 f.1.0).0, bytes_small s f.1.1)

pub read_writes_back : (s : List ℕ) (k : ℕ) → all_hex s ≡ true → length s ≡ 2 * k → hexed (bytes_in s) ≡ s
unfolding bytes_in halves
read_writes_back [] k e n = refl
read_writes_back (h ∷ []) k e n = absurd (omega arith)
read_writes_back (h ∷ l ∷ s) k e n =
    let f = first_two h l s e in
    let b = pair_byte h l f.0 f.1.0 in
    let chars = byte_writes_back h l (value_in (byte_of h l)) (digit_byte h f.0) (digit_byte l f.1.0) b.1 in
    let half : length s ≡ 2 * (k - 1) = omega arith in
    ap₂ ◌++◌ chars (read_writes_back s (k - 1) f.1.1 half)
