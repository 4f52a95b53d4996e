-- A test of each number of a list: over lists put together, and along a loop.
-- Assumes nothing.
use mathlib.Core.Path.{◌≡◌, refl, sym, ap, ◌∙◌}
use mathlib.Core.Bool.{Bool, true, false, ◌&&◌}
use mathlib.Core.List.{List, [], ◌∷◌, ◌++◌}
use Prim.Native.Nat.{ℕ, zero, suc, ◌+◌, ◌<◌, ◌≤◌}
use native.Mathlib.Omega.{arith}
use lib.ListN.{length, get_or, drop}
use Rattle.laws.proofs.Ladders.{both, and_true}
use Rattle.laws.proofs.Walk.{left_next, left_none}
use Rattle.digits.specs.Hexes.{digit_of}
use Rattle.std.specs.Option.{is_some}
use Rattle.characters_pace.specs.Characters.{all_of, all_hex}

and_assoc : (a b c : Bool) → (a && b) && c ≡ a && (b && c)
and_assoc true b c = refl
and_assoc false b c = refl

module _ (p : ℕ → Bool) where
  pub all_append : (a b : List ℕ) → all_of p a ≡ true → all_of p b ≡ true → all_of p (a ++ b) ≡ true
  unfolding all_of
  all_append [] b h k = k
  all_append (x ∷ a) b h k = let e = both (p x) (all_of p a) h in rw e.0 (all_append a b e.1 k)

  pub all_split : (a b : List ℕ) → all_of p (a ++ b) ≡ true → (all_of p a ≡ true) × (all_of p b ≡ true)
  unfolding all_of
  all_split [] b h = (refl, h)
  all_split (x ∷ a) b h =
      let e = both (p x) (all_of p (a ++ b)) h in
      let f = all_split a b e.1 in
      (rw e.0 f.0, f.1)

  -- a loop along the list that notes the answer so far, w, and goes on
  module _ (s : List ℕ) (w : Bool) (i : ℕ) (inv : w && all_of p (drop i s) ≡ all_of p s) where
    pub all_noted : i < length s → (w && p (get_or s i 0)) && all_of p (drop (i + 1) s) ≡ all_of p s
    unfolding all_of
    all_noted h = and_assoc w (p (get_or s i 0)) (all_of p (drop (i + 1) s)) ∙ sym (ap (λ (l : List ℕ). w && all_of p l) (left_next s i h)) ∙ inv

    -- nothing is left
    pub noted_ended : length s ≤ i → w ≡ all_of p s
    unfolding all_of
    noted_ended h = sym (and_true w) ∙ sym (ap (λ (l : List ℕ). w && all_of p l) (left_none s i h)) ∙ inv

  -- every place has the test's answer
  pub all_each : (s : List ℕ) → ((i : ℕ) → i < length s → p (get_or s i 0) ≡ true) → all_of p s ≡ true
  unfolding all_of
  all_each [] h = refl
  all_each (x ∷ s) h = rw (h 0 (omega arith)) (all_each s (λ i k. h (suc i) (omega arith)))

  pub each_all : (s : List ℕ) → all_of p s ≡ true → (i : ℕ) → i < length s → p (get_or s i 0) ≡ true
  unfolding all_of
  each_all [] e i h = absurd (omega arith)
  each_all (x ∷ s) e zero h = (both (p x) (all_of p s) e).0
  each_all (x ∷ s) e (suc i) h = each_all s (both (p x) (all_of p s) e).1 i (omega arith)

  pub all_is : (s : List ℕ) (b : Bool) → (b ≡ true → (i : ℕ) → i < length s → p (get_or s i 0) ≡ true) → (((i : ℕ) → i < length s → p (get_or s i 0) ≡ true) → b ≡ true)
      → b ≡ all_of p s
  all_is s true to from = sym (all_each s (to refl))
  all_is s false to from = go (all_of p s) refl
    where
      go : (t : Bool) → all_of p s ≡ t → false ≡ t
      go false e = refl
      go true e = from (each_all s e)

-- the parts of digits are digits
pub hex_split : (a b : List ℕ) → all_hex (a ++ b) ≡ true → (all_hex a ≡ true) × (all_hex b ≡ true)
hex_split a b h = all_split (λ c. is_some (digit_of c)) a b h
