-- What a reader says of INFO once it knows whether the characters are bytes, and when they are.
-- Assumes nothing.
use mathlib.Core.Path.{◌≡◌, refl}
use mathlib.Core.Bool.{true}
use mathlib.Core.List.{List}
use Prim.Native.Nat.{ℕ, ◌%◌}
use borrow.Author.Tests.{eq-eqb}
use lib.ListN.{length}
use Rattle.std.specs.Prelude.{Result, Ok, Err}
use Rattle.refusals.specs.declared.Refusal.{Refusal}
use Rattle.characters_pace.specs.Characters.{all_hex, bytes_in, fault_of, faultless, checked_info}

-- digits alone: the count decides
module _ (s : List ℕ) (hex : all_hex s ≡ true) where
  pub fault_none : length s % 2 ≡ 0 → fault_of s ≡ Ok tt
  unfolding fault_of
  fault_none h = rw (hex, eq-eqb _ _ h)

module _ {A : Type 0} (of_bytes : List ℕ → Result A Refusal) (s : List ℕ) where
  pub checked_bytes : fault_of s ≡ Ok tt → of_bytes (bytes_in s) ≡ checked_info of_bytes s
  unfolding checked_info
  checked_bytes h = rw h

  -- what is no refusal was read from the bytes
  pub checked_found : (x : A) → Ok x ≡ checked_info of_bytes s → (fault_of s ≡ Ok tt) × (Ok x ≡ of_bytes (bytes_in s))
  unfolding checked_info
  checked_found x h = go (fault_of s) refl h
    where
      go : (f : Result Unit Refusal) → fault_of s ≡ f → Ok x ≡ faultless f (of_bytes (bytes_in s)) → (fault_of s ≡ Ok tt) × (Ok x ≡ of_bytes (bytes_in s))
      go (Ok sound) e k = (e, k)
      go (Err why) e k = absurd cc

-- a reader that goes on from what another said of the same characters
pub checked_next : {A B : Type 0} (of_bytes : List ℕ → Result A Refusal) (next : Result A Refusal → List ℕ → Result B Refusal)
    → ((w : Refusal) (d : List ℕ) → next (Err w) d ≡ Err w) → (s : List ℕ)
    → next (checked_info of_bytes s) (bytes_in s) ≡ checked_info (λ d. next (of_bytes d) d) s
unfolding checked_info
checked_next {A} {B} of_bytes next same s = go (fault_of s)
  where
    go : (f : Result Unit Refusal) → next (faultless f (of_bytes (bytes_in s))) (bytes_in s) ≡ faultless f (next (of_bytes (bytes_in s)) (bytes_in s))
    go (Ok sound) = refl
    go (Err why) = same why (bytes_in s)
