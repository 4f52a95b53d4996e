-- A table that the code has as a `match`: the rows that lead into an arm, those that it names one by one, or a range without those that any arm
-- names. That they all have what the arm gives is one computed test.
-- Assumes nothing.
use mathlib.Core.Path.{◌≡◌, refl, sym, ap, ◌∙◌}
use mathlib.Core.Bool.{Bool, true, false, ◌||◌}
use mathlib.Core.List.{List, [], ◌∷◌, map}
use mathlib.Core.Logic.{⊎_elim}
use Prim.Native.Nat.{ℕ, zero, suc, ◌+◌, ◌<◌, ◌≤◌}
use native.Mathlib.Nat.{eq-or-lt_of_le}
use native.Mathlib.Omega.{arith}
use lib.ListN.{get_or, drop}
use mir.Val.{has_key}
use types.Run.{OneOf, hit}
use Rattle.laws.specs.Choice.{pick}

-- ---- rows that no arm names

-- as a match has it past its arms: the row is none of what the first names, nor of what the second names, ..
abbrev pub NoneOf : Type 0 → List (List ℕ) → ℕ → Type 0
NoneOf so_far [] row = so_far
NoneOf so_far (keys ∷ more) row = NoneOf (so_far × (OneOf keys row → ⊥)) more row

abbrev pub named : List (List ℕ) → ℕ → Bool
named [] row = false
named (keys ∷ more) row = has_key keys row || named more row

not_among : (keys : List ℕ) (row : ℕ) → (OneOf keys row → ⊥) → has_key keys row ≡ false
not_among keys row h = go (has_key keys row) refl
  where
    go : (b : Bool) → has_key keys row ≡ b → b ≡ false
    go true e = absurd (h (hit keys row (rw e tt)))
    go false e = refl

not_named : (so_far : Type 0) (lists : List (List ℕ)) (row : ℕ) → NoneOf so_far lists row → so_far × (named lists row ≡ false)
not_named so_far [] row h = (h, refl)
not_named so_far (keys ∷ more) row h =
    let g = not_named (so_far × (OneOf keys row → ⊥)) more row h in
    (g.0.0, rw (not_among keys row g.0.1, g.1) refl)

-- ---- what the arm gives

-- so many rows, from one on
abbrev pub from : ℕ → ℕ → List ℕ
from low zero = []
from low (suc n) = low ∷ from (low + 1) n

module _ {A : Type 0} (typed : ℕ → A) (kind : A) where
  -- the test: these rows have it
  abbrev pub Typed : List ℕ → Type 0
  Typed rows = map typed rows ≡ map (λ row. kind) rows

  first : (key : ℕ) (keys : List ℕ) (row : ℕ) → Typed (key ∷ keys) → row ≡ key → kind ≡ typed row
  first key keys row t e = sym (ap typed e ∙ ap (λ (l : List A). get_or l 0 kind) t)

  one_or_later : (key : ℕ) (keys : List ℕ) (row : ℕ) → Typed (key ∷ keys) → OneOf (key ∷ keys) row → kind ≡ typed row
  one_or_later key [] row t h = first key [] row t h
  one_or_later key (next ∷ keys) row t h = ⊎_elim (first key (next ∷ keys) row t) (one_or_later next keys row (ap (drop 1) t)) h

  pub one_of : (keys : List ℕ) (row : ℕ) → Typed keys → OneOf keys row → kind ≡ typed row
  one_of [] row t h = absurd h
  one_of (key ∷ keys) row t h = one_or_later key keys row t h

  -- n rows, one after the other
  pub along : (low n row : ℕ) → Typed (from low n) → low ≤ row → row < low + n → kind ≡ typed row
  along low zero row t a b = absurd (omega arith)
  along low (suc n) row t a b =
      ⊎_elim (λ (e : low ≡ row). first low (from (low + 1) n) row t (sym e))
      (λ (l : low < row). along (low + 1) n row (ap (drop 1) t) (omega arith) (omega arith)) (eq-or-lt_of_le a)

module _ {A : Type 0} (typed : ℕ → A) (kind : A) (lists : List (List ℕ)) where
  -- what an arm names counts as that
  abbrev pub apart : ℕ → A
  apart row = pick (named lists row) kind (typed row)

  pub between : (low n row : ℕ) → Typed apart kind (from low n) → NoneOf Unit lists row → low ≤ row → row < low + n → kind ≡ typed row
  between low n row t h a b = along apart kind low n row t a b ∙ rw (not_named Unit lists row h).1 refl
