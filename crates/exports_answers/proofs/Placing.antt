-- Values placed in a row one part after the other: a part placed where the front ended makes the front longer (`next_part`).
-- Assumes nothing.
use mathlib.Core.Path.{◌≡◌, refl, sym, ap, ap₂, ◌∙◌}
use mathlib.Core.Bool.{Bool, true, false}
use mathlib.Core.List.{List, [], ◌∷◌, ◌++◌, append_assoc, append-nil}
use Prim.Native.Nat.{ℕ, ◌+◌, ◌≤◌, ◌<◌}
use native.Mathlib.Omega.{arith}
use borrow.Author.Tests.{le-leb, lt-leb, lt-ltb, le-ltb, leb-true, leb-false}
use lib.IntN.{ℤ}
use lib.Dec.{leb}
use lib.ListN.{length, drop, length-append, length-drop}
use lib.Seq.{drop-append-add, take_at, drop-drop}
use Rattle.laws.specs.Choice.{pick}
use Rattle.std.specs.Prelude.{Result, Ok, Err}
use Rattle.refusals.specs.declared.Refusal.{Refusal}
use Rattle.refusals.specs.declared.Refusal.TheVariants as refusal
use Rattle.refusals.specs.Numbers.{number_of}
use Rattle.exports_parts.specs.Parts.{fit_code, placed}
use Rattle.exports_answers.specs.Told.{coded_as, room_code, over, behind, joined}

-- ---- parts one after the other

-- past the front, what is left of the old row
tail : (k at n : ℕ) (front old : List ℤ) → length front ≡ at → k ≡ at + n → drop k (front ++ drop at old) ≡ drop (at + n) old
tail k at n front old reach e =
    rw (e, ← reach) (drop-append-add front (drop (length front) old) n ∙ drop-drop n (length front) old)

module _ (front values old : List ℤ) (at n : ℕ) (reach : length front ≡ at) (size : length values ≡ n) where
  pub next_part : at + n ≤ length old → placed at values (front ++ drop at old) ≡ (front ++ values) ++ drop (at + n) old
  unfolding placed
  next_part h =
      let total : length (front ++ drop at old) ≡ length old = length-append front (drop at old) ∙ omega (arith, length-drop at old) in
      let fits : at + length values ≤ length (front ++ drop at old) = omega arith in
      simp (le-leb _ _ fits)
      (rw (take_at front (drop at old) at reach, size)
      (ap (λ (l : List ℤ). front ++ values ++ l) (tail (at + n) at n front old reach (omega arith))))

-- ---- a whole answer

-- too little room: 11, and all as it was
pub no_room : {A : Type 0} (kind : ℕ) (values old : List A) → length old < length values → (number_of refusal.Room ≡ room_code kind (length values) (length old)) × (old ≡ over values old)
unfolding over
no_room kind values old h = simp (lt-ltb _ _ h) (refl, refl)

-- room enough: the kind with the number of values, and the values in front
module _ {A : Type 0} (kind : ℕ) (values old : List A) (h : length values ≤ length old) where
  pub kind_told : coded_as kind (length values) ≡ room_code kind (length values) (length old)
  kind_told = simp (le-ltb _ _ h)

  pub values_over : values ++ drop (length values) old ≡ over values old
  unfolding over
  values_over = simp (le-ltb _ _ h)

front_placed : (values old : List ℤ) → length values ≤ length old → placed 0 values old ≡ over values old
unfolding placed
front_placed values old h =
    let e : 0 + length values ≡ length values = omega arith in rw (e, le-leb _ _ h) (values_over 0 values old h)

none_placed : (values old : List ℤ) → length old < 0 + length values → placed 0 values old ≡ old
unfolding placed
none_placed values old h = simp (lt-leb _ _ h)

-- numbers at the front of a row, by what their writer answers
module _ (kind : ℕ) (values old row : List ℤ) (filled : row ≡ placed 0 values old) where
  pub numbers_refused : (why : Refusal) → Err why ≡ fit_code 0 (length values) (length old)
      → (number_of why ≡ room_code kind (length values) (length old)) × (row ≡ over values old)
  unfolding fit_code
  numbers_refused why told = go (leb (0 + length values) (length old)) refl told
    where
      go : (fits : Bool) → leb (0 + length values) (length old) ≡ fits → ◌≡◌ {A = Result (Unit {0}) Refusal} (Err why) (pick fits (Ok tt) (Err refusal.Room))
          → (number_of why ≡ room_code kind (length values) (length old)) × (row ≡ over values old)
      go true e k = absurd cc
      go false e k =
          let short : length old < 0 + length values = leb-false (0 + length values) (length old) e in
          let none = no_room kind values old (omega arith) in
          let room : why ≡ refusal.Room = cc in
          (ap number_of room ∙ none.0, filled ∙ none_placed values old short ∙ none.1)

  pub numbers_told : Ok tt ≡ fit_code 0 (length values) (length old)
      → (coded_as kind (length values) ≡ room_code kind (length values) (length old)) × (row ≡ over values old)
  unfolding fit_code
  numbers_told told = go (leb (0 + length values) (length old)) refl told
    where
      go : (holds : Bool) → leb (0 + length values) (length old) ≡ holds → ◌≡◌ {A = Result (Unit {0}) Refusal} (Ok tt) (pick holds (Ok tt) (Err refusal.Room))
          → (coded_as kind (length values) ≡ room_code kind (length values) (length old)) × (row ≡ over values old)
      go false e k = absurd cc
      go true e k =
          let fits : length values ≤ length old = omega (arith, leb-true (0 + length values) (length old) e) in
          (kind_told kind values old fits, filled ∙ front_placed values old fits)

-- ---- a whole answer in parts

unfoldable pub total : List ℕ → ℕ
total [] = 0
total (n ∷ sizes) = n + total sizes

-- each part has its size
abbrev pub Sizes : List (List ℤ) → List ℕ → Type 0
Sizes [] [] = Unit {0}
Sizes [] (n ∷ sizes) = ⊥
Sizes (p ∷ ps) [] = ⊥
Sizes (p ∷ ps) (n ∷ sizes) = (length p ≡ n) × Sizes ps sizes

joined_size : (ps : List (List ℤ)) (sizes : List ℕ) → Sizes ps sizes → length (joined ps) ≡ total sizes
unfolding joined total
joined_size [] [] s = refl
joined_size [] (n ∷ sizes) s = absurd s
joined_size (p ∷ ps) [] s = absurd s
joined_size (p ∷ ps) (n ∷ sizes) s = length-append p (joined ps) ∙ ap₂ ◌+◌ s.0 (joined_size ps sizes s.1)

behind_front : (ps : List (List ℤ)) (sizes : List ℕ) → Sizes ps sizes → (front old : List ℤ) (at : ℕ) → length front ≡ at → at + total sizes ≤ length old
    → behind at ps sizes (front ++ drop at old) ≡ front ++ joined ps ++ drop (at + total sizes) old
unfolding joined total
behind_front [] [] s front old at reach h =
    let e : at ≡ at + 0 = omega arith in ap₂ (λ (l : List ℤ) (k : ℕ). l ++ drop k old) (sym (append-nil front)) e
behind_front [] (n ∷ sizes) s front old at reach h = absurd s
behind_front (p ∷ ps) [] s front old at reach h = absurd s
behind_front (p ∷ ps) (n ∷ sizes) s front old at reach h =
    let far : length (front ++ p) ≡ at + n = length-append front p ∙ ap₂ ◌+◌ reach s.0 in
    let e : at + n + total sizes ≡ at + (n + total sizes) = omega arith in
    ap (behind (at + n) ps sizes) (next_part front p old at n reach s.0 (omega arith))
    ∙ behind_front ps sizes s.1 (front ++ p) old (at + n) far (omega arith)
    ∙ ap₂ (λ (l : List ℤ) (k : ℕ). l ++ drop k old) (append_assoc front p (joined ps)) e

module _ (kind : ℕ) (ps : List (List ℤ)) (sizes : List ℕ) (s : Sizes ps sizes) (row : List ℤ) where
  pub parts_told : total sizes ≤ length row
      → (coded_as kind (total sizes) ≡ room_code kind (length (joined ps)) (length row)) × (behind 0 ps sizes row ≡ over (joined ps) row)
  parts_told h =
      let size = joined_size ps sizes s in
      let e : 0 + total sizes ≡ length (joined ps) = omega arith in
      let fits : length (joined ps) ≤ length row = omega arith in (
        ap (coded_as kind) (sym size) ∙ kind_told kind (joined ps) row fits,
        behind_front ps sizes s [] row 0 refl (omega arith) ∙ ap (λ (k : ℕ). joined ps ++ drop k row) e ∙ values_over kind (joined ps) row fits,
      )

  pub parts_untold : length row < total sizes → (number_of refusal.Room ≡ room_code kind (length (joined ps)) (length row)) × (row ≡ over (joined ps) row)
  parts_untold h = no_room kind (joined ps) row (omega (arith, joined_size ps sizes s))
