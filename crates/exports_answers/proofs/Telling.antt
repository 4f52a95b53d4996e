-- An answer told: what a call that puts the values gave and left is what the answer's code and row are to be.
-- Assumes nothing.
use mathlib.Core.Path.{◌≡◌, refl}
use mathlib.Core.List.{List}
use Prim.Native.Nat.{ℕ}
use lib.IntN.{ℤ}
use lib.ListN.{length}
use Rattle.refusals.specs.declared.Refusal.{Refusal}
use Rattle.refusals.specs.Numbers.{number_of}
use Rattle.exports_answers.specs.Told.{Told, numbers, letters, plain, refused, coded_as, code_of, room_code, row_after, text_after, over}

-- an answer where text is lent too: code, row and text at once
abbrev pub Tells : Told → ℕ → List ℤ → List ℤ → List ℕ → List ℕ → Type 0
Tells t n row after text read =
    (n ≡ code_of t (length row) (length text)) × ((after ≡ row_after t row) × (read ≡ text_after t text))

module _ (t : Told) (row : List ℤ) (text : List ℕ) where
  pub tells_numbers : {kind n : ℕ} {values given after : List ℤ} → numbers kind values ≡ t → given ≡ values
      → n ≡ room_code kind (length given) (length row) → after ≡ over given row → Tells t n row after text text
  tells_numbers p e a f = rw (← p, ← e) (a, (f, refl))

  pub tells_letters : {kind n : ℕ} {values read : List ℕ} → letters kind values ≡ t
      → n ≡ room_code kind (length values) (length text) → read ≡ over values text → Tells t n row row text read
  tells_letters p a f = rw (← p) (a, (refl, f))

  pub tells_plain : {kind n m : ℕ} → plain kind n ≡ t → m ≡ coded_as kind n → Tells t m row row text text
  tells_plain p e = rw (← p) (e, (refl, refl))

  pub tells_refused : {r : Refusal} → refused r ≡ t → Tells t (number_of r) row row text text
  tells_refused p = rw (← p) (refl, (refl, refl))

module _ (t : Told) (row : List ℤ) (bytes : ℕ) where
  pub told_numbers : {kind n : ℕ} {values given after : List ℤ} → numbers kind values ≡ t → given ≡ values
      → n ≡ room_code kind (length given) (length row) → after ≡ over given row
      → (n ≡ code_of t (length row) bytes) × (after ≡ row_after t row)
  told_numbers p e a f = rw (← p, ← e) (a, f)

  pub told_refused : {r : Refusal} → refused r ≡ t → ((number_of r) ≡ code_of t (length row) bytes) × (row ≡ row_after t row)
  told_refused p = rw (← p) (refl, refl)
