-- Single values at a place of a payload, and a list of them in an array (002, 2 and 6.1.3; 01, Tongzhu: numbers low byte first).
-- Assumes nothing.
use Rattle.std.specs.Prelude.{ℕ, ◌+◌, List, [], ◌∷◌, ◌++◌, ℤ, get_or, drop, replicate}
use Rattle.laws.specs.Firsts.{firsts}
use Rattle.numbers.specs.declared.Order.TheVariants.{LowFirst}
use Rattle.numbers.specs.Bytes.{number_of}
use Rattle.signs.specs.Signed.{signed_of}
use Rattle.monitor3_tongzhu.specs.declared.Status.{Status}

-- a number of two bytes
abbrev pub number_at : List ℕ → ℕ → ℕ
number_at p i = number_of LowFirst (get_or p i 0 ∷ get_or p (i + 1) 0 ∷ [])

-- a current: signed, charging positive (6.1.3.2)
abbrev pub current_at : List ℕ → ℕ → ℤ
current_at p i = signed_of 15 (number_at p i)

-- a temperature: a signed byte (6.1.3.7, 6.1.3.9)
abbrev pub temperature_at : List ℕ → ℕ → ℤ
temperature_at p i = signed_of 7 (get_or p i 0)

-- the battery status: four bytes (6.1.3.1)
abbrev pub status_at : List ℕ → ℕ → Status
status_at p i = record {
  first = get_or p i 0;
  second = get_or p (i + 1) 0;
  third = get_or p (i + 2) 0;
  fourth = get_or p (i + 3) 0;
}

-- an array of k places that held z, filled from the front with what f gives at 0 to n - 1 (01: array places past a count 0)
abbrev pub places_of : {A : Type 0} → ℕ → A → (ℕ → A) → ℕ → List A
places_of k z f n = firsts f n ++ drop n (replicate k z)
