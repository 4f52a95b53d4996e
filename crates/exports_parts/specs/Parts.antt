-- A part of a row (docs/DECISIONS.md, C and Rust): whether values fit there, and what becomes of a row in which they are placed.
-- Assumes nothing.
use Rattle.std.specs.Prelude.{ℕ, ◌+◌, List, ◌++◌, leb, ℤ, length, take, drop, Result, Ok, Err}
use Rattle.laws.specs.Choice.{pick}
use Rattle.refusals.specs.declared.Refusal.{Refusal}
use Rattle.refusals.specs.declared.Refusal.TheVariants as refusal

-- a signed number as a row holds it
abbrev pub itself : ℤ → ℤ
itself z = z

-- whether so many values from the place `at` on fit into a row of this length
unfoldable pub fit_code : ℕ → ℕ → ℕ → Result Unit Refusal
fit_code at n size = pick (leb (at + n) size) (Ok tt) (Err refusal.Room)

-- values from the place `at` on, all else as it was; where the row ends before, nothing changes
unfoldable pub placed : ℕ → List ℤ → List ℤ → List ℤ
placed at values row = pick (leb (at + length values) (length row)) (take at row ++ values ++ drop (at + length values) row) row
