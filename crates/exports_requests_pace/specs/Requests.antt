-- PACE requests for a language that shares no enum: a setting by its numbers. Assumes nothing.
use Rattle.std.specs.Prelude.{ℕ}
use Rattle.layouts_pace.specs.declared.Values.TheVariants.{CellOvervoltage, SlowDischarge}
use Rattle.requests_pace.specs.declared.Request.{Request}
use Rattle.requests_pace.specs.declared.Request.TheVariants.{Set}

abbrev pub overvoltage : ℕ → ℕ → ℕ → ℕ → ℕ → Request
overvoltage address alarm protect release delay = Set address (CellOvervoltage alarm protect release delay)

abbrev pub discharge : ℕ → ℕ → ℕ → ℕ → Request
discharge address alarm protect delay = Set address (SlowDischarge alarm protect delay)
