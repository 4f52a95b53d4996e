-- Ten millivolts and millivolts (01, Pathfinder: "rows marked 10mV are handed on in that unit; one call multiplies it by ten").
-- Assumes nothing.
use Rattle.std.specs.Prelude.{pos, ◌*ℤ◌}
use Rattle.units_pathfinder.specs.declared.TenMillivolts.{TenMillivolts}
use Rattle.units_pathfinder.specs.declared.Millivolts.{Millivolts}

-- counts of ten millivolts as millivolts
abbrev pub millivolts_of : TenMillivolts → Millivolts
millivolts_of v = record { 0 = v.0 *ℤ pos 10 }
