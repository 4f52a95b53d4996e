-- The functions (01, Tongzhu): 11, 12, 14, 15 read; 30 sets the time.
-- Assumes nothing.
use Rattle.std.specs.Prelude.{ℕ, Bool, ◌||◌, eqb, Option, Some, None}
use Rattle.laws.specs.Choice.{pick}
use Rattle.functions_tongzhu.specs.declared.Kind.{Kind}
use Rattle.functions_tongzhu.specs.declared.Kind.TheVariants.{Reads, Sets}

-- a function that reads
abbrev pub reading : ℕ → Bool
reading f = eqb f 0x11 || (eqb f 0x12 || (eqb f 0x14 || eqb f 0x15))

-- the function that sets the time
abbrev pub setting : ℕ → Bool
setting f = eqb f 0x30

-- what it is asked for; a function that is not listed has no kind
unfoldable pub kind_of : ℕ → Option Kind
kind_of f = pick (reading f) (Some Reads) (pick (setting f) (Some Sets) None)
