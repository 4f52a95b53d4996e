-- The record of the 58-byte monitor, all its parts in the order of the bytes (01, The 58-byte monitor).
-- Assumes nothing.
use Rattle.std.specs.Prelude.{List, ℕ}
use Rattle.parts_old58.specs.Parts.{pack_of, extremes_of, cell_of, energy_of, setup_of}
use Rattle.old58.specs.declared.Record.{Record}

unfoldable pub record_of : List ℕ → Record
record_of s = record { pack = pack_of s; extremes = extremes_of s; cell = cell_of s; energy = energy_of s; setup = setup_of s }
