-- The commands that are listed (01, PACE, Requests): four of their own, and two for each setting.
-- Assumes nothing.
use Rattle.std.specs.Prelude.{List, [], ◌∷◌, Option, Some, None, ℕ, eqb}
use Rattle.laws.specs.Choice.{pick}
use Rattle.commands_pace.specs.declared.Command.{Command}
use Rattle.commands_pace.specs.declared.Command.TheVariants.{Analog, Warnings, Hardware, Serial, Reads, Writes}
use Rattle.layouts_pace.specs.declared.Setting.{Setting}
use Rattle.layouts_pace.specs.Settings.{settings, layout_of}

-- the command that reads or writes a setting, if one has this code
unfoldable pub by_setting : List Setting → ℕ → Option Command
by_setting [] c = None
by_setting (s ∷ more) c = pick (eqb c (layout_of s).reads) (Some (Reads s)) (pick (eqb c (layout_of s).writes) (Some (Writes s)) (by_setting more c))

-- the command of a code, if it is listed
unfoldable pub command_of : ℕ → Option Command
command_of c =
    pick (eqb c 0x42) (Some Analog)
    (pick (eqb c 0x44) (Some Warnings)
    (pick (eqb c 0xC1) (Some Hardware)
    (pick (eqb c 0xC2) (Some Serial)
    (by_setting settings c))))
