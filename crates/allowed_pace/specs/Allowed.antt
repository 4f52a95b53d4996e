-- What may be written to a PACE pack: a setting's amounts and delay in the ranges and steps of its layout (004, "Parameter Setting" tab; 01, PACE).
-- Assumes nothing.
use Rattle.std.specs.Prelude.{Bool, ◌&&◌, List, ℕ, ◌-◌, ◌%◌, leb, eqb}
use Rattle.characters_pace.specs.Characters.{all_of}
use Rattle.layouts_pace.specs.declared.Layout.{Layout}
use Rattle.layouts_pace.specs.declared.Values.{Values}
use Rattle.layouts_pace.specs.Settings.{layout_of, setting_of, amounts_of, delay_of}

-- from low to high in steps
abbrev pub in_steps : ℕ → ℕ → ℕ → ℕ → Bool
in_steps low high step n = leb low n && (leb n high && eqb ((n - low) % step) 0)

unfoldable pub allowed : Layout → List ℕ → ℕ → Bool
allowed layout amounts delay =
    all_of (in_steps layout.low layout.high layout.step) amounts
    && in_steps layout.delay_low layout.delay_high layout.delay_step delay

abbrev pub allowed_of : Values → Bool
allowed_of v = allowed (layout_of (setting_of v)) (amounts_of v) (delay_of v)
