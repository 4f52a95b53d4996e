-- A record of the 58-byte monitor as a row of 32 numbers, in the order of the bytes (001).
-- Assumes nothing.
use Rattle.std.specs.Prelude.{ℕ, ◌<◌, List, [], ◌∷◌, ℤ, pos, Option, Some, None, Result, Ok, Err}
use Rattle.refusals.specs.declared.Refusal.{Refusal}
use Rattle.parts_old58.specs.declared.Pack.{Pack}
use Rattle.parts_old58.specs.declared.Extremes.{Extremes}
use Rattle.parts_old58.specs.declared.Cell.{Cell}
use Rattle.parts_old58.specs.declared.Energy.{Energy}
use Rattle.parts_old58.specs.declared.Setup.{Setup}
use Rattle.old58.specs.declared.Record.{Record}
use Rattle.exports_answers.specs.Told.{Told, numbers, refused, joined}

-- whether a current is there (1) or missing (0), and the current, 0 where it is missing
abbrev pub known : Option ℤ → ℤ
known (Some z) = pos 1
known None = pos 0

abbrev pub milliamps : Option ℤ → ℤ
milliamps (Some z) = z
milliamps None = pos 0

-- places 0 to 6
abbrev pub pack_numbers : Pack → List ℤ
pack_numbers p =
    pos p.total_mv ∷ known p.current_ma ∷ milliamps p.current_ma ∷ known p.current2_ma
    ∷ milliamps p.current2_ma ∷ known p.current3_ma ∷ milliamps p.current3_ma ∷ []

-- places 7 to 14
abbrev pub extremes_numbers : Extremes → List ℤ
extremes_numbers e =
    pos e.lowest_mv ∷ pos e.lowest_cell ∷ pos e.highest_mv ∷ pos e.highest_cell ∷ e.coldest_c
    ∷ pos e.coldest_cell ∷ e.hottest_c ∷ pos e.hottest_cell ∷ []

-- places 15 to 19
abbrev pub cell_numbers : Cell → List ℤ
cell_numbers c = pos c.cell ∷ pos c.cells ∷ pos c.cell_mv ∷ c.cell_c ∷ pos c.status ∷ []

-- places 20 to 25
abbrev pub energy_numbers : Energy → List ℤ
energy_numbers e =
    pos e.collected_today_wh ∷ pos e.stored_wh ∷ pos e.consumed_today_wh ∷ pos e.soc_percent
    ∷ pos e.collected_kwh ∷ pos e.consumed_kwh ∷ []

-- energies that a row's number can hold
pub record SmallEnergy (e : Energy) : Type 0 where
  pub today : e.collected_today_wh < 2147483648
  pub stored : e.stored_wh < 2147483648
  pub used : e.consumed_today_wh < 2147483648
  pub gathered : e.collected_kwh < 2147483648
  pub consumed : e.consumed_kwh < 2147483648

-- places 26 to 31
abbrev pub setup_numbers : Setup → List ℤ
setup_numbers s =
    pos s.hour ∷ pos s.minute ∷ pos s.capacity_100wh ∷ pos s.vmin_count ∷ pos s.vmax_count ∷ pos s.vbypass_count ∷ []

abbrev pub parts_of : Record → List (List ℤ)
parts_of r =
    pack_numbers r.pack ∷ extremes_numbers r.extremes ∷ cell_numbers r.cell ∷ energy_numbers r.energy ∷ setup_numbers r.setup ∷ []

abbrev pub sizes : List ℕ
sizes = 7 ∷ 8 ∷ 5 ∷ 6 ∷ 6 ∷ []

abbrev pub all_numbers : Record → List ℤ
all_numbers r = joined (parts_of r)

-- 1 a record
abbrev pub told_of : Result Record Refusal → Told
told_of (Ok r) = numbers 1 (all_numbers r)
told_of (Err why) = refused why
