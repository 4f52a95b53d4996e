-- The settings of a PACE pack, one layout each: its commands, its shape in INFO and what may be written (004, "Parameter Setting" tab; 01, PACE).
-- A setting more is a case more here and an entry more in the list.
-- Assumes nothing.
use Rattle.std.specs.Prelude.{true, false, List, [], ◌∷◌, ℕ, get_or}
use Rattle.layouts_pace.specs.declared.Setting.{Setting}
use Rattle.layouts_pace.specs.declared.Setting.TheVariants.{Overvoltage, Discharge}
use Rattle.layouts_pace.specs.declared.Layout.{Layout}
use Rattle.layouts_pace.specs.declared.Values.{Values}
use Rattle.layouts_pace.specs.declared.Values.TheVariants.{CellOvervoltage, SlowDischarge}

-- every setting
unfoldable pub settings : List Setting
settings = Overvoltage ∷ Discharge ∷ []

-- cell overvoltage, D1 and D0: three amounts, written 2500 to 4500 mV in tens, delay 10 to 50 in fives; slow discharge overcurrent, DB and DA:
-- two amounts, read negated, written 1 to 150 A, delay 5 to 100 in fives (01, PACE)
unfoldable pub layout_of : Setting → Layout
layout_of Overvoltage =
    record {
      reads = 0xD1;
      writes = 0xD0;
      lead = 1;
      amounts = 3;
      negated = false;
      low = 2500;
      high = 4500;
      step = 10;
      delay_low = 10;
      delay_high = 50;
      delay_step = 5;
    }
layout_of Discharge =
    record {
      reads = 0xDB;
      writes = 0xDA;
      lead = 1;
      amounts = 2;
      negated = true;
      low = 1;
      high = 150;
      step = 1;
      delay_low = 5;
      delay_high = 100;
      delay_step = 5;
    }

-- ---- the values by name, and as setting, amounts and delay

abbrev pub setting_of : Values → Setting
setting_of (CellOvervoltage alarm protect release delay) = Overvoltage
setting_of (SlowDischarge alarm protect delay) = Discharge

abbrev pub amounts_of : Values → List ℕ
amounts_of (CellOvervoltage alarm protect release delay) = alarm ∷ protect ∷ release ∷ []
amounts_of (SlowDischarge alarm protect delay) = alarm ∷ protect ∷ []

abbrev pub delay_of : Values → ℕ
delay_of (CellOvervoltage alarm protect release delay) = delay
delay_of (SlowDischarge alarm protect delay) = delay

abbrev pub values_of : Setting → List ℕ → ℕ → Values
values_of Overvoltage a delay = CellOvervoltage (get_or a 0 0) (get_or a 1 0) (get_or a 2 0) delay
values_of Discharge a delay = SlowDischarge (get_or a 0 0) (get_or a 1 0) delay
