-- The type of each row of replies 01 to 04 (000, data definitions for 0x01, 0x02 and 0x03, where "18", "132", "l16" and "l32" are misprints of I8,
-- I32, I16 and I32; reply 04 has no table there, and its words are taken as they come). Assumes nothing.
use Rattle.std.specs.Prelude.{ℕ, List, [], ◌∷◌, ltb, eqb, slice_get, Option, Some, None, Result, Err}
use Rattle.std.specs.Option.{ok_or}
use Rattle.laws.specs.Choice.{pick}
use Rattle.refusals.specs.declared.Refusal.{Refusal}
use Rattle.refusals.specs.declared.Refusal.TheVariants as refusal
use Rattle.types_pathfinder.specs.declared.RowType.{RowType}
use Rattle.types_pathfinder.specs.declared.RowType.TheVariants.{U8, I8, U16, I16, U32, I32, Bool, TenMillivolts, Bits, Count}

-- reply 02, setting by setting
unfoldable pub settings : List RowType
settings =
    I16 ∷  -- 0 Balancer Start Voltage
    U8 ∷  -- 1 Delta to Balance
    U8 ∷  -- 2 Max Cells to Balance
    I8 ∷  -- 3 Charge Overtemp Threshold
    I8 ∷  -- 4 Charge Overtemp Recovery
    U8 ∷  -- 5 Charge Overtemp Delay
    I8 ∷  -- 6 Charge Undertemp Threshold
    I8 ∷  -- 7 Charge Undertemp Recovery
    U8 ∷  -- 8 Charge Undertemp Delay
    I8 ∷  -- 9 Discharge Overtemp Threshold
    I8 ∷  -- 10 Discharge Overtemp Recovery
    U8 ∷  -- 11 Discharge Overtemp Delay
    I8 ∷  -- 12 Discharge Undertemp Threshold
    I8 ∷  -- 13 Discharge Undertemp Recovery
    U8 ∷  -- 14 Discharge Undertemp Delay
    U8 ∷  -- 15 Cell Overvoltage Threshold
    U8 ∷  -- 16 Cell Overvoltage Recovery Hysteresis
    U16 ∷  -- 17 Cell Overvoltage Delay
    U8 ∷  -- 18 Cell Undervoltage Threshold
    U8 ∷  -- 19 Cell Undervoltage Recovery Hysteresis
    U16 ∷  -- 20 Cell Undervoltage Delay
    I32 ∷  -- 21 Charge Overcurrent Threshold
    U8 ∷  -- 22 Charge Overcurrent Delay
    I32 ∷  -- 23 Discharge Overcurrent Threshold
    U8 ∷  -- 24 Discharge Overcurrent Delay
    U8 ∷  -- 25 Fault Recovery Time (shared)
    U32 ∷  -- 26 L2 Discharge Overcurrent Threshold
    U8 ∷  -- 27 L2 Discharge Overcurrent Delay
    U8 ∷  -- 28 L2 FET Overtemp Threshold
    U8 ∷  -- 29 L2 FET Overtemp Recovery
    U8 ∷  -- 30 L2 FET Overtemp Delay
    I32 ∷  -- 31 L3 Short Circuit Threshold
    I32 ∷  -- 32 L3 Short Circuit Delay
    U8 ∷  -- 33 L3 Short Circuit Recovery
    I32 ∷  -- 34 PF Charge Overcurrent
    U8 ∷  -- 35 PF Charge Overcurrent Delay
    I32 ∷  -- 36 PF Discharge Overcurrent
    U8 ∷  -- 37 PF Discharge Overcurrent Delay
    I16 ∷  -- 38 PF Cell Overvoltage Threshold
    U8 ∷  -- 39 PF Cell Overvoltage Delay
    I16 ∷  -- 40 PF Cell Undervoltage Threshold
    U8 ∷  -- 41 PF Cell Undervoltage Delay
    U32 ∷  -- 42 Design Capacity
    Bool ∷  -- 43 NTC1 Active
    Bool ∷  -- 44 NTC2 Active
    Bool ∷  -- 45 NTC3 Active
    Bool ∷  -- 46 NTC4 Active
    U32 ∷  -- 47 Predischarge Timeout
    U8 ∷  -- 48 Predischarge Target Percent
    U32 ∷  -- 49 Predischarge Retry Time
    []

-- reply 03; the alarm counts and the reset count have a type of their own (02, request 1)
unfoldable pub infos : List RowType
infos =
    TenMillivolts ∷ I32 ∷ U32 ∷ U32 ∷ U32 ∷ U16 ∷ Bits ∷ Bits ∷ I32 ∷ I32 ∷ U8 ∷ U8 ∷ U8 ∷ U8 ∷ U8 ∷
    U8 ∷ I32 ∷ U8 ∷ U8 ∷ U8 ∷ U8 ∷ I32 ∷ I32 ∷ I32 ∷ I32 ∷ U16 ∷ I32 ∷ I32 ∷ I32 ∷ I32 ∷ I32 ∷ I32 ∷
    Count ∷ Count ∷ Count ∷ Count ∷ Count ∷ Count ∷ Count ∷ Count ∷ Count ∷ Count ∷ Count ∷ Count ∷ Count ∷ Count ∷ U8 ∷ U16 ∷ U16 ∷
    U8 ∷ U32 ∷ U32 ∷ TenMillivolts ∷ []

-- the type of a row of such a list, if there is that row
abbrev pub listed_at : List RowType → ℕ → Option RowType
listed_at rows row = slice_get rows row

-- replies of I32 words, so many: 01 (000) and 04 (docs/DECISIONS.md)
abbrev pub words_at : ℕ → ℕ → Option RowType
words_at count row = pick (ltb row count) (Some I32) None

-- 7 where there is no such reply, 8 where it has no such row
unfoldable pub type_at : ℕ → ℕ → Result RowType Refusal
type_at reply row =
    pick (eqb reply 0x01) (ok_or (words_at 3 row) refusal.Shape)
    (pick (eqb reply 0x02) (ok_or (listed_at settings row) refusal.Shape)
    (pick (eqb reply 0x03) (ok_or (listed_at infos row) refusal.Shape) (pick (eqb reply 0x04) (ok_or (words_at 16 row) refusal.Shape) (Err refusal.Request))))
