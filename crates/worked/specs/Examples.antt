-- The worked examples of 01 (Examples, P1 to P12): what the definitions that the contracts cite give, each tested against what 01 says.
-- Assumes nothing.
use Rattle.std.specs.Prelude.{Bool, true, false, not, ◌&&◌, List, [], ◌∷◌, ◌++◌, ℕ, eqb, replicate, ℤ, pos, negsuc, Option, Some, None, Result, Ok, Err, is_ok}
use Rattle.refusals.specs.declared.Refusal.{Refusal}
use Rattle.checks.specs.Crc.{crc_of}
use Rattle.sums.specs.Sums.{total, closing}
use Rattle.lengths_pace.specs.Lengths.{word_of}
use Rattle.calendar.specs.Dates.{real_date}
use Rattle.times_tongzhu.specs.declared.Time.{Time}
use Rattle.requests_tongzhu.specs.declared.Request.{Request}
use Rattle.requests_tongzhu.specs.declared.Request.TheVariants.{Ask, SetTime}
use Rattle.requests_tongzhu.specs.Requests.{frame_for, fault_of}
use Rattle.characters_pace.specs.Characters.{hexed}
use Rattle.layouts_pace.specs.declared.Setting.TheVariants.{Discharge}
use Rattle.layouts_pace.specs.Settings.{amounts_of}
use Rattle.writes_pace.specs.Info.{info_of}
use Rattle.layouts_pace.specs.declared.Values.{Values}
use Rattle.settings_pace.specs.Reading.{reply_of}
use Rattle.analog_pace.specs.Analog.{tenths_of}
use Rattle.parts_old58.specs.Parts.{current_at}
use Rattle.words_pathfinder.specs.Words as words
use Rattle.restore_order.specs.Slots.{eq_z, slots, writes}

-- ---- tests of what a definition gives

-- the same numbers in the same order
unfoldable pub alike : List ℕ → List ℕ → Bool
alike [] [] = true
alike [] (y ∷ t) = false
alike (x ∷ s) [] = false
alike (x ∷ s) (y ∷ t) = eqb x y && alike s t

-- a LENGTH word, and this one
abbrev pub is_word : Option ℕ → ℕ → Bool
is_word (Some w) n = eqb w n
is_word None n = false

-- a request without fault, and its frame is these bytes
abbrev pub is_frame : Request → List ℕ → Bool
is_frame q s = is_ok (fault_of q) && alike (frame_for q) s

-- values, with these amounts, and with these bytes as they are written back
abbrev pub is_setting : Result Values Refusal → List ℕ → List ℕ → Bool
is_setting (Ok v) amounts info = alike (amounts_of v) amounts && alike (info_of v) info
is_setting (Err why) amounts info = false

-- a current, and this one
abbrev pub is_current : Option ℤ → ℤ → Bool
is_current (Some z) v = eq_z z v
is_current None v = false

-- ---- what the examples speak of

-- INFO of the reply to DB in 004: alarm FF97, protect FF92, delay 0A
abbrev pub limits : List ℕ
limits = 0x01 ∷ 0xFF ∷ 0x97 ∷ 0xFF ∷ 0x92 ∷ 0x0A ∷ []

-- 2017-05-12 10:30:50
abbrev pub noted : Time
noted = record { year = 17; month = 5; day = 12; hour = 10; minute = 30; second = 50 }

-- fifty settings that are 0, but for 3 and 4
abbrev pub pair_of : ℕ → ℕ → List ℤ
pair_of a b = replicate 3 (pos 0) ++ (pos a ∷ pos b ∷ replicate 45 (pos 0))

-- ---- the examples

unfoldable pub worked : List Bool
worked =
    -- P1, P2: CRC-16/XMODEM (000, Checksum)
    eqb (crc_of (0x01 ∷ 0x05 ∷ [])) 0x6394
    ∷ eqb (crc_of (0x06 ∷ 0x0E ∷ 0x03 ∷ 0x38 ∷ 0x00 ∷ 0x00 ∷ 0x00 ∷ [])) 0x667E
    -- P3, P4: the frames of function 12 and of setting the time (002)
    ∷ is_frame (Ask 0x12) (0x7F ∷ 0x10 ∷ 0x02 ∷ 0x06 ∷ 0x12 ∷ 0x57 ∷ [])
    ∷ is_frame (SetTime noted) (0x7F ∷ 0x10 ∷ 0x02 ∷ 0x0C ∷ 0x30 ∷ 0x17 ∷ 0x05 ∷ 0x12 ∷ 0x10 ∷ 0x30 ∷ 0x50 ∷ 0x75 ∷ [])
    -- P5: LENGTH for 7A characters; P6: CHKSUM of the characters 25014642E00201 (004)
    ∷ is_word (word_of 0x7A) 0xF07A
    ∷ eqb (closing 65536 (total (hexed (0x25 ∷ 0x01 ∷ 0x46 ∷ 0x42 ∷ 0xE0 ∷ 0x02 ∷ 0x01 ∷ [])))) 0xFD30
    -- P7: discharge limits in the reply to DB, in A, and as they go out again (004)
    ∷ is_setting (reply_of Discharge limits) (105 ∷ 110 ∷ []) (0x01 ∷ 0x00 ∷ 0x69 ∷ 0x00 ∷ 0x6E ∷ 0x0A ∷ [])
    -- P8: currents of the 58-byte monitor, in mA (001)
    ∷ is_current (current_at (0x2B ∷ 0x01 ∷ 0x00 ∷ []) 1) (pos 32000)
    ∷ is_current (current_at (0x2D ∷ 0x01 ∷ 0x00 ∷ []) 1) (negsuc 31999)
    ∷ is_current (current_at (0x2D ∷ 0x00 ∷ 0x00 ∷ []) 1) (pos 0)
    -- P9: a PACE temperature, in tenths of a degree (004)
    ∷ eq_z (tenths_of 0x0B9B) (pos 241)
    -- P10: 29 February in the years 24 and 23
    ∷ real_date 24 2 29
    ∷ not (real_date 23 2 29)
    -- P11: the writes that bring 55, 50 up to 70, 60, and down to 45, 40 (01, Restore)
    ∷ alike (writes slots (pair_of 55 50) (pair_of 70 60)) (3 ∷ 4 ∷ [])
    ∷ alike (writes slots (pair_of 55 50) (pair_of 45 40)) (4 ∷ 3 ∷ [])
    -- P12: a setting's word (000)
    ∷ eq_z (words.word_of 0xEC 0xFF 0xFF 0xFF) (negsuc 19)
    ∷ []

-- every test of a list
unfoldable pub every : List Bool → Bool
every [] = true
every (t ∷ s) = t && every s
