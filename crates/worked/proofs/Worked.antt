-- The worked examples hold of the definitions: antt computes each of them, with the definitions named below unfolded.
-- Assumes nothing.
use mathlib.Core.Path.{◌≡◌, refl}
use mathlib.Core.Bool.{true}
use Rattle.laws.specs.Firsts.{firsts}
use Rattle.checks.specs.Crc.{shift, shifts, crc_from, crc_of}
use Rattle.sums.specs.Sums.{total}
use Rattle.lengths_pace.specs.Lengths.{word_of}
use Rattle.bcd.specs.Decimal.{bcd_byte}
use Rattle.calendar.specs.Dates.{leap, days, days_in, real_date, real_time}
use Rattle.functions_tongzhu.specs.Functions.{kind_of}
use Rattle.frames_written_tongzhu.specs.Writing.{frame_bytes}
use Rattle.requests_tongzhu.specs.Requests.{fault_of}
use Rattle.characters_pace.specs.Characters.{all_of, halves}
use Rattle.layouts_pace.specs.Settings.{layout_of}
use Rattle.writes_pace.specs.Info.{payload}
use Rattle.settings_pace.specs.Reading.{shaped, amount_of, reply_of}
use Rattle.analog_pace.specs.Analog.{tenths_of}
use Rattle.parts_old58.specs.Parts.{two_at, current_of, current_at}
use Rattle.restore_order.specs.Slots.{writes}
use Rattle.worked.specs.Examples.{alike, every, worked}

pub worked_examples_hold : every worked ≡ true
unfolding
    shift shifts crc_from crc_of total word_of
    bcd_byte leap days days_in real_date real_time kind_of frame_bytes fault_of
    all_of halves firsts layout_of payload shaped amount_of reply_of tenths_of
    two_at current_of current_at
    writes
    alike every worked
worked_examples_hold = refl
