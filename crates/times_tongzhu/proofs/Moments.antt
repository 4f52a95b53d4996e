-- Times and their six bytes, there and back: a real time is read back from its bytes, and six bytes that are a real time are those written
-- for it.
-- A real date or time has numbers below 100 only, so none of them is the 255 that stands for no BCD. Assumes nothing.
use mathlib.Core.Path.{◌≡◌, refl, sym, ap, ◌∙◌}
use mathlib.Core.Bool.{Bool, true, false, ◌&&◌}
use mathlib.Core.List.{List}
use Prim.Native.Nat.{ℕ, ◌+◌, ◌-◌, ◌<◌, ◌≤◌}
use native.Mathlib.Omega.{arith}
use borrow.Author.Tests.{lt-ltb, ltb-true, leb-true}
use lib.Dec.{ltb, leb, eqb}
use lib.ListN.{length, get_or, take}
use lib.Seq.{take_all}
use Rattle.std.specs.Prelude.{Option, Some, None}
use Rattle.laws.specs.Choice.{pick}
use Rattle.laws.specs.Every.{every}
use Rattle.laws.proofs.Every.{each, holds}
use Rattle.laws.specs.Firsts.{firsts}
use Rattle.laws.proofs.Fronts.{front}
use Rattle.laws.proofs.Ladders.{both}
use Rattle.bcd.specs.Decimal.{bcd_of, bcd_byte}
use Rattle.calendar.specs.Dates.{leap, days, days_in, real_date, real_time}
use Rattle.bcd.proofs.Tens.{bcd_reads_back, bcd_writes_back}
use Rattle.times_tongzhu.specs.declared.Time.{Time}
use Rattle.times_tongzhu.specs.Times.{plain_of, real, time_in, time_bytes}

-- ---- one byte

number_back : (n : ℕ) → n < 100 → plain_of (bcd_of (plain_of (bcd_byte n))) ≡ n
unfolding bcd_byte
number_back n h =
    let b = bcd_byte n in
    let e : bcd_byte n ≡ Some (plain_of (bcd_byte n)) = rw (lt-ltb n 100 h) in
    ap plain_of (bcd_reads_back n (plain_of (bcd_byte n)) h e)

byte_back : (b : ℕ) → b < 256 → plain_of (bcd_of b) < 100 → plain_of (bcd_byte (plain_of (bcd_of b))) ≡ b
byte_back b h small = go (bcd_of b) refl small
  where
    go : (d : Option ℕ) → bcd_of b ≡ d → plain_of d < 100 → plain_of (bcd_byte (plain_of d)) ≡ b
    go (Some n) e l = ap plain_of (bcd_writes_back b n h e)
    go None e l = absurd (omega arith)

-- ---- real dates and times have small numbers

few : ℕ → Bool
few i = leb (get_or days i 0) 31

days_few : (y m : ℕ) → 1 ≤ m → m ≤ 12 → days_in y m ≤ 31
unfolding days_in few every days
days_few y m low high = go (eqb m 2 && leap y)
  where
    go : (b : Bool) → pick b 29 (get_or days (m - 1) 0) ≤ 31
    go true = omega arith
    go false = leb-true (get_or days (m - 1) 0) 31 (holds (few (m - 1)) (each few 12 tt (m - 1) (omega arith)))

pub record Small (t : Time) : Type 0 where
  pub year : t.year < 100
  pub month : t.month < 100
  pub day : t.day < 100
  pub hour : t.hour < 100
  pub minute : t.minute < 100
  pub second : t.second < 100

pub real_small : (t : Time) → real t ≡ true → Small t
unfolding real_date real_time
real_small t h =
    let y = t.year in
    let m = t.month in
    let a = both (real_date y m t.day) (real_time t.hour t.minute t.second) h in
    let b = both (ltb y 100) _ a.0 in
    let d = both (leb 1 m) _ b.1 in
    let e = both (leb m 12) _ d.1 in
    let f = both (leb 1 t.day) _ e.1 in
    let g = both (ltb t.hour 24) _ a.1 in
    let i = both (ltb t.minute 60) _ g.1 in
    let low = leb-true 1 m d.0 in
    let high = leb-true m 12 e.0 in
    let few-days = days_few (2000 + y) m low high in
    let last = leb-true t.day (days_in (2000 + y) m) f.1 in
    let hours = ltb-true t.hour 24 g.0 in
    let minutes = ltb-true t.minute 60 i.0 in
    let seconds = ltb-true t.second 60 i.1 in
    record {
      year = ltb-true y 100 b.0;
      month = omega arith;
      day = omega arith;
      hour = omega arith;
      minute = omega arith;
      second = omega arith;
    }

-- ---- the six bytes

pub time_back : (t : Time) → real t ≡ true → time_in (time_bytes t) ≡ t
time_back t h =
    let s = real_small t h in
    rw (
      number_back t.year s.year,
      number_back t.month s.month,
      number_back t.day s.day,
      number_back t.hour s.hour,
      number_back t.minute s.minute,
      number_back t.second s.second,
    )

pub bytes_back : (p : List ℕ) → length p ≡ 6 → ((i : ℕ) → get_or p i 0 < 256) → real (time_in p) ≡ true → time_bytes (time_in p) ≡ p
unfolding firsts
bytes_back p six byte h =
    let s = real_small (time_in p) h in
    let whole : take 6 p ≡ p = take_all 6 p (omega arith) in
    let parts = front p 6 (omega arith) in
    rw (
      byte_back _ (byte 0) s.year,
      byte_back _ (byte 1) s.month,
      byte_back _ (byte 2) s.day,
      byte_back _ (byte 3) s.hour,
      byte_back _ (byte 4) s.minute,
      byte_back _ (byte 5) s.second,
    )
    (sym parts ∙ whole)
