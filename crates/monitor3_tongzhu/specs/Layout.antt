-- The fields of function 12 (002, 6.1.3; 01, Tongzhu), wherever in a payload they begin. The definitions take what stands from there on.
-- Assumes nothing.
use Rattle.std.specs.Prelude.{ℕ, ◌+◌, ◌*◌, ◌/◌, ◌≤◌, ◌≡◌, Bool, ◌&&◌, List, pos, length, get_or, drop, replicate, leb, eqb, Option, Some, None, Result, Ok, Err}
use Rattle.laws.specs.Choice.{pick}
use Rattle.refusals.specs.declared.Refusal.{Refusal}
use Rattle.refusals.specs.declared.Refusal.TheVariants as refusal
use Rattle.monitor3_tongzhu.specs.declared.Counts.{Counts}
use Rattle.monitor3_tongzhu.specs.declared.Monitor3.{Monitor3}
use Rattle.monitor3_tongzhu.specs.declared.Lists.{Lists}
use Rattle.monitor3_tongzhu.specs.declared.Places.{Places}
use Rattle.monitor3_tongzhu.specs.Values.{number_at, current_at, temperature_at, status_at, places_of}

-- bytes of the balanced state: c / 8 rounded up (6.1.3.5)
abbrev pub flag_bytes : ℕ → ℕ
flag_bytes c = (c + 7) / 8

-- c is 1 to 32, t and m are 0 to 16, and there are 16 + 2c + b + t + m bytes
abbrev pub shaped : ℕ → ℕ → ℕ → ℕ → Bool
shaped n c t m =
    leb 1 c && (leb c 32 && (leb t 16 && (leb m 16 && eqb n (16 + 2 * c + flag_bytes c + t + m))))

-- the counts: c after status and current, t after cells and balanced state, m after the cell temperatures
abbrev pub counts_of : ℕ → ℕ → ℕ → Counts
counts_of c t m = record { cells = c; flags = flag_bytes c; sensors = t; mosfets = m }

abbrev pub judged_shape : ℕ → ℕ → ℕ → ℕ → Option Counts
judged_shape n c t m = pick (shaped n c t m) (Some (counts_of c t m)) None

abbrev pub with_cells : List ℕ → ℕ → ℕ → Option Counts
with_cells q c t = judged_shape (length q) c t (get_or q (8 + 2 * c + flag_bytes c + t) 0)

unfoldable pub shape_of : List ℕ → Option Counts
shape_of q = with_cells q (get_or q 6 0) (get_or q (7 + 2 * get_or q 6 0 + flag_bytes (get_or q 6 0)) 0)

-- what holds of the counts where there are n bytes in all
pub record Shaped (n : ℕ) (k : Counts) : Type 0 where
  pub few_cells : k.cells ≤ 32
  pub few_flags : k.flags ≤ 4
  pub few_sensors : k.sensors ≤ 16
  pub few_mosfets : k.mosfets ≤ 16
  pub total : n ≡ 16 + 2 * k.cells + k.flags + k.sensors + k.mosfets

-- where the number of cycles stands
abbrev pub tail_of : Counts → ℕ
tail_of k = 9 + 2 * k.cells + k.flags + k.sensors + k.mosfets

-- the numbers, in the order of 6.1.3
unfoldable pub monitor3_of : List ℕ → Counts → Monitor3
monitor3_of q k = record {
  status = status_at q 0;
  current = current_at q 4;
  cells = k.cells;
  sensors = k.sensors;
  mosfets = k.mosfets;
  cycles = number_at q (tail_of k);
  remaining = number_at q (tail_of k + 2);
  capacity = number_at q (tail_of k + 4);
  switch = get_or q (tail_of k + 6) 0;
}

-- a payload of the wrong shape is 8
abbrev pub found_in : List ℕ → Option Counts → Result Monitor3 Refusal
found_in q (Some k) = Ok (monitor3_of q k)
found_in q None = Err refusal.Shape

unfoldable pub found_of : List ℕ → Result Monitor3 Refusal
found_of q = found_in q (shape_of q)

-- the numbers of the fields that stand in the payload p from the place `at` to its end
unfoldable pub found_at : List ℕ → ℕ → Result Monitor3 Refusal
found_at p at = found_of (drop at p)

-- ---- the lists

-- their places: cells after c, balanced state after them, temperatures after t and m
abbrev pub places_by : ℕ → Counts → Places
places_by at k = record {
  cells_from = at + 7;
  cells = k.cells;
  balance_from = at + 7 + 2 * k.cells;
  balance = k.flags;
  sensors_from = at + 7 + 2 * k.cells + k.flags + 1;
  sensors = k.sensors;
  mosfets_from = at + 7 + 2 * k.cells + k.flags + 1 + k.sensors + 1;
  mosfets = k.mosfets;
}

-- no values
abbrev pub nowhere : Places
nowhere = record {
  cells_from = 0;
  cells = 0;
  balance_from = 0;
  balance = 0;
  sensors_from = 0;
  sensors = 0;
  mosfets_from = 0;
  mosfets = 0;
}

abbrev pub places_in : ℕ → Option Counts → Places
places_in at (Some k) = places_by at k
places_in at None = nowhere

-- where the lists of the fields stand in p
unfoldable pub places_at : List ℕ → ℕ → Places
places_at p at = places_in at (shape_of (drop at p))

-- what holds of places in n bytes
pub record Within (n : ℕ) (w : Places) : Type 0 where
  pub few_cells : w.cells ≤ 32
  pub few_flags : w.balance ≤ 4
  pub few_sensors : w.sensors ≤ 16
  pub few_mosfets : w.mosfets ≤ 16
  pub cells_lie : w.cells_from + 2 * w.cells ≤ n
  pub flags_lie : w.balance_from + w.balance ≤ n
  pub sensors_lie : w.sensors_from + w.sensors ≤ n
  pub mosfets_lie : w.mosfets_from + w.mosfets ≤ n

-- the lists at these places of p
unfoldable pub lists_in : List ℕ → Places → Lists
lists_in p w = record {
  cells = places_of 32 0 (λ i. number_at p (w.cells_from + 2 * i)) w.cells;
  balance = places_of 4 0 (λ i. get_or p (w.balance_from + i) 0) w.balance;
  sensors = places_of 16 (pos 0) (λ i. temperature_at p (w.sensors_from + i)) w.sensors;
  mosfets = places_of 16 (pos 0) (λ i. temperature_at p (w.mosfets_from + i)) w.mosfets;
}

-- the lists of the fields that stand in the payload p from the place `at` to its end; where these are of the wrong shape, all is 0
abbrev pub lists_at : List ℕ → ℕ → Lists
lists_at p at = lists_in p (places_at p at)

-- all places 0
abbrev pub no_lists : Lists
no_lists = record {
  cells = replicate 32 0;
  balance = replicate 4 0;
  sensors = replicate 16 (pos 0);
  mosfets = replicate 16 (pos 0);
}
