-- What counts that were found say of the bytes.
-- Assumes nothing.
use mathlib.Core.Path.{◌≡◌, ap}
use mathlib.Core.Bool.{Bool, ◌&&◌}
use mathlib.Core.List.{List}
use Prim.Native.Nat.{ℕ, ◌+◌, ◌≤◌}
use native.Mathlib.Omega.{arith}
use borrow.Author.Tests.{leb-true, eqb-true}
use lib.Dec.{leb, eqb}
use lib.ListN.{length, get_or}
use Rattle.std.specs.Prelude.{Ok}
use Rattle.refusals.proofs.Writing.{not_refused}
use Rattle.laws.proofs.Ladders.{into, both}
use Rattle.characters_pace.specs.Characters.{bytes_in, checked_info}
use Rattle.characters_pace.proofs.Checked.{checked_found}
use Rattle.counts_pace.specs.declared.Counts.{Counts}
use Rattle.counts_pace.specs.Counts.{space_of, cells_in, temperatures_in, shaped, counts_of}

pub record Counted (wide : Bool) (rest : ℕ) (d : List ℕ) (n : Counts) : Type 0 where
  pub cells : n.cells ≡ cells_in d
  pub temperatures : n.temperatures ≡ temperatures_in wide d
  pub few : n.cells ≤ 16
  pub cool : n.temperatures ≤ 8
  pub size : length d ≡ space_of wide n.cells + space_of wide n.temperatures + 4 + rest

pub counted : (wide : Bool) (rest address : ℕ) (s : List ℕ) (n : Counts) → Ok n ≡ checked_info (counts_of wide rest address) s → Counted wide rest (bytes_in s) n
unfolding counts_of shaped
counted wide rest address s n h =
    let d = bytes_in s in
    let found = checked_found (counts_of wide rest address) s n h in
    let whole = into (shaped wide rest address d) _ _ _ (not_refused {A = ⊥} n _) found.1 in
    let begins : Bool = eqb (get_or d 0 0) 0 && eqb (get_or d 1 0) address && leb 1 (cells_in d) in
    let f5 =
    both (begins && leb (cells_in d) 16 && leb (temperatures_in wide d) 8) (eqb (length d) (space_of wide (cells_in d) + space_of wide (temperatures_in wide d) + 4 + rest))
    whole.0 in
    let f4 = both (begins && leb (cells_in d) 16) (leb (temperatures_in wide d) 8) f5.0 in
    let f3 = both begins (leb (cells_in d) 16) f4.0 in
    let is : n ≡ record { cells = cells_in d; temperatures = temperatures_in wide d } = cc whole.1 in
    let cs : n.cells ≡ cells_in d = ap (λ (x : Counts). x.cells) is in
    let ts : n.temperatures ≡ temperatures_in wide d = ap (λ (x : Counts). x.temperatures) is in
    record {
      cells = cs;
      temperatures = ts;
      few = omega (arith, leb-true (cells_in d) 16 f3.1);
      cool = omega (arith, leb-true (temperatures_in wide d) 8 f4.1);
      size = rw (cs, ts) (eqb-true _ _ f5.1);
    }
