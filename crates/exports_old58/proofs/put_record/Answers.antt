-- `exports_old58::put_record` meets its contract: 11 where the row is too short, else the five parts, placed one behind the other.
-- Assumes nothing.
use native.Mathlib.Omega.{arith}
use mathlib.Core.Path.{refl, ap, ap₂, ◌∙◌}
use mathlib.Core.List.{List}
use lib.IntN.{ℤ}
use Rattle.old58.specs.Record.{record_of}
use Rattle.exports_parts.specs.Parts.{placed}
use Rattle.exports_parts.proofs.Placing.{as_they_are}
use Rattle.exports_answers.proofs.Placing.{total, parts_told, parts_untold}
use Rattle.exports_old58.specs.Records.{pack_numbers, extremes_numbers, cell_numbers, energy_numbers, setup_numbers, parts_of, sizes}
use borrow.Author.Rules.{rules}
use Rattle.exports_old58.proofs.put_record.Goals as goal

pub returns-then-row-lt-RECORD : goal.returns-then-row-lt-RECORD
unfolding total record_of
returns-then-row-lt-RECORD c =
    let a = c.args in
    let told = parts_untold 1 (parts_of (record_of a.s.now)) sizes (refl, (refl, (refl, (refl, (refl, tt))))) a.row.now (search rules) in
    record { answer = c.told.ensures ∙ told.0; filled = told.1 }

pub returns : goal.returns
unfolding total record_of
returns c =
    let a = c.args in
    let told = parts_told 1 (parts_of (record_of a.s.now)) sizes (refl, (refl, (refl, (refl, (refl, tt))))) a.row.now (omega (arith, c.if-row-lt-RECORD.false)) in
    let packs = as_they_are _ ∙ c.pack_numbers-pack.ensures ∙ ap pack_numbers c.pack_of.ensures in
    let extremal = as_they_are _ ∙ c.extremes_numbers-extremes.ensures ∙ ap extremes_numbers c.extremes_of.ensures in
    let cells = as_they_are _ ∙ c.cell_numbers-cell.ensures ∙ ap cell_numbers c.cell_of.ensures in
    let energies = as_they_are _ ∙ c.energy_numbers-energy.ensures ∙ ap energy_numbers c.energy_of.ensures in
    let setups = as_they_are _ ∙ c.setup_numbers-setup.ensures ∙ ap setup_numbers c.setup_of.ensures in record {
      answer = c.coded.ensures ∙ told.0;
      filled = c.put-5.ensures.filled ∙ ap₂ (placed 26) setups (
          c.put-4.ensures.filled ∙ ap₂ (placed 20) energies (
          c.put-3.ensures.filled ∙ ap₂ (placed 15) cells (
          c.put-2.ensures.filled ∙ ap₂ (placed 7) extremal (
          c.put.ensures.filled ∙ ap (λ (ns : List ℤ). placed 0 ns a.row.now) packs)))) ∙ told.1;
    }
