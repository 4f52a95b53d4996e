-- What a writer answers goes by the first refusal that it found for the size of the frame: that refusal, or there is no fault.
-- By the two tests in their order. Assumes nothing.
use mathlib.Core.Path.{◌≡◌, refl, ◌∙◌}
use mathlib.Core.Bool.{Bool, true, false}
use Prim.Native.Nat.{ℕ}
use borrow.Author.Tests.{lt-ltb, leb-false}
use lib.Dec.{leb}
use Rattle.std.specs.Prelude.{Result, Ok, Err}
use Rattle.refusals.specs.declared.Refusal.{Refusal}
use Rattle.refusals.specs.declared.Refusal.TheVariants as refusal
use Rattle.refusals.specs.Writing.{written_as}
use Rattle.orders.specs.Orders.{writing}

pub refused : (fault : Result Unit Refusal) (size places : ℕ) (why : Refusal) → Err why ≡ writing fault (leb size places) → Err why ≡ written_as fault size places
unfolding written_as
refused (Ok sound) size places why e = go (leb size places) refl e
  where
    go : (roomy : Bool) → leb size places ≡ roomy → Err why ≡ writing (Ok tt) roomy → Err why ≡ written_as (Ok tt) size places
    go false r k = let room : why ≡ refusal.Room = cc in rw (lt-ltb places size (leb-false size places r), room)
    go true r k = absurd cc
refused (Err own) size places why e = let same : why ≡ own = cc in rw same

pub faultless : (fault : Result Unit Refusal) (roomy : Bool) → Ok tt ≡ writing fault roomy → fault ≡ Ok tt
faultless (Ok sound) roomy e = refl
faultless (Err own) roomy e = absurd cc
