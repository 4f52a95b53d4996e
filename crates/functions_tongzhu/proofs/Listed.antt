-- No function but 30 sets.
-- Assumes nothing.
use mathlib.Core.Path.{◌≡◌}
use Prim.Native.Nat.{ℕ}
use borrow.Author.Tests.{eqb-true}
use Rattle.std.specs.Prelude.{Some, None}
use Rattle.laws.proofs.Ladders.{past, into}
use Rattle.functions_tongzhu.specs.declared.Kind.TheVariants.{Reads, Sets}
use Rattle.functions_tongzhu.specs.Functions.{reading, setting, kind_of}

-- the one function that sets
pub only_setting : (f : ℕ) → Some Sets ≡ kind_of f → f ≡ 0x30
unfolding kind_of
only_setting f h =
    let a = past (reading f) _ _ _ (λ (e : Some Sets ≡ Some Reads). cc) h in
    let b = into (setting f) _ _ _ (λ (e : Some Sets ≡ None). cc) a.1 in
    eqb-true f 0x30 b.0
