-- `restore_stored::put_phase` meets its contract: two stores write what is behind the words.
-- Assumes nothing.
use mathlib.Core.Path.{ap, ◌∙◌}
use mathlib.Core.List.{List, [], ◌∷◌, ◌++◌, append-nil}
use Prim.Native.Nat.{ℕ}
use native.Mathlib.Omega.{arith}
use lib.ListN.{get_or, take, drop_of_length-le}
use lib.Seq.{sets, sets-eq}
use Rattle.restore_stored.specs.Stored.{phase_bytes}
use Rattle.restore_stored.proofs.put_phase.Goals as goal

pub returns : goal.returns
returns c =
    let b = c.args.b.now in
    let bytes = phase_bytes c.args.phase in
    ap (λ (l : List ℕ). sets b 400 (get_or l 0 0 ∷ get_or l 1 0 ∷ [])) c.phase_bytes-bytes.ensures
    ∙ sets-eq bytes b 400 (omega arith)
    ∙ ap (λ (l : List ℕ). take 400 b ++ bytes ++ l) (drop_of_length-le b {i = 402} (omega arith)) ∙ append-nil (take 400 b ++ bytes)
