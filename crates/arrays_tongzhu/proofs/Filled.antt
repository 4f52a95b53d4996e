-- An array whose front is a part of a list: the part's bytes are placed, and 0 stands past them.
-- Assumes nothing.
use mathlib.Core.Path.{◌≡◌, ap, ◌∙◌}
use mathlib.Core.List.{List, ◌++◌}
use Prim.Native.Nat.{ℕ, ◌+◌, ◌-◌, ◌≤◌}
use native.Mathlib.Omega.{arith}
use lib.ListN.{length, get_or, take, drop, replicate, length-drop}
use lib.Seq.{get_or-drop}
use Rattle.laws.proofs.Firsts.{firsts_same}
use Rattle.laws.proofs.Fronts.{front}
use Rattle.monitor3_tongzhu.specs.Values.{places_of}

pub part_placed : (q : List ℕ) (from n k : ℕ) (part : List ℕ) → from + n ≤ length q → part ≡ take (from + n - from) (drop from q)
    → part ++ drop n (replicate k 0) ≡ places_of k 0 (λ i. get_or q (from + i) 0) n
part_placed q from n k part h e =
    let size : from + n - from ≡ n = omega arith in
    let long : n ≤ length (drop from q) = omega (arith, length-drop from q) in
    let same = firsts_same (λ (i : ℕ). get_or (drop from q) i 0) (λ (i : ℕ). get_or q (from + i) 0) n (λ i b. get_or-drop from q i 0) in
    ap (λ (l : List ℕ). l ++ drop n (replicate k 0)) (e ∙ ap (λ (m : ℕ). take m (drop from q)) size ∙ front (drop from q) n long ∙ same)
