-- What a walk along the settings finds: where none below n differs and n does, the first write is that of the slot which has its place at n.
-- That the slots stand so is one computed test over the 47 settings (`all_lead`). Assumes nothing.
use mathlib.Core.Path.{◌≡◌, refl, ap, ◌∙◌}
use mathlib.Core.Bool.{Bool, true, false, ◌&&◌, ◌||◌}
use mathlib.Core.List.{List, [], ◌∷◌}
use mathlib.Core.Logic.{⊎_elim}
use Prim.Native.Nat.{ℕ, ◌+◌, ◌<◌}
use native.Mathlib.Nat.{eq-or-lt_of_le}
use native.Mathlib.Omega.{arith}
use lib.IntN.{ℤ}
use lib.Dec.{eqb, ltb}
use borrow.Author.Tests.{eqb-true, ltb-true}
use Rattle.std.specs.Prelude.{Option, Some, None}
use Rattle.laws.specs.Choice.{pick}
use Rattle.laws.specs.Every.{every}
use Rattle.laws.proofs.Every.{every_at}
use Rattle.laws.proofs.Ladders.{both}
use Rattle.restore_order.specs.Slots.{Slot, alone, pair, slots, differs, only_if, upper_first, in_pair, writes}
use Rattle.restore_order.proofs.Integers.{clash}
use Rattle.restore_order.proofs.Members.{or_right, either}
use Rattle.restore_rules.specs.Places.{place_at, slot_for, slot_at}
use Rattle.restore_rules.specs.Rules.{first_of, in_turn}

-- ---- the slots from a setting on

-- without the first ones, all of whose settings are below n
abbrev pub from : ℕ → List Slot → List Slot
from n [] = []
from n (alone m ∷ s) = pick (ltb m n) (from n s) (alone m ∷ s)
from n (pair u l ∷ s) = pick (ltb u n && ltb l n) (from n s) (pair u l ∷ s)

-- they begin with the slot that has its place at n; or with a pair whose second setting n is
abbrev leads : ℕ → List Slot → Option (ℕ × ℕ) → Bool
leads n [] x = false
leads n (alone m ∷ s) (Some q) = false
leads n (alone m ∷ s) None = eqb m n
leads n (pair u l ∷ s) (Some q) = (eqb u q.0 && eqb l q.1) && (eqb u n || eqb l n)
leads n (pair u l ∷ s) None = (eqb u n && ltb l n) || (eqb l n && ltb u n)

all_lead : every 47 (λ n. leads n (from n slots) (place_at n)) ≡ true
unfolding every place_at
all_lead = refl

-- the members of a pair are settings
abbrev small : Option (ℕ × ℕ) → Bool
small (Some q) = ltb q.0 50 && ltb q.1 50
small None = true

all_small : every 47 (λ n. small (place_at n)) ≡ true
unfolding every place_at
all_small = refl

pub members_below : (n : ℕ) (q : ℕ × ℕ) → n < 47 → place_at n ≡ Some q → (q.0 < 50) × (q.1 < 50)
members_below n q h e =
    let b = both (ltb q.0 50) (ltb q.1 50) (rw e at (every_at 47 (λ m. small (place_at m)) all_small n h)) in
    (ltb-true q.0 50 b.0, ltb-true q.1 50 b.1)

-- ---- the first write

module _ (p w : List ℤ) where
  -- no setting below n differs
  abbrev pub Same : ℕ → Type 0
  Same n = (m : ℕ) → m < n → differs p w m ≡ false

  pub none_below : Same 0
  none_below m h = absurd (omega arith)

  pub one_more_same : (n : ℕ) → Same n → differs p w n ≡ false → Same (n + 1)
  one_more_same n same e m h = ⊎_elim (λ (q : m ≡ n). rw q e) (λ (l : m < n). same m l) (eq-or-lt_of_le (omega arith))

  after_one : (n m : ℕ) (s : List Slot) (b : Bool) → Same n → ltb m n ≡ b → writes s p w ≡ writes (from n s) p w
      → only_if (differs p w m) m (writes s p w) ≡ writes (pick b (from n s) (alone m ∷ s)) p w
  unfolding writes
  after_one n m s true same h later = rw (same m (ltb-true m n h)) later
  after_one n m s false same h later = refl

  after_two : (n u l : ℕ) (s : List Slot) (b : Bool) → Same n → (ltb u n && ltb l n) ≡ b → writes s p w ≡ writes (from n s) p w
      → in_pair (upper_first p w u) (differs p w u) (differs p w l) u l (writes s p w) ≡ writes (pick b (from n s) (pair u l ∷ s)) p w
  unfolding writes
  after_two n u l s true same h later =
      let b = both (ltb u n) (ltb l n) h in
      rw (same u (ltb-true u n b.0), same l (ltb-true l n b.1)) (neither (upper_first p w u) ∙ later)
    where
      neither : (first : Bool) → in_pair first false false u l (writes s p w) ≡ writes s p w
      neither true = refl
      neither false = refl
  after_two n u l s false same h later = refl

  pub skipped : (n : ℕ) → Same n → (s : List Slot) → writes s p w ≡ writes (from n s) p w
  unfolding writes
  skipped n same [] = refl
  skipped n same (alone m ∷ s) = after_one n m s (ltb m n) same refl (skipped n same s)
  skipped n same (pair u l ∷ s) = after_two n u l s (ltb u n && ltb l n) same refl (skipped n same s)

  module _ (n : ℕ) (same : Same n) (changed : differs p w n ≡ true) where
    -- of a pair only one member differs
    upper_alone : (first : Bool) (u l : ℕ) (rest : List ℕ) → first_of (in_pair first true false u l rest) ≡ Some u
    upper_alone true u l rest = refl
    upper_alone false u l rest = refl

    lower_alone : (first : Bool) (u l : ℕ) (rest : List ℕ) → first_of (in_pair first false true u l rest) ≡ Some l
    lower_alone true u l rest = refl
    lower_alone false u l rest = refl

    -- one or both do, so that what comes after the pair does not matter
    pair_first : (first x y : Bool) (u l : ℕ) (rest : List ℕ) → (x || y) ≡ true → first_of (in_pair first x y u l rest) ≡ first_of (in_pair first x y u l [])
    pair_first true true y u l rest e = refl
    pair_first true false true u l rest e = refl
    pair_first true false false u l rest e = clash e refl
    pair_first false x true u l rest e = refl
    pair_first false true false u l rest e = refl
    pair_first false false false u l rest e = clash e refl

    one_differs : (u l : ℕ) → (eqb u n || eqb l n) ≡ true → (differs p w u || differs p w l) ≡ true
    one_differs u l e =
        ⊎_elim (λ h. rw (eqb-true u n h, changed)) (λ h. rw (eqb-true l n h, changed) (or_right (differs p w u) true refl)) (either (eqb u n) (eqb l n) e)

    found : (s : List Slot) (x : Option (ℕ × ℕ)) → leads n s x ≡ true → first_of (writes s p w) ≡ first_of (writes (slot_for n x) p w)
    unfolding writes
    found [] x e = clash e refl
    found (alone m ∷ s) (Some q) e = clash e refl
    found (alone m ∷ s) None e = rw (eqb-true m n e, changed)
    found (pair u l ∷ s) (Some q) e =
        let c = both (eqb u q.0 && eqb l q.1) (eqb u n || eqb l n) e in
        let d = both (eqb u q.0) (eqb l q.1) c.0 in
        rw (← eqb-true u q.0 d.0, ← eqb-true l q.1 d.1)
        (pair_first (upper_first p w u) (differs p w u) (differs p w l) u l (writes s p w) (one_differs u l c.1))
    found (pair u l ∷ s) None e =
        ⊎_elim
        (λ (h : (eqb u n && ltb l n) ≡ true).
        let c = both (eqb u n) (ltb l n) h in
        rw (eqb-true u n c.0, changed, same l (ltb-true l n c.1)) (upper_alone (upper_first p w n) n l (writes s p w)))
        (λ (h : (eqb l n && ltb u n) ≡ true).
        let c = both (eqb l n) (ltb u n) h in
        rw (eqb-true l n c.0, changed, same u (ltb-true u n c.1)) (lower_alone (upper_first p w u) u n (writes s p w)))
        (either (eqb u n && ltb l n) (eqb l n && ltb u n) e)

  pub first_found : (n : ℕ) → n < 47 → Same n → differs p w n ≡ true → first_of (writes slots p w) ≡ first_of (writes (slot_at n) p w)
  first_found n h same changed =
      ap first_of (skipped n same slots)
      ∙ found n same changed (from n slots) (place_at n) (every_at 47 (λ m. leads m (from m slots) (place_at m)) all_lead n h)

  pub none_found : Same 47 → first_of (writes slots p w) ≡ None
  unfolding writes
  none_found same = ap first_of (skipped 47 same slots)

  -- ---- one slot

  -- of a pair the members in turn, the upper one first or the lower one
  pub first_of_pair : (u l : ℕ) (b : Bool) → upper_first p w u ≡ b → first_of (pick b (in_turn p w u l) (in_turn p w l u)) ≡ first_of (writes (pair u l ∷ []) p w)
  unfolding writes
  first_of_pair u l b e = rw e

  -- a setting by itself, asked twice
  pub first_of_one : (n : ℕ) → first_of (in_turn p w n n) ≡ first_of (writes (alone n ∷ []) p w)
  unfolding writes
  first_of_one n = go (differs p w n)
    where
      go : (d : Bool) → first_of (only_if d n (only_if d n [])) ≡ first_of (only_if d n [])
      go true = refl
      go false = refl
