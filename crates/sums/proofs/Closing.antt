-- What closes a sum to zero, shown once for every modulus: `closing m t` closes it, and is the only number below m that does.
-- Assumes nothing.
use Rattle.std.proofs.Common.{◌≡◌, ℕ, ◌+◌, ◌-◌, ◌%◌, ◌<◌, true, List, [], ◌∷◌, ◌++◌, sym, ap, ◌∙◌, add-zero, le_of_lt, add_assoc, mod-lt, mod-eq_of_lt, add-sub_of_le, add_comm, zero-add, arith, eq-eqb, eqb-true}
use native.Mathlib.Nat.{mod_self, mod-add-mod, add-mod-mod}
use Rattle.sums.specs.Sums.{total, closing, closes}

pub total_at : (p q : List ℕ) (a : ℕ) → total (p ++ a ∷ q) ≡ a + (total p + total q)
unfolding total
total_at [] q a = omega arith
total_at (x ∷ p) q a = omega (arith, total_at p q a)

module _ (m : ℕ) (pos : 0 < m) where
  pub closing_lt : (t : ℕ) → closing m t < m
  closing_lt t = mod-lt (m - t % m) pos

  pub closing_closes : (t : ℕ) → (t + closing m t) % m ≡ 0
  closing_closes t =
      add-mod-mod t (m - t % m) m ∙ sym (mod-add-mod t m (m - t % m))
      ∙ ap (λ (x : ℕ). x % m) (add-sub_of_le (le_of_lt (mod-lt t pos))) ∙ mod_self m

  pub closing_only : (t c : ℕ) → c < m → (t + c) % m ≡ 0 → c ≡ closing m t
  closing_only t c h e =
      sym (mod-eq_of_lt h) ∙ ap (λ (x : ℕ). x % m) (sym (zero-add c))
      ∙ ap (λ (x : ℕ). (x + c) % m) (sym (ap (λ (x : ℕ). x % m) (add_comm k t) ∙ closing_closes t))
      ∙ mod-add-mod (k + t) m c ∙ ap (λ (x : ℕ). x % m) (add_assoc k t c)
      ∙ sym (add-mod-mod k (t + c) m) ∙ ap (λ (x : ℕ). (k + x) % m) e ∙ ap (λ (x : ℕ). x % m) (add-zero k)
      ∙ mod-eq_of_lt (closing_lt t)
    where
      k : ℕ
      k = closing m t

  -- a summand below m is told by the sum modulo m
  peel : (a r : ℕ) → a < m → ((a + r) % m + closing m r) % m ≡ a
  peel a r h =
      mod-add-mod (a + r) m (closing m r) ∙ ap (λ (x : ℕ). x % m) (add_assoc a r (closing m r))
      ∙ sym (add-mod-mod a (r + closing m r) m) ∙ ap (λ (x : ℕ). (a + x) % m) (closing_closes r) ∙ ap (λ (x : ℕ). x % m) (add-zero a) ∙ mod-eq_of_lt h

  pub mod_cancel : (r a b : ℕ) → a < m → b < m → (a + r) % m ≡ (b + r) % m → a ≡ b
  mod_cancel r a b ha hb e = sym (peel a r ha) ∙ ap (λ (x : ℕ). (x + closing m r) % m) e ∙ peel b r hb

  -- a list in which one number below m is another has another sum modulo m
  pub one_changed : (p q : List ℕ) (a b : ℕ) → a < m → b < m → total (p ++ a ∷ q) % m ≡ total (p ++ b ∷ q) % m → a ≡ b
  one_changed p q a b ha hb e =
      mod_cancel (total p + total q) a b ha hb
      (ap (λ (x : ℕ). x % m) (sym (total_at p q a)) ∙ e ∙ ap (λ (x : ℕ). x % m) (total_at p q b))

  -- the test holds of the closing number, and of no other below m
  pub test_closing : (t : ℕ) → closes m t (closing m t) ≡ true
  test_closing t = eq-eqb ((t + closing m t) % m) 0 (closing_closes t)

  pub test_only : (t c : ℕ) → c < m → closes m t c ≡ true → c ≡ closing m t
  test_only t c h e = closing_only t c h (eqb-true ((t + c) % m) 0 e)
