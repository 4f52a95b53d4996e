-- The bytes that the writer stores, as the definition has them: the part that it lends holds the layout's amounts.
-- Assumes nothing.
use mathlib.Core.Path.{◌≡◌, refl, sym, ap, ap₂, ◌∙◌}
use mathlib.Core.List.{List, [], ◌∷◌, ◌++◌}
use Prim.Native.Nat.{ℕ, ◌+◌, ◌-◌, ◌*◌, ◌/◌, ◌%◌, ◌≤◌}
use native.Mathlib.Omega.{arith}
use borrow.Rule.Slice.PartMut.{put_mid}
use lib.Dec.{lit<}
use lib.ListN.{length, take, drop, set, replicate, length-append}
use Rattle.laws.proofs.Filling.{one_more, part_more, front_taken}
use Rattle.characters_pace.proofs.Halves.{halves_length}
use Rattle.writes_pace.specs.declared.Info.{Info}
use Rattle.layouts_pace.specs.declared.Layout.{Layout}
use Rattle.layouts_pace.specs.declared.Values.{Values}
use Rattle.layouts_pace.specs.Settings.{layout_of, setting_of, amounts_of, delay_of}
use Rattle.writes_pace.specs.Info.{pairs_of, payload, info_of, info_record}
use Rattle.layouts_pace.proofs.Settings.{few, amounts_count}

module _ (v : Values) (layout : Layout) (r : layout ≡ layout_of (setting_of v)) where
  pub layout_few : layout.amounts ≤ 3
  layout_few = rw r (few (setting_of v))

  counted : length (amounts_of v) ≡ layout.amounts
  counted = amounts_count v ∙ sym (ap (λ (q : Layout). q.amounts) r)

  -- the part that is lent holds the amounts
  amounts_lent : (a : List ℕ) → a ≡ amounts_of v ++ drop (length (amounts_of v)) (replicate 3 0) → take (layout.amounts - 0) a ≡ amounts_of v
  amounts_lent a e =
      ap (take (layout.amounts - 0)) e ∙ front_taken layout.amounts (drop (length (amounts_of v)) (replicate 3 0)) (amounts_of v) counted

  info_length : length (info_of v) ≡ 2 * layout.amounts + 2
  unfolding payload
  info_length =
      let a = length-append (pairs_of (amounts_of v)) (delay_of v ∷ []) in
      let b = halves_length (λ n. n / 256 % 256) (λ n. n % 256) (amounts_of v) in
      omega (arith, counted)

  -- lead byte, amounts and delay stored one after another
  pub info_is : (a ys : List ℕ) (d : ℕ) → a ≡ amounts_of v ++ drop (length (amounts_of v)) (replicate 3 0) → ys ≡ pairs_of (take (layout.amounts - 0) a) → d ≡ delay_of v
      → ◌≡◌ {A = Info}
      (record { command = layout.writes; bytes = set (put_mid 1 (2 * layout.amounts + 1 - 1) (set (replicate 8 0) 0 layout.lead) ys) (2 * layout.amounts + 1) d; len = 2 * layout.amounts + 2 })
      (info_record v)
  unfolding payload
  info_is a ys d e y g =
      let zeros : List ℕ = replicate 8 0 in
      let n = layout.amounts in
      let small = layout_few in
      let pairs : ys ≡ pairs_of (amounts_of v) = y ∙ ap pairs_of (amounts_lent a e) in
      let size : length ys ≡ 2 * n = ap length pairs ∙ omega (arith, halves_length (λ n. n / 256 % 256) (λ n. n % 256) (amounts_of v), counted) in
      let at : 1 + (2 * n + 1 - 1) ≡ 2 * n + 1 = omega arith in
      let past : 2 * n + 1 + 1 ≡ length (info_of v) = omega (arith, info_length) in
      let lead : layout.lead ≡ (layout_of (setting_of v)).lead = ap (λ (q : Layout). q.lead) r in
      let code : layout.writes ≡ (layout_of (setting_of v)).writes = ap (λ (q : Layout). q.writes) r in
      let bytes : set (put_mid 1 (2 * n + 1 - 1) (set zeros 0 layout.lead) ys) (2 * n + 1) d ≡ info_of v ++ drop (length (info_of v)) zeros =
      ap (λ (l : List ℕ). set (put_mid 1 (2 * n + 1 - 1) l ys) (2 * n + 1) d) (one_more [] zeros 0 layout.lead 0 refl (lit< tt))
      ∙ ap (λ (l : List ℕ). set l (2 * n + 1) d) (part_more (layout.lead ∷ []) zeros 1 (2 * n + 1 - 1) ys refl ∙ ap (λ (k : ℕ). (layout.lead ∷ ys) ++ drop k zeros) at)
      ∙ one_more (layout.lead ∷ ys) zeros (2 * n + 1) d 0 (omega arith) (omega arith)
      ∙ ap₂ (λ (k : ℕ) (l : List ℕ). l ++ drop k zeros) past
      (ap₂ (λ (q : ℕ) (l : List ℕ). q ∷ l) lead (ap₂ (λ (l : List ℕ) (q : ℕ). l ++ q ∷ []) pairs g)) in
      rw (bytes, code, sym info_length)
