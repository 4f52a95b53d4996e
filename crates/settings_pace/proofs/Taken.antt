-- What the reader knows of INFO at each place, as the definitions have it: three words are read, and the values go by the setting's own, at the front.
-- Assumes nothing.
use mathlib.Core.Path.{◌≡◌, refl, sym, ap, ap₂, ◌∙◌}
use mathlib.Core.Bool.{Bool, true, false}
use mathlib.Core.List.{List, ◌++◌, map, map-append}
use Prim.Native.Nat.{ℕ, ◌+◌, ◌-◌, ◌*◌, ◌≤◌}
use lib.ListN.{get_or, take, drop, length-map}
use Rattle.std.specs.Prelude.{is_some, Ok, Err}
use Rattle.laws.specs.Firsts.{firsts}
use Rattle.laws.proofs.Filling.{front_taken}
use Rattle.laws.proofs.Firsts.{firsts_length}
use Rattle.refusals.specs.declared.Refusal.TheVariants as refusal
use Rattle.characters_pace.specs.Characters.{all_of, word_at, words_at}
use Rattle.layouts_pace.specs.declared.Setting.{Setting}
use Rattle.layouts_pace.specs.declared.Setting.TheVariants.{Overvoltage, Discharge}
use Rattle.layouts_pace.specs.declared.Layout.{Layout}
use Rattle.layouts_pace.specs.declared.Values.{Values}
use Rattle.layouts_pace.specs.Settings.{layout_of, values_of}
use Rattle.allowed_pace.specs.Allowed.{allowed_of}
use Rattle.settings_pace.specs.Reading.{shaped, words_in, delay_in, amount_of, amount_in, reply_of, request_of}
use Rattle.layouts_pace.proofs.Settings.{few, values_front}

-- what a word of a reply becomes
abbrev pub turns : Layout → ℕ → ℕ
turns layout x = amount_in (amount_of layout.negated x)

-- ---- of three words a setting has its own, at the front

own_first : (s : Setting) (g : ℕ → ℕ) → firsts g 3 ≡ firsts g (layout_of s).amounts ++ drop (layout_of s).amounts (firsts g 3)
unfolding layout_of firsts
own_first Overvoltage g = refl
own_first Discharge g = refl

module _ (s : Setting) (g : ℕ → ℕ) where
  own_words : take ((layout_of s).amounts - 0) (firsts g 3) ≡ firsts g (layout_of s).amounts
  own_words =
      let n = (layout_of s).amounts in
      ap (take (n - 0)) (own_first s g) ∙ front_taken n (drop n (firsts g 3)) (firsts g n) (firsts_length g n)

  own_values : (k : ℕ) → values_of s (firsts g 3) k ≡ values_of s (firsts g (layout_of s).amounts) k
  own_values k =
      let n = (layout_of s).amounts in
      ap (λ (l : List ℕ). values_of s l k) (own_first s g) ∙ values_front s (firsts g n) (drop n (firsts g 3)) k (firsts_length g n)

  own_turned : (h : ℕ → ℕ) (k : ℕ) → values_of s (map h (firsts g 3)) k ≡ values_of s (map h (firsts g (layout_of s).amounts)) k
  own_turned h k =
      let n = (layout_of s).amounts in
      ap (λ (l : List ℕ). values_of s l k) (ap (map h) (own_first s g) ∙ map-append h (firsts g n) (drop n (firsts g 3)))
      ∙ values_front s (map h (firsts g n)) (map h (drop n (firsts g 3))) k (length-map (firsts g n) h ∙ firsts_length g n)

module _ (s : Setting) (layout : Layout) (r : layout ≡ layout_of s) (d : List ℕ) where
  pub setting_few : layout.amounts ≤ 3
  setting_few = rw r (few s)

  pub misread : (t : Bool) → t ≡ shaped layout d → t ≡ false → Err refusal.Shape ≡ reply_of s d
  unfolding reply_of
  misread t e f = let off : shaped (layout_of s) d ≡ false = ap (λ (q : Layout). shaped q d) (sym r) ∙ sym e ∙ f in rw off

  pub misparsed : (t : Bool) → t ≡ shaped layout d → t ≡ false → Err refusal.Shape ≡ request_of s d
  unfolding request_of
  misparsed t e f = let off : shaped (layout_of s) d ≡ false = ap (λ (q : Layout). shaped q d) (sym r) ∙ sym e ∙ f in rw off

  module _ (t : Bool) (e : t ≡ shaped layout d) (f : t ≡ true) (ws : List ℕ) (w : ws ≡ words_at 1 3 d) where
    right : shaped (layout_of s) d ≡ true
    right = ap (λ (q : Layout). shaped q d) (sym r) ∙ sym e ∙ f

    module _ (u : Bool) (g : u ≡ all_of (λ x. is_some (amount_of layout.negated x)) (take (layout.amounts - 0) ws)) where
      readable : all_of (λ x. is_some (amount_of (layout_of s).negated x)) (words_in (layout_of s) d) ≡ u
      readable =
          sym (g ∙ ap₂ (λ (q : Layout) (l : List ℕ). all_of (λ x. is_some (amount_of q.negated x)) (take (q.amounts - 0) l)) r w
          ∙ ap (all_of (λ x. is_some (amount_of (layout_of s).negated x))) (own_words s (λ i. word_at d (1 + 2 * i))))

      pub unread : u ≡ false → Err refusal.Range ≡ reply_of s d
      unfolding reply_of
      unread h = let off = readable ∙ h in rw (right, off)

      pub read : u ≡ true → (ys : List ℕ) (k : ℕ) → ys ≡ map (turns layout) ws → k ≡ get_or d (2 * layout.amounts + 1) 0 → Ok (values_of s ys k) ≡ reply_of s d
      unfolding reply_of
      read h ys k y z =
          let on = readable ∙ h in
          let turned : ys ≡ map (turns (layout_of s)) (words_at 1 3 d) = y ∙ ap₂ (λ (q : Layout) (l : List ℕ). map (turns q) l) r w in
          let delay : k ≡ delay_in (layout_of s) d = z ∙ ap (λ (q : Layout). get_or d (2 * q.amounts + 1) 0) r in
          rw (right, on) (ap Ok (ap₂ (values_of s) turned delay ∙ own_turned s (λ i. word_at d (1 + 2 * i)) (turns (layout_of s)) (delay_in (layout_of s) d)))

    -- a request's values
    module _ (k : ℕ) (v : Values) (z : k ≡ get_or d (2 * layout.amounts + 1) 0) (x : v ≡ values_of s ws k) where
      pub parsed_values : v ≡ values_of s (words_in (layout_of s) d) (delay_in (layout_of s) d)
      parsed_values =
          let delay : k ≡ delay_in (layout_of s) d = z ∙ ap (λ (q : Layout). get_or d (2 * q.amounts + 1) 0) r in
          x ∙ ap₂ (values_of s) w delay ∙ own_values s (λ i. word_at d (1 + 2 * i)) (delay_in (layout_of s) d)

      pub unparsed : allowed_of v ≡ false → Err refusal.Range ≡ request_of s d
      unfolding request_of
      unparsed h = let off = ap allowed_of (sym parsed_values) ∙ h in rw (right, off)

      pub parsed : allowed_of v ≡ true → Ok v ≡ request_of s d
      unfolding request_of
      parsed h = let on = ap allowed_of (sym parsed_values) ∙ h in rw (right, on) (ap Ok parsed_values)
