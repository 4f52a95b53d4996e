-- A setting's values in INFO, over every layout: what was written is read back, and what was read is written again.
-- The amounts go two bytes at a time; the rest is the layout's shape.
-- Assumes nothing.
use mathlib.Core.Path.{◌≡◌, refl, sym, ap, ap₂, ◌∙◌}
use mathlib.Core.Bool.{true, ◌&&◌}
use mathlib.Core.List.{List, [], ◌∷◌, ◌++◌}
use Prim.Native.Nat.{ℕ, zero, suc, ◌+◌, ◌-◌, ◌*◌, ◌/◌, ◌%◌, ◌<◌, ◌≤◌}
use native.Mathlib.Omega.{arith}
use borrow.Author.Tests.{eq-eqb, eqb-true, leb-true}
use lib.Dec.{leb, eqb}
use lib.ListN.{length, get_or, length-append}
use lib.Seq.{get_or_at}
use Rattle.std.specs.Prelude.{Ok}
use Rattle.laws.specs.Firsts.{firsts}
use Rattle.laws.proofs.Firsts.{firsts_length, firsts_cons, firsts_same}
use Rattle.laws.proofs.Ladders.{into, both}
use Rattle.numbers.proofs.Orders.{Bytes}
use Rattle.refusals.proofs.Writing.{not_refused}
use Rattle.characters_pace.specs.Characters.{all_of, halves, word_at, words_at}
use Rattle.characters_pace.proofs.Halves.{halves_length}
use Rattle.layouts_pace.specs.declared.Setting.{Setting}
use Rattle.layouts_pace.specs.declared.Layout.{Layout}
use Rattle.layouts_pace.specs.declared.Values.{Values}
use Rattle.layouts_pace.specs.Settings.{layout_of, setting_of, amounts_of, delay_of, values_of}
use Rattle.allowed_pace.specs.Allowed.{in_steps, allowed, allowed_of}
use Rattle.writes_pace.specs.Info.{pairs_of, payload, info_of}
use Rattle.settings_pace.specs.Reading.{shaped, words_in, delay_in, request_of}
use Rattle.layouts_pace.proofs.Settings.{few, highs, leads, amounts_count, values_again, setting_again, delay_again, amounts_again}

-- ---- two bytes at a time

-- numbers behind the first two bytes
shift : (h l : ℕ) (s : List ℕ) (i : ℕ) → word_at (h ∷ l ∷ s) (2 * suc i) ≡ word_at s (2 * i)
shift h l s i =
    let e : 2 * suc i ≡ suc (suc (2 * i)) = omega arith in
    let f : suc (suc (2 * i)) + 1 ≡ suc (suc (2 * i + 1)) = omega arith in
    rw (e, f)

-- numbers behind the lead byte
behind : (x : ℕ) (s : List ℕ) (i : ℕ) → word_at (x ∷ s) (1 + 2 * i) ≡ word_at s (2 * i)
behind x s i =
    let e : 1 + 2 * i ≡ suc (2 * i) = omega arith in
    let f : suc (2 * i) + 1 ≡ suc (2 * i + 1) = omega arith in
    rw (e, f)

-- every number fits two bytes
unfoldable pub Words : List ℕ → Type 0
Words [] = Unit
Words (x ∷ a) = (x < 65536) × Words a

words_back : (a rest : List ℕ) → Words a → firsts (λ i. word_at (pairs_of a ++ rest) (2 * i)) (length a) ≡ a
unfolding firsts halves Words
words_back [] rest b = refl
words_back (x ∷ a) rest b =
    let here : x % 256 + (x / 256 % 256 + 0) * 256 ≡ x = omega (arith, b.0) in
    firsts_cons (λ i. word_at (pairs_of (x ∷ a) ++ rest) (2 * i)) (length a)
    ∙ ap₂ (λ (n : ℕ) (l : List ℕ). n ∷ l) here
    (firsts_same (λ i. word_at (pairs_of (x ∷ a) ++ rest) (2 * suc i)) (λ i. word_at (pairs_of a ++ rest) (2 * i)) (length a)
    (λ i h. shift (x / 256 % 256) (x % 256) (pairs_of a ++ rest) i)
    ∙ words_back a rest b.1)

pairs_back : (k : ℕ) (s : List ℕ) → Bytes s → length s ≡ 2 * k + 1 → pairs_of (firsts (λ i. word_at s (2 * i)) k) ++ get_or s (2 * k) 0 ∷ [] ≡ s
unfolding firsts halves Bytes
pairs_back zero [] b e = absurd (omega arith)
pairs_back zero (x ∷ []) b e = refl
pairs_back zero (x ∷ y ∷ s) b e = absurd (omega arith)
pairs_back (suc k) [] b e = absurd (omega arith)
pairs_back (suc k) (h ∷ []) b e = absurd (omega arith)
pairs_back (suc k) (h ∷ l ∷ s) b e =
    let high : (l + (h + 0) * 256) / 256 % 256 ≡ h = omega (arith, b.0, b.1.0) in
    let low : (l + (h + 0) * 256) % 256 ≡ l = omega (arith, b.0, b.1.0) in
    let last : 2 * suc k ≡ suc (suc (2 * k)) = omega arith in
    ap₂ (λ (w : List ℕ) (n : ℕ). pairs_of w ++ get_or (h ∷ l ∷ s) n 0 ∷ [])
    (firsts_cons (λ i. word_at (h ∷ l ∷ s) (2 * i)) k
    ∙ ap (λ (w : List ℕ). word_at (h ∷ l ∷ s) 0 ∷ w) (firsts_same (λ i. word_at (h ∷ l ∷ s) (2 * suc i)) (λ i. word_at s (2 * i)) k (λ i q. shift h l s i)))
    last
    ∙ ap₂ (λ (x y : ℕ). x ∷ y ∷ (pairs_of (firsts (λ i. word_at s (2 * i)) k) ++ get_or s (2 * k) 0 ∷ [])) high low
    ∙ ap (λ (t : List ℕ). h ∷ l ∷ t) (pairs_back k s b.1.1 (omega arith))

-- ---- over a layout

module _ (layout : Layout) (a : List ℕ) (delay : ℕ) (n : length a ≡ layout.amounts) where
  pub shape_back : shaped layout (payload layout a delay) ≡ true
  unfolding shaped payload
  shape_back =
      let size : length (layout.lead ∷ (pairs_of a ++ delay ∷ [])) ≡ 2 * layout.amounts + 2 =
      let p = length-append (pairs_of a) (delay ∷ []) in omega (arith, halves_length (λ x. x / 256 % 256) (λ x. x % 256) a) in
      rw (eq-eqb _ _ size, eq-eqb layout.lead layout.lead refl)

  pub amounts_back : Words a → words_in layout (payload layout a delay) ≡ a
  unfolding payload
  amounts_back b =
      ap (λ (k : ℕ). words_at 1 k (layout.lead ∷ (pairs_of a ++ delay ∷ []))) (sym n)
      ∙ firsts_same (λ i. word_at (layout.lead ∷ (pairs_of a ++ delay ∷ [])) (1 + 2 * i)) (λ i. word_at (pairs_of a ++ delay ∷ []) (2 * i)) (length a)
      (λ i h. behind layout.lead (pairs_of a ++ delay ∷ []) i)
      ∙ words_back a (delay ∷ []) b

  pub delay_back : delay_in layout (payload layout a delay) ≡ delay
  unfolding payload
  delay_back =
      let size : length (layout.lead ∷ pairs_of a) ≡ 2 * layout.amounts + 1 = omega (arith, halves_length (λ x. x / 256 % 256) (λ x. x % 256) a) in
      get_or_at (layout.lead ∷ pairs_of a) delay [] 0 (2 * layout.amounts + 1) size

size_of : (layout : Layout) (d : List ℕ) → shaped layout d ≡ true → (length d ≡ 2 * layout.amounts + 2) × (get_or d 0 0 ≡ layout.lead)
unfolding shaped
size_of layout d e =
    let f = both (eqb (length d) (2 * layout.amounts + 2)) (eqb (get_or d 0 0) layout.lead) e in
    (eqb-true (length d) (2 * layout.amounts + 2) f.0, eqb-true (get_or d 0 0) layout.lead f.1)

pub payload_again : (layout : Layout) (d : List ℕ) → Bytes d → shaped layout d ≡ true → payload layout (words_in layout d) (delay_in layout d) ≡ d
unfolding payload Bytes
payload_again layout [] b e = absurd (omega (arith, (size_of layout [] e).0))
payload_again layout (x ∷ s) b e =
    let k = layout.amounts in
    let f = size_of layout (x ∷ s) e in
    let last : 2 * k + 1 ≡ suc (2 * k) = omega arith in
    ap₂ (λ (w : List ℕ) (n : ℕ). layout.lead ∷ (pairs_of w ++ get_or (x ∷ s) n 0 ∷ []))
    (firsts_same (λ i. word_at (x ∷ s) (1 + 2 * i)) (λ i. word_at s (2 * i)) k (λ i h. behind x s i)) last
    ∙ ap₂ (λ (n : ℕ) (l : List ℕ). n ∷ l) (sym f.1) (pairs_back k s b.1 (omega (arith, f.0)))

-- what is written is of bytes
pairs_bytes : (a : List ℕ) (delay : ℕ) → delay < 256 → Bytes (pairs_of a ++ delay ∷ [])
unfolding halves Bytes
pairs_bytes [] delay h = (h, tt)
pairs_bytes (x ∷ a) delay h = (omega arith, (omega arith, pairs_bytes a delay h))

-- ---- of every setting

below : (low high step n : ℕ) → in_steps low high step n ≡ true → n ≤ high
below low high step n e = leb-true n high (both (leb n high) (eqb ((n - low) % step) 0) (both (leb low n) (leb n high && eqb ((n - low) % step) 0) e).1).0

all_fit : (low high step : ℕ) (a : List ℕ) → high < 65536 → all_of (in_steps low high step) a ≡ true → Words a
unfolding all_of Words
all_fit low high step [] h e = tt
all_fit low high step (x ∷ a) h e =
    let f = both (in_steps low high step x) (all_of (in_steps low high step) a) e in
    (omega (arith, below low high step x f.0), all_fit low high step a h f.1)

pub allowed_fit : (v : Values) → allowed_of v ≡ true → Words (amounts_of v) × (delay_of v < 256)
unfolding allowed
allowed_fit v e =
    let layout = layout_of (setting_of v) in
    let h = highs (setting_of v) in
    let f =
    both (all_of (in_steps layout.low layout.high layout.step) (amounts_of v)) (in_steps layout.delay_low layout.delay_high layout.delay_step (delay_of v)) e in (
      all_fit layout.low layout.high layout.step (amounts_of v) h.0 f.0,
      omega (arith, h.1, below layout.delay_low layout.delay_high layout.delay_step (delay_of v) f.1),
    )

pub info_bytes : (v : Values) → allowed_of v ≡ true → Bytes (info_of v)
unfolding payload Bytes
info_bytes v e = (leads (setting_of v), pairs_bytes (amounts_of v) (delay_of v) (allowed_fit v e).1)

-- INFO is short enough for LENGTH to count
pub info_short : (v : Values) → length (info_of v) ≤ 2047
unfolding payload
info_short v =
    let a = length-append (pairs_of (amounts_of v)) (delay_of v ∷ []) in
    omega (arith, halves_length (λ x. x / 256 % 256) (λ x. x % 256) (amounts_of v), amounts_count v, few (setting_of v))

-- values that may be written are read back
pub values_read_back : (v : Values) → allowed_of v ≡ true → Ok v ≡ request_of (setting_of v) (info_of v)
unfolding request_of
values_read_back v e =
    let layout = layout_of (setting_of v) in
    let n = amounts_count v in
    let same : values_of (setting_of v) (words_in layout (info_of v)) (delay_in layout (info_of v)) ≡ v =
    ap₂ (values_of (setting_of v)) (amounts_back layout (amounts_of v) (delay_of v) n (allowed_fit v e).0) (delay_back layout (amounts_of v) (delay_of v) n) ∙ values_again v in
    rw (shape_back layout (amounts_of v) (delay_of v) n, same, e)

-- values that were read from a request are written again as the bytes that were read
pub record Again (s : Setting) (d : List ℕ) (v : Values) : Type 0 where
  pub setting : setting_of v ≡ s
  pub info : info_of v ≡ d
  pub may : allowed_of v ≡ true

pub values_write_back : (s : Setting) (d : List ℕ) (v : Values) → Bytes d → Ok v ≡ request_of s d → Again s d v
unfolding request_of
values_write_back s d v b e =
    let layout = layout_of s in
    let w = words_in layout d in
    let k = delay_in layout d in
    let f = into (shaped layout d) _ _ _ (not_refused {A = ⊥} v _) e in
    let g = into (allowed_of (values_of s w k)) _ _ _ (not_refused {A = ⊥} v _) f.1 in
    let is : v ≡ values_of s w k = cc g.1 in
    let n : length w ≡ layout.amounts = firsts_length (λ i. word_at d (1 + 2 * i)) layout.amounts in
    let set : setting_of v ≡ s = ap setting_of is ∙ setting_again s w k in
    record {
      setting = set;
      info = ap (λ (q : Setting). payload (layout_of q) (amounts_of v) (delay_of v)) set
          ∙ ap₂ (payload layout) (ap amounts_of is ∙ amounts_again s w k n) (ap delay_of is ∙ delay_again s w k)
          ∙ payload_again layout d b f.0;
      may = ap allowed_of is ∙ g.0;
    }
