-- The cases of `with_counts` and `reading_of`, each from the facts that the reader has at that place.
-- Assumes nothing.
use mathlib.Core.Path.{◌≡◌, refl, sym, ap, ◌∙◌}
use mathlib.Core.Bool.{true}
use mathlib.Core.List.{List}
use Prim.Native.Nat.{ℕ, ◌+◌, ◌-◌, ◌*◌, ◌≤◌}
use borrow.Author.Tests.{eq-eqb, ne_eqb}
use borrow.Rule.Slice.PartMut.{put_mid}
use lib.IntN.{ℤ, pos}
use lib.ListN.{length, get_or, take, replicate}
use Rattle.std.specs.Prelude.{Result, Ok, Err}
use Rattle.laws.proofs.Firsts.{firsts_front}
use Rattle.refusals.specs.declared.Refusal.{Refusal}
use Rattle.refusals.specs.declared.Refusal.TheVariants as refusal
use Rattle.characters_pace.specs.Characters.{bytes_in, checked_info, word_at, words_at}
use Rattle.characters_pace.proofs.Checked.{checked_next}
use Rattle.counts_pace.specs.declared.Counts.{Counts}
use Rattle.counts_pace.specs.Counts.{counts_of}
use Rattle.analog_pace.specs.declared.Analog.{Analog}
use Rattle.analog_pace.specs.declared.Reading.{Reading}
use Rattle.analog_pace.specs.Analog.{tenths_of, tenths_at, numbers_of, with_counts, by_counts, reading_of}

-- the arrays before
abbrev pub places : List ℕ
places = replicate 16 0

abbrev pub tenth_places : List ℤ
tenth_places = replicate 8 (pos 0)

module _ (c t : ℕ) (d : List ℕ) where
  pub no_constant : (get_or d (2 * c + 2 * t + 10) 0 ≡ 3 → ⊥) → Err refusal.Shape ≡ with_counts c t d
  unfolding with_counts
  no_constant h = rw (ne_eqb _ _ h)

  pub read : get_or d (2 * c + 2 * t + 10) 0 ≡ 3 → c ≤ 16 → t ≤ 8 → (a : Analog) (ws : List ℕ) (ts : List ℤ) → a ≡ numbers_of c t d
      → ws ≡ words_at 3 (length (take (c - 0) places)) d → ts ≡ tenths_at (2 * c + 4) (length (take (t - 0) tenth_places)) d
      → ◌≡◌ {A = Result Reading Refusal} (Ok (record { numbers = a; cells = put_mid 0 (c - 0) places ws; temperatures = put_mid 0 (t - 0) tenth_places ts })) (with_counts c t d)
  unfolding with_counts
  read h few cool a ws ts x y z =
      rw (eq-eqb _ _ h, x, firsts_front (λ i. tenths_of (word_at d (2 * c + 4 + 2 * i))) t tenth_places ts cool z, firsts_front (λ i. word_at d (3 + 2 * i)) c places ws few y)

-- what the counts are decides, whatever the characters
pub by_counts_lem : (address : ℕ) (s : List ℕ) (k : Result Counts Refusal) → checked_info (counts_of true 13 address) s ≡ k
    → by_counts k (bytes_in s) ≡ checked_info (reading_of address) s
unfolding reading_of
by_counts_lem address s k e =
    sym (ap (λ (x : Result Counts Refusal). by_counts x (bytes_in s)) e) ∙ checked_next (counts_of true 13 address) by_counts (λ w d. refl) s
