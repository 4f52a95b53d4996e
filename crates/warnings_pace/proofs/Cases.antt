-- The cases of `with_counts` and `reading_of`, each from the facts that the reader has at that place.
-- Assumes nothing.
use mathlib.Core.Path.{◌≡◌, refl, sym, ap, ◌∙◌}
use mathlib.Core.Bool.{false}
use mathlib.Core.List.{List}
use Prim.Native.Nat.{ℕ, ◌+◌, ◌-◌, ◌≤◌}
use borrow.Rule.Slice.PartMut.{put_mid}
use lib.ListN.{length, get_or, take, replicate}
use Rattle.std.specs.Prelude.{Result}
use Rattle.laws.proofs.Firsts.{firsts_front}
use Rattle.characters_pace.specs.Characters.{bytes_in, checked_info, bytes_at}
use Rattle.characters_pace.proofs.Checked.{checked_next}
use Rattle.counts_pace.specs.declared.Counts.{Counts}
use Rattle.refusals.specs.declared.Refusal.{Refusal}
use Rattle.counts_pace.specs.Counts.{counts_of}
use Rattle.warnings_pace.specs.declared.Warnings.{Warnings}
use Rattle.warnings_pace.specs.declared.Reading.{Reading}
use Rattle.warnings_pace.specs.Warnings.{status_of, with_counts, by_counts, reading_of}

-- the arrays before
abbrev pub cell_places : List ℕ
cell_places = replicate 16 0

abbrev pub temperature_places : List ℕ
temperature_places = replicate 8 0

pub read : (c t : ℕ) (d : List ℕ) → c ≤ 16 → t ≤ 8 → (w : Warnings) (xs ys : List ℕ) → w ≡ status_of c t d
    → xs ≡ bytes_at 3 (length (take (c - 0) cell_places)) d → ys ≡ bytes_at (c + 4) (length (take (t - 0) temperature_places)) d
    → ◌≡◌ {A = Reading} (record { status = w; cells = put_mid 0 (c - 0) cell_places xs; temperatures = put_mid 0 (t - 0) temperature_places ys }) (with_counts c t d)
unfolding with_counts
read c t d few cool w xs ys k x y =
    rw (k, firsts_front (λ i. get_or d (3 + i) 0) c cell_places xs few x, firsts_front (λ i. get_or d (c + 4 + i) 0) t temperature_places ys cool y)

-- what the counts are decides, whatever the characters
pub by_counts_lem : (address : ℕ) (s : List ℕ) (k : Result Counts Refusal) → checked_info (counts_of false 12 address) s ≡ k
    → by_counts k (bytes_in s) ≡ checked_info (reading_of address) s
unfolding reading_of
by_counts_lem address s k e =
    sym (ap (λ (x : Result Counts Refusal). by_counts x (bytes_in s)) e) ∙ checked_next (counts_of false 12 address) by_counts (λ w d. refl) s
