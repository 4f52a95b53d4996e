-- Words read back from their bytes (`words_back`): the first from the first four, and so on.
-- Assumes nothing.
use mathlib.Core.Path.{◌≡◌, refl, ap, ap₂, ◌∙◌}
use mathlib.Core.List.{List, [], ◌∷◌, ◌++◌}
use Prim.Native.Nat.{ℕ, suc, ◌+◌, ◌*◌, ◌<◌, ◌^◌}
use native.Mathlib.Omega.{arith}
use lib.IntN.{ℤ}
use lib.Signed.{mag}
use lib.ListN.{length, get_or}
use Rattle.laws.specs.Firsts.{firsts}
use Rattle.laws.proofs.Firsts.{firsts_cons, firsts_same}
use Rattle.words_pathfinder.specs.Words.{word_of}
use Rattle.words_pathfinder.proofs.RoundTrip.{word_back}
use Rattle.lists_pathfinder.specs.Lists.{word_at, words, bytes_of_words}

-- every value fits 32 bits, as those in a variable do
abbrev pub Fitting : List ℤ → Type 0
Fitting [] = Unit {0}
Fitting (v ∷ vs) = (mag v < 2 ^ 31) × Fitting vs

-- past the first four bytes
later : (a b c d k n : ℕ) (s : List ℕ) → get_or (a ∷ b ∷ c ∷ d ∷ s) (4 * suc n + k) 0 ≡ get_or s (4 * n + k) 0
later a b c d k n s =
    let e : 4 * suc n + k ≡ suc (suc (suc (suc (4 * n + k)))) = omega arith in ap (λ (i : ℕ). get_or (a ∷ b ∷ c ∷ d ∷ s) i 0) e

later_first : (a b c d n : ℕ) (s : List ℕ) → get_or (a ∷ b ∷ c ∷ d ∷ s) (4 * suc n) 0 ≡ get_or s (4 * n) 0
later_first a b c d n s =
    let e : 4 * suc n ≡ suc (suc (suc (suc (4 * n)))) = omega arith in ap (λ (i : ℕ). get_or (a ∷ b ∷ c ∷ d ∷ s) i 0) e

words_front : (n a b c d : ℕ) (s : List ℕ) → words (suc n) (a ∷ b ∷ c ∷ d ∷ s) ≡ word_of a b c d ∷ words n s
words_front n a b c d s =
    let all = a ∷ b ∷ c ∷ d ∷ s in
    firsts_cons (word_at all) n
    ∙ ap (λ (l : List ℤ). word_of a b c d ∷ l)
    (firsts_same (λ (i : ℕ). word_at all (suc i)) (word_at s) n
    (λ i h. rw (later_first a b c d i s, later a b c d 1 i s, later a b c d 2 i s, later a b c d 3 i s) refl))

-- whatever follows them
pub words_back : (vs : List ℤ) (rest : List ℕ) → Fitting vs → words (length vs) (bytes_of_words vs ++ rest) ≡ vs
unfolding firsts bytes_of_words
words_back [] rest f = refl
words_back (v ∷ vs) rest f =
    words_front (length vs) _ _ _ _ (bytes_of_words vs ++ rest)
    ∙ ap₂ (λ (x : ℤ) (l : List ℤ). x ∷ l) (word_back v f.0) (words_back vs rest f.1)
