-- Words as bytes: four for each, and one word put behind those that stand is one more (`one_put`).
-- Assumes nothing.
use mathlib.Core.Path.{◌≡◌, refl, sym, ap, ap₂, ◌∙◌}
use mathlib.Core.List.{List, [], ◌∷◌, ◌++◌, append_assoc, append-nil}
use Prim.Native.Nat.{ℕ, ◌+◌, ◌*◌, ◌<◌}
use native.Mathlib.Numerals.{add-one}
use native.Mathlib.Omega.{arith}
use lib.IntN.{ℤ, pos}
use lib.ListN.{length, get_or, take, drop, length-append}
use lib.Seq.{take-suc, take_at, drop_at, length-take-le, drop-drop}
use Rattle.words_pathfinder.specs.Words.{bytes_of_word}
use Rattle.lists_pathfinder.specs.Lists.{bytes_of_words, one_at}

pub bytes_length : (vs : List ℤ) → length (bytes_of_words vs) ≡ 4 * length vs
unfolding bytes_of_words
bytes_length [] = refl
bytes_length (v ∷ vs) = length-append (bytes_of_word v) (bytes_of_words vs) ∙ omega (arith, bytes_length vs)

bytes_append : (a b : List ℤ) → bytes_of_words (a ++ b) ≡ bytes_of_words a ++ bytes_of_words b
unfolding bytes_of_words
bytes_append [] b = refl
bytes_append (v ∷ a) b =
    ap (λ (l : List ℕ). bytes_of_word v ++ l) (bytes_append a b) ∙ sym (append_assoc (bytes_of_word v) (bytes_of_words a) (bytes_of_words b))

bytes_more : (vs : List ℤ) (i : ℕ) → i < length vs → bytes_of_words (take (i + 1) vs) ≡ bytes_of_words (take i vs) ++ bytes_of_word (get_or vs i (pos 0))
unfolding bytes_of_words
bytes_more vs i h =
    ap (λ (k : ℕ). bytes_of_words (take k vs)) (add-one i) ∙ ap bytes_of_words (take-suc vs i (pos 0) h)
    ∙ bytes_append (take i vs) (get_or vs i (pos 0) ∷ [])
    ∙ ap (λ (l : List ℕ). bytes_of_words (take i vs) ++ l) (append-nil (bytes_of_word (get_or vs i (pos 0))))

module _ (vs : List ℤ) (b : List ℕ) where
  pub none_put : b ≡ bytes_of_words (take 0 vs) ++ drop (4 * 0) b
  unfolding bytes_of_words
  none_put = refl

  pub one_put : (row : List ℕ) (i : ℕ) → row ≡ bytes_of_words (take i vs) ++ drop (4 * i) b → i < length vs
      → one_at (get_or vs i (pos 0)) (4 * i) row ≡ bytes_of_words (take (i + 1) vs) ++ drop (4 * (i + 1)) b
  one_put row i e h =
      let v = get_or vs i (pos 0) in
      let front = bytes_of_words (take i vs) in
      let rest = drop (4 * i) b in
      let size : length front ≡ 4 * i = bytes_length (take i vs) ∙ ap (λ (n : ℕ). 4 * n) (length-take-le i vs (omega arith)) in
      let far : 4 * i + 4 ≡ 4 * (i + 1) = omega arith in
      let tail : drop (4 * i + 4) (front ++ rest) ≡ drop (4 * (i + 1)) b =
      sym (drop-drop 4 (4 * i) (front ++ rest)) ∙ ap (drop 4) (drop_at front rest (4 * i) size) ∙ drop-drop 4 (4 * i) b
      ∙ ap (λ (k : ℕ). drop k b) far in
      ap (one_at v (4 * i)) e
      ∙ ap₂ (λ (l r : List ℕ). l ++ (bytes_of_word v ++ r)) (take_at front rest (4 * i) size) tail
      ∙ sym (append_assoc front (bytes_of_word v) (drop (4 * (i + 1)) b))
      ∙ ap (λ (l : List ℕ). l ++ drop (4 * (i + 1)) b) (sym (bytes_more vs i h))
