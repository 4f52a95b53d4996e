-- A frame's characters piece by piece: mark, header (12), INFO, CHKSUM (4), mark. What the reader cuts out of such a list are the pieces,
-- and every list of 18 characters or more is one.
-- Assumes nothing.
use mathlib.Core.Path.{◌≡◌, refl, sym, ap, ◌∙◌}
use mathlib.Core.List.{List, [], ◌∷◌, ◌++◌, append_assoc}
use Prim.Native.Nat.{ℕ, suc, ◌+◌, ◌-◌, ◌≤◌}
use native.Mathlib.Omega.{arith}
use lib.ListN.{length, get_or, take, drop, length-append, length-drop, take-append-drop, drop_of_length-le}
use lib.Seq.{take_at, drop_at, get_or_at, drop-drop, drop-cons, length-take-le}
use Rattle.characters_pace.specs.Characters.{bytes_in, word_at}
use Rattle.frames_pace.specs.Frame.{inner_of, head_of, covered_of, check_of, info_of}

-- what the reader cuts out of a list are these pieces
pub record Cut (s h i k : List ℕ) (e : ℕ) : Type 0 where
  pub size : length s ≡ length i + 18
  pub last : get_or s (length s - 1) 0 ≡ e
  pub inner : inner_of s ≡ h ++ (i ++ k)
  pub head : head_of s ≡ bytes_in h
  pub covered : covered_of s ≡ h ++ i
  pub check : check_of s ≡ word_at (bytes_in k) 0
  pub info : info_of s ≡ i

-- the pieces put together
abbrev pub pieces : ℕ → List ℕ → List ℕ → List ℕ → ℕ → List ℕ
pieces m h i k e = m ∷ (h ++ (i ++ (k ++ e ∷ [])))

module _ (m : ℕ) (h i k : List ℕ) (e : ℕ) (head : length h ≡ 12) (check : length k ≡ 4) where
  pieces_length : length (pieces m h i k e) ≡ length i + 18
  pieces_length =
      let a = length-append h (i ++ (k ++ e ∷ [])) in
      let b = length-append i (k ++ e ∷ []) in
      let c = length-append k (e ∷ []) in
      omega arith

  -- all but the last mark
  without_end : pieces m h i k e ≡ (m ∷ (h ++ (i ++ k))) ++ e ∷ []
  without_end = ap (λ (l : List ℕ). m ∷ l) (ap (λ (l : List ℕ). h ++ l) (sym (append_assoc i k (e ∷ []))) ∙ sym (append_assoc h (i ++ k) (e ∷ [])))

  front_length : length (h ++ (i ++ k)) ≡ length i + 16
  front_length = let a = length-append h (i ++ k) in let b = length-append i k in omega arith

  pieces_last : get_or (pieces m h i k e) (length (pieces m h i k e) - 1) 0 ≡ e
  pieces_last =
      let at : length (m ∷ (h ++ (i ++ k))) ≡ length (pieces m h i k e) - 1 = omega (arith, front_length, pieces_length) in
      ap (λ (l : List ℕ). get_or l (length (pieces m h i k e) - 1) 0) without_end
      ∙ get_or_at (m ∷ (h ++ (i ++ k))) e [] 0 (length (pieces m h i k e) - 1) at

  pieces_inner : inner_of (pieces m h i k e) ≡ h ++ (i ++ k)
  pieces_inner =
      let n : length (h ++ (i ++ k)) ≡ length (pieces m h i k e) - 2 = omega (arith, front_length, pieces_length) in
      ap (λ (l : List ℕ). take (length (pieces m h i k e) - 2) (drop 1 l)) without_end
      ∙ take_at (h ++ (i ++ k)) (e ∷ []) (length (pieces m h i k e) - 2) n

  pieces_head : head_of (pieces m h i k e) ≡ bytes_in h
  pieces_head = ap bytes_in (take_at h (i ++ (k ++ e ∷ [])) 12 head)

  pieces_covered : covered_of (pieces m h i k e) ≡ h ++ i
  pieces_covered =
      let n : length (h ++ i) ≡ length (pieces m h i k e) - 6 = let a = length-append h i in omega (arith, pieces_length) in
      ap (take (length (pieces m h i k e) - 6)) (sym (append_assoc h i (k ++ e ∷ [])))
      ∙ take_at (h ++ i) (k ++ e ∷ []) (length (pieces m h i k e) - 6) n

  pieces_check : check_of (pieces m h i k e) ≡ word_at (bytes_in k) 0
  pieces_check =
      let n : length (m ∷ (h ++ i)) ≡ length (pieces m h i k e) - 5 = let a = length-append h i in omega (arith, pieces_length) in
      let rest : drop (length (pieces m h i k e) - 5) (pieces m h i k e) ≡ k ++ e ∷ [] =
      ap (λ (l : List ℕ). drop (length (pieces m h i k e) - 5) (m ∷ l)) (sym (append_assoc h i (k ++ e ∷ [])))
      ∙ drop_at (m ∷ (h ++ i)) (k ++ e ∷ []) (length (pieces m h i k e) - 5) n in
      ap (λ (l : List ℕ). word_at (bytes_in l) 0) (ap (take 4) rest ∙ take_at k (e ∷ []) 4 check)

  pieces_info : info_of (pieces m h i k e) ≡ i
  pieces_info =
      let n : length i ≡ length (pieces m h i k e) - 18 = omega (arith, pieces_length) in
      ap (take (length (pieces m h i k e) - 18)) (drop_at h (i ++ (k ++ e ∷ [])) 12 head)
      ∙ take_at i (k ++ e ∷ []) (length (pieces m h i k e) - 18) n

  pub cut_pieces : Cut (pieces m h i k e) h i k e
  cut_pieces =
      record {
        size = pieces_length;
        last = pieces_last;
        inner = pieces_inner;
        head = pieces_head;
        covered = pieces_covered;
        check = pieces_check;
        info = pieces_info;
      }

-- ---- a list cut into its pieces

module _ (s : List ℕ) (long : 18 ≤ length s) where
  pub head_length : length (take 12 (drop 1 s)) ≡ 12
  head_length = length-take-le 12 (drop 1 s) (omega (arith, length-drop 1 s))

  pub info_length : length (info_of s) ≡ length s - 18
  info_length = length-take-le (length s - 18) (drop 13 s) (omega (arith, length-drop 13 s))

  pub check_length : length (take 4 (drop (length s - 5) s)) ≡ 4
  check_length = length-take-le 4 (drop (length s - 5) s) (omega (arith, length-drop (length s - 5) s))

  -- cut n from what stands at a, and go on behind it
  cut : (a n b : ℕ) → a + n ≡ b → drop a s ≡ take n (drop a s) ++ drop b s
  cut a n b e = sym (take-append-drop n (drop a s)) ∙ ap (λ (l : List ℕ). take n (drop a s) ++ l) (drop-drop n a s ∙ ap (λ (k : ℕ). drop k s) e)

  end : drop (length s - 1) s ≡ get_or s (length s - 1) 0 ∷ []
  end =
      drop-cons s (length s - 1) 0 (omega arith)
      ∙ ap (λ (l : List ℕ). get_or s (length s - 1) 0 ∷ l) (drop_of_length-le s {i = suc (length s - 1)} (omega arith))

  pub in_pieces : s ≡ pieces (get_or s 0 0) (take 12 (drop 1 s)) (info_of s) (take 4 (drop (length s - 5) s)) (get_or s (length s - 1) 0)
  in_pieces =
      drop-cons s 0 0 (omega arith)
      ∙ ap (λ (l : List ℕ). get_or s 0 0 ∷ l)
      (cut 1 12 13 refl
      ∙ ap (λ (l : List ℕ). take 12 (drop 1 s) ++ l)
      (cut 13 (length s - 18) (length s - 5) (omega arith)
      ∙ ap (λ (l : List ℕ). info_of s ++ l)
      (cut (length s - 5) 4 (length s - 1) (omega arith) ∙ ap (λ (l : List ℕ). take 4 (drop (length s - 5) s) ++ l) end)))
