-- What the code looks at is whether the frame reader takes the bytes for a frame: a span whose checksum agrees is a whole frame, and a whole
-- frame has such a span. The part's bytes are the input's from place i on. Assumes nothing.
use mathlib.Core.Path.{◌≡◌, refl, sym, ap, ap₂, ◌∙◌}
use mathlib.Core.Bool.{Bool, true, false}
use mathlib.Core.List.{List, [], ◌∷◌}
use Prim.Native.Nat.{ℕ, zero, suc, ◌+◌, ◌-◌, ◌<◌, ◌≤◌}
use native.Mathlib.Nat.{add-zero}
use native.Mathlib.Omega.{arith}
use borrow.Author.Tests.{eq-eqb, eqb-true, eqb-false, leb-true}
use lib.Dec.{leb, eqb}
use Rattle.laws.proofs.Ladders.{past, into}
use lib.ListN.{length, get_or, take, drop, length-drop}
use lib.Seq.{get_or-take, get_or-drop, length-take-le, take-take, drop-drop}
use Rattle.checks.specs.Crc.{crc_of}
use Rattle.numbers.specs.declared.Order.TheVariants.{HighFirst}
use Rattle.numbers.specs.Bytes.{number_of}
use Rattle.frames_pathfinder.specs.declared.Frame.{Frame}
use Rattle.refusals.specs.declared.Refusal.{Refusal}
use Rattle.frames_pathfinder.specs.Reading.{frame_of}
use Rattle.frames_pathfinder.proofs.Ladder.{whole, whole_parts}
use Rattle.std.specs.Prelude.{is_ok, None, Result, Ok, Err}
use Rattle.search_pathfinder.specs.Places.{size_at, part_at, frame_at, scan, span_of, agrees}
use Rattle.search_pathfinder.proofs.Spans.{too_short, a_span}

not_true : (b : Bool) → (b ≡ true → ⊥) → b ≡ false
not_true true h = absurd (h refl)
not_true false h = refl

module _ (s : List ℕ) (i : ℕ) where
  -- a byte of the part is a byte of the input
  at : (k : ℕ) → k < size_at s i → get_or (part_at s i) k 0 ≡ get_or s (i + k) 0
  at k h = get_or-take (size_at s i) (drop i s) k 0 h ∙ get_or-drop i s k 0

  -- what the checksum of the part covers is what it covers in the input
  inner : (n : ℕ) → n + 1 ≤ size_at s i → take n (drop 1 (part_at s i)) ≡ take n (drop (i + 1) s)
  inner n h = part n (size_at s i) (drop i s) h ∙ ap (take n) (drop-drop 1 i s)
    where
      part : (n m : ℕ) (l : List ℕ) → n + 1 ≤ m → take n (drop 1 (take m l)) ≡ take n (drop 1 l)
      part n zero l h = absurd (omega arith)
      part n (suc m) [] h = refl
      part n (suc m) (x ∷ l) h = take-take n m l (omega arith)

  -- ---- from the input to the frame

  pub span_is_frame : (n : ℕ) → n ≡ get_or s (i + 1) 0 → (n ≡ 0 → ⊥) → get_or s i 0 ≡ 0xFE → i + n + 5 ≤ length s → get_or s (i + n + 4) 0 ≡ 0xFD
      → crc_of (take (n + 1) (drop (i + 1) s)) ≡ number_of HighFirst (get_or s (i + 1 + (n + 1)) 0 ∷ get_or s (i + 2 + (n + 1)) 0 ∷ []) → frame_at s i ≡ true
  unfolding frame_at
  span_is_frame n e some mark fits end sum =
      let p = part_at s i in
      let size : length p ≡ n + 5 = length-take-le (size_at s i) (drop i s) (rw (length-drop i s) (omega arith)) ∙ omega arith in
      let first : get_or p 0 0 ≡ 0xFE = at 0 (omega arith) ∙ ap (λ (k : ℕ). get_or s k 0) (add-zero i) ∙ mark in
      let second : n ≡ get_or p 1 0 = e ∙ sym (at 1 (omega arith)) in
      let e₄ : i + (n + 4) ≡ i + n + 4 = omega arith in
      let e₂ : i + (n + 2) ≡ i + 1 + (n + 1) = omega arith in
      let e₃ : i + (n + 3) ≡ i + 2 + (n + 1) = omega arith in
      let last : get_or p (n + 4) 0 ≡ 0xFD = at (n + 4) (omega arith) ∙ ap (λ (k : ℕ). get_or s k 0) e₄ ∙ end in
      let high : get_or p (n + 2) 0 ≡ get_or s (i + 1 + (n + 1)) 0 = at (n + 2) (omega arith) ∙ ap (λ (k : ℕ). get_or s k 0) e₂ in
      let low : get_or p (n + 3) 0 ≡ get_or s (i + 2 + (n + 1)) 0 = at (n + 3) (omega arith) ∙ ap (λ (k : ℕ). get_or s k 0) e₃ in
      let k : n + 2 - 1 ≡ n + 1 = omega arith in
      let same : crc_of (take (n + 2 - 1) (drop 1 p)) ≡ number_of HighFirst (get_or p (n + 2) 0 ∷ get_or p (n + 3) 0 ∷ []) =
      ap (λ (m : ℕ). crc_of (take m (drop 1 p))) k ∙ ap crc_of (inner (n + 1) (omega arith)) ∙ sum
      ∙ sym (ap₂ (λ (a b : ℕ). number_of HighFirst (a ∷ b ∷ [])) high low) in
      ap is_ok (sym (whole p (omega arith) first n second size last _ _ refl refl same))

  -- ---- from the frame to the input

  within : length (part_at s i) ≤ length s - i
  within = rw (← length-drop i s) (short (size_at s i) (drop i s))
    where
      short : (n : ℕ) (l : List ℕ) → length (take n l) ≤ length l
      short zero l = omega arith
      short (suc n) [] = omega arith
      short (suc n) (x ∷ l) = omega (arith, short n l)

  pub frame_has_span : frame_at s i ≡ true → (span_of s i ≡ get_or s (i + 1) 0 + 1) × (agrees s i (get_or s (i + 1) 0 + 1) ≡ true) × (get_or s i 0 ≡ 0xFE)
  unfolding frame_at agrees
  frame_has_span h = go (frame_of (part_at s i)) refl h
    where
      go : (f : Result Frame Refusal) → frame_of (part_at s i) ≡ f → is_ok f ≡ true
          → (span_of s i ≡ get_or s (i + 1) 0 + 1) × (agrees s i (get_or s (i + 1) 0 + 1) ≡ true) × (get_or s i 0 ≡ 0xFE)
      go (Err r) e t = absurd cc
      go (Ok f) e t =
          let p = part_at s i in
          let m = f.len in
          let parts = whole_parts p f (sym e) in
          let n = get_or s (i + 1) 0 in
          let len : n ≡ m + 1 = sym (at 1 (omega arith)) ∙ parts.length_byte in
          let fits : i + n + 5 ≤ length s = omega (arith, within) in
          let mark : get_or s i 0 ≡ 0xFE = ap (λ (k : ℕ). get_or s k 0) (sym (add-zero i)) ∙ sym (at 0 (omega arith)) ∙ parts.start_mark in
          let e₅ : i + n + 4 ≡ i + (m + 5) = omega arith in
          let end : get_or s (i + n + 4) 0 ≡ 0xFD = ap (λ (k : ℕ). get_or s k 0) e₅ ∙ sym (at (m + 5) (omega arith)) ∙ parts.end_mark in
          let e₃ : i + (m + 3) ≡ i + 1 + (n + 1) = omega arith in
          let e₄ : i + (m + 4) ≡ i + 2 + (n + 1) = omega arith in
          let high : get_or p (m + 3) 0 ≡ get_or s (i + 1 + (n + 1)) 0 = at (m + 3) (omega arith) ∙ ap (λ (k : ℕ). get_or s k 0) e₃ in
          let low : get_or p (m + 4) 0 ≡ get_or s (i + 2 + (n + 1)) 0 = at (m + 4) (omega arith) ∙ ap (λ (k : ℕ). get_or s k 0) e₄ in
          let k : n + 1 ≡ m + 2 = omega arith in
          let sum : crc_of (take (n + 1) (drop (i + 1) s)) ≡ number_of HighFirst (get_or s (i + 1 + (n + 1)) 0 ∷ get_or s (i + 2 + (n + 1)) 0 ∷ []) =
          ap (λ (j : ℕ). crc_of (take j (drop (i + 1) s))) k ∙ ap crc_of (sym (inner (m + 2) (omega arith))) ∙ parts.sum
          ∙ ap₂ (λ (a b : ℕ). number_of HighFirst (a ∷ b ∷ [])) high low in
          (sym (a_span s i (omega arith) mark n refl (λ z. omega arith) fits end), eq-eqb (crc_of (take (n + 1) (drop (i + 1) s))) _ sum, mark)

  -- ---- as the search has it: a place with no mark; n is the span of one that has it

  pub no_mark_no_frame : (get_or s i 0 ≡ 0xFE → ⊥) → frame_at s i ≡ false
  no_mark_no_frame h = not_true (frame_at s i) (λ t. h (frame_has_span t).2)

  pub no_span : (n : ℕ) → n ≡ span_of s i → n ≡ 0 → frame_at s i ≡ false
  no_span n e z = not_true (frame_at s i) (λ t. omega (arith, (frame_has_span t).0))

  pub span_differs : (n : ℕ) → n ≡ span_of s i → agrees s i n ≡ false → frame_at s i ≡ false
  span_differs n e d =
      not_true (frame_at s i)
      (λ t.
      let f = frame_has_span t in
      let k : n ≡ get_or s (i + 1) 0 + 1 = e ∙ f.0 in
      let z : true ≡ false = sym f.1 ∙ ap (agrees s i) (sym k) ∙ d in
      absurd cc)

  -- a place that was looked at to the end and did not stop the search has no frame
  pub passed : (n : ℕ) → n ≡ span_of s i → ((n ≡ 0 → ⊥) → agrees s i n ≡ false) → frame_at s i ≡ false
  passed zero e f = no_span 0 e refl
  passed (suc n) e f = span_differs (suc n) e (f (λ z. omega arith))

  -- a span whose checksum agrees is a frame, of four bytes more
  pub found : (n : ℕ) → n ≡ span_of s i → (n ≡ 0 → ⊥) → agrees s i n ≡ true → (frame_at s i ≡ true) × (n + 4 ≡ size_at s i)
  unfolding span_of agrees
  found n e some t =
      let m = get_or s (i + 1) 0 in
      let a = into (leb (i + 6) (length s)) _ _ n some e in
      let b = into (eqb (get_or s i 0) 0xFE) _ _ n some a.1 in
      let d = past (eqb m 0) _ _ n some b.1 in
      let f = into (leb (i + m + 5) (length s)) _ _ n some d.1 in
      let g = into (eqb (get_or s (i + m + 4) 0) 0xFD) _ _ n some f.1 in
      let k : n ≡ m + 1 = g.1 in
      let sum = eqb-true _ _ (ap (agrees s i) (sym k) ∙ t) in (
        span_is_frame m refl (eqb-false m 0 d.0) (eqb-true (get_or s i 0) 0xFE b.0) (leb-true (i + m + 5) (length s) f.0) (eqb-true (get_or s (i + m + 4) 0) 0xFD g.0) sum,
        omega arith,
      )

-- where fewer bytes are left than a frame has, there is none
pub scan_short : (s : List ℕ) (k i : ℕ) → length s < i + 6 → scan k i s ≡ None
unfolding scan
scan_short s zero i h = refl
scan_short s (suc k) i h = rw (no_span s i 0 (too_short s i h) refl) (scan_short s k (suc i) (omega arith))
