-- What the writer's stores and lent parts leave in the room: each is one more thing at the end of the front, over what was there.
-- Assumes nothing.
use mathlib.Core.Path.{◌≡◌, refl, sym, ap, ap₂, ◌∙◌}
use mathlib.Core.List.{List, [], ◌∷◌, ◌++◌, append_assoc, append-nil}
use Prim.Native.Nat.{ℕ, ◌+◌, ◌-◌, ◌*◌, ◌<◌, ◌≤◌}
use native.Mathlib.Omega.{arith}
use borrow.Author.Tests.{lt-ltb}
use borrow.Rule.Slice.PartMut.{put_mid}
use lib.ListN.{length, get_or, take, drop, set, length-append, length-drop, drop_of_length-le}
use lib.Seq.{take_at, drop-drop, drop-append-add}
use Rattle.laws.proofs.Filling.{one_more, part_more, part_length}
use Rattle.sums.specs.Sums.{total, closing}
use Rattle.std.specs.Prelude.{Some, None, Result, Ok}
use Rattle.lengths_pace.specs.Lengths.{word_of, length_word}
use Rattle.numbers.specs.declared.Order.TheVariants.{HighFirst}
use Rattle.numbers.specs.Bytes.{bytes_of}
use Rattle.characters_pace.specs.Characters.{hexed}
use Rattle.refusals.specs.declared.Refusal.{Refusal}
use Rattle.refusals.specs.Writing.{written_as, room_after, over_long}
use Rattle.refusals.proofs.Writing.{frame_says, short_says, just_filled}
use Rattle.frames_written_pace.specs.Written.{head_bytes, body_chars, end_of, end_chars, frame_chars, framed_as, sealed}
use Rattle.characters_pace.proofs.Carried.{hexed_length}

-- ---- the header

word_of_count : (n : ℕ) → n < 4096 → word_of n ≡ Some (length_word n)
unfolding word_of
word_of_count n h = rw (lt-ltb _ _ h)

-- a count below 4,096 has a LENGTH word
pub no_word : {A : Type 0} (n : ℕ) → n < 4096 → word_of n ≡ None → A
no_word n h e = let right = word_of_count n h in absurd cc

pub head_is : (pair : List ℕ) (address command n word : ℕ) → n < 4096 → word_of n ≡ Some word → pair ≡ bytes_of HighFirst 2 word
    → hexed (0x25 ∷ address ∷ 0x46 ∷ command ∷ get_or pair 0 0 ∷ get_or pair 1 0 ∷ []) ≡ hexed (head_bytes address command n)
head_is pair address command n word h e p =
    let right = word_of_count n h in
    let same : word ≡ length_word n = cc in
    ap (λ (l : List ℕ). hexed (0x25 ∷ address ∷ 0x46 ∷ command ∷ get_or l 0 0 ∷ get_or l 1 0 ∷ [])) (p ∙ ap (bytes_of HighFirst 2) same)

-- ---- the end

-- bytes put as characters into a part of just their size
pub put_exact : (bs part ys : List ℕ) (w : Result ℕ Refusal) → length part ≡ 2 * length bs → w ≡ written_as (Ok tt) (length (hexed bs)) (length part)
    → ys ≡ room_after w (hexed bs) part → ys ≡ hexed bs
put_exact bs part ys w size e put = put ∙ just_filled (hexed bs) part w e (omega (arith, hexed_length bs))

-- CHKSUM in the first four places of five, then the last mark
pub end_is : (out ys pair : List ℕ) (sum : ℕ) → length out ≡ 5 → ys ≡ hexed pair → pair ≡ bytes_of HighFirst 2 sum
    → set (put_mid 0 (4 - 0) out ys) 4 0x0D ≡ end_of sum
end_is out ys pair sum five y p =
    let size : length ys ≡ 4 = ap length (y ∙ ap hexed p) ∙ hexed_length (bytes_of HighFirst 2 sum) in
    let none : drop (4 + 1) out ≡ [] = drop_of_length-le out {i = 5} (omega arith) in
    one_more ys out 4 0x0D 0 size (omega arith)
    ∙ ap (λ (l : List ℕ). (ys ++ 0x0D ∷ []) ++ l) none
    ∙ append-nil (ys ++ 0x0D ∷ [])
    ∙ ap (λ (l : List ℕ). l ++ 0x0D ∷ []) (y ∙ ap hexed p)

-- the part for both comes back between what was before and after it
pub sealed_is : (s ys : List ℕ) (n sum : ℕ) → ys ≡ end_of sum → sum ≡ closing 65536 (total (take (n + 13 - 1) (drop 1 s)))
    → put_mid (n + 13) (n + 18 - (n + 13)) s ys ≡ sealed n s
sealed_is s ys n sum y e =
    let k : n + 13 - 1 ≡ n + 12 = omega arith in
    let m : n + 13 + (n + 18 - (n + 13)) ≡ n + 18 = omega arith in
    rw (drop-drop, m, y, e, k)

-- ---- the whole

-- a frame that stands at the front without its end, closed
closed_front : (body old : List ℕ) (n : ℕ) → length body ≡ n + 12 → sealed n (0x7E ∷ (body ++ drop (n + 13) old)) ≡ (0x7E ∷ (body ++ end_chars body)) ++ drop (n + 18) old
closed_front body old n long =
    let front : List ℕ = 0x7E ∷ body in
    let rest = drop (n + 13) old in
    let size : length front ≡ n + 13 = omega arith in
    let five : n + 18 ≡ length front + 5 = omega arith in
    let all : n + 13 + 5 ≡ n + 18 = omega arith in
    let first = take_at front rest (n + 13) size in
    let inner = take_at body rest (n + 12) long in
    let past = ap (λ (k : ℕ). drop k (front ++ rest)) five ∙ drop-append-add front rest 5 ∙ drop-drop 5 (n + 13) old ∙ ap (λ (k : ℕ). drop k old) all in
    ap₂ (λ (a b : List ℕ). a ++ (end_chars b ++ drop (n + 18) (front ++ rest))) first inner
    ∙ ap (λ (l : List ℕ). front ++ (end_chars body ++ l)) past
    ∙ sym (append_assoc front (end_chars body) (drop (n + 18) old))

-- first mark, header and INFO, closed
pub frame_is : (old head load info : List ℕ) (address command n : ℕ) (w : Result ℕ Refusal) → n + 18 ≤ length old → n ≡ 2 * length info
    → head ≡ hexed (head_bytes address command n)
    → w ≡ written_as (Ok tt) (length (hexed info)) (length (take (n + 13 - 13) (drop 13 (put_mid 1 12 (set old 0 0x7E) head))))
    → load ≡ room_after w (hexed info) (take (n + 13 - 13) (drop 13 (put_mid 1 12 (set old 0 0x7E) head)))
    → sealed n (put_mid 13 (n + 13 - 13) (put_mid 1 12 (set old 0 0x7E) head) load) ≡ frame_chars address command info ++ drop (n + 18) old
unfolding frame_chars
frame_is old head load info address command n w room e h answer put =
    let size : length head ≡ 12 = ap length h ∙ hexed_length (head_bytes address command n) in
    let mark = one_more [] old 0 0x7E 0 refl (omega arith) in
    let begun : put_mid 1 12 (set old 0 0x7E) head ≡ (0x7E ∷ head) ++ drop 13 old = ap (λ (s : List ℕ). put_mid 1 12 s head) mark ∙ part_more (0x7E ∷ []) old 1 12 head refl in
    let wide : length (put_mid 1 12 (set old 0 0x7E) head) ≡ length old = ap length begun ∙ length-append (0x7E ∷ head) (drop 13 old) ∙ omega (arith, length-drop 13 old) in
    let exact = part_length 13 (n + 13 - 13) (put_mid 1 12 (set old 0 0x7E) head) (omega arith) in
    let l : load ≡ hexed info = put_exact info (take (n + 13 - 13) (drop 13 (put_mid 1 12 (set old 0 0x7E) head))) load w (omega arith) answer put in
    let size2 : length load ≡ n = ap length l ∙ omega (arith, hexed_length info) in
    let count : n + 13 - 13 ≡ n = omega arith in
    let at : 13 + n ≡ n + 13 = omega arith in
    let long : length (head ++ load) ≡ n + 12 = length-append head load ∙ omega arith in
    let body : head ++ load ≡ body_chars address command info = ap₂ ◌++◌ (h ∙ ap (λ (k : ℕ). hexed (head_bytes address command k)) e) l in
    ap₂ (λ (k : ℕ) (s : List ℕ). sealed n (put_mid 13 k s load)) count begun
    ∙ ap (sealed n) (part_more (0x7E ∷ head) old 13 n load (omega arith))
    ∙ ap (λ (k : ℕ). sealed n (0x7E ∷ ((head ++ load) ++ drop k old))) at
    ∙ closed_front (head ++ load) old n long
    ∙ ap (λ (s : List ℕ). (0x7E ∷ (s ++ end_chars s)) ++ drop (n + 18) old) body

-- ---- the answers

pub chars_length : (address command : ℕ) (info : List ℕ) → length (frame_chars address command info) ≡ 2 * length info + 18
unfolding frame_chars
chars_length address command info =
    let body = body_chars address command info in
    let sum = bytes_of HighFirst 2 (closing 65536 (total body)) in
    let a = length-append body (end_chars body) in
    let b = length-append (hexed (head_bytes address command (2 * length info))) (hexed info) in
    let c = length-append (hexed sum) (0x0D ∷ []) in
    omega (arith, hexed_length (head_bytes address command (2 * length info)), hexed_length info, hexed_length sum)

-- what the writer knows where it does not refuse
pub record Fits (len places n : ℕ) : Type 0 where
  pub size : n ≡ 2 * len + 18
  pub short : len ≤ 2047
  pub room : 2 * len + 18 ≤ places

pub framed_says : (len places n : ℕ) (w : Result ℕ Refusal) → w ≡ framed_as len places → w ≡ Ok n → Fits len places n
framed_says len places n w e f =
    let h = sym f ∙ e in
    record {
      size = (frame_says (over_long 2047 len) (2 * len + 18) places n h).1.0;
      short = short_says 2047 len (2 * len + 18) places n h;
      room = (frame_says (over_long 2047 len) (2 * len + 18) places n h).1.1;
    }
