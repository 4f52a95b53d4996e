-- What a whole frame says of its characters: the ladder of `frame_of` taken apart test by test.
-- Assumes nothing.
use mathlib.Core.Path.{◌≡◌, sym, ap, ◌∙◌}
use mathlib.Core.Bool.{true}
use mathlib.Core.List.{List, ◌++◌}
use Prim.Native.Nat.{ℕ, ◌+◌, ◌-◌, ◌≤◌}
use native.Mathlib.Omega.{arith}
use borrow.Author.Tests.{ltb-false, eqb-true}
use lib.Dec.{ltb, eqb}
use lib.ListN.{length, get_or, take, drop}
use Rattle.std.specs.Prelude.{Option, Some, None, Ok}
use Rattle.laws.proofs.Ladders.{past, into, both}
use Rattle.sums.specs.Sums.{total, closes}
use Rattle.lengths_pace.specs.Lengths.{count_of}
use Rattle.refusals.specs.declared.Refusal.{Refusal}
use Rattle.frames_pace.specs.declared.Frame.{Frame}
use Rattle.refusals.proofs.Writing.{not_refused}
use Rattle.characters_pace.specs.Characters.{all_hex, word_at}
use Rattle.characters_pace.proofs.Tests.{hex_split}
use Rattle.frames_pace.specs.Frame.{inner_of, head_of, covered_of, check_of, info_of, counts, counted, known, read_as, frame_of}
use Rattle.frames_pace.proofs.Parts.{cut_pieces, head_length, check_length, in_pieces}

pub record Said (s : List ℕ) (f : Frame) : Type 0 where
  pub starts : f.start ≡ 13
  pub size : f.len + 18 ≡ length s
  pub first : get_or s 0 0 ≡ 0x7E
  pub last : get_or s (length s - 1) 0 ≡ 0x0D
  pub hex : all_hex (inner_of s) ≡ true
  pub word : count_of (word_at (head_of s) 4) ≡ Some f.len
  pub sum : closes 65536 (total (covered_of s)) (check_of s) ≡ true
  pub version : get_or (head_of s) 0 0 ≡ 0x25
  pub cid1 : get_or (head_of s) 2 0 ≡ 0x46
  pub from : f.address ≡ get_or (head_of s) 1 0
  pub asks : f.command ≡ get_or (head_of s) 3 0

is_count : (l : Option ℕ) (n : ℕ) → counts l n ≡ true → l ≡ Some n
is_count (Some m) n h = ap Some (eqb-true m n h)
is_count None n h = absurd cc

pub whole_says : (s : List ℕ) (f : Frame) → Ok f ≡ frame_of s → Said s f
unfolding frame_of
whole_says s f h =
    let no = λ (w : Refusal). not_refused {A = ⊥} f w in
    let f1 = past (ltb (length s) 18) _ _ _ (no _) h in
    let f2 = into (eqb (get_or s 0 0) 0x7E) _ _ _ (no _) f1.1 in
    let f3 = into (eqb (get_or s (length s - 1) 0) 0x0D) _ _ _ (no _) f2.1 in
    let f4 = into (all_hex (inner_of s)) _ _ _ (no _) f3.1 in
    let f5 = into (counted s) _ _ _ (no _) f4.1 in
    let f6 = into (closes 65536 (total (covered_of s)) (check_of s)) _ _ _ (no _) f5.1 in
    let f7 = into (known s) _ _ _ (no _) f6.1 in
    let ids = both (eqb (get_or (head_of s) 0 0) 0x25) (eqb (get_or (head_of s) 2 0) 0x46) f7.0 in
    let long = ltb-false (length s) 18 f1.0 in
    let is : f ≡ read_as s = cc f7.1 in
    let l : f.len ≡ length s - 18 = ap (λ (x : Frame). x.len) is in
    record {
      starts = ap (λ (x : Frame). x.start) is;
      size = omega arith;
      first = eqb-true _ _ f2.0;
      last = eqb-true _ _ f3.0;
      hex = f4.0;
      word = is_count (count_of (word_at (head_of s) 4)) (length s - 18) f5.0 ∙ ap Some (sym l);
      sum = f6.0;
      version = eqb-true _ _ ids.0;
      cid1 = eqb-true _ _ ids.1;
      from = ap (λ (x : Frame). x.address) is;
      asks = ap (λ (x : Frame). x.command) is;
    }

-- the part that an upper layer cuts out by start and length is INFO
pub info_lent : (s : List ℕ) (f : Frame) → Said s f → take (f.start + f.len - f.start) (drop f.start s) ≡ info_of s
info_lent s f d =
    let n : f.start + f.len - f.start ≡ length s - 18 = omega arith in
    rw (n, d.starts)

-- INFO has digits alone
pub info_hex : (s : List ℕ) (f : Frame) → Said s f → all_hex (info_of s) ≡ true
info_hex s f d =
    let long : 18 ≤ length s = omega (arith, d.size) in
    let head = take 12 (drop 1 s) in
    let check = take 4 (drop (length s - 5) s) in
    let cut = cut_pieces (get_or s 0 0) head (info_of s) check (get_or s (length s - 1) 0) (head_length s long) (check_length s long) in
    let inner : inner_of s ≡ head ++ (info_of s ++ check) = ap inner_of (in_pieces s long) ∙ cut.inner in
    let rest = hex_split head (info_of s ++ check) (sym (ap all_hex inner) ∙ d.hex) in
    (hex_split (info_of s) check rest.1).0
