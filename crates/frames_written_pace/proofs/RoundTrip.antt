-- A frame that was written is read back with its address, command and payload; a frame that was read, of whole bytes, is the very one
-- that is written from what was read. Both go piece by piece. Assumes nothing.
use mathlib.Core.Path.{◌≡◌, refl, sym, ap, ap₂, ◌∙◌}
use mathlib.Core.Bool.{Bool, true}
use mathlib.Core.List.{List, [], ◌∷◌, ◌++◌, append_assoc}
use Prim.Native.Nat.{ℕ, zero, suc, ◌-◌, ◌*◌, ◌<◌, ◌≤◌}
use native.Mathlib.Omega.{arith}
use lib.Dec.{lit<}
use lib.ListN.{length, get_or, take, drop}
use Rattle.laws.specs.Firsts.{firsts}
use Rattle.laws.proofs.Firsts.{listed}
use Rattle.sums.specs.Sums.{total, closing, closes}
use Rattle.sums.proofs.Closing.{closing_lt, test_closing, test_only}
use Rattle.std.specs.Prelude.{Some, Result, Ok}
use Rattle.digits.specs.Hexes.{digit_of}
use Rattle.lengths_pace.specs.Lengths.{low_digits, length_word, count_of}
use Rattle.lengths_pace.proofs.Counts.{count_reads_back, word_writes_back}
use Rattle.numbers.specs.declared.Order.TheVariants.{HighFirst}
use Rattle.numbers.specs.Bytes.{bytes_of}
use Rattle.numbers.proofs.Orders.{Bytes, written_reads_back, read_writes_back}
use Rattle.refusals.specs.declared.Refusal.{Refusal}
use Rattle.frames_pace.specs.declared.Frame.{Frame}
use Rattle.std.specs.Option.{is_some}
use Rattle.characters_pace.specs.Characters.{all_hex, bytes_in, hexed, word_at}
use Rattle.frames_pace.specs.Frame.{inner_of, head_of, covered_of, check_of, info_of, payload_of, frame_of}
use Rattle.frames_written_pace.specs.Written.{head_bytes, body_chars, end_chars, frame_chars}
use Rattle.characters_pace.proofs.Carried.{hexed_length, hexed_all, hexed_reads_back, bytes_length, bytes_small, read_writes_back as hexes-back}
use Rattle.characters_pace.proofs.Tests.{all_append, all_split}
use Rattle.frames_pace.proofs.Cases.{whole}
use Rattle.frames_pace.proofs.Parts.{Cut, pieces, cut_pieces, head_length, info_length, check_length, in_pieces}
use Rattle.frames_pace.proofs.Whole.{Said, whole_says}

-- ---- written, then read

abbrev is_hex : ℕ → Bool
is_hex c = is_some (digit_of c)

abbrev framed : Frame → Result Frame Refusal
framed f = Ok f

word_small : (n : ℕ) → n < 4096 → length_word n < 65536
word_small n h = omega (arith, closing_lt 16 (lit< tt) (low_digits n))

pair_bytes : (n : ℕ) → Bytes (bytes_of HighFirst 2 n)
unfolding Bytes
pair_bytes n = (omega arith, (omega arith, tt))

-- two bytes of a number, read as one
word_back : (n : ℕ) → n < 65536 → word_at (bytes_of HighFirst 2 n) 0 ≡ n
word_back n h = written_reads_back HighFirst 2 n h

module _ (address command : ℕ) (info : List ℕ) (a : address < 256) (c : command < 256) (b : Bytes info) where
  head : List ℕ
  head = head_bytes address command (2 * length info)

  sum : ℕ
  sum = total (body_chars address command info)

  check : List ℕ
  check = bytes_of HighFirst 2 (closing 65536 sum)

  head_bytes_lem : Bytes head
  unfolding head Bytes
  head_bytes_lem = (lit< tt, (a, (lit< tt, (c, pair_bytes (length_word (2 * length info))))))

  as_pieces : frame_chars address command info ≡ pieces 0x7E (hexed head) (hexed info) (hexed check) 0x0D
  unfolding frame_chars head check sum
  as_pieces = ap (λ (l : List ℕ). 0x7E ∷ l) (append_assoc (hexed head) (hexed info) (end_chars (body_chars address command info)))

  cut : Cut (pieces 0x7E (hexed head) (hexed info) (hexed check) 0x0D) (hexed head) (hexed info) (hexed check) 0x0D
  unfolding head check
  cut = cut_pieces 0x7E (hexed head) (hexed info) (hexed check) 0x0D (hexed_length head) (hexed_length check)

  -- the payload of a frame that was written
  pub payload_reads_back : payload_of (frame_chars address command info) ≡ info
  payload_reads_back = ap payload_of as_pieces ∙ ap bytes_in cut.info ∙ hexed_reads_back info b

  heads : head_of (pieces 0x7E (hexed head) (hexed info) (hexed check) 0x0D) ≡ head
  heads = cut.head ∙ hexed_reads_back head head_bytes_lem

  all : all_hex (inner_of (pieces 0x7E (hexed head) (hexed info) (hexed check) 0x0D)) ≡ true
  unfolding check
  all =
      ap all_hex cut.inner
      ∙ all_append is_hex (hexed head) (hexed info ++ hexed check) (hexed_all head head_bytes_lem)
      (all_append is_hex (hexed info) (hexed check) (hexed_all info b) (hexed_all check (pair_bytes (closing 65536 sum))))

  closed : closes 65536 (total (covered_of (pieces 0x7E (hexed head) (hexed info) (hexed check) 0x0D))) (check_of (pieces 0x7E (hexed head) (hexed info) (hexed check) 0x0D)) ≡ true
  unfolding head check sum
  closed =
      ap₂ (λ (l : List ℕ) (k : ℕ). closes 65536 (total l) k) cut.covered
      (cut.check ∙ ap (λ (l : List ℕ). word_at l 0) (hexed_reads_back check (pair_bytes (closing 65536 sum)))
      ∙ word_back (closing 65536 sum) (closing_lt 65536 (lit< tt) sum))
      ∙ test_closing 65536 (lit< tt) sum

  -- a frame that was written is read back
  pub frame_reads_back : length info ≤ 2047 → Ok (record { address = address; command = command; start = 13; len = 2 * length info }) ≡ frame_of (frame_chars address command info)
  unfolding head
  frame_reads_back short =
      let s = pieces 0x7E (hexed head) (hexed info) (hexed check) 0x0D in
      let n = 2 * length info in
      let size = hexed_length info in
      let long = cut.size in
      let count : n ≡ length s - 18 = omega arith in
      let word : count_of (word_at (head_of s) 4) ≡ Some n =
      ap (λ (l : List ℕ). count_of (word_at l 4)) heads
      ∙ ap count_of (word_back (length_word n) (word_small n (omega arith))) ∙ count_reads_back n (omega arith) in
      ap₂ (λ (l : List ℕ) (k : ℕ). framed (record { address = get_or l 1 0; command = get_or l 3 0; start = 13; len = k })) (sym heads) count
      ∙ whole s (omega arith) refl cut.last all n word count closed (ap (λ (l : List ℕ). get_or l 0 0) heads) (ap (λ (l : List ℕ). get_or l 2 0) heads)
      ∙ ap frame_of (sym as_pieces)

-- ---- read, then written

-- a pair of bytes is what their number is written as
pair_back : (x y : ℕ) → x < 256 → y < 256 → bytes_of HighFirst 2 (word_at (x ∷ y ∷ []) 0) ≡ x ∷ y ∷ []
unfolding Bytes
pair_back x y hx hy = read_writes_back HighFirst (x ∷ y ∷ []) (hy, (hx, tt))

byte_in : (l : List ℕ) (i : ℕ) → Bytes l → get_or l i 0 < 256
unfolding Bytes
byte_in [] i b = lit< tt
byte_in (x ∷ l) zero b = b.0
byte_in (x ∷ l) (suc i) b = byte_in l i b.1

module _ (s : List ℕ) (f : Frame) (w : Ok f ≡ frame_of s) where
  d : Said s f
  d = whole_says s f w

  long : 18 ≤ length s
  long = omega (arith, d.size)

  h : List ℕ
  h = take 12 (drop 1 s)

  e : List ℕ
  e = take 4 (drop (length s - 5) s)

  cut_s : Cut (pieces (get_or s 0 0) h (info_of s) e (get_or s (length s - 1) 0)) h (info_of s) e (get_or s (length s - 1) 0)
  unfolding h e
  cut_s = cut_pieces (get_or s 0 0) h (info_of s) e (get_or s (length s - 1) 0) (head_length s long) (check_length s long)

  whole_s : s ≡ pieces (get_or s 0 0) h (info_of s) e (get_or s (length s - 1) 0)
  unfolding h e
  whole_s = in_pieces s long

  hexes : (all_hex h ≡ true) × ((all_hex (info_of s) ≡ true) × (all_hex e ≡ true))
  hexes =
      let t = all_split is_hex h (info_of s ++ e) (sym (ap all_hex (ap inner_of whole_s ∙ cut_s.inner)) ∙ d.hex) in
      (t.0, all_split is_hex (info_of s) e t.1)

  -- the payload is of bytes
  pub payload_bytes : Bytes (payload_of s)
  payload_bytes = bytes_small (info_of s) hexes.1.0

  -- the header was written from address, command and length
  head_again : hexed (head_bytes f.address f.command f.len) ≡ h
  unfolding h firsts
  head_again =
      let l = head_of s in
      let six_long : length l ≡ 6 = omega (arith, bytes_length h, head_length s long) in
      let bs = bytes_small h hexes.0 in
      let x = get_or l 4 0 in
      let y = get_or l 5 0 in
      let small : word_at l 4 < 65536 = omega (arith, byte_in l 4 bs, byte_in l 5 bs) in
      let pair : bytes_of HighFirst 2 (length_word f.len) ≡ x ∷ y ∷ [] =
      ap (bytes_of HighFirst 2) (word_writes_back (word_at l 4) f.len small d.word) ∙ pair_back x y (byte_in l 4 bs) (byte_in l 5 bs) in
      let same : head_bytes f.address f.command f.len ≡ l =
      rw (pair, d.from, d.asks) (rw (d.version, d.cid1) at (listed l 6 six_long)) in
      ap hexed same ∙ hexes-back h 6 hexes.0 (head_length s long)

  -- CHKSUM was written from the characters before it
  check_again : hexed (bytes_of HighFirst 2 (closing 65536 (total (h ++ info_of s)))) ≡ e
  unfolding e firsts
  check_again =
      let l = bytes_in e in
      let two_long : length l ≡ 2 = omega (arith, bytes_length e, check_length s long) in
      let bs = bytes_small e hexes.1.1 in
      let x = get_or l 0 0 in
      let y = get_or l 1 0 in
      let small : word_at l 0 < 65536 = omega (arith, byte_in l 0 bs, byte_in l 1 bs) in
      let sums : covered_of s ≡ h ++ info_of s = ap covered_of whole_s ∙ cut_s.covered in
      let right : word_at l 0 ≡ closing 65536 (total (h ++ info_of s)) =
      test_only 65536 (lit< tt) (total (h ++ info_of s)) (word_at l 0) small (ap (λ (t : List ℕ). closes 65536 (total t) (word_at l 0)) (sym sums) ∙ d.sum) in
      ap hexed (ap (bytes_of HighFirst 2) (sym right) ∙ pair_back x y (byte_in l 0 bs) (byte_in l 1 bs) ∙ listed l 2 two_long)
      ∙ hexes-back e 2 hexes.1.1 (check_length s long)

  module _ (k : ℕ) (even : f.len ≡ 2 * k) where
    info_again : hexed (payload_of s) ≡ info_of s
    info_again = hexes-back (info_of s) k hexes.1.0 (info_length s long ∙ omega (arith, d.size))

    payload_length : 2 * length (payload_of s) ≡ f.len
    payload_length = omega (arith, bytes_length (info_of s), info_length s long, d.size)

    -- a frame that was read is the one written from what was read
    pub frame_writes_back : frame_chars f.address f.command (payload_of s) ≡ s
    unfolding frame_chars
    frame_writes_back =
        let body : body_chars f.address f.command (payload_of s) ≡ h ++ info_of s =
        ap₂ ◌++◌ (ap (λ (n : ℕ). hexed (head_bytes f.address f.command n)) payload_length ∙ head_again) info_again in
        ap (λ (l : List ℕ). 0x7E ∷ (l ++ end_chars l)) body
        ∙ ap (λ (l : List ℕ). 0x7E ∷ ((h ++ info_of s) ++ (l ++ 0x0D ∷ []))) check_again
        ∙ ap (λ (l : List ℕ). 0x7E ∷ l) (append_assoc h (info_of s) (e ++ 0x0D ∷ []))
        ∙ ap₂ (λ (m z : ℕ). pieces m h (info_of s) e z) (sym d.first) (sym d.last)
        ∙ sym whole_s
