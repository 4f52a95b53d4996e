-- The ways out of the writers' rule, each from the tests that a writer makes; what an answer says; and what stands in the room after it.
-- By the tests in their order. Assumes nothing.
use mathlib.Core.Path.{◌≡◌, refl, sym, ap, ◌∙◌}
use mathlib.Core.Bool.{Bool, true, false}
use mathlib.Core.List.{List, [], ◌++◌, append-nil}
use Prim.Native.Nat.{ℕ, ◌<◌, ◌≤◌}
use native.Mathlib.Omega.{arith}
use borrow.Author.Tests.{lt-ltb, le-ltb, ltb-false, le-leb, lt-leb, leb-true}
use lib.Dec.{ltb, leb}
use lib.ListN.{length, take, drop, drop_of_length-le}
use lib.Seq.{take_at}
use Rattle.std.specs.Prelude.{Result, Ok, Err}
use Rattle.laws.specs.Choice.{pick}
use Rattle.refusals.specs.declared.Refusal.{Refusal}
use Rattle.refusals.specs.declared.Refusal.TheVariants as refusal
use Rattle.refusals.specs.Writing.{written_as, room_after, left_after, over_long}

-- ---- the answers

module _ (fault : Result Unit Refusal) (size places : ℕ) where
  -- what the request itself is refused for, as the writer holds it
  pub faulty : (why : Refusal) → Err why ≡ fault → Err why ≡ written_as fault size places
  unfolding written_as
  faulty why e = rw (← e)

  module _ (sound : fault ≡ Ok tt) where
    pub no_room : places < size → Err refusal.Room ≡ written_as fault size places
    unfolding written_as
    no_room h = rw sound (simp (lt-ltb places size h))

    pub fits : size ≤ places → Ok size ≡ written_as fault size places
    unfolding written_as
    fits h = rw sound (simp (le-ltb places size h))

pub short_enough : (most len : ℕ) → len ≤ most → over_long most len ≡ Ok tt
short_enough most len h = simp (le-leb len most h)

pub too_long : (most len size places : ℕ) → most < len → Err refusal.Shape ≡ written_as (over_long most len) size places
unfolding written_as
too_long most len size places h = simp (lt-leb len most h)

-- ---- what an answer says

pub not_refused : {A T : Type 0} (n : T) (why : Refusal) → ◌≡◌ {A = Result T Refusal} (Ok n) (Err why) → A
not_refused n why h = absurd cc

-- a frame: there was no fault, it has its size, and the room holds it
pub frame_says : (fault : Result Unit Refusal) (size places n : ℕ) → Ok n ≡ written_as fault size places
    → (fault ≡ Ok tt) × ((n ≡ size) × (size ≤ places))
unfolding written_as
frame_says (Ok sound) size places n h = go (ltb places size) refl h
  where
    go : (full : Bool) → ltb places size ≡ full → Ok n ≡ pick full (Err refusal.Room) (Ok size) → (◌≡◌ {A = Result Unit Refusal} (Ok sound) (Ok tt)) × ((n ≡ size) × (size ≤ places))
    go true e k = absurd cc
    go false e k = (refl, (cc, ltb-false places size e))
frame_says (Err why) size places n h = absurd cc

-- and where the fault is that of a payload's length, the payload is short enough
pub short_says : (most len size places n : ℕ) → Ok n ≡ written_as (over_long most len) size places → len ≤ most
short_says most len size places n h = short (leb len most) refl (frame_says (over_long most len) size places n h).0
  where
    short : (t : Bool) → leb len most ≡ t → ◌≡◌ {A = Result Unit Refusal} (pick t (Ok tt) (Err refusal.Shape)) (Ok tt) → len ≤ most
    short true e z = leb-true len most e
    short false e z = absurd cc

-- ---- the room

module _ (fault : Result Unit Refusal) (n : ℕ) (frame out : List ℕ) (answered : Ok n ≡ written_as fault (length frame) (length out)) where
  -- the bytes at its front are the frame
  pub front_is_frame : take n (room_after (Ok n) frame out) ≡ frame
  front_is_frame = take_at frame (drop n out) n (sym (frame_says fault (length frame) (length out) n answered).1.0)

-- a part of just the frame's size then holds the frame alone
pub just_filled : (frame part : List ℕ) (r : Result ℕ Refusal) → r ≡ written_as (Ok tt) (length frame) (length part) → length part ≡ length frame
    → room_after r frame part ≡ frame
just_filled frame part r e size =
    let framed : r ≡ Ok (length frame) = e ∙ sym (fits (Ok tt) (length frame) (length part) refl (omega arith)) in
    let none : drop (length frame) part ≡ [] = drop_of_length-le part {i = length frame} (omega arith) in
    rw (framed, none) (append-nil frame)

-- both halves of a frame's writer, by the same rule: w and a are the answer and the room after the first, which makes `made` of it; p puts the
-- payload; r and b are the answer and the room after the second
pub both_halves : (fault : Result Unit Refusal) (size n : ℕ) (frame out made a b : List ℕ) (p ends : List ℕ → List ℕ) (w r : Result ℕ Refusal)
    → w ≡ written_as fault size (length out) → w ≡ Ok n → a ≡ left_after w made out
    → length (p a) ≡ length out
    → r ≡ written_as fault size (length (p a)) → b ≡ left_after r (ends (p a)) (p a)
    → ends (p made) ≡ frame ++ drop size out
    → (r ≡ written_as fault size (length out)) × (b ≡ room_after r frame out)
both_halves fault size n frame out made a b p ends w r first is-frame half kept second whole makes =
    let s = frame_says fault size (length out) n (sym is-frame ∙ first) in
    let answer : r ≡ written_as fault size (length out) = second ∙ ap (written_as fault size) kept in
    let framed : r ≡ Ok size = answer ∙ sym (fits fault size (length out) s.0 s.1.1) in
    let begun : a ≡ made = half ∙ ap (λ (x : Result ℕ Refusal). left_after x made out) is-frame in
    (answer, whole ∙ rw framed (ap (λ (l : List ℕ). ends (p l)) begun ∙ makes))
