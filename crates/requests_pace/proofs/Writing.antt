-- What the writers answer and leave in the room, each from the facts that they have at that place: the frame's writer made the frame of the request.
-- Assumes nothing.
use mathlib.Core.Path.{◌≡◌, refl, ap, ◌∙◌}
use mathlib.Core.List.{List, ◌++◌}
use Prim.Native.Nat.{ℕ, ◌+◌, ◌-◌, ◌*◌, ◌≤◌}
use native.Mathlib.Omega.{arith}
use lib.Dec.{leb}
use lib.ListN.{length, take, drop, replicate, length-append}
use Rattle.laws.proofs.Filling.{front_taken}
use Rattle.std.specs.Prelude.{Option, Some, None, Result, Ok, Err}
use Rattle.refusals.specs.declared.Refusal.{Refusal}
use Rattle.refusals.specs.Writing.{room_after}
use Rattle.refusals.proofs.Writing.{short_enough}
use Rattle.orders.specs.Orders.{writing}
use Rattle.orders.proofs.Answers as orders
use Rattle.frames_written_pace.specs.Written.{frame_chars, framed_as}
use Rattle.frames_written_pace.proofs.Writing.{chars_length}
use Rattle.writes_pace.specs.declared.Info.{Info}
use Rattle.layouts_pace.specs.declared.Values.{Values}
use Rattle.writes_pace.specs.Info as writes
use Rattle.settings_pace.proofs.RoundTrip.{info_short}
use Rattle.requests_pace.specs.declared.Kind.{Kind}
use Rattle.requests_pace.specs.declared.Kind.TheVariants.{Addressed, Bare, Carries}
use Rattle.requests_pace.specs.declared.Request.{Request}
use Rattle.requests_pace.specs.declared.Request.TheVariants.{Ask, Set}
use Rattle.requests_pace.specs.Request.{kind_asked, values_fault, address_of, code_of, ask_info, info_of, frame_for, ask_fault, fault_of, sent_as}

pub ask_fault_lem : (address command : ℕ) (k : Option Kind) → k ≡ kind_asked command → ask_fault k ≡ fault_of (Ask address command)
unfolding fault_of
ask_fault_lem address command k e = ap ask_fault e

pub values_fault_lem : (address : ℕ) (v : Values) → values_fault v ≡ fault_of (Set address v)
unfolding fault_of
values_fault_lem address v = refl

-- LENGTH counts the characters of every request
pub info_counted : (q : Request) → length (info_of q) ≤ 2047
info_counted (Ask address command) = go (kind_asked command)
  where
    go : (k : Option Kind) → length (ask_info k address) ≤ 2047
    go (Some Addressed) = omega arith
    go (Some Bare) = omega arith
    go (Some (Carries s)) = omega arith
    go None = omega arith
info_counted (Set address v) = info_short v

-- a request without fault: what its frame's writer answers and leaves
pub sent : (q : Request) (info out after : List ℕ) (w : Result ℕ Refusal) → Ok tt ≡ fault_of q → info ≡ info_of q → w ≡ framed_as (length info) (length out)
    → after ≡ room_after w (frame_chars (address_of q) (code_of q) info) out → (w ≡ sent_as q (length out)) × (after ≡ room_after w (frame_for q) out)
sent q info out after w sound i answer room = (
  answer ∙ ap (λ (l : List ℕ). framed_as (length l) (length out)) i
      ∙ rw (short_enough 2047 (length (info_of q)) (info_counted q), ← sound, chars_length (address_of q) (code_of q) (info_of q)),
  room ∙ ap (λ (l : List ℕ). room_after w (frame_chars (address_of q) (code_of q) l) out) i,
)

-- the refusal that the writer found for the fault n and its room
pub refused : (q : Request) (places len : ℕ) (n : Result Unit Refusal) (why : Refusal) → len ≡ length (info_of q) → n ≡ fault_of q
    → Err why ≡ writing n (leb (2 * len + 18) places) → Err why ≡ sent_as q places
refused q places len n why i e f = orders.refused (fault_of q) (length (frame_for q)) places why (rw (← e, chars_length (address_of q) (code_of q) (info_of q), ← i) f)

-- ---- the INFO of values, as the part of an array that is lent

module _ (v : Values) (i : Info) (x : i ≡ writes.info_record v) where
  pub info_size : i.len ≡ length (writes.info_of v)
  info_size = ap (λ (y : Info). y.len) x

  pub info_fits : i.len ≤ length i.bytes
  info_fits =
      let all : length i.bytes ≡ length (writes.info_of v ++ drop (length (writes.info_of v)) (replicate 8 0)) = ap (λ (y : Info). length y.bytes) x in
      omega (arith, info_size, length-append (writes.info_of v) (drop (length (writes.info_of v)) (replicate 8 0)))

  pub info_lent : take (i.len - 0) i.bytes ≡ writes.info_of v
  info_lent =
      ap (λ (y : Info). take (y.len - 0) y.bytes) x
      ∙ front_taken (length (writes.info_of v)) (drop (length (writes.info_of v)) (replicate 8 0)) (writes.info_of v) refl
