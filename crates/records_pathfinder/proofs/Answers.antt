-- What an answer says of the data and the room. Assumes nothing.
use mathlib.Core.Path.{◌≡◌}
use Prim.Native.Nat.{ℕ, ◌*◌, ◌≤◌}
use native.Mathlib.Omega.{arith}
use borrow.Author.Tests.{ltb-false, eqb-true}
use lib.Dec.{ltb, eqb}
use Rattle.std.specs.Prelude.{Option, Some, None, Result, Ok, Err}
use Rattle.laws.proofs.Ladders.{past, into}
use Rattle.refusals.specs.declared.Refusal.{Refusal}
use Rattle.opcodes_pathfinder.specs.declared.Kind.{Kind}
use Rattle.opcodes_pathfinder.specs.declared.Kind.TheVariants.{Failure as Fails, Asked, Other}
use Rattle.opcodes_pathfinder.specs.declared.Shape.{Shape}
use Rattle.opcodes_pathfinder.specs.declared.Shape.TheVariants.{Words as HasWords, Name as HasName, Nothing}
use Rattle.records_pathfinder.specs.declared.Reply.{Reply}
use Rattle.records_pathfinder.specs.declared.Reply.TheVariants.{Words, Name, Failure}
use Rattle.opcodes_pathfinder.specs.Opcodes.{kind_of, shape_of}
use Rattle.records_pathfinder.specs.Replies.{words_judged, shaped, by_kind, judged}

not_refused : (r : Reply) (why : Refusal) → ◌≡◌ {A = Result Reply Refusal} (Ok r) (Err why) → ⊥
not_refused r why h = absurd cc

-- an answer that is not a failure is the one for the asked shape
good_kind : (k : Kind) (op len : ℕ) (answer : Result Reply Refusal) (r : Reply) → (r ≡ Failure op → ⊥) → Ok r ≡ by_kind k op len answer → Ok r ≡ answer
good_kind Fails op len answer r g h = absurd (not_refused r _ (past (eqb len 0) _ _ _ (λ (e : ◌≡◌ {A = Result Reply Refusal} (Ok r) (Ok (Failure op))). g cc) h).1)
good_kind Asked op len answer r g h = h
good_kind Other op len answer r g h = absurd (not_refused r _ h)

words_of : (sh : Option Shape) (n len places bytes : ℕ) → Ok (Words n) ≡ shaped sh len places bytes → (len ≡ 4 * n) × (n ≤ places)
unfolding words_judged
words_of (Some (HasWords m)) n len places bytes h =
    let no = not_refused (Words n) in
    let a = into (eqb len (4 * m)) _ _ _ (no _) h in
    let b = past (ltb places m) _ _ _ (no _) a.1 in
    let e : n ≡ m = cc b.1 in
    (omega (arith, eqb-true len (4 * m) a.0), omega (arith, ltb-false places m b.0))
words_of (Some HasName) n len places bytes h = let b = past (ltb bytes len) _ _ _ (not_refused (Words n) _) h in absurd (cc b.1)
words_of (Some Nothing) n len places bytes h = let b = into (eqb len 0) _ _ _ (not_refused (Words n) _) h in absurd (cc b.1)
words_of None n len places bytes h = absurd (not_refused (Words n) _ h)

name_of : (sh : Option Shape) (n len places bytes : ℕ) → Ok (Name n) ≡ shaped sh len places bytes → (n ≡ len) × (len ≤ bytes)
unfolding words_judged
name_of (Some (HasWords m)) n len places bytes h =
    let no = not_refused (Name n) in
    let a = into (eqb len (4 * m)) _ _ _ (no _) h in
    let b = past (ltb places m) _ _ _ (no _) a.1 in
    absurd (cc b.1)
name_of (Some HasName) n len places bytes h =
    let b = past (ltb bytes len) _ _ _ (not_refused (Name n) _) h in
    (cc b.1, ltb-false bytes len b.0)
name_of (Some Nothing) n len places bytes h = let b = into (eqb len 0) _ _ _ (not_refused (Name n) _) h in absurd (cc b.1)
name_of None n len places bytes h = absurd (not_refused (Name n) _ h)

module _ (asked op len places bytes n : ℕ) where
  pub words_fit : Ok (Words n) ≡ judged asked op len places bytes → (len ≡ 4 * n) × (n ≤ places)
  unfolding judged
  words_fit h = words_of (shape_of asked) n len places bytes (good_kind (kind_of asked op) op len _ (Words n) (λ e. absurd cc) h)

  pub name_fit : Ok (Name n) ≡ judged asked op len places bytes → (n ≡ len) × (len ≤ bytes)
  unfolding judged
  name_fit h = name_of (shape_of asked) n len places bytes (good_kind (kind_of asked op) op len _ (Name n) (λ e. absurd cc) h)
