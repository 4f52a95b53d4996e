-- `records_pathfinder::read_reply` meets its contract: the frame's data lie within the input, and fit what they are read into.
-- Assumes nothing.
use Prim.Native.Nat.{ℕ, ◌*◌}
use mathlib.Core.Path.{sym, ap, ◌∙◌}
use native.Mathlib.Omega.{arith}
use lib.Seq.{length-take-le}
use Rattle.std.specs.Prelude.{Ok}
use Rattle.frames_pathfinder.proofs.Ladder.{whole_parts}
use Rattle.lists_pathfinder.proofs.Rows.{read_fits}
use Rattle.records_pathfinder.proofs.Answers.{words_fit, name_fit}
use Rattle.records_pathfinder.proofs.Filled.{data_length}
use Rattle.records_pathfinder.proofs.read_reply.Goals as goal

pub overflow_add-data : goal.overflow_add-data
overflow_add-data c = let p = whole_parts _ _ c.in_ok-frame.ensures in omega arith

pub slice_bounds-data-end : goal.slice_bounds-data-end
slice_bounds-data-end c = let p = whole_parts _ _ c.in_ok-frame.ensures in omega arith

pub slice_bounds-read_words-end-in-Words : goal.slice_bounds-read_words-end-in-Words
slice_bounds-read_words-end-in-Words c =
    let f = words_fit _ _ _ _ _ _ (ap Ok (sym c.in-Words.is) ∙ c.in_ok-reply.ensures) in
    sym (length-take-le c.in-Words.n c.args.row.now f.1)

pub returns-in_err-read_words-in-Words-clause-answer : goal.returns-in_err-read_words-in-Words-clause-answer
returns-in_err-read_words-in-Words-clause-answer c =
    let f = words_fit _ _ _ _ _ _ (ap Ok (sym c.in-Words.is) ∙ c.in_ok-reply.ensures) in
    let n = data_length _ _ c.in_ok-frame.ensures in
    let m = length-take-le c.in-Words.n c.args.row.now f.1 in
    let fits = read_fits _ _ (n ∙ f.0 ∙ ap (λ (k : ℕ). 4 * k) (sym m)) in
    absurd (let e = c.in_err-read_words-in-Words.ensures.answer ∙ fits in cc)

pub slice_bounds-copy_from_slice-end-in-Name : goal.slice_bounds-copy_from_slice-end-in-Name
slice_bounds-copy_from_slice-end-in-Name c =
    let f = name_fit _ _ _ _ _ _ (ap Ok (sym c.in-Name.is) ∙ c.in_ok-reply.ensures) in
    sym (length-take-le c.in-Name.n c.args.name.now (omega arith))

pub copy_from_slice-requires : goal.copy_from_slice-requires
copy_from_slice-requires c =
    let f = name_fit _ _ _ _ _ _ (ap Ok (sym c.in-Name.is) ∙ c.in_ok-reply.ensures) in
    length-take-le c.in-Name.n c.args.name.now (omega arith) ∙ f.0 ∙ sym (data_length _ _ c.in_ok-frame.ensures)
