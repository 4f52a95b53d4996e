-- `frames_pace::read_frame` meets its contract: the input is too short, or its first fault is the definition's, since each test is.
-- Assumes nothing.
use mathlib.Core.Path.{◌≡◌, sym, ◌∙◌}
use Rattle.std.proofs.lemmas.Result.{err_from_is_err_and}
use Rattle.frames_pace.proofs.Cases.{fault, fault_lent, too_short, faulty, faultless}
use Rattle.frames_pace.proofs.read_frame.Goals as goal

pub returns-then-n-lt18 : goal.returns-then-n-lt18
returns-then-n-lt18 c = too_short _ c.if-n-lt18.true

pub returns-in_err-pace_frame : goal.returns-in_err-pace_frame
returns-in_err-pace_frame c =
    let s = c.args.s.now in
    let found : c.pace_frame.result ≡ fault s =
    fault_lent s _ _ _ _ _ _ c.if-n-lt18.false c.pace_frame.ensures c.all_hex-hex.ensures c.has_count-fits.ensures c.word_of.ensures
    c.closes65536-closes.ensures c.is_known-known.ensures in
    let p = err_from_is_err_and c.from_residual.result c.from_residual.ensures.1 in
    rw (p.1, p.2) (faulty s c.if-n-lt18.false _ (sym c.in_err-pace_frame.was ∙ found))

pub returns : goal.returns
returns c =
    let s = c.args.s.now in
    let found : c.pace_frame.result ≡ fault s =
    fault_lent s _ _ _ _ _ _ c.if-n-lt18.false c.pace_frame.ensures c.all_hex-hex.ensures c.has_count-fits.ensures c.word_of.ensures
    c.closes65536-closes.ensures c.is_known-known.ensures in
    rw (c.byte_of.ensures, c.byte_of-2.ensures) (faultless s c.if-n-lt18.false (sym c.in_ok-pace_frame.was ∙ found))
