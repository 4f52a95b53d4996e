-- `frames_written_pace::put_head` meets its contract: a count below 4,096 has a LENGTH word, and the six bytes are written as characters.
-- Assumes nothing.
use mathlib.Core.Path.{sym, ◌∙◌}
use Rattle.frames_written_pace.proofs.Writing.{no_word, head_is, put_exact}
use Rattle.frames_written_pace.proofs.put_head.Goals as goal

pub returns-in_default : goal.returns-in_default
returns-in_default c = no_word _ c.requires.0 (sym c.length_word.ensures ∙ c.in_default.is)

pub returns : goal.returns
returns c =
    put_exact _ c.args.out.now _ _ c.requires.1 c.put_hex.ensures.answer c.put_hex.ensures.room
    ∙ head_is _ _ _ _ _ c.requires.0 (sym c.length_word.ensures ∙ c.in-Some.is) c.bytes16-size.ensures
