-- `frames_written_pace::write_frame` meets its contract: what the rule answers; where that is a frame, it stands at the front.
-- Assumes nothing.
use native.Mathlib.Omega.{arith}
use Rattle.frames_written_pace.proofs.Writing.{framed_says}
use Rattle.frames_written_pace.proofs.write_frame.Goals as goal

pub put_frame-requires : goal.put_frame-requires
put_frame-requires c = let f = framed_says _ _ _ _ c.framed.ensures c.in_ok-size.was in (f.short, omega (arith, f.short, f.room))

pub returns-clause-room : goal.returns-clause-room
returns-clause-room c =
    let f = framed_says _ _ _ _ c.framed.ensures c.in_ok-size.was in
    rw f.size c.put_frame.ensures
