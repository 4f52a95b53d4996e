-- What request the bytes are (002, 6; 01, Tongzhu and Refusal numbers): the frame's refusals, then 7, 8, 9.
-- Assumes nothing.
use Rattle.std.specs.Prelude.{ℕ, List, length, take, drop, eqb, Option, Some, None, Result, Ok, Err}
use Rattle.laws.specs.Choice.{pick}
use Rattle.refusals.specs.declared.Refusal.{Refusal}
use Rattle.refusals.specs.declared.Refusal.TheVariants as refusal
use Rattle.functions_tongzhu.specs.declared.Kind.{Kind}
use Rattle.functions_tongzhu.specs.declared.Kind.TheVariants.{Reads, Sets}
use Rattle.frames_tongzhu.specs.declared.Frame.{Frame}
use Rattle.functions_tongzhu.specs.Functions.{kind_of}
use Rattle.frames_tongzhu.specs.Reading.{frame_of}
use Rattle.times_tongzhu.specs.declared.Time.{Time}
use Rattle.times_tongzhu.specs.Times.{real, time_in}
use Rattle.requests_tongzhu.specs.declared.Request.{Request}
use Rattle.requests_tongzhu.specs.declared.Request.TheVariants.{Ask, SetTime}

unfoldable pub time_request : Time → Result Request Refusal
time_request t = pick (real t) (Ok (SetTime t)) (Err refusal.Range)

abbrev pub by_kind : Option Kind → ℕ → List ℕ → Result Request Refusal
by_kind (Some Reads) f p = pick (eqb (length p) 0) (Ok (Ask f)) (Err refusal.Shape)
by_kind (Some Sets) f p = pick (eqb (length p) 6) (time_request (time_in p)) (Err refusal.Shape)
by_kind None f p = Err refusal.Request

-- a frame of the function f with the payload p
unfoldable pub payload_in : ℕ → List ℕ → Result Request Refusal
payload_in f p = by_kind (kind_of f) f p

abbrev pub of_frame : List ℕ → Result Frame Refusal → Result Request Refusal
of_frame s (Ok f) = payload_in f.function (take f.len (drop f.start s))
of_frame s (Err why) = Err why

unfoldable pub parsed_of : List ℕ → Result Request Refusal
parsed_of s = of_frame s (frame_of s)
