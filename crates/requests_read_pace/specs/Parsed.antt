-- PACE requests as they are read: the frame's refusals (1, 2, 3, 13, 4, 5, 6), then 7, 8, 9, or the request (01, PACE; 01, Refusal numbers).
-- Assumes nothing.
use Rattle.std.specs.Prelude.{◌&&◌, List, Option, Some, None, Result, Ok, Err, ℕ, ◌%◌, eqb, length, get_or}
use Rattle.laws.specs.Choice.{pick}
use Rattle.refusals.specs.declared.Refusal.{Refusal}
use Rattle.refusals.specs.declared.Refusal.TheVariants as refusal
use Rattle.characters_pace.specs.Characters.{bytes_in}
use Rattle.frames_pace.specs.declared.Frame.{Frame}
use Rattle.frames_pace.specs.Frame as frames
use Rattle.layouts_pace.specs.declared.Values.{Values}
use Rattle.settings_pace.specs.Reading as settings
use Rattle.requests_pace.specs.declared.Kind.{Kind}
use Rattle.requests_pace.specs.declared.Kind.TheVariants.{Addressed, Bare, Carries}
use Rattle.requests_pace.specs.declared.Request.{Request}
use Rattle.requests_pace.specs.declared.Request.TheVariants.{Ask, Set}
use Rattle.requests_pace.specs.Request.{kind_asked}

abbrev pub of_found : ℕ → Result Values Refusal → Result Request Refusal
of_found address (Ok v) = Ok (Set address v)
of_found address (Err why) = Err why

-- by what the command's request carries: the address as its one byte, nothing, or values; an odd count of characters is no whole byte
abbrev pub of_kind : Option Kind → ℕ → ℕ → List ℕ → Result Request Refusal
of_kind (Some Addressed) address code info =
    pick (eqb (length info) 2 && eqb (get_or (bytes_in info) 0 0) address) (Ok (Ask address code)) (Err refusal.Shape)
of_kind (Some Bare) address code info = pick (eqb (length info) 0) (Ok (Ask address code)) (Err refusal.Shape)
of_kind (Some (Carries s)) address code info =
    pick (eqb (length info % 2) 0) (of_found address (settings.request_of s (bytes_in info))) (Err refusal.Shape)
of_kind None address code info = Err refusal.Request

unfoldable pub whole_of : ℕ → ℕ → List ℕ → Result Request Refusal
whole_of address code info = of_kind (kind_asked code) address code info

abbrev pub of_frame : List ℕ → Result Frame Refusal → Result Request Refusal
of_frame s (Err why) = Err why
of_frame s (Ok f) = whole_of f.address f.command (frames.info_of s)

unfoldable pub parsed_of : List ℕ → Result Request Refusal
parsed_of s = of_frame s (frames.frame_of s)
