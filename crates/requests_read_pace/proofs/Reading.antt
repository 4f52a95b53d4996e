-- The cases of `whole_of` and `parsed_of`, each from the facts that the reader has at that place.
-- Assumes nothing.
use mathlib.Core.Path.{◌≡◌, refl}
use mathlib.Core.Bool.{Bool, true, false}
use mathlib.Core.List.{List}
use Prim.Native.Nat.{ℕ, ◌%◌}
use borrow.Author.Tests.{eq-eqb, ne_eqb}
use lib.Dec.{eqb}
use lib.ListN.{length, get_or}
use Rattle.std.specs.Prelude.{Some, None, Ok, Err}
use Rattle.laws.specs.Choice.{pick}
use Rattle.refusals.specs.declared.Refusal.{Refusal}
use Rattle.refusals.specs.declared.Refusal.TheVariants as refusal
use Rattle.characters_pace.specs.Characters.{all_hex, bytes_in, fault_of, faultless, checked_info}
use Rattle.frames_pace.specs.declared.Frame.{Frame}
use Rattle.frames_pace.specs.Frame as frames
use Rattle.layouts_pace.specs.declared.Setting.{Setting}
use Rattle.settings_pace.specs.Reading as settings
use Rattle.requests_pace.specs.declared.Kind.TheVariants.{Addressed, Bare, Carries}
use Rattle.requests_pace.specs.declared.Request.TheVariants.{Ask}
use Rattle.requests_pace.specs.Request.{kind_asked}
use Rattle.requests_read_pace.specs.Parsed.{of_found, whole_of, parsed_of}

module _ (address code : ℕ) (info : List ℕ) where
  pub unlisted : kind_asked code ≡ None → Err refusal.Request ≡ whole_of address code info
  unfolding whole_of
  unlisted k = rw k

  module _ (k : kind_asked code ≡ Some Addressed) where
    pub other_size : (length info ≡ 2 → ⊥) → Err refusal.Shape ≡ whole_of address code info
    unfolding whole_of
    other_size h = rw (k, ne_eqb _ _ h)

    module _ (two : length info ≡ 2) where
      pub other_byte : (get_or (bytes_in info) 0 0 ≡ address → ⊥) → Err refusal.Shape ≡ whole_of address code info
      unfolding whole_of
      other_byte h = rw (k, eq-eqb _ _ two, ne_eqb _ _ h)

      pub addressed : get_or (bytes_in info) 0 0 ≡ address → Ok (Ask address code) ≡ whole_of address code info
      unfolding whole_of
      addressed h = rw (k, eq-eqb _ _ two, eq-eqb _ _ h)

  module _ (k : kind_asked code ≡ Some Bare) where
    pub not_empty : (length info ≡ 0 → ⊥) → Err refusal.Shape ≡ whole_of address code info
    unfolding whole_of
    not_empty h = rw (k, ne_eqb _ _ h)

    pub empty : length info ≡ 0 → Ok (Ask address code) ≡ whole_of address code info
    unfolding whole_of
    empty h = rw (k, eq-eqb _ _ h)

  module _ (s : Setting) (k : kind_asked code ≡ Some (Carries s)) where
    pub carried : length info % 2 ≡ 0 → of_found address (settings.request_of s (bytes_in info)) ≡ whole_of address code info
    unfolding whole_of
    carried h = rw (k, eq-eqb _ _ h)

    -- of digits alone, by the count: the reader of the setting tests it
    pub by_setting_lem : all_hex info ≡ true → of_found address (checked_info (settings.request_of s) info) ≡ whole_of address code info
    unfolding whole_of checked_info fault_of
    by_setting_lem hex = rw (k, hex) (go (eqb (length info % 2) 0))
      where
        go : (t : Bool) → of_found address (faultless (pick t (Ok tt) (Err refusal.Shape)) (settings.request_of s (bytes_in info)))
            ≡ pick t (of_found address (settings.request_of s (bytes_in info))) (Err refusal.Shape)
        go true = refl
        go false = refl

module _ (s : List ℕ) where
  pub no_frame : (w : Refusal) → frames.frame_of s ≡ Err w → Err w ≡ parsed_of s
  unfolding parsed_of
  no_frame w e = rw e

  pub a_frame : (f : Frame) → frames.frame_of s ≡ Ok f → whole_of f.address f.command (frames.info_of s) ≡ parsed_of s
  unfolding parsed_of
  a_frame f e = rw e
