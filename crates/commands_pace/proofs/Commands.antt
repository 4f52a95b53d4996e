-- The commands that read and write a setting are those that its layout names, and no other code is taken for them; and a loop along the settings.
-- Assumes nothing.
use mathlib.Core.Path.{◌≡◌, refl, sym, ap, ◌∙◌}
use mathlib.Core.Bool.{Bool, true, false}
use mathlib.Core.List.{List, [], ◌∷◌}
use Prim.Native.Nat.{ℕ, ◌+◌, ◌<◌, ◌≤◌}
use native.Mathlib.Numerals.{add-one}
use borrow.Author.Tests.{eq-eqb, ne_eqb, eqb-true}
use lib.Dec.{eqb}
use lib.ListN.{length, get_or, drop, drop_of_length-le}
use lib.Seq.{drop-cons}
use Rattle.std.specs.Prelude.{Option, Some, None}
use Rattle.laws.specs.Choice.{pick}
use Rattle.commands_pace.specs.declared.Command.{Command}
use Rattle.commands_pace.specs.declared.Command.TheVariants.{Analog, Warnings, Hardware, Serial, Reads, Writes}
use Rattle.layouts_pace.specs.declared.Setting.{Setting}
use Rattle.layouts_pace.specs.declared.Setting.TheVariants.{Overvoltage, Discharge}
use Rattle.layouts_pace.specs.Settings.{settings, layout_of}
use Rattle.commands_pace.specs.Commands.{by_setting, command_of}

-- no two settings share a command, and none has one of the other four
pub reads_itself : (s : Setting) → command_of (layout_of s).reads ≡ Some (Reads s)
unfolding command_of by_setting settings layout_of
reads_itself Overvoltage = refl
reads_itself Discharge = refl

pub writes_itself : (s : Setting) → command_of (layout_of s).writes ≡ Some (Writes s)
unfolding command_of by_setting settings layout_of
writes_itself Overvoltage = refl
writes_itself Discharge = refl

-- ---- the code of a command that was found from c: the one that its layout names

abbrev code_of : ℕ → Option Command → ℕ
code_of c (Some Analog) = c
code_of c (Some Warnings) = c
code_of c (Some Hardware) = c
code_of c (Some Serial) = c
code_of c (Some (Reads s)) = (layout_of s).reads
code_of c (Some (Writes s)) = (layout_of s).writes
code_of c None = c

module _ (c : ℕ) where
  -- one test more, of the code n
  of_test : (n : ℕ) (x y : Option Command) → (c ≡ n → code_of c x ≡ c) → code_of c y ≡ c → code_of c (pick (eqb c n) x y) ≡ c
  of_test n x y h k = go (eqb c n) refl
    where
      go : (t : Bool) → eqb c n ≡ t → code_of c (pick t x y) ≡ c
      go true e = h (eqb-true c n e)
      go false e = k

  of_settings : (l : List Setting) → code_of c (by_setting l c) ≡ c
  unfolding by_setting
  of_settings [] = refl
  of_settings (s ∷ more) =
      of_test (layout_of s).reads (Some (Reads s)) (pick (eqb c (layout_of s).writes) (Some (Writes s)) (by_setting more c)) (λ e. sym e)
      (of_test (layout_of s).writes (Some (Writes s)) (by_setting more c) (λ e. sym e) (of_settings more))

  code_again : code_of c (command_of c) ≡ c
  unfolding command_of
  code_again =
      of_test 0x42 (Some Analog) _ (λ e. refl) (of_test 0x44 (Some Warnings) _ (λ e. refl) (of_test 0xC1 (Some Hardware) _ (λ e. refl) (of_test 0xC2 (Some Serial) _ (λ e. refl) (of_settings settings))))

  -- a command that reads or writes a setting is the one that its layout names
  pub reads_only : (s : Setting) → command_of c ≡ Some (Reads s) → c ≡ (layout_of s).reads
  reads_only s e = sym code_again ∙ ap (code_of c) e

  pub writes_only : (s : Setting) → command_of c ≡ Some (Writes s) → c ≡ (layout_of s).writes
  writes_only s e = sym code_again ∙ ap (code_of c) e

-- ---- a loop along the settings, for as long as those that are left have the answer of all

module _ (l : List Setting) (c i : ℕ) (inv : by_setting (drop i l) c ≡ by_setting l c) where
  module _ (any : Setting) (h : i < length l) where
    next : by_setting (get_or l i any ∷ drop (i + 1) l) c ≡ by_setting l c
    next = rw (add-one i) (sym (ap (λ (k : List Setting). by_setting k c) (drop-cons l i any h)) ∙ inv)

    pub reads_here : c ≡ (layout_of (get_or l i any)).reads → Some (Reads (get_or l i any)) ≡ by_setting l c
    unfolding by_setting
    reads_here e = rw (eq-eqb _ _ e) at next

    module _ (other : c ≡ (layout_of (get_or l i any)).reads → ⊥) where
      pub writes_here : c ≡ (layout_of (get_or l i any)).writes → Some (Writes (get_or l i any)) ≡ by_setting l c
      unfolding by_setting
      writes_here e = rw (ne_eqb _ _ other, eq-eqb _ _ e) at next

      pub neither_here : (c ≡ (layout_of (get_or l i any)).writes → ⊥) → by_setting (drop (i + 1) l) c ≡ by_setting l c
      unfolding by_setting
      neither_here e = rw (ne_eqb _ _ other, ne_eqb _ _ e) at next

  pub none_left : length l ≤ i → None ≡ by_setting l c
  unfolding by_setting
  none_left h = sym (ap (λ (k : List Setting). by_setting k c) (drop_of_length-le l h)) ∙ inv
