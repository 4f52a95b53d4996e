-- `requests_read_pace::whole` meets its contract: each way out is the case of `whole_of` that its tests name.
-- Assumes nothing.
use Prim.Native.Nat.{ℕ}
use mathlib.Core.Path.{◌≡◌, sym, ap, ◌∙◌}
use Rattle.std.specs.Prelude.{Option, Some}
use Rattle.std.proofs.lemmas.Result.{err_from_is_err_and}
use Rattle.commands_pace.specs.declared.Command.{Command}
use Rattle.commands_pace.specs.Commands.{command_of}
use Rattle.requests_pace.specs.declared.Kind.{Kind}
use Rattle.requests_pace.specs.Request.{kind_of, kind_asked}
use Rattle.requests_read_pace.specs.Parsed.{of_found}
use Rattle.requests_read_pace.proofs.Reading.{unlisted, other_size, other_byte, addressed, not_empty, empty, by_setting_lem}
use Rattle.requests_read_pace.proofs.whole.Goals as goal

-- the kind of the command
asked : (code : ℕ) (found : Option Command) (k kind : Kind) (what : Option Kind) → found ≡ command_of code → what ≡ kind_of found → what ≡ Some k → k ≡ kind
    → kind_asked code ≡ Some kind
asked code found k kind what e f g h = ap kind_of (sym e) ∙ sym f ∙ g ∙ ap (λ (x : Kind). Some x) h

pub returns-in-None : goal.returns-in-None
returns-in-None c = unlisted _ _ _ (ap kind_of (sym c.command_of.ensures) ∙ sym c.kind_of.ensures ∙ c.in-None.is)

pub returns-then-info-ne2 : goal.returns-then-info-ne2
returns-then-info-ne2 c =
    other_size _ _ _ (asked c.args.code _ _ _ _ c.command_of.ensures c.kind_of.ensures c.in-Some-Addressed.is c.in-Some-Addressed.field-0-is) c.if-info-ne2.true

pub returns-then-byte_of-address : goal.returns-then-byte_of-address
returns-then-byte_of-address c =
    other_byte _ _ _ (asked c.args.code _ _ _ _ c.command_of.ensures c.kind_of.ensures c.in-Some-Addressed.is c.in-Some-Addressed.field-0-is) c.if-info-ne2.false
    (λ e. c.if-byte_of-address.true (c.byte_of.ensures ∙ e))

pub returns-then-info-ne0 : goal.returns-then-info-ne0
returns-then-info-ne0 c =
    not_empty _ _ _ (asked c.args.code _ _ _ _ c.command_of.ensures c.kind_of.ensures c.in-Some-Bare.is c.in-Some-Bare.field-0-is) c.if-info-ne0.true

pub returns-else-byte_of-address : goal.returns-else-byte_of-address
returns-else-byte_of-address c =
    addressed _ _ _ (asked c.args.code _ _ _ _ c.command_of.ensures c.kind_of.ensures c.in-Some-Addressed.is c.in-Some-Addressed.field-0-is) c.if-info-ne2.false
    (sym c.byte_of.ensures ∙ c.if-byte_of-address.false)

pub returns-else-info-ne0 : goal.returns-else-info-ne0
returns-else-info-ne0 c = empty _ _ _ (asked c.args.code _ _ _ _ c.command_of.ensures c.kind_of.ensures c.in-Some-Bare.is c.in-Some-Bare.field-0-is) c.if-info-ne0.false

pub returns-in_err-values-in-Some-Carries : goal.returns-in_err-values-in-Some-Carries
returns-in_err-values-in-Some-Carries c =
    let p = err_from_is_err_and c.from_residual.result c.from_residual.ensures.1 in
    rw (p.1, p.2)
    (ap (of_found c.args.address) (sym c.in_err-values-in-Some-Carries.was ∙ c.parse_setting.ensures)
    ∙ by_setting_lem _ _ _ _ (asked c.args.code _ _ _ _ c.command_of.ensures c.kind_of.ensures c.in-Some-Carries.is c.in-Some-Carries.field-0-is) c.requires)

pub returns-in_ok-values-in-Some-Carries : goal.returns-in_ok-values-in-Some-Carries
returns-in_ok-values-in-Some-Carries c =
    ap (of_found c.args.address) (sym c.in_ok-values-in-Some-Carries.was ∙ c.parse_setting.ensures)
    ∙ by_setting_lem _ _ _ _ (asked c.args.code _ _ _ _ c.command_of.ensures c.kind_of.ensures c.in-Some-Carries.is c.in-Some-Carries.field-0-is) c.requires
