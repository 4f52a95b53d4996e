-- `commands_pace::by_setting` meets its contract. The loop's invariant: the settings that are left have the answer of all.
-- Assumes nothing.
use mathlib.Core.Path.{◌≡◌}
use lib.ListN.{drop}
use Rattle.layouts_pace.specs.Settings.{settings}
use Rattle.commands_pace.specs.Commands.{by_setting}
use Rattle.commands_pace.proofs.by_setting.Given as goal

abbrev pub invariant-loop-setting : goal.invariant-loop-setting
invariant-loop-setting l = by_setting (drop l.setting-index settings) l.code ≡ by_setting settings l.code
