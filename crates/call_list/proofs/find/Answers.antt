-- `find` checks the list, then searches it.
use Rattle.std.proofs.Common.{rules}
use mathlib.Core.Path.{◌≡◌, ap, ◌∙◌}
use Rattle.std.specs.Prelude.{Ok, Err}
use Rattle.call_list_rules.specs.CallList.{found_as}
use Rattle.call_list.proofs.Laws.{find_searched, find_refused}
use Rattle.call_list.proofs.find.Goals as goal

pub returns-in_err-check : goal.returns-in_err-check
returns-in_err-check c = let e : c.from_residual.result ≡ Err c.in_err-check.field-0.0 = search rules in ap found_as e ∙ find_refused c.args.list.now c.args.household _ _ c.in_err-check.ensures

pub returns : goal.returns
returns c = ap Ok c.search.ensures ∙ find_searched c.args.list.now c.args.household c.in_ok-check.field-0 c.in_ok-check.ensures
