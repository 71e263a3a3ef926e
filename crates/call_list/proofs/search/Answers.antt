-- `search` is the first whole record that has the household.
use Rattle.std.proofs.Common.{rules, tests, ◌≡◌}
use mathlib.Core.Path.{sym, ap, ◌∙◌}
use Rattle.std.specs.List.{position}
use Rattle.std.proofs.lemmas.Iterator.{YieldsList-from_slice}
use Rattle.std.proofs.lemmas.Iterator.Search.{position_from_yields_List}
use Rattle.call_list.proofs.Laws.{records_first, records_none, records, has}
use Rattle.call_list.proofs.search.Goals as goal
use Rattle.call_list.proofs.search.Goals.{After-position}

-- the number is that of the first record that has the household
found : (c : After-position) → c.position.result ≡ position (has c.args.household) (records c.args.list.now c.args.household)
found c =
    let h = c.args.household in
    position_from_yields_List (has h) _ _ _ c.position.ensures.ran (YieldsList-from_slice c.as_chunks.result.0.now (cc)) (λ x b q k. search (rules, tests))
    ∙ ap (position (has h)) c.as_chunks.ensures.front

pub returns-in_err-k : goal.returns-in_err-k
returns-in_err-k c =
    let a = c.args in
    c.from_residual.ensures ∙ records_none a.list.now a.household (sym (found (goal.at.returns-in_err-k c).After-position) ∙ c.in_err-k.was)

pub returns : goal.returns
returns c = let a = c.args in records_first a.list.now a.household c.in_ok-k.k (sym (found (goal.at.returns c).After-position) ∙ c.in_ok-k.was)
