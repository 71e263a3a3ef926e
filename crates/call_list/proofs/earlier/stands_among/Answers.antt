-- `stands_among` folds over the row.
use Rattle.std.proofs.Common.{rules, tests, Bool, false, nat_eq}
use mathlib.Core.Path.{◌∙◌}
use mathlib.Core.Bool.{◌||◌}
use Prim.Native.Nat.{ℕ}
use Rattle.std.proofs.lemmas.Iterator.{YieldsList-from_slice}
use Rattle.std.proofs.lemmas.Iterator.Consumers.{fold_from_yields_List}
use Rattle.call_list.proofs.Rows.{fold-among}
use Rattle.call_list.proofs.earlier.stands_among.Goals as goal

pub returns : goal.returns
returns c =
    let a = c.args in
    fold_from_yields_List _ (λ (u : Bool) (x : ℕ). u || nat_eq x a.number) false _ c.fold.ensures.ran (YieldsList-from_slice a.row.now (cc)) (λ u x b q k. search (rules, tests))
    ∙ fold-among a.row.now false a.number
