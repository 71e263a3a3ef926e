-- Where no record is left, the columns are whole.
use Rattle.profile_compare_rules.specs.Compare.{lent}
use Rattle.profile_compare.proofs.Left.{empty}
use Rattle.profile_compare.proofs.Listing.{columns_end}
use Rattle.profile_compare.proofs.list_rest.Goals as goal

pub returns-clause-value : goal.returns-clause-value
returns-clause-value c =
    let l = c.loop-setting in
    let k = columns_end _ _ _ _ _ _ (lent l.codes l.values l.others) l.n _ l.invariant (empty l.left.bytes.now c.in_default.ensures) in k.0

pub returns-clause-others_after : goal.returns-clause-others_after
returns-clause-others_after c =
    let l = c.loop-setting in
    let k = columns_end _ _ _ _ _ _ (lent l.codes l.values l.others) l.n _ l.invariant (empty l.left.bytes.now c.in_default.ensures) in k.1
