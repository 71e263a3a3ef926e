use mathlib.Core.Path.{◌≡◌, ap}
use Prim.Native.Nat.{◌≤◌}
use native.Mathlib.Omega.{arith}
use Rattle.call_list_rules.specs.Limits.{most_entries}
use Rattle.call_list_rules.specs.CallList.{check_list}
use Rattle.call_list_rules.specs.declared.Checked.{Checked}
use Rattle.call_list_rules.proofs.Theorems.{entries-at-most}
use Rattle.gate_check.proofs.Laws.{none_so_far, line_so_far, all_put}
use Rattle.gate_check.proofs.tokens.put_tokens.Goals as goal
use Rattle.gate_check.proofs.tokens.put_tokens.Goals.{In-Ok}

-- nothing is put of a list that is refused
pub returns-in_default : goal.returns-in_default
returns-in_default c =
    let a = c.args in
    all_put a.list.now a.text.now a.text.now 0 0 (ap (λ (r : Checked). r.entries) c.in_default.ensures) (none_so_far a.list.now a.text.now)

pub loop-k-init : goal.loop-k-init
loop-k-init c = none_so_far c.args.list.now c.args.text.now

-- how many entries there are, and that they are few
counted : (c : In-Ok) → c.in-Ok.entries ≡ (check_list c.args.list.now).entries
counted c = ap (λ (r : Checked). r.entries) c.in-Ok.ensures

few : (c : In-Ok) → c.in-Ok.entries ≤ most_entries
few c = omega (arith, counted c, entries-at-most c.args.list.now)

pub put_line-at-requires : goal.put_line-at-requires
put_line-at-requires c = omega (arith, c.loop-k.invariant.short, c.loop-k.auto.text, few (goal.at.put_line-at-requires c).In-Ok)

pub loop-k-preserved : goal.loop-k-preserved
loop-k-preserved c =
    let at = (goal.at.loop-k-preserved c).In-Ok in
    let e = counted at in
    let l = few at in
    line_so_far c.args.list.now c.args.text.now c.loop-k.text _ c.loop-k.k c.loop-k.at _ _ (omega arith) (omega arith) c.entry-entry.ensures c.put_line-at.ensures c.loop-k.invariant

pub returns : goal.returns
returns c =
    all_put c.args.list.now c.args.text.now c.loop-k.text c.loop-k.k c.loop-k.at (omega (arith, c.loop-k.auto.k-end, counted (goal.at.returns c).In-Ok)) c.loop-k.invariant
