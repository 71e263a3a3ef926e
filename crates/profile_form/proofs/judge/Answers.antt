-- `judge` answers what is left at each record as its definition does.
use Rattle.std.proofs.Common.{◌≡◌, ap, ◌<◌, length, arith}
use Rattle.profile_form_rules.specs.declared.Setting.{Setting}
use Rattle.std.proofs.lemmas.Bool.Decides.{nat_tests}
use Rattle.profile_form.proofs.Laws.{form_starts, form_none, form_low, form_on, form_ends}
use Rattle.profile_form.proofs.judge.Goals as goal
use Rattle.profile_form.proofs.judge.Goals.{in_default-via-in-Some+else-lowest-from, in_default-via-in_default}

pub loop-left-init : goal.loop-left-init
loop-left-init c = form_starts c.args.profile.now

pub loop-left-smaller : goal.loop-left-smaller
loop-left-smaller c =
    let on = form_on c.args.profile.now c.loop-left.lowest c.loop-left.left.now c.loop-left.invariant c.in-Some.setting c.in-Some.behind.now c.in-Some.ensures (omega (arith, c.from.ensures)) in on.1

pub loop-left-preserved : goal.loop-left-preserved
loop-left-preserved c =
    let on = form_on c.args.profile.now c.loop-left.lowest c.loop-left.left.now c.loop-left.invariant c.in-Some.setting c.in-Some.behind.now c.in-Some.ensures (omega (arith, c.from.ensures)) in
    rw c.from-lowest.ensures on.0

pub returns-in_default : goal.returns-in_default
returns-in_default c =
    let some : 0 < length c.loop-left.left.now = grind (arith, nat_tests) in
    elim c.in_default.branch [
      | in_default-via-in-Some+else-lowest-from w ↦
          form_low c.args.profile.now c.loop-left.lowest c.loop-left.left.now c.loop-left.invariant some (let says = w.in-Some.ensures.says in omega (arith, ap (λ (x : Setting). x.code) says, w.from.ensures))
      | in_default-via-in_default w ↦ form_none c.args.profile.now c.loop-left.lowest c.loop-left.left.now c.loop-left.invariant some w.in_default.ensures
    ]

pub returns : goal.returns
returns c = let none : length c.loop-left.left.now ≡ 0 = grind (arith, nat_tests) in form_ends c.args.profile.now c.loop-left.lowest c.loop-left.left.now c.loop-left.invariant none
