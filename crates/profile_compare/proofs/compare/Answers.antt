-- `compare` judges the first profile, then the second, and lists the differences of accepted ones.
use Rattle.std.proofs.Common.{◌≡◌}
use Rattle.message_rules.specs.Answer.{done}
use Rattle.profile_form_rules.specs.Form.{judge_form}
use Rattle.profile_compare_rules.specs.Compare.{lent, outcome}
use Rattle.profile_compare.proofs.Outcomes.{compare_first, compare_second, compare_both}
use Rattle.profile_compare.proofs.compare.Goals as goal

pub returns-in-Err : goal.returns-in-Err
returns-in-Err c =
    compare_first c.args.first.now c.args.second.now (lent c.args.codes.now c.args.firsts.now c.args.seconds.now) c.in-Err.at _ c.in-Err.ensures c.refused.ensures

pub returns-in-Err-accepted : goal.returns-in-Err-accepted
returns-in-Err-accepted c =
    let one : (judge_form c.args.first.now).answer ≡ done = rw c.in-Ok.ensures at c.in-Ok.records.accepted in
    compare_second c.args.first.now c.args.second.now (lent c.args.codes.now c.args.firsts.now c.args.seconds.now) one
    c.in-Err-accepted.at _ c.in-Err-accepted.ensures c.refused-in-Err-accepted.ensures

pub returns : goal.returns
returns c =
    let one : (judge_form c.args.first.now).answer ≡ done = rw c.in-Ok.ensures at c.in-Ok.records.accepted in
    let other : (judge_form c.args.second.now).answer ≡ done = rw c.in-Ok-accepted.ensures at c.in-Ok-accepted.records.accepted in
    let left = c.list_or_refuse.ensures in
    compare_both c.args.first.now c.args.second.now (lent c.args.codes.now c.args.firsts.now c.args.seconds.now) one other
    (outcome c.list_or_refuse.result (lent c.list_or_refuse.new.codes c.list_or_refuse.new.firsts c.list_or_refuse.new.seconds)) (rw (c.in-Ok.ensures, c.in-Ok-accepted.ensures) at left)
