-- The invariant reads on at the code and the value of the record.
use Rattle.std.proofs.Common.{◌≡◌, sym, ◌∙◌, arith}
use Rattle.settings_rules.specs.Values.{with_value}
use Rattle.profile_form.proofs.Laws.{same_setting}
use Rattle.profile_form_rules.specs.Form.{setting_in}
use Rattle.profile.proofs.Loading.{store_next, store_none}
use Rattle.profile.proofs.store.Goals as goal

pub loop-first-preserved : goal.loop-first-preserved
unfolding with_value
loop-first-preserved c =
    let l = c.loop-first in
    let r = c.in-Some.ensures.cases in
    let size = r.2 in
    let e : c.said-setting.result ≡ setting_in l.left.now = c.said-setting.ensures ∙ same_setting l.left.now c.in-Some.first.now r.0 in
    rw (c.from-i.ensures, e, r.1) (sym (store_next l.s l.left.now (omega arith)) ∙ l.invariant)

pub returns : goal.returns
returns c = sym (store_none c.loop-first.s c.loop-first.left.now c.in_default.ensures.cases) ∙ c.loop-first.invariant
