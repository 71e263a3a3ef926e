-- `judge_record` tests the form, the code and the value, in this order.
use Rattle.std.proofs.Common.{◌≡◌, sym, ◌∙◌, true, false}
use Rattle.profile.proofs.Loading.{answer_broken, answer_code, answer_value}
use Rattle.profile.proofs.judge_record.Goals as goal

pub returns-then-exceeds : goal.returns-then-exceeds
returns-then-exceeds c =
    let a = c.args in
    let code : c.in-Some.setting.code ≡ a.code = c.if-setting-code.false in
    answer_value a.bytes.now a.code a.maximum a.continuous c.in-Some.setting c.in-Some.behind.now c.in-Some.ensures true code (sym c.if-exceeds.true ∙ c.exceeds.ensures)

pub returns-then-setting-code : goal.returns-then-setting-code
returns-then-setting-code c =
    let a = c.args in
    answer_code a.bytes.now a.code a.maximum a.continuous c.in-Some.setting c.in-Some.behind.now c.in-Some.ensures c.if-setting-code.true

pub returns-in_default : goal.returns-in_default
returns-in_default c = let a = c.args in answer_broken a.bytes.now a.code a.maximum a.continuous c.in_default.ensures

pub returns : goal.returns
returns c =
    let a = c.args in
    let code : c.in-Some.setting.code ≡ a.code = c.if-setting-code.false in
    (answer_value a.bytes.now a.code a.maximum a.continuous c.in-Some.setting c.in-Some.behind.now c.in-Some.ensures false code (sym c.if-exceeds.false ∙ c.exceeds.ensures), c.in-Some.ensures.rest)
