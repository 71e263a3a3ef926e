-- The record of the next code is judged as the definition does: a refusal is the profile's, and behind an accepted one the others are left.
use Rattle.std.proofs.Common.{sym, ◌∙◌, arith}
use Rattle.profile_rules.proofs.Rising.{next-found, next-none}
use Rattle.profile.proofs.Sets.{set-codes}
use Rattle.profile.proofs.Loading.{left_starts, left_turn, left_refused, left_end, left_more, answer_from}
use Rattle.profile.proofs.judge_profile.Goals as goal

pub loop-code-init : goal.loop-code-init
loop-code-init c =
    let ws = c.profile_codes-words.result in
    left_starts c.args.s ws c.args.profile.now (set-codes c.args.s ws c.profile_codes-words.ensures)

pub returns-in-Err : goal.returns-in-Err
returns-in-Err c =
    let l = c.loop-code in
    let answered = answer_from c.args.s l.left.now _ _ _ _ c.in-Err.ensures c.contains-continuous.ensures c.from-i.ensures in
    left_refused c.args.s c.profile_codes-words.result c.args.profile.now l.from l.left.now l.invariant _ (next-found _ _ _ l.invariant.low c.in-Some.ensures) c.in-Err.refusal answered

pub loop-code-smaller : goal.loop-code-smaller
loop-code-smaller c = let found = next-found _ _ _ c.loop-code.invariant.low c.in-Some.ensures in omega arith

pub loop-code-preserved : goal.loop-code-preserved
loop-code-preserved c =
    let l = c.loop-code in
    let answered = answer_from c.args.s l.left.now _ _ _ _ c.in-Ok.ensures.0 c.contains-continuous.ensures c.from-i.ensures in
    rw (c.from-from.ensures, c.in-Ok.ensures.1)
    (left_turn c.args.s c.profile_codes-words.result c.args.profile.now l.from l.left.now l.invariant _ (next-found _ _ _ l.invariant.low c.in-Some.ensures) answered)

pub returns-then-is_empty : goal.returns-then-is_empty
returns-then-is_empty c =
    let l = c.loop-code in
    left_end c.args.s c.profile_codes-words.result c.args.profile.now l.from l.left.now l.invariant (next-none _ _ c.in_default.ensures) (sym c.if-is_empty.true ∙ c.is_empty.ensures)

pub returns : goal.returns
returns c =
    let l = c.loop-code in
    left_more c.args.s c.profile_codes-words.result c.args.profile.now l.from l.left.now l.invariant (next-none _ _ c.in_default.ensures) (sym c.if-is_empty.false ∙ c.is_empty.ensures)
