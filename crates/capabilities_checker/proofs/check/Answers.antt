-- `capabilities_checker::check` meets its contract: the length, the first byte, what the checker of the outer group finds, and
-- what stands behind it, in the order of the definition.
use Rattle.std.proofs.Common.{◌≡◌, ℕ, zero, suc, ◌≤◌, refl, sym, ap, ◌∙◌, List, length, drop, get_or, arith, Err, Result}
use Rattle.std.proofs.lemmas.Result.{err_from_is_err_and}
use borrow.Author.Tests.{eqb-true, eqb-false}
use Rattle.message_rules.specs.declared.refusal.RefusedAt.{RefusedAt}
use Rattle.message_rules.specs.Answer.{wrong_grammar}
use Rattle.message_rules.specs.Limits.{longest_text}
use Rattle.capabilities_rules.specs.Machine.{before, inside}
use Rattle.capabilities_rules.specs.Kinds.{Free}
use Rattle.capabilities_rules.specs.Outcome.{Refused, judge, outcome, reading_of}
use Rattle.capabilities_rules.proofs.Whole.{outcome-long, outcome-short, judge-none, judge_shut, judge_open}
use Rattle.capabilities_scan.proofs.Runs.{within, other-behind, zeros-to-end}
use Rattle.capabilities_checker.specs.Checker.{Group, resumed}
use Rattle.capabilities_checker.proofs.check.Goals as goal
use Rattle.capabilities_checker.proofs.check.Goals.{After-check_group}

-- where no "(" stands at the front, the string is refused there
shut : (room : ℕ) (s : List ℕ) → (get_or s 0 0 ≡ 0x28 → ⊥) → judge room 0 0 before s ≡ Refused wrong_grammar 0
shut room s ne = go (length s) refl
  where
    go : (n : ℕ) → length s ≡ n → judge room 0 0 before s ≡ Refused wrong_grammar 0
    go zero e = judge-none room s e
    go (suc n) e = judge_shut room s (omega arith) ne

-- where one stands, the string is read as the checker of a group finds the outer group's list
opened : (room : ℕ) (s : List ℕ) → length s ≤ longest_text → get_or s 0 0 ≡ 0x28 → {r r' : Group} → judge room 1 0 (inside 0 Free) (drop 1 s) ≡ resumed room 0 s r → r ≡ r'
    → outcome room s ≡ resumed room 0 s r'
opened room s small first answer g = outcome-short room s small ∙ judge_open room s (within s 0 first) first ∙ answer ∙ ap (resumed room 0 s) g

found : (c : After-check_group) {r : Group} → c.check_group.result ≡ r → outcome c.args.room c.args.text.now ≡ resumed c.args.room 0 c.args.text.now r
found c e =
    let x = c.args in
    opened x.room x.text.now c.if-text-gt-LONGEST_TEXT.false (eqb-true _ 0x28 (sym c.if-not-opens.ensures)) c.check_group.ensures.answer e

-- a result is read as what it is
read_as : {r r' : Result ℕ RefusedAt} → r ≡ r' → reading_of r ≡ reading_of r'
read_as e = ap reading_of e

pub returns-then-text-gt-LONGEST_TEXT : goal.returns-then-text-gt-LONGEST_TEXT
returns-then-text-gt-LONGEST_TEXT c = read_as c.refused.ensures ∙ sym (outcome-long c.args.room c.args.text.now c.if-text-gt-LONGEST_TEXT.true)

pub returns-then-not-opens : goal.returns-then-not-opens
returns-then-not-opens c =
    let x = c.args in
    read_as c.refused-then-not-opens.ensures
    ∙ sym (outcome-short x.room x.text.now c.if-text-gt-LONGEST_TEXT.false ∙ shut x.room x.text.now (eqb-false _ 0x28 (sym c.if-not-opens.ensures)))

pub returns-in_err-outer : goal.returns-in_err-outer
returns-in_err-outer c =
    let p = err_from_is_err_and c.from_residual.result c.from_residual.ensures.1 in
    read_as (p.1 ∙ ap Err p.2) ∙ sym (found (goal.at.returns-in_err-outer c).After-check_group c.in_err-outer.was)

pub returns-then-end-text : goal.returns-then-end-text
returns-then-end-text c =
    let x = c.args in
    let g = c.in_ok-outer.outer in
    read_as c.refused-then-end-text.ensures
    ∙ sym (found (goal.at.returns-then-end-text c).After-check_group c.in_ok-outer.was ∙ other-behind x.room g.nodes x.text.now g.next.0 c.skip_zeros-end.result.0 c.skip_zeros-end.ensures c.if-end-text.true)

pub returns : goal.returns
returns c =
    let x = c.args in
    let g = c.in_ok-outer.outer in
    sym (found (goal.at.returns c).After-check_group c.in_ok-outer.was ∙ zeros-to-end x.room g.nodes x.text.now g.next.0 c.skip_zeros-end.result.0 c.skip_zeros-end.ensures c.if-end-text.false)
