use Rattle.std.proofs.Common.{◌≡◌, ℕ, refl, sym, ap, ◌∙◌, ◌-◌, arith, get_or, Err}
use Rattle.std.proofs.lemmas.Result.{err_from_is_err_and}
use borrow.Author.Tests.{eqb-true, eqb-false}
use Rattle.capabilities_rules.specs.Machine.{kind_of, is_letter}
use Rattle.capabilities_scan.specs.Scan.{around}
use Rattle.capabilities_scan.proofs.Runs.{Stands, stands, Passed}
use Rattle.capabilities_checker.proofs.Checker.{began, from_start, at_close, at_other, at_full, at-end, at-deep, past_word, inner-stops, past-group}
use Rattle.capabilities_checker.proofs.+check_group.Goals as goal
use Rattle.capabilities_checker.proofs.+check_group.Goals.{In-Some, After-is_letter, After-skip_spaces-next, Then-opens_at}

-- the byte at the loop's position
byte : (t : ℕ) (c : In-Some t) → Stands c.args.text.now c.loop-b.at.0 c.in-Some.field-0.now
byte t c = stands _ _ _ c.in-Some.ensures.lookup.3.0 c.in-Some.ensures.lookup.1

-- .. and whether it is a letter
letter : (t : ℕ) (c : After-is_letter t) → c.is_letter.result ≡ is_letter (kind_of (get_or c.args.text.now c.loop-b.at.0 0))
letter t c = c.is_letter.ensures ∙ ap (λ b. is_letter (kind_of b)) (byte t (goal.at.After-is_letter t c).In-Some).is

-- the word that begins there, and the spaces behind it
word : (t : ℕ) (c : After-skip_spaces-next t) → Passed c.args.text.now c.loop-b.at.0 c.word_end.result.0 c.skip_spaces-next.result.0
word t c =
    let at = goal.at.After-skip_spaces-next t c in
    record { inside = (byte t at.In-Some).inside; letter = sym (letter t at.After-is_letter) ∙ c.if-not-is_letter.false; ends = c.word_end.ensures; rests = c.skip_spaces-next.ensures }

-- a "(" stands behind them
is_open : (t : ℕ) (c : Then-opens_at t) → get_or c.args.text.now c.skip_spaces-next.result.0 0 ≡ 0x28
is_open t c = eqb-true _ 0x28 (sym c.if-opens_at.ensures)

pub loop-b-init : goal.loop-b-init
loop-b-init t c =
    let x = c.args in
    began x.room (around x.left) x.start.0 x.count c.skip_spaces-at.result.0 x.text.now c.skip_spaces-at.ensures (omega arith) (omega arith)

pub returns-then-b-eq-CLOSE : goal.returns-then-b-eq-CLOSE
returns-then-b-eq-CLOSE t c =
    let x = c.args in
    let b = byte t (goal.at.returns-then-b-eq-CLOSE t c).In-Some in
    from_start x.room (around x.left) x.start.0 x.count _ x.text.now _ _ c.skip_spaces-at.ensures refl
    (at_close _ _ _ _ _ _ _ c.loop-b.invariant b.inside (sym b.is ∙ c.if-b-eq-CLOSE.true))

pub returns-then-not-is_letter : goal.returns-then-not-is_letter
returns-then-not-is_letter t c =
    let x = c.args in
    let at = goal.at.returns-then-not-is_letter t c in
    let b = byte t at.In-Some in
    from_start x.room (around x.left) x.start.0 x.count _ x.text.now _ _ c.skip_spaces-at.ensures c.refused.ensures
    (at_other _ _ _ _ _ _ _ c.loop-b.invariant b.inside (λ e. c.if-b-eq-CLOSE.false (b.is ∙ e)) (sym (letter t at.After-is_letter) ∙ c.if-not-is_letter.true))

pub returns-then-room-n : goal.returns-then-room-n
returns-then-room-n t c =
    let x = c.args in
    let at = goal.at.returns-then-room-n t c in
    from_start x.room (around x.left) x.start.0 x.count _ x.text.now _ _ c.skip_spaces-at.ensures c.refused-then-room-n.ensures
    (at_full _ _ _ _ _ _ _ c.loop-b.invariant (byte t at.In-Some).inside (sym (letter t at.After-is_letter) ∙ c.if-not-is_letter.false) c.if-room-n.true)

pub returns-then-left-eq0 : goal.returns-then-left-eq0
returns-then-left-eq0 t c =
    let at = goal.at.returns-then-left-eq0 t c in
    let x = c.args in
    from_start x.room (around x.left) x.start.0 x.count _ x.text.now _ _ c.skip_spaces-at.ensures c.refused-then-left-eq0.ensures
    (at-deep _ _ _ _ _ _ _ c.loop-b.invariant _ _ (word t at.After-skip_spaces-next) c.if-room-n.false (is_open t at.Then-opens_at) (omega arith))

pub loop-b-preserved-then-opens_at : goal.loop-b-preserved-then-opens_at
loop-b-preserved-then-opens_at t c =
    let at = goal.at.loop-b-preserved-then-opens_at t c in
    let x = c.args in
    past-group _ _ _ _ _ _ _ c.loop-b.invariant _ _ (word t at.After-skip_spaces-next) c.if-room-n.false (is_open t at.Then-opens_at) (around (x.left - 1)) (omega arith) (omega arith) _ c.check_group.ensures _ _ c.in_ok-inner.was c.skip_spaces-at-then-opens_at.ensures

pub returns-in_err-inner : goal.returns-in_err-inner
returns-in_err-inner t c =
    let at = goal.at.returns-in_err-inner t c in
    let x = c.args in
    let p = err_from_is_err_and c.from_residual.result c.from_residual.ensures.1 in
    from_start x.room (around x.left) x.start.0 x.count _ x.text.now _ _ c.skip_spaces-at.ensures (p.1 ∙ ap Err p.2)
    (inner-stops _ _ _ _ _ _ _ c.loop-b.invariant _ _ (word t at.After-skip_spaces-next) c.if-room-n.false (is_open t at.Then-opens_at) (around (x.left - 1)) (omega arith) (omega arith) _ c.check_group.ensures _ c.in_err-inner.was)

pub loop-b-preserved : goal.loop-b-preserved
loop-b-preserved t c =
    let at = goal.at.loop-b-preserved t c in
    past_word _ _ _ _ _ _ _ c.loop-b.invariant _ _ (word t at.After-skip_spaces-next) c.if-room-n.false (eqb-false _ 0x28 (sym c.if-opens_at.ensures))

pub returns : goal.returns
returns t c =
    let x = c.args in
    from_start x.room (around x.left) x.start.0 x.count _ x.text.now _ _ c.skip_spaces-at.ensures c.refused-2.ensures
    (at-end _ _ _ _ _ _ _ c.loop-b.invariant c.in_default.ensures.lookup.3)
