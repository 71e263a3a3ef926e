use Rattle.std.proofs.Common.{◌≡◌, ℕ, ◌+◌, ◌-◌, ◌≤◌, ◌<◌, Bool, cond, sym, ap, ◌∙◌, subst, arith, get_or}
use borrow.Author.Tests.{eqb-true, eqb-false}
use Rattle.capabilities_scan.specs.Scan.{around}
use Rattle.capabilities_scan.proofs.Runs.{Stands, stands, Passed, within, letters-within}
use Rattle.capabilities_reader.specs.Lent.{held, SameLent}
use Rattle.capabilities_reader.proofs.Filling.{room-same, began, from_start, goes_on, letter_there, inner-read, past_word, past-group, at_close, roomy, low}
use Rattle.capabilities_reader.proofs.Lent.{stay, then, sizes}
use Rattle.capabilities_reader.proofs.filler.+fill_group.Goals as goal
use Rattle.capabilities_reader.proofs.filler.+fill_group.Goals.{In-Some, After-skip_spaces-next, After-put, Then-opens}

-- the byte at the loop's position
byte : (t : ℕ) (c : In-Some t) → Stands c.args.text.now c.loop-b.at.0 c.in-Some.field-0.now
byte t c = stands _ _ _ c.in-Some.ensures.lookup.3.0 c.in-Some.ensures.lookup.1

-- the word that begins there, and the spaces behind it
word : (t : ℕ) (c : After-skip_spaces-next t) → Passed c.args.text.now c.loop-b.at.0 c.word_end-end.result.0 c.skip_spaces-next.result.0
word t c =
    let b = byte t (goal.at.After-skip_spaces-next t c).In-Some in
    record {
      inside = b.inside;
      letter = letter_there _ _ _ _ _ _ _ _ _ _ c.loop-b.invariant.1 (λ e. c.if-b-eq-CLOSE.false (b.is ∙ e));
      ends = c.word_end-end.ensures;
      rests = c.skip_spaces-next.ensures;
    }

-- the buffers are the same when its node is stored
kept : (t : ℕ) (c : After-put t) → SameLent c.args.nodes.now c.put.new.self
kept t c = then _ _ _ c.loop-b.invariant.0 c.put.ensures.same

-- a "(" stands behind them
is_open : (t : ℕ) (c : Then-opens t) → get_or c.args.text.now c.skip_spaces-next.result.0 0 ≡ 0x28
is_open t c = eqb-true _ 0x28 (sym c.opens_at-opens.ensures ∙ c.if-opens.true)

pub loop-b-init : goal.loop-b-init
loop-b-init t c =
    let x = c.args in
    let q = c.requires in
    (stay _, began _ (around x.left) x.start.0 x.count x.parent _ x.text.now _ c.skip_spaces-at.ensures q.begun q.fits q.read)

pub returns-then-b-eq-CLOSE-clause-filled : goal.returns-then-b-eq-CLOSE-clause-filled
returns-then-b-eq-CLOSE-clause-filled t c =
    let x = c.args in
    let b = byte t (goal.at.returns-then-b-eq-CLOSE-clause-filled t c).In-Some in
    from_start x.left x.start.0 x.count x.parent _ x.text.now _ _ _ _ c.skip_spaces-at.ensures
    (at_close x.left _ _ _ _ _ _ _ _ c.loop-b.invariant.1 b.inside (sym b.is ∙ c.if-b-eq-CLOSE.true))

pub put-requires : goal.put-requires
put-requires t c =
    let at = goal.at.put-requires t c in
    let w = c.word_end-end.ensures in
    let b = byte t at.In-Some in
    let h : c.loop-b.at.0 < _ = b.inside in
    let f = c.loop-b.invariant.1 in (
      omega (arith, w),
      omega (arith, letters-within c.args.text.now _ _ w (omega (arith, h)), c.requires.small),
      subst (λ (j : ℕ). c.loop-b.n < j) (sym (room-same _ _ f.sizes)) (roomy _ _ _ _ _ _ _ _ _ _ f _ _ (word t at.After-skip_spaces-next)),
    )

pub overflow_sub-left : goal.overflow_sub-left
overflow_sub-left t c =
    let at = goal.at.overflow_sub-left t c in
    omega (arith, low _ _ _ _ _ _ _ _ _ _ c.loop-b.invariant.1 _ _ (word t at.After-skip_spaces-next) (is_open t at.Then-opens))

pub fill_group-inner-requires : goal.fill_group-inner-requires
fill_group-inner-requires t c =
    let at = goal.at.fill_group-inner-requires t c in
    let w = word t at.After-skip_spaces-next in
    let e = is_open t at.Then-opens in
    let f = c.loop-b.invariant.1 in
    let q = c.requires in
    let less = low _ _ _ _ _ _ _ _ _ _ f _ _ w e in
    let same-room = room-same _ _ (sizes _ _ (kept t at.After-put)) in (
      omega (arith, less),
      record {
        small = q.small;
        begun = omega (arith, within c.args.text.now _ e);
        levels = omega (arith, q.levels);
        fits = subst (λ (j : ℕ). c.loop-b.n + 1 ≤ j) (sym same-room) (omega (arith, roomy _ _ _ _ _ _ _ _ _ _ f _ _ w));
        read = inner-read _ _ _ _ _ _ _ _ _ _ f _ _ w e _ (around (c.args.left - 1)) same-room (omega (arith, less, q.levels));
      },
    )

pub loop-b-preserved-then-opens : goal.loop-b-preserved-then-opens
loop-b-preserved-then-opens t c =
    let at = goal.at.loop-b-preserved-then-opens t c in
    let w = word t at.After-skip_spaces-next in
    let e = is_open t at.Then-opens in
    let f = c.loop-b.invariant.1 in
    let lent = kept t at.After-put in
    let size = sizes _ _ lent in
    let less = low _ _ _ _ _ _ _ _ _ _ f _ _ w e in
    let r = c.fill_group-inner in
    let lent' = then _ _ _ lent r.ensures.same in (
      lent',
      past-group _ _ _ _ _ _ _ _ _ _ f _ _ w (held c.put.new.self) _ (ap (λ (b : Bool). cond b 1 0) c.opens_at-opens.ensures)
          c.put.ensures.stored size e (c.args.left - 1) r.result.next.0 r.result.nodes _ (held r.new.nodes) (room-same _ _ size) (omega (arith, c.requires.levels)) r.ensures.filled
          (sizes _ _ lent') c.skip_spaces-at-then-opens.ensures,
    )

pub loop-b-preserved : goal.loop-b-preserved
loop-b-preserved t c =
    let at = goal.at.loop-b-preserved t c in
    let lent = kept t at.After-put in (
      lent,
      past_word _ _ _ _ _ _ _ _ _ _ c.loop-b.invariant.1 _ _ (word t at.After-skip_spaces-next) (held c.put.new.self) _ (ap (λ (b : Bool). cond b 1 0) c.opens_at-opens.ensures) c.put.ensures.stored (sizes _ _ lent)
          (eqb-false _ 0x28 (sym c.opens_at-opens.ensures ∙ c.if-opens.false)),
    )

pub returns-clause-filled : goal.returns-clause-filled
returns-clause-filled t c =
    let more = goes_on _ _ _ _ _ _ _ _ _ _ c.loop-b.invariant.1 in
    let over = c.in_default.ensures.lookup.3 in
    absurd (omega arith)
