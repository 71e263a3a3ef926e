use mathlib.Core.Path.{◌≡◌, sym, ap, subst, ◌∙◌}
use Prim.Native.Nat.{ℕ, ◌+◌, ◌≤◌, ◌<◌}
use native.Mathlib.Omega.{arith}
use lib.ListN.{length, take, drop, length-drop}
use Rattle.std.specs.Prelude.{min}
use Rattle.std.specs.declared.slice.Chunks.{Chunks}
use Rattle.call_list_rules.specs.Limits.{record_size}
use Rattle.call_list_rules.specs.CallList.{start_of, record_answer, refused_at, accepted_with}
use Rattle.call_list_rules.proofs.Theorems.{check_long}
use Rattle.call_list.specs.Parts.{row_room}
use Rattle.call_list.specs.Earlier.{answer_behind}
use Rattle.call_list.specs.declared.earlier.Earlier.{Earlier}
use Rattle.message_rules.specs.Refusal.{number_of}
use Rattle.call_list.proofs.Rows.{cut-taken, cut-left}
use Rattle.call_list.proofs.Laws.{record_at, CheckLeft, check_starts, check_refused, check_on, check_ends, holds_none, holds_next, joined_at, drop_next, answer_next, refused-not_done}
use Rattle.call_list.proofs.check.Goals as goal
use Rattle.call_list.proofs.check.Goals.{In-Some}

pub returns-then-list-gt-LONGEST_LIST : goal.returns-then-list-gt-LONGEST_LIST
returns-then-list-gt-LONGEST_LIST c = sym (check_long c.args.list.now (omega arith))

pub loop-record-init : goal.loop-record-init
loop-record-init c =
    let s = c.args.list.now in
    let e = c.none-earlier.ensures in
    let q = c.into_iter-record-iterator.ensures.into_iter_gives in
    let first : drop (start_of c.none-earlier.result.len) s ≡ s = ap (λ (k : ℕ). drop (start_of k) s) e in (
      subst (CheckLeft s) (sym e) (check_starts s (omega arith)),
      holds_none c.none-earlier.result s e,
      ap (λ (x : Chunks ℕ). x.rest.now) q ∙ c.chunks-record-items.ensures.rest ∙ sym first,
      ap (λ (x : Chunks ℕ). x.size) q ∙ c.chunks-record-items.ensures.size,
    )

-- the record's bytes come off those behind the records in front
module _ (c : In-Some) where
  rest : length c.in-Some.record.now ≡ min record_size (length c.loop-record.record-iterator.rest.now)
  rest = c.in-Some.ensures.steps.1.1 ∙ ap (λ (n : ℕ). min n (length c.loop-record.record-iterator.rest.now)) c.loop-record.invariant.3

  bytes : c.in-Some.record.now ≡ record_at c.args.list.now c.loop-record.earlier.len
  bytes = cut-taken record_size _ _ _ c.in-Some.ensures.steps.1.0 rest ∙ ap (take record_size) c.loop-record.invariant.2

  behind : c.next.new.self.rest.now ≡ drop record_size (drop (start_of c.loop-record.earlier.len) c.args.list.now)
  behind = cut-left record_size _ _ _ c.in-Some.ensures.steps.1.0 rest ∙ ap (drop record_size) c.loop-record.invariant.2

  begun : start_of c.loop-record.earlier.len < length c.args.list.now
  begun = omega (arith, c.in-Some.ensures.steps.1.2, ap length c.loop-record.invariant.2, length-drop (start_of c.loop-record.earlier.len) c.args.list.now)

  room : c.loop-record.earlier.len < row_room
  room = omega (arith, begun, c.if-list-gt-LONGEST_LIST.false)

  -- the answer to it
  answer : answer_behind c.loop-record.earlier c.in-Some.record.now ≡ record_answer c.args.list.now c.loop-record.earlier.len
  answer = ap (answer_behind c.loop-record.earlier) bytes ∙ answer_next c.loop-record.earlier c.args.list.now c.loop-record.invariant.1

pub admit-requires : goal.admit-requires
admit-requires c = room (goal.at.admit-requires c).In-Some

pub returns-in-Err : goal.returns-in-Err
returns-in-Err c =
    let at = (goal.at.returns-in-Err c).In-Some in
    let s = c.args.list.now in
    let k = c.loop-record.earlier.len in
    let e : c.len.result ≡ k = c.len.ensures ∙ ap (λ (x : Earlier). x.len) c.in-Err.ensures.left in
    ap (λ (n : ℕ). refused_at (number_of c.in-Err.refusal) (start_of n)) e
    ∙ check_refused s k c.loop-record.invariant.0 (begun at) _ (c.in-Err.ensures.answer ∙ answer at) (refused-not_done c.in-Err.refusal)

pub loop-record-preserved : goal.loop-record-preserved
loop-record-preserved c =
    let at = (goal.at.loop-record-preserved c).In-Some in
    let s = c.args.list.now in
    let e = c.loop-record.earlier in
    let j = c.in_default.ensures.joined in
    let n : c.admit.new.self.len ≡ e.len + 1 = j.len in (
      subst (CheckLeft s) (sym n) (check_on s e.len c.loop-record.invariant.0 (begun at) (sym (c.in_default.ensures.answer ∙ answer at))),
      holds_next e c.admit.new.self s c.loop-record.invariant.1 (room at) (joined_at e s _ (bytes at) j),
      behind at ∙ drop_next s e.len _ n,
      c.in-Some.ensures.steps.0 ∙ c.loop-record.invariant.3,
    )

pub returns : goal.returns
returns c =
    let s = c.args.list.now in
    let k = c.loop-record.earlier.len in
    let l : length s ≤ start_of k = omega (arith, c.in-None.ensures.steps.1.0, ap length c.loop-record.invariant.2, length-drop (start_of k) s) in
    ap accepted_with c.len-2.ensures ∙ check_ends s k c.loop-record.invariant.0 l
