-- `stands` tests the size, the length and the kind, in this order.
use mathlib.Core.Path.{sym, ap, ◌∙◌}
use Prim.Native.Nat.{ℕ, ◌+◌, ◌≤◌}
use native.Mathlib.Omega.{arith}
use lib.ListN.{length}
use lib.Dec.{eqb}
use borrow.Author.Tests.{leb-true, leb-false}
use Rattle.records.proofs.Records.{stands_short, stands_cut, stands_by_kind, stands_not}
use Rattle.records.proofs.stands.Goals.{Then-whole}
use Rattle.records.proofs.stands.Goals as goal

-- where the size was tested, the whole record is there
room : (c : Then-whole) → c.args.at.0 + (2 + c.args.len) ≤ length c.args.s.now
room c = leb-true _ _ (sym c.whole.ensures ∙ c.if-whole.true)

pub returns-then-len-lt2 : goal.returns-then-len-lt2
returns-then-len-lt2 c = let a = c.args in stands_short a.len a.kind a.s.now a.at.0 c.if-len-lt2.true

pub overflow_add-next : goal.overflow_add-next
overflow_add-next c = omega (arith, room (goal.at.overflow_add-next c).Then-whole)

pub returns-then-word_at-len : goal.returns-then-word_at-len
returns-then-word_at-len c =
    let a = c.args in
    let counted = sym c.word_at.ensures ∙ c.if-word_at-len.true in
    stands_by_kind a.len a.kind a.s.now a.at.0 (omega arith) (room (goal.at.returns-then-word_at-len c).Then-whole) counted _ (ap (λ (n : ℕ). eqb n a.kind) c.word_at-then-word_at-len.ensures)

pub returns-else-word_at-len : goal.returns-else-word_at-len
returns-else-word_at-len c =
    let a = c.args in
    stands_not a.len a.kind a.s.now a.at.0 (omega arith) (room (goal.at.returns-else-word_at-len c).Then-whole) (λ e. c.if-word_at-len.false (c.word_at.ensures ∙ e))

pub returns-else-whole : goal.returns-else-whole
returns-else-whole c = let a = c.args in stands_cut a.len a.kind a.s.now a.at.0 (leb-false _ _ (sym c.whole.ensures ∙ c.if-whole.false))
