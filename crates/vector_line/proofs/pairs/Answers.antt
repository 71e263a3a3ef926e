-- Each return gives what the text comes to; each iteration takes a space or a pair from what is left.
use Rattle.std.proofs.Common.{Some}
use Rattle.vector_line.proofs.pairs.Goals as goal
use Rattle.vector_line.proofs.pairs.Goals.{then-left-lt2+in-32-1, else-left-lt2+in-32-1}
use native.Mathlib.Omega.{arith}
use lib.ListN.{length-set}
use lib.Seq.{length-take-le}
use Rattle.vector_line.proofs.Laws.{left_none, left_space, left_single, left_pair, left_no_high, left_no_low, left_on, left_stored, behind_stored, left_ends, left_malformed, left_full}

pub returns-in-empty-clause-read : goal.returns-in-empty-clause-read
returns-in-empty-clause-read c =
    left_ends _ _ _ _ c.loop-left.invariant.0 (left_none _ c.in-empty.len_below) (omega (arith, length-take-le c.loop-left.n c.loop-left.buffer c.loop-left.invariant.1))

pub returns-in_default-clause-read : goal.returns-in_default-clause-read
returns-in_default-clause-read c =
    left_malformed _ _ _ _ c.loop-left.invariant.0 (left_single _ c.in_default.len_at_least c.in_default.len_below (λ e. omega arith))

pub returns-in_err-digit-in-len2-up-clause-read : goal.returns-in_err-digit-in-len2-up-clause-read
returns-in_err-digit-in-len2-up-clause-read c =
    rw c.from_residual.ensures
    (left_malformed _ _ _ _ c.loop-left.invariant.0 (left_no_high _ c.in-len2-up.len_at_least (λ e. omega arith) c.in_err-digit-in-len2-up.ensures))

pub returns-in_err-byte-in-len2-up-clause-read : goal.returns-in_err-byte-in-len2-up-clause-read
returns-in_err-byte-in-len2-up-clause-read c =
    rw c.from_residual-in_err-byte-in-len2-up.ensures
    (left_malformed _ _ _ _ c.loop-left.invariant.0
    (left_no_low _ c.in-len2-up.len_at_least (λ e. omega arith) c.in_err-byte-in-len2-up.ensures))

pub returns-then-n-buffer-clause-read : goal.returns-then-n-buffer-clause-read
returns-then-n-buffer-clause-read c =
    left_full _ _ _ _ _ c.in_ok-digit-in-len2-up.field-0 c.in_ok-byte-in-len2-up.field-0 c.loop-left.invariant.0
    (left_pair _ (Some c.in_ok-digit-in-len2-up.field-0) (Some c.in_ok-byte-in-len2-up.field-0) c.in-len2-up.len_at_least (λ e. omega arith) c.in_ok-digit-in-len2-up.ensures c.in_ok-byte-in-len2-up.ensures)
    (omega (arith, length-take-le c.loop-left.n c.loop-left.buffer c.loop-left.invariant.1, c.if-n-buffer.true))

pub loop-left-preserved-in_default-left-2 : goal.loop-left-preserved-in_default-left-2
loop-left-preserved-in_default-left-2 c = (
  left_stored _ _ _ _ _ c.in_ok-digit-in-len2-up.field-0 c.in_ok-byte-in-len2-up.field-0 _ (omega arith) (omega arith) c.loop-left.invariant.0
      (left_pair _ (Some c.in_ok-digit-in-len2-up.field-0) (Some c.in_ok-byte-in-len2-up.field-0) c.in-len2-up.len_at_least (λ e. omega arith) c.in_ok-digit-in-len2-up.ensures c.in_ok-byte-in-len2-up.ensures),
  rw length-set (omega arith),
  rw length-set (omega arith),
  behind_stored c.loop-left.buffer c.args.buffer.now c.loop-left.n _ c.loop-left.invariant.3,
)

pub loop-left-preserved : goal.loop-left-preserved
loop-left-preserved c = (
  left_on _ _ _ _ c.loop-left.invariant.0 (left_space _
      (elim c.in-32-1.branch [ then-left-lt2+in-32-1 w ↦ omega arith | else-left-lt2+in-32-1 w ↦ omega arith ])),
  c.loop-left.invariant.1,
  c.loop-left.invariant.2,
  c.loop-left.invariant.3,
)
