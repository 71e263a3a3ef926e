use mathlib.Core.Path.{sym}
use mathlib.Core.Logic.{⊎_elim}
use Prim.Native.Nat.{◌+◌, ◌*◌, ◌≤◌}
use native.Mathlib.Omega.{arith}
use Rattle.codes.proofs.Cases.{lt_or_le}
use Rattle.codes.proofs.Members.{word-clear, word-found}
use Rattle.codes.proofs.Theorems.{next-is-least, next-is-nothing}
use Rattle.codes.proofs.next_from.Goals as goal

pub loop-i-init : goal.loop-i-init
loop-i-init c = (omega arith, omega arith, λ k a b. absurd (omega arith))

pub returns-then-t-lt64 : goal.returns-then-t-lt64
returns-then-t-lt64 c =
    let at = c.loop-i in
    let ws = c.args.words in
    let f = c.bit_from-t.ensures in
    let t = c.bit_from-t.result in
    let low : at.s ≤ t = (f.found c.if-t-lt64.true).0 in
    sym (next-is-least ws _ (at.i * 64 + t) (omega arith) (omega arith) (word-found ws at.i at.s t f c.if-t-lt64.true)
    (λ j a b. ⊎_elim (λ l. at.invariant.2 j a l) (λ l. word-clear ws at.i at.s t f j l b) (lt_or_le j (at.i * 64 + at.s))))

pub loop-i-preserved : goal.loop-i-preserved
loop-i-preserved c =
    let at = c.loop-i in
    let ws = c.args.words in
    let f = c.bit_from-t.ensures in (
      omega arith,
      omega arith,
      λ k a b.
          ⊎_elim (λ l. at.invariant.2 k a l) (λ l. word-clear ws at.i at.s c.bit_from-t.result f k l (omega arith)) (lt_or_le k (at.i * 64 + at.s)),
    )

pub returns : goal.returns
returns c = sym (next-is-nothing c.args.words _ (λ j a b. c.loop-i.invariant.2 j a (omega arith)))
