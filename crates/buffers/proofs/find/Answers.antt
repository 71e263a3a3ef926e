-- `buffers::find` meets its contract: `position` gives the first place in what stands behind the index.
use Rattle.std.proofs.Common.{◌≡◌, rules, ℕ, ◌-◌, ◌+◌, ◌<◌, ◌≤◌, List, arith, drop, length, length-drop, get_or, get_or-drop, ap, ◌∙◌}
use Rattle.std.proofs.lemmas.Iterator.{IsFirst-from_position, YieldsList-from_slice}
use Rattle.std.specs.List.{AllWithin, HoldsAt}
use Rattle.std.specs.Option.{MatchOption}
use borrow.Author.Tests.{tests}
use Rattle.buffers.proofs.find.Goals.{After-position}
use Rattle.buffers.proofs.find.Goals as goal

-- what `position` says of the bytes behind the index: none of those that were passed is b
passed : (c : After-position) → MatchOption c.position.result
    (AllWithin (λ x. x ≡ c.args.b → ⊥) (drop c.args.from c.args.s.now) 0 (length (drop c.args.from c.args.s.now)))
    (λ i. (i < length (drop c.args.from c.args.s.now)) × HoldsAt (λ x. x ≡ c.args.b) (drop c.args.from c.args.s.now) i
    × AllWithin (λ x. x ≡ c.args.b → ⊥) (drop c.args.from c.args.s.now) 0 i)
passed c =
    IsFirst-from_position _ _ c.position.result (λ x. x ≡ c.args.b) (λ x. x ≡ c.args.b → ⊥) c.position.ensures.ran
    (YieldsList-from_slice (drop c.args.from c.args.s.now) cc) (λ x q k. search (rules, tests)) (λ x q k. search (rules, tests))

-- the same by the index in the whole
missed : (s : List ℕ) (from n b : ℕ) → AllWithin (λ x. x ≡ b → ⊥) (drop from s) 0 n → (k : ℕ) → from ≤ k → k < from + n → get_or s k 0 ≡ b → ⊥
missed s from n b f k l h q =
    let e : from + (k - from) ≡ k = omega arith in
    f (k - from) 0 (omega arith) (omega arith) (get_or-drop from s (k - from) 0 ∙ ap (λ (i : ℕ). get_or s i 0) e ∙ q)

pub returns-in-Some-clause-before : goal.returns-in-Some-clause-before
returns-in-Some-clause-before c =
    let f = rw c.in-Some.is at (passed (goal.at.returns-in-Some-clause-before c).After-position) in
    missed c.args.s.now c.args.from c.in-Some.i c.args.b f.2

pub returns-in-None-clause-before : goal.returns-in-None-clause-before
returns-in-None-clause-before c =
    let f = rw c.in-None.is at (passed (goal.at.returns-in-None-clause-before c).After-position) in
    λ k l h. missed c.args.s.now c.args.from (length (drop c.args.from c.args.s.now)) c.args.b f k l (omega (arith, length-drop c.args.from c.args.s.now))
