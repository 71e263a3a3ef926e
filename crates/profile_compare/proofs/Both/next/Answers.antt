-- `next` goes a step: the lower code has its value, and the other profile has none for it.
use Rattle.std.proofs.Common.{◌≡◌, ◌<◌, arith}
use Rattle.profile_form_rules.specs.Form.{settings_of}
use Rattle.profile_compare_rules.specs.Compare.{value_of}
use Rattle.profile_compare.proofs.Merging.{Behind}
use Rattle.profile_compare.proofs.Left.{behind_there, value_there, behind_lower, value_lower, steps}
use Rattle.profile_compare.proofs.Both.next.Goals as goal

pub returns-then-one-other : goal.returns-then-one-other
returns-then-one-other c =
    let s = c.args.self.now.first in
    let t = c.args.self.now.second in
    let x = c.in_ok-one.ensures in
    let y = c.in_ok-other.ensures in
    let q : Behind (settings_of t.bytes.now) (settings_of c.in_ok-other.behind_other.bytes.now) c.in_ok-one.one.code =
    rw c.if-one-other.true (behind_there t.bytes.now c.in_ok-other.other _ t.accepted y.0) in
    let v : value_of (settings_of t.bytes.now) c.in_ok-one.one.code ≡ c.in_ok-other.other.value =
    rw c.if-one-other.true (value_there t.bytes.now c.in_ok-other.other _ t.accepted y.0) in
    steps _ _ _ _ _ (omega arith) (omega arith) (omega arith) (behind_there s.bytes.now c.in_ok-one.one _ s.accepted x.0) q
    (value_there s.bytes.now c.in_ok-one.one _ s.accepted x.0) v (omega (arith, x.1, y.1))

pub returns-then-one-other-2 : goal.returns-then-one-other-2
returns-then-one-other-2 c =
    let s = c.args.self.now.first in
    let t = c.args.self.now.second in
    let x = c.in_ok-one.ensures in
    let y = c.in_ok-other.ensures in
    let l = c.if-one-other-2.true in
    steps _ _ _ _ _ (omega arith) (omega arith) tt (behind_there s.bytes.now c.in_ok-one.one _ s.accepted x.0) (behind_lower t.bytes.now c.in_ok-other.other _ t.accepted y.0 _ l)
    (value_there s.bytes.now c.in_ok-one.one _ s.accepted x.0) (value_lower t.bytes.now c.in_ok-other.other _ t.accepted y.0 _ l) (omega (arith, x.1))

pub returns : goal.returns
returns c =
    let s = c.args.self.now.first in
    let t = c.args.self.now.second in
    let x = c.in_ok-one.ensures in
    let y = c.in_ok-other.ensures in
    let n = c.if-one-other.false in
    let l : c.in_ok-other.other.code < c.in_ok-one.one.code = omega arith in
    steps _ _ _ _ _ (omega arith) tt (omega arith) (behind_lower s.bytes.now c.in_ok-one.one _ s.accepted x.0 _ l) (behind_there t.bytes.now c.in_ok-other.other _ t.accepted y.0)
    (value_lower s.bytes.now c.in_ok-one.one _ s.accepted x.0 _ l) (value_there t.bytes.now c.in_ok-other.other _ t.accepted y.0) (omega (arith, y.1))
