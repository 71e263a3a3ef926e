-- `count` has counted what is behind; where one has ended, the records left are what is still to come.
use Rattle.std.proofs.Common.{length, ap, arith}
use Rattle.profile_form_rules.specs.Form.{settings_of}
use Rattle.profile_compare.specs.declared.Both.{Both}
use Rattle.profile_compare.proofs.Left.{rest_count, list_few}
use Rattle.profile_compare.proofs.Both.count.Goals as goal

pub overflow_add-n : goal.overflow_add-n
overflow_add-n c = omega (arith, list_few c.args.self.first.bytes.now c.args.self.second.bytes.now)

pub overflow_add-result : goal.overflow_add-result
overflow_add-result c =
    let s = c.loop-values.self.first in
    let t = c.loop-values.self.second in
    let left = rest_count s.bytes.now t.bytes.now s.accepted t.accepted s.fits t.fits c.in_default.ensures.0 in
    let one = ap (λ (b : Both). length (settings_of b.first.bytes.now)) c.in_default.ensures.1 in
    omega (arith, list_few c.args.self.first.bytes.now c.args.self.second.bytes.now)

pub overflow_add-result-2 : goal.overflow_add-result-2
overflow_add-result-2 c =
    let s = c.loop-values.self.first in
    let t = c.loop-values.self.second in
    let left = rest_count s.bytes.now t.bytes.now s.accepted t.accepted s.fits t.fits c.in_default.ensures.0 in
    let one = ap (λ (b : Both). length (settings_of b.first.bytes.now)) c.in_default.ensures.1 in
    let two = ap (λ (b : Both). length (settings_of b.second.bytes.now)) c.in_default.ensures.1 in
    omega (arith, list_few c.args.self.first.bytes.now c.args.self.second.bytes.now)

pub returns : goal.returns
returns c =
    let s = c.loop-values.self.first in
    let t = c.loop-values.self.second in
    let left = rest_count s.bytes.now t.bytes.now s.accepted t.accepted s.fits t.fits c.in_default.ensures.0 in
    let one = ap (λ (b : Both). length (settings_of b.first.bytes.now)) c.in_default.ensures.1 in
    let two = ap (λ (b : Both). length (settings_of b.second.bytes.now)) c.in_default.ensures.1 in
    omega arith
