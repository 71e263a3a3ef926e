-- What comes next in both is the next line, where it is a difference. Where one profile has ended, the rest of the columns is what is
-- left of the first profile, then of the second.
use Rattle.std.proofs.Common.{◌+◌, ap, ◌∙◌, length, arith}
use Rattle.profile_form_rules.specs.Form.{settings_of}
use Rattle.profile_compare_rules.specs.Compare.{lent}
use Rattle.profile_compare.specs.declared.Both.{Both}
use Rattle.profile_compare.specs.Parts.{rest_in}
use Rattle.profile_compare.proofs.Left.{rest_left}
use Rattle.profile_compare.proofs.Listing.{columns_same, rest_counted, rest_listed}
use Rattle.profile_compare.proofs.list.Goals as goal

pub list_rest-after-requires : goal.list_rest-after-requires
list_rest-after-requires c =
    let l = c.loop-values in
    let s = l.both.first in
    let t = l.both.second in
    let k = columns_same _ _ _ _ _ _ (lent l.codes l.firsts l.seconds) l.n _ l.invariant _ (rest_left s.bytes.now t.bytes.now s.accepted t.accepted s.fits t.fits c.in_default.ensures.0) in
    let one = ap (λ (b : Both). length (settings_of b.first.bytes.now)) c.in_default.ensures.1 in
    omega (arith, rest_counted _ _ l.n _ _ _ k, l.invariant.codes_in.size, l.invariant.firsts_in.size, l.invariant.seconds_in.size, c.requires)

pub list_rest-requires : goal.list_rest-requires
list_rest-requires c =
    let l = c.loop-values in
    let s = l.both.first in
    let t = l.both.second in
    let k = columns_same _ _ _ _ _ _ (lent l.codes l.firsts l.seconds) l.n _ l.invariant _ (rest_left s.bytes.now t.bytes.now s.accepted t.accepted s.fits t.fits c.in_default.ensures.0) in
    let one = ap (λ (b : Both). length (settings_of b.first.bytes.now)) c.in_default.ensures.1 in
    let two = ap (λ (b : Both). length (settings_of b.second.bytes.now)) c.in_default.ensures.1 in
    omega (arith, rest_counted _ _ l.n _ _ _ k, l.invariant.codes_in.size, l.invariant.firsts_in.size, l.invariant.seconds_in.size, c.requires, c.list_rest-after.ensures.value)

pub returns-clause-value : goal.returns-clause-value
returns-clause-value c =
    let l = c.loop-values in
    let s = l.both.first in
    let t = l.both.second in
    let k = columns_same _ _ _ _ _ _ (lent l.codes l.firsts l.seconds) l.n _ l.invariant _ (rest_left s.bytes.now t.bytes.now s.accepted t.accepted s.fits t.fits c.in_default.ensures.0) in
    let one = ap (λ (b : Both). length (settings_of b.first.bytes.now)) c.in_default.ensures.1 in
    let two = ap (λ (b : Both). length (settings_of b.second.bytes.now)) c.in_default.ensures.1 in
    omega (arith, rest_counted _ _ l.n _ _ _ k, c.list_rest-after.ensures.value, c.list_rest.ensures.value)

pub returns-clause-seconds_after : goal.returns-clause-seconds_after
returns-clause-seconds_after c =
    let l = c.loop-values in
    let s = l.both.first in
    let t = l.both.second in
    let k = columns_same _ _ _ _ _ _ (lent l.codes l.firsts l.seconds) l.n _ l.invariant _ (rest_left s.bytes.now t.bytes.now s.accepted t.accepted s.fits t.fits c.in_default.ensures.0) in
    rest_listed (settings_of s.bytes.now) (settings_of t.bytes.now) l.n _ _ (lent l.codes l.firsts l.seconds) k c.requires
    (lent c.list_rest-after.new.codes c.list_rest-after.new.values c.list_rest-after.new.others) (lent c.list_rest.new.codes c.list_rest.new.others c.list_rest.new.values) _
    (c.list_rest-after.ensures.others_after ∙ ap (λ (b : Both). rest_in l.n (settings_of b.first.bytes.now) (lent l.codes l.firsts l.seconds)) c.in_default.ensures.1)
    (c.list_rest-after.ensures.value ∙ ap (λ (b : Both). l.n + length (settings_of b.first.bytes.now)) c.in_default.ensures.1)
    (c.list_rest.ensures.others_after ∙ ap (λ (b : Both). rest_in c.list_rest-after.result (settings_of b.second.bytes.now) (lent c.list_rest-after.new.codes c.list_rest-after.new.others c.list_rest-after.new.values)) c.in_default.ensures.1)
