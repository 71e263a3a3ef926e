-- Each line of the list is put behind those in front of it; of the codes lent, as many are read as there are differences.
use mathlib.Core.Path.{◌≡◌, refl, subst, ◌∙◌}
use Prim.Native.Nat.{ℕ, ◌<◌}
use native.Mathlib.Omega.{arith}
use lib.Seq.{length-take-le}
use Rattle.std.proofs.lemmas.List.{get_or-take}
use Rattle.profile_compare_rules.specs.Statements.{lines_in}
use Rattle.compare_profiles.specs.Lines.{Lines}
use Rattle.compare_profiles.proofs.Laws.{none_so_far, line-length, line_so_far}
use Rattle.compare_profiles.proofs.lines.put_lines.Goals as goal

pub loop-k-init : goal.loop-k-init
loop-k-init c = (omega arith, refl, none_so_far c.args.codes.now c.args.firsts.now c.args.seconds.now c.args.text.now)

pub put_line-at-requires : goal.put_line-at-requires
put_line-at-requires c =
    let l = c.loop-k in
    let far = l.invariant.2.short in
    let size = length-take-le c.args.n c.args.codes.now c.requires.1 in
    let k : l.k < c.args.n = omega (arith, c.loop-k-test.true) in
    (c.requires.4 l.k k, c.requires.5 l.k k, omega (arith, c.requires.6, c.requires.0, l.invariant.1))

pub loop-k-preserved : goal.loop-k-preserved
loop-k-preserved c =
    let l = c.loop-k in
    let far = l.invariant.2 in
    let close = far.short in
    let size = length-take-le c.args.n c.args.codes.now c.requires.1 in
    let k : l.k < c.args.n = omega (arith, c.loop-k-test.true) in
    let few = c.requires.0 in
    let room = c.requires.6 in
    let put = c.put_line-at.ensures in
    let line = rw (get_or-take c.args.n c.args.codes.now l.k 0 k) at put in
    let same = l.invariant.1 in (
      omega arith,
      line-length _ l.text _ l.at _ (omega arith) c.put_line-at.ensures ∙ same,
      line_so_far c.args.codes.now c.args.firsts.now c.args.seconds.now c.args.text.now l.text _ l.k l.at _ (omega arith) line far,
    )

pub returns : goal.returns
returns c =
    let l = c.loop-k in
    let far = l.invariant.2 in
    let close = l.invariant.0 in
    let e : l.k ≡ c.args.n = omega (arith, c.loop-k-test.false, length-take-le c.args.n c.args.codes.now c.requires.1) in
    record {
      text = far.text;
      lines = subst (λ (m : ℕ). Lines (lines_in m c.args.codes.now c.args.firsts.now c.args.seconds.now) far.text) e far.lines;
      there = far.there;
      counted = far.size;
    }
