-- `split` cuts off the first record, and what is behind it is accepted.
use Rattle.std.proofs.Common.{◌+◌, ◌∙◌, arith}
use lib.Seq.{get_or-drop}
use Rattle.profile_form.proofs.Laws.{same_setting}
use Rattle.profile_compare.proofs.Left.{none_left, split}
use Rattle.profile_compare.proofs.Records.split.Goals as goal

pub returns-in_err-first : goal.returns-in_err-first
returns-in_err-first c = rw c.from_residual.ensures (none_left c.args.self.bytes.now c.args.self.accepted c.in_err-first.ensures.cases)

pub invariant_of-result : goal.invariant_of-result
invariant_of-result c =
    let r = c.in_ok-first.ensures.cases in
    let size = r.2 in
    record {
      accepted = rw r.1 (split c.args.self.bytes.now c.args.self.accepted (omega arith)).behind;
      fits = λ k. rw (r.1, get_or-drop 7 c.args.self.bytes.now k 0) (c.args.self.fits (7 + k));
    }

pub returns : goal.returns
returns c =
    let r = c.in_ok-first.ensures.cases in
    let size = r.2 in
    let x = split c.args.self.bytes.now c.args.self.accepted (omega arith) in
    let e = c.said.ensures ∙ same_setting c.args.self.bytes.now c.in_ok-first.first.now r.0 in
    (rw (e, r.1) x.settings, omega arith)
