-- `first_record` reads the two numbers of the head of whole records.
use Rattle.std.proofs.Common.{arith, sym, ◌∙◌}
use Rattle.profile_form_rules.proofs.Records.{cut-is-none}
use Rattle.profile_form.proofs.Laws.{same_setting, head}
use Rattle.profile_form.proofs.first_record.Goals as goal

pub returns-in_err-record : goal.returns-in_err-record
returns-in_err-record c = rw c.from_residual.ensures (cut-is-none c.args.bytes.now c.in_err-record.ensures.cases)

pub returns-then-is_record : goal.returns-then-is_record
returns-then-is_record c =
    let r = c.in_ok-record.ensures.cases in
    let size = r.2 in
    record {
      is_record = head c.args.bytes.now c.in_ok-record.record.now r.0 (omega arith) _ _ c.from_le_bytes-len.ensures c.from_le_bytes-kind.ensures ∙ sym c.eq-is_record.ensures ∙ c.if-is_record.true;
      says = c.said.ensures ∙ same_setting c.args.bytes.now c.in_ok-record.record.now r.0;
      rest = r.1;
    }

pub returns : goal.returns
returns c =
    let r = c.in_ok-record.ensures.cases in
    let size = r.2 in
    head c.args.bytes.now c.in_ok-record.record.now r.0 (omega arith) _ _ c.from_le_bytes-len.ensures c.from_le_bytes-kind.ensures ∙ sym c.eq-is_record.ensures ∙ c.if-is_record.false
