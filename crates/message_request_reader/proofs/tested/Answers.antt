-- `message_request_reader::tested` meets its contract: a refusal of the head, or what the row says behind it.
-- Assumes nothing.
use mathlib.Core.Path.{sym, subst}
use Rattle.std.proofs.Common.{rules}
use Rattle.message_rules.specs.declared.RequestKind.{RequestKind}
use Rattle.message_rules.specs.Read.{Read}
use Rattle.message_rules.specs.Row as row
use Rattle.message_rules.specs.Message.{requests}
use Rattle.message_frame.specs.Meaning.{Holds}
use Rattle.message_frame.proofs.Verdicts.{head_refused, verdict-holds}
use Rattle.message_request_reader.proofs.Verdicts.{request_form, request-holds}
use Rattle.message_request_reader.proofs.tested.Goals as goal

pub returns-in_err-head : goal.returns-in_err-head
returns-in_err-head c =
    let a = c.args in
    let e = head_refused requests a.a a.s.now c.in_err-head.field-0.0 c.in_err-head.ensures in
    search rules

pub returns : goal.returns
returns c =
    let a = c.args in
    let n = c.body_length.ensures.0 in
    let found = c.request_row-row in
    let form = request_form a.a a.s.now c.body_length.result found.ensures c.command.ensures in
    subst (λ (r : Read RequestKind). Holds requests row.Request a.a a.s.now r) (sym c.kind_by.ensures)
    (verdict-holds requests row.Request a.a a.s.now (sym c.in_ok-head.ensures) found.result form (request-holds a.a a.s.now c.body_length.result found.ensures c.command.ensures n))
