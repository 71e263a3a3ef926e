-- `message_reply_reader::tested` meets its contract: a refusal of the head, or what the row says behind it.
-- Assumes nothing.
use mathlib.Core.Path.{sym, subst}
use Rattle.std.proofs.Common.{rules}
use Rattle.message_rules.specs.declared.ReplyKind.{ReplyKind}
use Rattle.message_rules.specs.Read.{Read}
use Rattle.message_rules.specs.Row as row
use Rattle.message_rules.specs.Message.{replies}
use Rattle.message_frame.specs.Meaning.{Holds}
use Rattle.message_frame.proofs.Verdicts.{head_refused, verdict-holds}
use Rattle.message_reply_reader.proofs.Verdicts.{reply_form, reply-holds}
use Rattle.message_reply_reader.proofs.tested.Goals as goal

pub returns-in_err-head : goal.returns-in_err-head
returns-in_err-head c =
    let a = c.args in
    let e = head_refused replies a.a a.s.now c.in_err-head.field-0.0 c.in_err-head.ensures in
    search rules

pub returns : goal.returns
returns c =
    let a = c.args in
    let n = c.body_length.ensures.0 in
    let found = c.reply_row-row in
    let form = reply_form a.a a.s.now c.body_length.result found.ensures c.command.ensures in
    subst (λ (r : Read ReplyKind). Holds replies row.Reply a.a a.s.now r) (sym c.kind_by.ensures)
    (verdict-holds replies row.Reply a.a a.s.now (sym c.in_ok-head.ensures) found.result form (reply-holds a.a a.s.now c.body_length.result found.ensures c.command.ensures n))
