-- `display_texts::answers::table_read` meets its contract. Another code than F4 is refused with the null message.
-- The fragment that the read goes to is sent as that of either text is. Assumes nothing.
use Rattle.message_rules.specs.declared.TextKind.TheVariants.{Table}
use Rattle.display_texts.proofs.Sending.{reads_of}
use borrow.Author.Tests.{eq-eqb}
use Rattle.display_texts.proofs.answers.table_read.Goals as goal

pub returns : goal.returns
returns c =
    let a = c.args in
    let table = eq-eqb _ _ c.if-code-ne-TABLE_CODE.false in
    let read = reads_of Table a.texts.capabilities.now a.texts.table.now a.most a.state a.q.0 c.cursor_at-cursor.ensures c.send_fragment.ensures in
    record { pending = rw table read.pending; leaves = rw table read.leaves }
