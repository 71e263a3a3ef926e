-- `display_texts::answers::read` meets its contract. The cursor found is the definition's, and the fragment at it is sent.
-- Assumes nothing.
use Rattle.display_texts.proofs.Sending.{reads_of}
use Rattle.display_texts.proofs.answers.read.Goals as goal

pub returns : goal.returns
returns c =
    let a = c.args in
    reads_of a.kind a.texts.capabilities.now a.texts.table.now a.most a.state a.q.0 c.cursor_at-cursor.ensures c.send_fragment.ensures
