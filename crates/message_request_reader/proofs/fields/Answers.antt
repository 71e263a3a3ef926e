-- `message_request_reader::fields` meets its contract: an arm for each kind, its fields at their positions.
-- Assumes nothing.
use Rattle.message_request_reader.proofs.Readings.{request-read}
use Rattle.message_request_reader.proofs.fields.Goals as goal

pub returns-in-Text : goal.returns-in-Text
returns-in-Text c =
    let a = c.args in
    let p = c.requires in
    request-read a.s.now p.2 p.1 p.3 c.in-Text.is (rw c.from_be_bytes-offset.ensures)
