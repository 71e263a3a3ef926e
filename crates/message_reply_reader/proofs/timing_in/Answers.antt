-- `message_reply_reader::timing_in` meets its contract: the fields at their positions, or 7.
-- Assumes nothing.
use mathlib.Core.Path.{refl, sym, ◌∙◌}
use Rattle.message_rules.specs.declared.ReplyKind.TheVariants.{TimingReply}
use Rattle.message_reply_reader.proofs.Readings.{timing-read, reply-read}
use Rattle.message_reply_reader.proofs.timing_in.Goals as goal

pub returns-then-status_allowed : goal.returns-then-status_allowed
returns-then-status_allowed c =
    let a = c.args in
    let p = c.requires in
    let right = sym c.status_allowed.ensures ∙ c.if-status_allowed.true in
    reply-read {c = TimingReply} a.s.now p.2 p.1 p.3 refl (timing-read a.s.now refl c.from_be_bytes.ensures c.from_be_bytes-then-status_allowed.ensures right)
