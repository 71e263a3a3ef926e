-- `message_reply_reader::value_in` meets its contract: the fields at their positions, or 7.
-- Assumes nothing.
use mathlib.Core.Path.{refl, sym, ◌∙◌}
use Rattle.message_rules.specs.declared.ReplyKind.TheVariants.{Value}
use Rattle.message_reply_reader.proofs.Readings.{value_read, value_wrong, reply-read}
use Rattle.message_reply_reader.proofs.value_in.Goals as goal

pub returns-then-value_allowed : goal.returns-then-value_allowed
returns-then-value_allowed c =
    let a = c.args in
    let p = c.requires in
    let right = sym c.value_allowed.ensures ∙ c.if-value_allowed.true in
    reply-read {c = Value} a.s.now p.2 p.1 p.3 refl (value_read a.s.now refl refl refl c.from_be_bytes.ensures c.from_be_bytes-then-value_allowed.ensures right)

pub returns : goal.returns
returns c =
    let a = c.args in
    let p = c.requires in
    reply-read {c = Value} a.s.now p.2 p.1 p.3 refl (value_wrong a.s.now refl refl (sym c.value_allowed.ensures ∙ c.if-value_allowed.false))
