-- `message_reply_reader::read_display_reply` meets its contract: what begins with the fixed string is the null message.
-- Assumes nothing.
use mathlib.Core.Path.{sym, ◌∙◌}
use Rattle.message_rules.specs.declared.refusal.Refusal.TheVariants.{NullMessage}
use Rattle.message_frame.proofs.Meanings.{means-refused}
use Rattle.message_reply_reader.proofs.Starts.{null-answer}
use Rattle.message_reply_reader.proofs.read_display_reply.Goals as goal

pub returns-then-is_null : goal.returns-then-is_null
returns-then-is_null c = means-refused NullMessage (null-answer c.args.s.now (sym c.is_null.ensures ∙ c.if-is_null.true))
