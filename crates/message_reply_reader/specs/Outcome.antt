-- What the reader's result says of the reply that was read.
use Rattle.std.specs.Prelude.{ℕ, List, Result}
use Rattle.message_rules.specs.Read.{Read}
use Rattle.message_rules.specs.Row as row
use Rattle.message_rules.specs.Message.{replies, Reply, value, timing_reply, text_fragment, table_fragment}
use Rattle.message_rules.specs.declared.Address.{Address}
use Rattle.message_rules.specs.declared.ReplyKind.{ReplyKind}
use Rattle.message_rules.specs.declared.TextKind.TheVariants.{Capabilities, Table}
use Rattle.message_rules.specs.declared.refusal.Refusal.{Refusal}
use Rattle.message_frame.specs.Meaning.{Meaning, Holds, CarriedAt, carried_in}
use Rattle.message_frame.specs.Verdict.{read_of}
use Rattle.message_reply_reader.specs.declared.ReplyRead.{ReplyRead}
use Rattle.message_reply_reader.specs.declared.ReplyRead.TheVariants as reply_read

-- the message that a reading of a slice stands for
abbrev pub reply_in : List ℕ → ReplyRead → Reply
reply_in s (reply_read.Value r c t m p) = value r c t m p
reply_in s (reply_read.Timing st h v) = timing_reply st h v
reply_in s (reply_read.Fragment Capabilities d) = text_fragment d.offset.0 (carried_in s d)
reply_in s (reply_read.Fragment Table d) = table_fragment d.offset.0 (carried_in s d)

-- where the data of a fragment stand, behind 6E, length byte, E3 or E4, and offset
abbrev pub fragment_at : ℕ
fragment_at = 5

-- the data that a reading names stand there, and lie in the slice
abbrev pub ReplyInside : List ℕ → ReplyRead → Type 0
ReplyInside s (reply_read.Value r c t m p) = Unit {0}
ReplyInside s (reply_read.Timing st h v) = Unit {0}
ReplyInside s (reply_read.Fragment k d) = CarriedAt fragment_at s d

-- the result r stands for x, and what it names of the slice is in it
abbrev pub ReplyMeans : List ℕ → Result ReplyRead Refusal → Read Reply → Type 0
ReplyMeans = Meaning reply_in ReplyInside

-- what the verdict of the tests, but those of the fields, says of a message: it is refused, or a body of a known kind is left to be read
abbrev pub ReplyHolds : Address → List ℕ → Result ReplyKind Refusal → Type 0
ReplyHolds a s r = Holds replies row.Reply a s (read_of r)
