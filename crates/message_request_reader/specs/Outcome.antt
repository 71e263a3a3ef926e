-- What the reader's result says of the request that was read.
use Rattle.std.specs.Prelude.{ℕ, List, Result}
use Rattle.message_rules.specs.Read.{Read}
use Rattle.message_rules.specs.Row as row
use Rattle.message_rules.specs.Message.{requests, Request, get_feature, set_feature, timing, save, text, table_read, table_write}
use Rattle.message_rules.specs.declared.Address.{Address}
use Rattle.message_rules.specs.declared.RequestKind.{RequestKind}
use Rattle.message_rules.specs.declared.refusal.Refusal.{Refusal}
use Rattle.message_frame.specs.Meaning.{Meaning, Holds, CarriedAt, carried_in}
use Rattle.message_frame.specs.Verdict.{read_of}
use Rattle.message_request_reader.specs.declared.RequestRead.{RequestRead}
use Rattle.message_request_reader.specs.declared.RequestRead.TheVariants as request_read

-- the message that a reading of a slice stands for
abbrev pub request_in : List ℕ → RequestRead → Request
request_in s (request_read.Get c) = get_feature c
request_in s (request_read.Set c v) = set_feature c v
request_in s request_read.Timing = timing
request_in s request_read.Save = save
request_in s (request_read.Text o) = text o.0
request_in s (request_read.TableRead c o) = table_read c o.0
request_in s (request_read.TableWrite c d) = table_write c d.offset.0 (carried_in s d)

-- where the data of a Table write stand, behind 51, length byte, E7, code and offset
abbrev pub written_at : ℕ
written_at = 6

-- the data that a reading names stand there, and lie in the slice
abbrev pub RequestInside : List ℕ → RequestRead → Type 0
RequestInside s (request_read.Get c) = Unit {0}
RequestInside s (request_read.Set c v) = Unit {0}
RequestInside s request_read.Timing = Unit {0}
RequestInside s request_read.Save = Unit {0}
RequestInside s (request_read.Text o) = Unit {0}
RequestInside s (request_read.TableRead c o) = Unit {0}
RequestInside s (request_read.TableWrite c d) = CarriedAt written_at s d

-- the result r stands for x, and what it names of the slice is in it
abbrev pub RequestMeans : List ℕ → Result RequestRead Refusal → Read Request → Type 0
RequestMeans = Meaning request_in RequestInside

-- what the verdict of the tests, but those of the fields, says of a message: it is refused, or a body of a known kind is left to be read
abbrev pub RequestHolds : Address → List ℕ → Result RequestKind Refusal → Type 0
RequestHolds a s r = Holds requests row.Request a s (read_of r)
