-- The answers of the exported functions, as numbers, from the proved functions' own.
use Rattle.std.specs.Prelude.{ℕ, ◌≡◌, Bool, List, Result, Ok, Err}
use Rattle.message_rules.specs.Answer.{done}
use Rattle.message_rules.specs.Layout.{request_entry, reply_entry}
use Rattle.message_rules.specs.Message.{Reading, requests, replies, encode, decode, to_display, to_host}
use Rattle.message_rules.specs.declared.Address.{Address}
use Rattle.message_rules.specs.declared.RequestKind.{RequestKind}
use Rattle.message_rules.specs.declared.RequestKind.TheVariants as request_row
use Rattle.message_rules.specs.declared.ReplyKind.{ReplyKind}
use Rattle.message_rules.specs.declared.ReplyKind.TheVariants as reply_row
use Rattle.message_request_reader.specs.Outcome.{RequestMeans}
use Rattle.message_reply_reader.specs.Outcome.{ReplyMeans}
use Rattle.message_output.specs.Output.{Built, Builds, admits}
use Rattle.message_rules.specs.Refusal.{number_of}
use Rattle.message_rules.specs.declared.refusal.Refusal.{Refusal}
use Rattle.message_rules.specs.declared.TextKind.TheVariants.{Capabilities, Table}
use Rattle.message_request_reader.specs.declared.RequestRead.{RequestRead}
use Rattle.message_request_reader.specs.declared.RequestRead.TheVariants as request
use Rattle.message_reply_reader.specs.declared.ReplyRead.{ReplyRead}
use Rattle.message_reply_reader.specs.declared.ReplyRead.TheVariants as reply
use Rattle.ddcci.specs.declared.BuiltNumbers.{BuiltNumbers}
use Rattle.ddcci.specs.declared.request.RequestNumbers.{RequestNumbers}
use Rattle.ddcci.specs.declared.reply.ReplyNumbers.{ReplyNumbers}

-- ---- building

abbrev pub built_numbers : Built → BuiltNumbers
built_numbers (Ok n) = record { answer = done; len = n }
built_numbers (Err r) = record { answer = number_of r; len = 0 }

-- the numbers of what a builder of these bytes answers
pub record BuildsNumbers (allowed : Bool) (s before after : List ℕ) (r : BuiltNumbers) : Type 0 where
  pub answer : Built
  pub builds : Builds allowed s before after answer
  pub numbers : r ≡ built_numbers answer

-- of the message m
abbrev pub BuildsMessageNumbers : {M : Type 0} → Reading M → Address → M → List ℕ → List ℕ → BuiltNumbers → Type 0
BuildsMessageNumbers t a m before after r = BuildsNumbers (admits (t.body_for m)) (encode t a m) before after r

-- ---- reading

-- the command numbers of document 01's table of messages
abbrev pub request_command : RequestKind → ℕ
request_command k = (request_entry k).number

abbrev pub reply_command : ReplyKind → ℕ
reply_command k = (reply_entry k).number

-- a request: its command number, code, value or offset, and where its data stand; what it does not have is 0
abbrev pub request_fields : ℕ → ℕ → ℕ → RequestNumbers
request_fields command code word = record { answer = done; command = command; code = code; word = word; position = 0; len = 0 }

abbrev pub request_numbers : Result RequestRead Refusal → RequestNumbers
request_numbers (Ok (request.Get c)) = request_fields (request_command request_row.Get) c 0
request_numbers (Ok (request.Set c v)) = request_fields (request_command request_row.Set) c v
request_numbers (Ok request.Timing) = request_fields (request_command request_row.Timing) 0 0
request_numbers (Ok request.Save) = request_fields (request_command request_row.Save) 0 0
request_numbers (Ok (request.Text o)) = request_fields (request_command request_row.Text) 0 o.0
request_numbers (Ok (request.TableRead c o)) = request_fields (request_command request_row.TableRead) c o.0
request_numbers (Ok (request.TableWrite c d)) = record { answer = done; command = request_command request_row.TableWrite; code = c; word = d.offset.0; position = d.at.0; len = d.len }
request_numbers (Err r) = record { answer = number_of r; command = 0; code = 0; word = 0; position = 0; len = 0 }

pub record ReadsRequest (s : List ℕ) (r : RequestNumbers) : Type 0 where
  pub read : Result RequestRead Refusal
  pub means : RequestMeans s read (decode requests to_display s)
  pub numbers : r ≡ request_numbers read

-- a reply: its command number, fields, and where its data stand; what it does not have is 0
abbrev pub field_numbers : ℕ → ℕ → ℕ → ℕ → ℕ → ℕ → ℕ → ReplyNumbers
field_numbers answer command status code kind first second =
    record { answer = answer; command = command; status = status; code = code; kind = kind; first = first; second = second; position = 0; len = 0 }

abbrev pub fragment_numbers : ℕ → ℕ → ℕ → ℕ → ReplyNumbers
fragment_numbers command offset position length =
    record { answer = done; command = command; status = 0; code = 0; kind = 0; first = offset; second = 0; position = position; len = length }

abbrev pub reply_numbers : Result ReplyRead Refusal → ReplyNumbers
reply_numbers (Ok (reply.Value r c t m p)) = field_numbers done (reply_command reply_row.Value) r c t m p
reply_numbers (Ok (reply.Timing st h v)) = field_numbers done (reply_command reply_row.TimingReply) st 0 0 h v
reply_numbers (Ok (reply.Fragment Capabilities d)) = fragment_numbers (reply_command reply_row.TextFragment) d.offset.0 d.at.0 d.len
reply_numbers (Ok (reply.Fragment Table d)) = fragment_numbers (reply_command reply_row.TableFragment) d.offset.0 d.at.0 d.len
reply_numbers (Err r) = field_numbers (number_of r) 0 0 0 0 0 0

pub record ReadsReply (s : List ℕ) (r : ReplyNumbers) : Type 0 where
  pub read : Result ReplyRead Refusal
  pub means : ReplyMeans s read (decode replies to_host s)
  pub numbers : r ≡ reply_numbers read
