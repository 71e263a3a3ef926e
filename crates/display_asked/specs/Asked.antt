-- What an accepted message asked for, in numbers: the rule of the export, and the theorem that ties it to the messages.
use Rattle.std.specs.Prelude.{ℕ, ◌+◌, ◌≡◌, cond, ◌&&◌, List, leb, eqb, length, get_or}
use Rattle.checksum.specs.Bytes.{Bytes}
use Rattle.message_rules.specs.Answer.{done}
use Rattle.message_rules.specs.Read.{ok}
use Rattle.message_rules.specs.Row.{Row, Known, Unknown}
use Rattle.message_rules.specs.Row as kind
use Rattle.message_rules.specs.Layout.{request_entry, least, row_of}
use Rattle.message_rules.specs.Body.{word}
use Rattle.message_rules.specs.Message.{Request, get_feature, set_feature, timing, save, text, table_read, table_write, requests, decode, to_display}
use Rattle.message_rules.specs.declared.Direction.TheVariants as way
use Rattle.message_rules.specs.declared.RequestKind.{RequestKind}
use Rattle.message_rules.specs.declared.RequestKind.TheVariants as row
use Rattle.display_asked.specs.declared.DisplayAsked.{DisplayAsked}

abbrev pub asked : (command code value : ℕ) → DisplayAsked
asked k c v = record { command = k; code = c; value = v }

abbrev pub nothing_asked : DisplayAsked
nothing_asked = asked 0 0 0

-- ---- the rule, by the bytes of a message: 51, the length byte, the command number, then its fields

-- the command number of document 01's table
abbrev pub number_of : RequestKind → ℕ
number_of k = (request_entry k).number

-- "c": the byte behind the command number; "H L" of a Set: the two behind that
abbrev pub fields_asked : RequestKind → List ℕ → DisplayAsked
fields_asked row.Get s = asked (number_of row.Get) (get_or s 3 0) 0
fields_asked row.Set s = asked (number_of row.Set) (get_or s 3 0) (word s 4)
fields_asked row.Timing s = asked (number_of row.Timing) 0 0
fields_asked row.Save s = asked (number_of row.Save) 0 0
fields_asked row.Text s = asked (number_of row.Text) 0 0
fields_asked row.TableRead s = asked (number_of row.TableRead) (get_or s 3 0) 0
fields_asked row.TableWrite s = asked (number_of row.TableWrite) (get_or s 3 0) 0

-- nothing where the message is too short for the fields of its row, or has none
abbrev pub row_asked : Row → List ℕ → DisplayAsked
row_asked (Known (kind.Request k) l) s = cond (leb (3 + least l) (length s)) (fields_asked k s) nothing_asked
row_asked (Known (kind.Reply k) l) s = nothing_asked
row_asked Unknown s = nothing_asked

-- nothing where the step refused the message
unfoldable pub asked_of : (answer : ℕ) → List ℕ → DisplayAsked
asked_of answer s = cond (eqb answer done && leb 3 (length s)) (row_asked (row_of way.Request (get_or s 2 0)) s) nothing_asked

-- ---- what is claimed of such a rule

-- a request's command number, its code and its value
abbrev pub request_asked : Request → DisplayAsked
request_asked (get_feature c) = asked 0x01 c 0
request_asked (set_feature c v) = asked 0x03 c v
request_asked timing = asked 0x07 0 0
request_asked save = asked 0x0C 0 0
request_asked (text o) = asked 0xF3 0 0
request_asked (table_read c o) = asked 0xE2 c 0
request_asked (table_write c o data') = asked 0xE7 c 0

pub record TellsAsked (rule : ℕ → List ℕ → DisplayAsked) : Type 0 where
  -- of a message that reads as m, answered with 0, it tells what m says
  pub accepted : (s : List ℕ) (m : Request) → Bytes s → decode requests to_display s ≡ ok m → rule 0 s ≡ request_asked m
  -- of a refused one nothing
  pub refused : (answer : ℕ) (s : List ℕ) → (answer ≡ 0 → ⊥) → rule answer s ≡ asked 0 0 0
