-- Document 01, "Messages on the wire": the body of any message, a command number, single bytes, 16-bit words and data, by the layout of its row.
use Rattle.std.specs.Prelude.{ℕ, zero, suc, ◌+◌, ◌*◌, ◌/◌, ◌%◌, ◌≤◌, ◌<◌, ◌≡◌, List, [], ◌∷◌, ◌++◌, Bool, true, ◌&&◌, length, get_or, take, drop, leb}
use Rattle.checksum.specs.Bytes.{Bytes}
use Rattle.message_rules.specs.Answer.{unknown_command, wrong_field, null_message}
use Rattle.message_rules.specs.Read.{Read, ok, refused, require}
use Rattle.message_rules.specs.Layout.{entry, layout_of, least, rule, row_of}
use Rattle.message_rules.specs.declared.Direction.{Direction}
use Rattle.message_rules.specs.declared.Direction.TheVariants.{Request, Reply}
use Rattle.message_rules.specs.Row.{Layout, Kind, Row, Known, Unknown}

pub record Body : Type 0 where
  pub kind : Kind
  pub bytes : List ℕ
  pub words : List ℕ
  -- the data
  pub rest : List ℕ

-- ---- from a body to bytes

-- each word as two bytes, "H L"
abbrev pub fields : List ℕ → List ℕ
fields [] = []
fields (w ∷ ws) = w / 256 ∷ w % 256 ∷ fields ws

-- what stands behind the command number
abbrev pub behind : Body → List ℕ
behind b = b.bytes ++ (fields b.words ++ b.rest)

-- "The body is n bytes, the first being the command."
abbrev pub encode_body : Body → List ℕ
encode_body b = (entry b.kind).number ∷ behind b

-- ---- from bytes to a body

-- the number whose two bytes start at position i
abbrev pub word : List ℕ → ℕ → ℕ
word f i = get_or f i 0 * 256 + get_or f (i + 1) 0

-- the first n words
abbrev pub words_in : ℕ → List ℕ → List ℕ
words_in zero f = []
words_in (suc n) f = word f 0 ∷ words_in n (drop 2 f)

-- the fields of a body of this layout
abbrev pub split : Kind → Layout → List ℕ → Body
split c l f = record { kind = c; bytes = take l.bytes f; words = words_in l.words (drop l.bytes f); rest = drop (least l) f }

-- the layout takes n bytes behind the command number
abbrev pub length_allowed : Layout → ℕ → Bool
length_allowed l n = leb (least l) n && leb n (least l + l.most)

-- 6: "command not in the table"; 7: "n or a field wrong for the command"
unfoldable pub by_row : Row → List ℕ → Read Body
by_row Unknown f = refused unknown_command
by_row (Known c l) f = require (length_allowed l (length f) && rule c (take l.bytes f)) wrong_field (ok (split c l f))

-- 6: "n = 0 to the board"; 12: "null message read by the post"
abbrev pub empty_answer : Direction → ℕ
empty_answer Request = unknown_command
empty_answer Reply = null_message

-- 12 or 6 for no body, then 6, then 7
unfoldable pub decode_body : Direction → List ℕ → Read Body
decode_body d [] = refused (empty_answer d)
decode_body d (k ∷ f) = by_row (row_of d k) f

-- ---- which bodies are valid

-- 16-bit numbers
pub data Words : List ℕ → Type 0 where
  none : Words []
  more : {w : ℕ} {s : List ℕ} → w < 65536 → Words s → Words (w ∷ s)

-- a body has the fields that its row of the table gives it
pub record ValidBody (b : Body) : Type 0 where
  pub bytes_count : length b.bytes ≡ (layout_of b.kind).bytes
  pub words_count : length b.words ≡ (layout_of b.kind).words
  pub rest_count : length b.rest ≤ (layout_of b.kind).most
  pub bytes_fit : Bytes b.bytes
  pub words_fit : Words b.words
  pub rest_fit : Bytes b.rest
  pub ruled : rule b.kind b.bytes ≡ true
