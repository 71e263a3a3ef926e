-- Document 01, "Messages on the wire": requests and replies, each a thin reading of a body; encode and decode.
use Rattle.std.specs.Prelude.{ℕ, List, [], ◌∷◌, get_or}
use Rattle.message_rules.specs.Answer.{unknown_command}
use Rattle.message_rules.specs.Read.{Read, ok, refused, after, and_then}
use Rattle.message_rules.specs.Body.{Body, ValidBody, encode_body, decode_body}
use Rattle.message_rules.specs.Frame.{frame, frame_answer, body_of}
use Rattle.message_rules.specs.declared.Address.{Address}
use Rattle.message_rules.specs.declared.Direction.{Direction}
use Rattle.message_rules.specs.declared.Direction.TheVariants as way
use Rattle.message_rules.specs.Row.{Kind}
use Rattle.message_rules.specs.Row as kind
use Rattle.message_rules.specs.declared.RequestKind.{RequestKind}
use Rattle.message_rules.specs.declared.RequestKind.TheVariants.{Get, Set, Timing, Save, Text, TableRead, TableWrite}
use Rattle.message_rules.specs.declared.ReplyKind.{ReplyKind}
use Rattle.message_rules.specs.declared.ReplyKind.TheVariants.{Value, TimingReply, TextFragment, TableFragment}

-- ---- the messages

-- "to board"
pub data Request : Type 0 where
  get_feature : (code : ℕ) → Request
  set_feature : (code value : ℕ) → Request
  timing : Request
  save : Request
  text : (offset : ℕ) → Request
  table_read : (code offset : ℕ) → Request
  table_write : (code offset : ℕ) → List ℕ → Request

-- "to post", the null message aside: "Its reading is answer 12."
pub data Reply : Type 0 where
  value : (result code type max present : ℕ) → Reply
  timing_reply : (status horizontal vertical : ℕ) → Reply
  text_fragment : (offset : ℕ) → List ℕ → Reply
  table_fragment : (offset : ℕ) → List ℕ → Reply

-- the VCP code of the table (the papers' call list): "8 unless F4"
abbrev pub table_code : ℕ
table_code = 0xF4

-- ---- a message as a body, and a body as a message

abbrev pub body : Kind → List ℕ → List ℕ → List ℕ → Body
body c bytes words rest = record { kind = c; bytes = bytes; words = words; rest = rest }

abbrev pub request_body : Request → Body
request_body (get_feature c) = body (kind.Request Get) (c ∷ []) [] []
request_body (set_feature c v) = body (kind.Request Set) (c ∷ []) (v ∷ []) []
request_body timing = body (kind.Request Timing) [] [] []
request_body save = body (kind.Request Save) [] [] []
request_body (text o) = body (kind.Request Text) [] (o ∷ []) []
request_body (table_read c o) = body (kind.Request TableRead) (c ∷ []) (o ∷ []) []
request_body (table_write c o data') = body (kind.Request TableWrite) (c ∷ []) (o ∷ []) data'

abbrev pub reply_body : Reply → Body
reply_body (value r c t m p) = body (kind.Reply Value) (r ∷ c ∷ t ∷ []) (m ∷ p ∷ []) []
reply_body (timing_reply s h v) = body (kind.Reply TimingReply) (s ∷ []) (h ∷ v ∷ []) []
reply_body (text_fragment o data') = body (kind.Reply TextFragment) [] (o ∷ []) data'
reply_body (table_fragment o data') = body (kind.Reply TableFragment) [] (o ∷ []) data'

-- the message of a kind, from its bytes, words and data
abbrev pub request_of : RequestKind → List ℕ → List ℕ → List ℕ → Request
request_of Get b w r = get_feature (get_or b 0 0)
request_of Set b w r = set_feature (get_or b 0 0) (get_or w 0 0)
request_of Timing b w r = timing
request_of Save b w r = save
request_of Text b w r = text (get_or w 0 0)
request_of TableRead b w r = table_read (get_or b 0 0) (get_or w 0 0)
request_of TableWrite b w r = table_write (get_or b 0 0) (get_or w 0 0) r

abbrev pub reply_of : ReplyKind → List ℕ → List ℕ → List ℕ → Reply
reply_of Value b w r = value (get_or b 0 0) (get_or b 1 0) (get_or b 2 0) (get_or w 0 0) (get_or w 1 0)
reply_of TimingReply b w r = timing_reply (get_or b 0 0) (get_or w 0 0) (get_or w 1 0)
reply_of TextFragment b w r = text_fragment (get_or w 0 0) r
reply_of TableFragment b w r = table_fragment (get_or w 0 0) r

-- a body of the other direction is no message of this one; `decode_body` never gives one
abbrev pub request_as : Kind → List ℕ → List ℕ → List ℕ → Read Request
request_as (kind.Request c) b w r = ok (request_of c b w r)
request_as (kind.Reply c) b w r = refused unknown_command

abbrev pub reply_as : Kind → List ℕ → List ℕ → List ℕ → Read Reply
reply_as (kind.Request c) b w r = refused unknown_command
reply_as (kind.Reply c) b w r = ok (reply_of c b w r)

-- how one direction's messages stand for bodies
pub record Reading (M : Type 0) : Type 0 where
  pub direction : Direction
  pub body_for : M → Body
  pub typed : Kind → List ℕ → List ℕ → List ℕ → Read M

abbrev pub as_message : {M : Type 0} → Reading M → Body → Read M
as_message t b = t.typed b.kind b.bytes b.words b.rest

abbrev pub requests : Reading Request
requests = record { direction = way.Request; body_for = request_body; typed = request_as }

abbrev pub replies : Reading Reply
replies = record { direction = way.Reply; body_for = reply_body; typed = reply_as }

abbrev pub Valid : {M : Type 0} → Reading M → M → Type 0
Valid t m = ValidBody (t.body_for m)

-- ---- bytes

abbrev pub encode : {M : Type 0} → Reading M → Address → M → List ℕ
encode t a m = frame t.direction a (encode_body (t.body_for m))

-- the tests of the frame (2, 3, 4, 5), then those of the body (12 or 6, 6, 7)
unfoldable pub body_read : Direction → Address → List ℕ → Read Body
body_read d a s = after (frame_answer d a s) (decode_body d (body_of s))

unfoldable pub decode : {M : Type 0} → Reading M → Address → List ℕ → Read M
decode t a s = and_then (body_read t.direction a s) (as_message t)

-- "To the board: 51 .. 6E exclusive-or all bytes of the slice is 0."
abbrev pub to_display : Address
to_display = record { first = 0x51; seed = 0x6E }

-- "To the post: 6E .. 50 exclusive-or the first n+3 bytes is 0."
abbrev pub to_host : Address
to_host = record { first = 0x6E; seed = 0x50 }

-- the null message: no body
abbrev pub null : Address → List ℕ
null a = frame way.Reply a []
