-- What is claimed of messages, over every message of either direction and any pair of address bytes. The proofs stand in proofs/RoundTrip.antt, Order.antt and Checks.antt.
use Rattle.std.specs.Prelude.{ℕ, ◌+◌, ◌<◌, ◌≡◌, ◌⊎◌, List, [], ◌∷◌, ◌++◌, Bool, true, false, ◌&&◌, length, get_or, take, leb, eqb}
use Rattle.checksum.specs.Bytes.{Bytes}
use Rattle.checksum.specs.Xor.{xor_all}
use Rattle.message_rules.specs.Answer.{done, too_short, wrong_first_byte, wrong_length, wrong_checksum, null_message, unknown_command, wrong_field}
use Rattle.message_rules.specs.Read.{ok, refused, answer_of, unless}
use Rattle.message_rules.specs.Layout.{rule, row_of}
use Rattle.message_rules.specs.Body.{length_allowed}
use Rattle.message_rules.specs.Frame.{agrees, body_length, body_of, message_in}
use Rattle.message_rules.specs.Message.{Reading, Valid, encode, decode, replies, null, to_display, to_host}
use Rattle.message_rules.specs.declared.Address.{Address}
use Rattle.message_rules.specs.declared.Direction.{Direction}
use Rattle.message_rules.specs.declared.Direction.TheVariants as way
use Rattle.message_rules.specs.Row.{Row, Known, Unknown}

-- ---- demand 2: reading what was built, building what was read

-- what may follow a message in its slice: nothing behind a request, anything behind a reply
abbrev pub Behind : Direction → List ℕ → Type 0
Behind way.Request rest = rest ≡ []
Behind way.Reply rest = Unit {0}

pub record RoundTrip {M : Type 0} (t : Reading M) : Type 0 where
  -- "reading what was built gives the same message"
  pub there : (a : Address) (m : M) (rest : List ℕ) → Behind t.direction rest → Valid t m → decode t a (encode t a m ++ rest) ≡ ok m
  -- what was read is valid
  pub valid : (a : Address) (s : List ℕ) (m : M) → Bytes s → decode t a s ≡ ok m → Valid t m
  -- "building what was read gives that message's bytes again"
  pub back : (a : Address) (s : List ℕ) (m : M) → Bytes s → decode t a s ≡ ok m → encode t a m ≡ message_in t.direction s
  -- a valid message is built as bytes
  pub bytes : (a : Address) (m : M) → a.first < 256 → a.seed < 256 → Valid t m → Bytes (encode t a m)
  -- messages that are built alike are alike
  pub differ : (a : Address) (m n : M) → Valid t m → Valid t n → encode t a m ≡ encode t a n → m ≡ n

-- ---- "Order: .. then 2, 3, 4, 5, then 12 (post), 6, 7"

-- only the host knows a null message
abbrev pub not_null : Direction → List ℕ → Bool
not_null way.Request body = true
not_null way.Reply [] = false
not_null way.Reply (k ∷ f) = true

abbrev pub known : Row → Bool
known (Known c l) = true
known Unknown = false

-- the body has a command, and it is in the table
abbrev pub command_known : Direction → List ℕ → Bool
command_known d [] = false
command_known d (k ∷ f) = known (row_of d k)

abbrev pub fits_row : Row → List ℕ → Bool
fits_row (Known c l) f = length_allowed l (length f) && rule c (take l.bytes f)
fits_row Unknown f = true

-- n and the fields are right for the command
abbrev pub fields_right : Direction → List ℕ → Bool
fields_right d [] = true
fields_right d (k ∷ f) = fits_row (row_of d k) f

abbrev pub in_order : Direction → Address → List ℕ → ℕ
in_order d a s =
    unless (leb 3 (length s)) too_short
    (unless (eqb (get_or s 0 0) a.first) wrong_first_byte
    (unless (agrees d s) wrong_length
    (unless (eqb (xor_all a.seed (take (body_length s + 3) s)) 0) wrong_checksum
    (unless (not_null d (body_of s)) null_message
    (unless (command_known d (body_of s)) unknown_command
    (unless (fields_right d (body_of s)) wrong_field done))))))

-- each refusal comes exactly in this order, and nothing else is refused
abbrev pub Ordered : {M : Type 0} → Reading M → Type 0
Ordered t = (a : Address) (s : List ℕ) → answer_of (decode t a s) ≡ in_order t.direction a s

-- the numbers that reading refuses with: 2 to 7, and at the host 12
abbrev pub Refusal : Direction → ℕ → Type 0
Refusal way.Request k = (1 < k) × (k < 8)
Refusal way.Reply k = (1 < k) × (k < 13) × ((k < 8) ⊎ (k ≡ 12))

-- a reading refuses with no other number
abbrev pub RefusalRange : {M : Type 0} → Reading M → Type 0
RefusalRange t = (a : Address) (s : List ℕ) (k : ℕ) → decode t a s ≡ refused k → Refusal t.direction k

-- ---- "The null message is always the three bytes 6E 80 BE. Its reading is answer 12."

pub record NullRead : Type 0 where
  pub fixed : null to_host ≡ 0x6E ∷ 0x80 ∷ 0xBE ∷ []
  -- it reads as 12, whatever follows it, and nothing else does
  pub there : (a : Address) (rest : List ℕ) → decode replies a (null a ++ rest) ≡ refused null_message
  pub back : (a : Address) (s : List ℕ) → decode replies a s ≡ refused null_message → message_in way.Reply s ≡ null a

-- ---- "(Source 000's 6F with 51, and source 001's 59, come to the same check.)"

pub record SameCheck : Type 0 where
  -- 6F and 51 in front of a reply's length byte, for our seed and its first byte
  pub address : (s : List ℕ) → xor_all 0x6F (0x51 ∷ s) ≡ xor_all to_host.seed (to_host.first ∷ s)
  -- the address 37 and all bytes of a request come to 59 just where our check is right
  pub there : (s : List ℕ) → xor_all to_display.seed s ≡ 0 → xor_all 0x37 s ≡ 0x59
  pub back : (s : List ℕ) → xor_all 0x37 s ≡ 0x59 → xor_all to_display.seed s ≡ 0
