-- Document 01, "Messages on the wire": first byte, length byte, body and checksum (the papers' check), over the direction and the pair of address bytes.
use Rattle.std.specs.Prelude.{ℕ, ◌+◌, ◌%◌, List, [], ◌∷◌, ◌++◌, Bool, false, cond, ◌&&◌, length, get_or, take, drop, leb, eqb}
use Rattle.checksum.specs.Xor.{xor_all}
use Rattle.message_rules.specs.Answer.{done, too_short, wrong_first_byte, wrong_length, wrong_checksum}
use Rattle.message_rules.specs.Layout.{longest, row_of}
use Rattle.message_rules.specs.Read.{unless}
use Rattle.message_rules.specs.declared.Address.{Address}
use Rattle.message_rules.specs.declared.Direction.{Direction}
use Rattle.message_rules.specs.declared.Direction.TheVariants.{Request, Reply}
use Rattle.message_rules.specs.Row.{Row, Known, Unknown}

abbrev pub plain_row : Row → Bool
plain_row (Known c l) = l.plain
plain_row Unknown = false

-- "save that a reply whose first body byte is 4E has plain n"
unfoldable pub plain : Direction → List ℕ → Bool
plain d [] = false
plain d (k ∷ f) = plain_row (row_of d k)

-- "The length byte is 80+n", or plain n
abbrev pub length_byte : Bool → ℕ → ℕ
length_byte p n = cond p n (0x80 + n)

-- to the display "the slice is exactly n+3 bytes"; to the host it "has at least n+3 bytes; what follows is ignored"
abbrev pub fits : Direction → ℕ → ℕ → Bool
fits Request n len = eqb n len
fits Reply n len = leb n len

-- bytes with their checksum behind them: the whole exclusive-or the seed is 0
abbrev pub closed : ℕ → List ℕ → List ℕ
closed seed s = s ++ (xor_all seed s ∷ [])

-- a body in its frame
unfoldable pub frame : Direction → Address → List ℕ → List ℕ
frame d a body = closed a.seed (a.first ∷ length_byte (plain d body) (length body) ∷ body)

-- the body that the length byte speaks of, in either form
abbrev pub body_length : List ℕ → ℕ
body_length s = get_or s 1 0 % 0x80

abbrev pub body_of : List ℕ → List ℕ
body_of s = take (body_length s) (drop 2 s)

-- "Any other mix is refusal 4": n is at most 35, the slice agrees with it, and the length byte has the form of the body
unfoldable pub agrees : Direction → List ℕ → Bool
agrees d s = leb (body_length s) (longest d) && fits d (body_length s + 3) (length s) && eqb (get_or s 1 0) (length_byte (plain d (body_of s)) (body_length s))

-- the tests of the frame in the papers' order; 0 if none fails
unfoldable pub frame_answer : Direction → Address → List ℕ → ℕ
frame_answer d a s =
    unless (leb 3 (length s)) too_short
    (unless (eqb (get_or s 0 0) a.first) wrong_first_byte
    (unless (agrees d s) wrong_length
    (unless (eqb (xor_all a.seed (take (body_length s + 3) s)) 0) wrong_checksum done)))

-- the bytes of the message that a slice holds: all of a request's, "the first n+3 bytes" of a reply's
abbrev pub message_in : Direction → List ℕ → List ℕ
message_in Request s = s
message_in Reply s = take (body_length s + 3) s
