-- The ordered tests of a message in the parts that the code takes them: before the command number is looked at, the frame's rest, the body's fields.
use Rattle.std.specs.Prelude.{ℕ, ◌+◌, ◌-◌, Bool, ◌&&◌, List, length, get_or, take, drop, leb, eqb}
use Rattle.checksum.specs.Xor.{xor_all}
use Rattle.message_rules.specs.Answer.{done, too_short, wrong_first_byte, wrong_length, wrong_checksum, wrong_field}
use Rattle.message_rules.specs.Read.{Read, ok, unless, require, and_then}
use Rattle.message_rules.specs.Row.{Kind}
use Rattle.message_rules.specs.Body.{split}
use Rattle.message_rules.specs.Message.{Reading, as_message}
use Rattle.message_rules.specs.Frame.{body_length, fits, length_byte}
use Rattle.message_rules.specs.Layout.{layout_of, longest, rule}
use Rattle.message_rules.specs.declared.Address.{Address}
use Rattle.message_rules.specs.declared.Direction.{Direction}

-- 2, 3, then 4 for a slice that does not agree with its length byte
unfoldable pub head_answer : Direction → Address → List ℕ → ℕ
head_answer d a s =
    unless (leb 3 (length s)) too_short
    (unless (eqb (get_or s 0 0) a.first) wrong_first_byte
    (unless (leb (body_length s) (longest d) && fits d (body_length s + 3) (length s)) wrong_length done))

-- then 4 for the other form of length byte, and 5
unfoldable pub tail_answer : Address → Bool → List ℕ → ℕ
tail_answer a plain s =
    unless (eqb (get_or s 1 0) (length_byte plain (body_length s))) wrong_length
    (unless (eqb (xor_all a.seed (take (body_length s + 3) s)) 0) wrong_checksum done)

abbrev fields_in : {M : Type 0} → Reading M → Kind → List ℕ → Read M
fields_in t c f = and_then (require (rule c (take (layout_of c).bytes f)) wrong_field (ok (split c (layout_of c) f))) (as_message t)

-- what a body of this kind in its slice, whose length is right, is read as: 7 for a wrong field
abbrev pub body_in : {M : Type 0} → Reading M → Kind → List ℕ → Read M
body_in t c s = fields_in t c (take (body_length s - 1) (drop 3 s))
