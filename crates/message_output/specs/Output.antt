-- What a builder answers, and what it leaves in the output: the same for every message of either direction.
use Rattle.std.specs.Prelude.{ℕ, ◌≡◌, Bool, cond, ◌&&◌, List, length, leb, Result, Ok, Err}
use Rattle.buffers.specs.Buffers.{over}
use Rattle.message_rules.specs.Limits.{output_room}
use Rattle.message_rules.specs.Read.{unless}
use Rattle.message_rules.specs.Layout.{layout_of, rule}
use Rattle.message_rules.specs.Body.{Body}
use Rattle.message_rules.specs.Message.{Reading, encode}
use Rattle.message_rules.specs.Refusal.{answer_number}
use Rattle.message_rules.specs.declared.Address.{Address}
use Rattle.message_rules.specs.declared.refusal.Refusal.{Refusal}
use Rattle.message_rules.specs.declared.refusal.Refusal.TheVariants.{WrongSize, WrongField}

-- what a builder answers: the message's length, or the refusal
abbrev pub Built : Type 0
Built = Result ℕ Refusal

-- 1 for an output that is too small, then 7 where the message is not allowed, else the message's length
abbrev pub built_answer : Bool → List ℕ → List ℕ → Built
built_answer allowed s before = cond (leb output_room (length before)) (cond allowed (Ok (length s)) (Err WrongField)) (Err WrongSize)

-- a refusal leaves the output as it was; "Bytes of an output beyond the reply length stay."
abbrev pub built_output : Bool → List ℕ → List ℕ → List ℕ
built_output allowed s before = cond (leb output_room (length before)) (cond allowed (over s before) before) before

-- the length of what was built: "Where no reply is due its length is 0"
abbrev pub built_length : Built → ℕ
built_length (Ok n) = n
built_length (Err k) = 0

-- 1: "lent output under 38 bytes"; then 7: "builder given such a field"; else 0: "done"
abbrev pub built_number : Bool → ℕ → ℕ
built_number allowed room = unless (leb 38 room) 1 (unless allowed 7 0)

-- what a builder of these bytes answers and leaves
pub record Builds (allowed : Bool) (s before after : List ℕ) (r : Built) : Type 0 where
  pub answers : r ≡ built_answer allowed s before
  pub number : answer_number r ≡ built_number allowed (length before)
  pub leaves : after ≡ built_output allowed s before

-- 7: "builder given such a field". What can be wrong with a body that has its row's fields
abbrev pub admits : Body → Bool
admits b = leb (length b.rest) (layout_of b.kind).most && rule b.kind b.bytes

-- a builder of the message m
abbrev pub BuildsMessage : {M : Type 0} → Reading M → Address → M → List ℕ → List ℕ → Built → Type 0
BuildsMessage t a m before after r = Builds (admits (t.body_for m)) (encode t a m) before after r

-- the answer to a message that is not allowed
abbrev pub refusal : ℕ → Built
refusal room = cond (leb output_room room) (Err WrongField) (Err WrongSize)

-- what puts any bytes into the output: 7 for more than its room too, which no message of a builder has
abbrev pub BuildsShort : Bool → List ℕ → List ℕ → List ℕ → Built → Type 0
BuildsShort allowed s before after r = Builds (leb (length s) output_room && allowed) s before after r
