-- Document 01, "The read run", first paragraph: begin, request and receive (the papers' beginning, asking, offering) as total definitions.
use Rattle.std.specs.Prelude.{ℕ, ◌+◌, ◌<◌, min, ◌≡◌, List, Bool, true, false, cond, ◌&&◌, Result, length, ltb, leb, eqb}
use Rattle.std.specs.Result.{result_unwrap_or}
use Rattle.buffers.specs.Buffers.{over, put}
use Rattle.message_rules.specs.Answer.{done, wrong_size, not_wanted, text_too_long, transfer_closed, not_declarable}
use Rattle.message_rules.specs.Limits.{output_room}
use Rattle.message_rules.specs.Read.{Read, ok, refused}
use Rattle.message_rules.specs.Refusal.{answer_number}
use Rattle.message_rules.specs.declared.refusal.Refusal.{Refusal}
use Rattle.message_rules.specs.declared.TextKind.{TextKind}
use Rattle.transfer_rules.specs.declared.State.{State}
use Rattle.transfer_rules.specs.declared.State.TheVariants.{Running, Done, Exhausted, Overflowed}
use Rattle.transfer_rules.specs.declared.Transfer.{Transfer}
use Rattle.message_rules.specs.Limits.{longest_text}
use Rattle.transfer_rules.specs.Limits.{most_budget}
use Rattle.transfer_rules.specs.Fragment.{Fragment, request_message, read_reply, fragment_of}

abbrev pub is_running : State → Bool
is_running Running = true
is_running Done = false
is_running Exhausted = false
is_running Overflowed = false

-- a transfer is open while it runs and its count is below its budget; of a transfer that begin and receive made the first says the second (`KeepsCoherent`)
abbrev pub is_open : Transfer → Bool
is_open t = is_running t.state && ltb t.count t.budget

-- "room: the lesser of its length and 4,096"
abbrev pub room : Transfer → ℕ
room t = min t.capacity longest_text

-- ---- begin

-- the answer, and the transfer
pub record BeginOutcome : Type 0 where
  pub answer : ℕ
  pub transfer : Transfer

-- "A budget of 0 is closed at once."
abbrev pub first_state : ℕ → State
first_state budget = cond (eqb budget 0) Exhausted Running

-- "A refused start gives .. a spent run of room 0"
abbrev pub exhausted : TextKind → Transfer
exhausted k = record { kind = k; state = Exhausted; reached = record { 0 = 0 }; capacity = 0; budget = 0; count = 0 }

-- "Begun for one text, with a buffer and a budget 0 to 65,535 (else 18)"
abbrev pub begin : TextKind → ℕ → ℕ → BeginOutcome
begin k size budget =
    cond (leb budget most_budget)
    (record { answer = done; transfer = record { kind = k; state = first_state budget; reached = record { 0 = 0 }; capacity = size; budget = budget; count = 0 } })
    (record { answer = not_declarable; transfer = exhausted k })

-- ---- request

-- the answer, the length of the request, and the output afterwards
pub record RequestOutcome : Type 0 where
  pub answer : ℕ
  pub len : ℕ
  pub output : List ℕ

abbrev not_sent : ℕ → List ℕ → RequestOutcome
not_sent n output = record { answer = n; len = 0; output = output }

-- a message at the start of the output; the bytes beyond it stay
abbrev sent_in : List ℕ → List ℕ → RequestOutcome
sent_in message output = record { answer = done; len = length message; output = over message output }

-- "Asking builds the request for the offset it has reached (16 if closed) and counts nothing"; "Every builder needs 38 bytes of output" (else 1)
abbrev pub request : Transfer → List ℕ → RequestOutcome
request t output =
    cond (is_open t)
    (cond (leb output_room (length output)) (sent_in (request_message t.kind t.reached.0) output) (not_sent wrong_size output))
    (not_sent transfer_closed output)

-- ---- receive

-- the answer, the transfer and the buffer afterwards
pub record ReceiveOutcome : Type 0 where
  pub answer : ℕ
  pub transfer : Transfer
  pub buffer : List ℕ

-- "When the count meets the budget, an open run closes as spent, after the last reply is judged"
abbrev pub exhausted_at : ℕ → ℕ → State → State
exhausted_at count budget Running = cond (eqb count budget) Exhausted Running
exhausted_at count budget Done = Done
exhausted_at count budget Exhausted = Exhausted
exhausted_at count budget Overflowed = Overflowed

-- "it counts as one exchange": the transfer with one more counted, in the state and at the offset that the reply has led to
abbrev pub counted : Transfer → State → ℕ → Transfer
counted t s o =
    record { kind = t.kind; state = exhausted_at (t.count + 1) t.budget s; reached = record { 0 = o }; capacity = t.capacity; budget = t.budget; count = t.count + 1 }

-- a reply that is refused with the number n: "nothing" changes "apart from the count and a closing as spent"
abbrev pub refuse : Transfer → List ℕ → ℕ → ReceiveOutcome
refuse t buffer n = record { answer = n; transfer = counted t Running t.reached.0; buffer = buffer }

-- "An accepted piece is put at the offset; an empty one closes it as done."
abbrev pub state_after : ℕ → State
state_after n = cond (eqb n 0) Done Running

-- the data of the fragment wanted: "Data past the room is 11 and closes the run", else they are accepted
abbrev pub accept : Transfer → List ℕ → List ℕ → ReceiveOutcome
accept t buffer d =
    cond (leb (t.reached.0 + length d) (room t))
    (record { answer = done; transfer = counted t (state_after (length d)) (t.reached.0 + length d); buffer = put buffer t.reached.0 d })
    (record { answer = text_too_long; transfer = counted t Overflowed t.reached.0; buffer = buffer })

-- "A reply of another kind, or at another offset, is 10."
abbrev pub judge : Transfer → List ℕ → Read Fragment → ReceiveOutcome
judge t buffer (refused n) = refuse t buffer n
judge t buffer (ok f) = cond (eqb f.offset t.reached.0) (accept t buffer f.bytes) (refuse t buffer not_wanted)

-- an answer that counts nothing and changes nothing
abbrev pub unchanged : Transfer → List ℕ → ℕ → ReceiveOutcome
unchanged t buffer n = record { answer = n; transfer = t; buffer = buffer }

-- 16 if closed; 1 unless the buffer has the starting length; then the reply is judged
abbrev pub receive : Transfer → List ℕ → List ℕ → ReceiveOutcome
receive t buffer came =
    cond (is_open t)
    (cond (eqb (length buffer) t.capacity) (judge t buffer (fragment_of t.kind (read_reply came))) (unchanged t buffer wrong_size))
    (unchanged t buffer transfer_closed)

-- ---- what begin gives and receive keeps

-- a transfer that runs has not met its budget
abbrev pub Coherent : Transfer → Type 0
Coherent t = t.state ≡ Running → t.count < t.budget

pub record KeepsCoherent : Type 0 where
  pub begun : (k : TextKind) (size budget : ℕ) → Coherent (begin k size budget).transfer
  pub received : (t : Transfer) (buffer came : List ℕ) → Coherent t → Coherent (receive t buffer came).transfer

-- ---- what the contracts say

-- of begin: the answer, and the transfer, which is the exhausted one where the start is refused
pub record Begins (x : BeginOutcome) (k : TextKind) (begun : Result Transfer Refusal) : Type 0 where
  pub answer_is : answer_number begun ≡ x.answer
  pub transfer_is : result_unwrap_or begun (exhausted k) ≡ x.transfer

-- of request: the answer, the length and every byte of the output
pub record Requests (x : RequestOutcome) (answer len : ℕ) (output : List ℕ) : Type 0 where
  pub answer_is : answer ≡ x.answer
  pub length_is : len ≡ x.len
  pub output_is : output ≡ x.output

-- of receive: the answer, the transfer and every byte of the buffer
pub record Receives (x : ReceiveOutcome) (answer : ℕ) (transfer : Transfer) (buffer : List ℕ) : Type 0 where
  pub answer_is : answer ≡ x.answer
  pub transfer_is : transfer ≡ x.transfer
  pub buffer_is : buffer ≡ x.buffer
