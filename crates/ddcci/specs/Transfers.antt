-- A transfer as numbers, and the answers of the exported calls from those of the transfer's rules.
use Rattle.std.specs.Prelude.{ℕ, ◌+◌, ◌/◌, ◌%◌, ◌≡◌, cond, List, Option, Some, None, eqb}
use Rattle.message_rules.specs.Answer.{unknown_command}
use Rattle.message_rules.specs.declared.TextKind.{TextKind}
use Rattle.message_rules.specs.declared.TextKind.TheVariants.{Capabilities, Table}
use Rattle.transfer_rules.specs.Transfer as rules
use Rattle.transfer_rules.specs.Transfer.{BeginOutcome, RequestOutcome, ReceiveOutcome}
use Rattle.transfer_rules.specs.declared.State.{State}
use Rattle.transfer_rules.specs.declared.State.TheVariants.{Running, Done, Exhausted, Overflowed}
use Rattle.transfer_rules.specs.declared.Transfer.{Transfer}
use Rattle.ddcci.specs.declared.BuiltNumbers.{BuiltNumbers}
use Rattle.ddcci.specs.declared.transfers.TransferNumbers.{TransferNumbers}

-- ---- states and texts as numbers

-- 0 is a state that is closed, so that no transfer of zeroes runs; the header's constants are these (`HeaderNumbers`)
abbrev pub state_number : State → ℕ
state_number Exhausted = 0
state_number Running = 1
state_number Done = 2
state_number Overflowed = 3

-- the state that a number stands for; one above 3 is no state that runs
abbrev pub state_of : ℕ → State
state_of n = cond (eqb n (state_number Exhausted)) Exhausted (cond (eqb n (state_number Running)) Running (cond (eqb n (state_number Done)) Done Overflowed))

-- the number that names a text
abbrev pub text_number : TextKind → ℕ
text_number Capabilities = 0
text_number Table = 1

-- the text that a number names
abbrev pub text_of : ℕ → Option TextKind
text_of n = cond (eqb n (text_number Capabilities)) (Some Capabilities) (cond (eqb n (text_number Table)) (Some Table) None)

-- a text and its state in one number: 4 times the text's number, and the state's
abbrev pub first_phase : TextKind → ℕ
first_phase Capabilities = 0
first_phase Table = 4

abbrev pub phase_number : TextKind → State → ℕ
phase_number k s = first_phase k + state_number s

-- by the text, or other where there is none
abbrev pub by_text : {A : Type 0} → Option TextKind → (TextKind → A) → A → A
by_text (Some t) f other = f t
by_text None f other = other

abbrev pub numbers_of : Transfer → (answer : ℕ) → TransferNumbers
numbers_of t answer = record {
  capacity = t.capacity;
  offset = t.reached.0;
  budget = t.budget;
  count = t.count;
  phase = phase_number t.kind t.state;
  answer = answer;
}

abbrev pub transfer_of : TextKind → TransferNumbers → Transfer
transfer_of k n = record { kind = k; state = state_of (n.phase % 4); reached = record { 0 = n.offset }; capacity = n.capacity; budget = n.budget; count = n.count }

-- ---- the calls

abbrev pub began_numbers : BeginOutcome → TransferNumbers
began_numbers b = numbers_of b.transfer b.answer

-- the transfer of an unknown text, whose number is refused as an unknown command is, 6. "A refused start gives .. a spent run of room 0":
-- phase 8 is 4 times 2, which names no text, and state 0, which is exhausted
abbrev pub unknown_text : TransferNumbers
unknown_text = record { capacity = 0; offset = 0; budget = 0; count = 0; phase = 8; answer = unknown_command }

abbrev pub begin_numbers : (kind size budget : ℕ) → TransferNumbers
begin_numbers k size budget = by_text (text_of k) (λ t. began_numbers (rules.begin t size budget)) unknown_text

-- request: the answer, the length and every byte of the output
abbrev pub request_outcome : TransferNumbers → List ℕ → RequestOutcome
request_outcome n out = by_text (text_of (n.phase / 4)) (λ t. rules.request (transfer_of t n) out) (record { answer = unknown_command; len = 0; output = out })

pub record Requests (x : RequestOutcome) (r : BuiltNumbers) (out : List ℕ) : Type 0 where
  pub answer : r.answer ≡ x.answer
  pub len : r.len ≡ x.len
  pub output : out ≡ x.output

-- receive: the transfer with its answer, and every byte of the buffer
pub record Received : Type 0 where
  pub numbers : TransferNumbers
  pub buffer : List ℕ

abbrev pub received_numbers : ReceiveOutcome → Received
received_numbers x = record { numbers = numbers_of x.transfer x.answer; buffer = x.buffer }

-- the same transfer, refused
abbrev pub unmoved : TransferNumbers → TransferNumbers
unmoved n = record { capacity = n.capacity; offset = n.offset; budget = n.budget; count = n.count; phase = n.phase; answer = unknown_command }

abbrev pub receive_numbers : TransferNumbers → (buffer came : List ℕ) → Received
receive_numbers n buffer came =
    by_text (text_of (n.phase / 4)) (λ t. received_numbers (rules.receive (transfer_of t n) buffer came)) (record { numbers = unmoved n; buffer = buffer })

pub record Receives (x : Received) (r : TransferNumbers) (buffer : List ℕ) : Type 0 where
  pub numbers : r ≡ x.numbers
  pub lent : buffer ≡ x.buffer
