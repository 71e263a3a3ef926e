-- What the exported transfer's numbers stand for, and that exported calls in a row are the rules' calls in a row: so demand 3 speaks of what a program calls.
-- Proved for ours in proofs/Follow.antt; wrong numbers are refuted in proofs/Refuted.antt.
use Rattle.std.specs.Prelude.{ℕ, ◌/◌, ◌%◌, ◌≡◌, List, [], ◌∷◌, ◌++◌, length, drop}
use Rattle.message_rules.specs.declared.TextKind.{TextKind}
use Rattle.message_rules.specs.declared.TextKind.TheVariants.{Capabilities, Table}
use Rattle.transfer_rules.specs.Transfer as rules
use Rattle.transfer_rules.specs.Transfer.{BeginOutcome, RequestOutcome, ReceiveOutcome}
use Rattle.transfer_rules.specs.Exchange.{Calls, World, Exchange, after_all}
use Rattle.transfer_rules.specs.Exchange.{rules as ours}
use Rattle.transfer_rules.specs.Demand3.{Setup, Supposed, start_of, CourseOf}
use Rattle.transfer_rules.specs.declared.State.{State}
use Rattle.transfer_rules.specs.declared.State.TheVariants.{Running, Done, Exhausted, Overflowed}
use Rattle.transfer_rules.specs.declared.Transfer.{Transfer}
use Rattle.ddcci.specs.declared.transfers.TransferNumbers.{TransferNumbers}
use Rattle.ddcci.specs.Transfers.{phase_number, text_number, text_of, by_text, numbers_of, transfer_of, began_numbers, begin_numbers, request_outcome, Received, received_numbers, receive_numbers}

-- ---- the numbers that the header names

-- each field of a ddcci_transfer is the number of the transfer that it is named for
pub record HeaderFields (numbers : Transfer → (answer : ℕ) → TransferNumbers) : Type 0 where
  pub capacity : (t : Transfer) (answer : ℕ) → (numbers t answer).capacity ≡ t.capacity
  pub offset : (t : Transfer) (answer : ℕ) → (numbers t answer).offset ≡ t.reached.0
  pub budget : (t : Transfer) (answer : ℕ) → (numbers t answer).budget ≡ t.budget
  pub count : (t : Transfer) (answer : ℕ) → (numbers t answer).count ≡ t.count
  pub phase : (t : Transfer) (answer : ℕ) → (numbers t answer).phase ≡ phase_number t.kind t.state
  pub answer : (t : Transfer) (answer : ℕ) → (numbers t answer).answer ≡ answer

-- DDCCI_EXHAUSTED 0, DDCCI_RUNNING 1, DDCCI_DONE 2, DDCCI_OVERFLOWED 3 are phase % 4; DDCCI_CAPABILITIES 0, DDCCI_TABLE 1 are phase / 4
pub record HeaderNumbers (phase : TextKind → State → ℕ) : Type 0 where
  pub capabilities : (phase Capabilities Exhausted ≡ 0) × (phase Capabilities Running ≡ 1) × (phase Capabilities Done ≡ 2) × (phase Capabilities Overflowed ≡ 3)
  pub table : (phase Table Exhausted ≡ 4) × (phase Table Running ≡ 5) × (phase Table Done ≡ 6) × (phase Table Overflowed ≡ 7)

-- ---- "A refused start gives .. a spent run of room 0."

-- the numbers of such a run (exhausted, in our words), of whatever text or none: it is closed, and never to be opened
pub record Closed (n : TransferNumbers) : Type 0 where
  pub state : n.phase % 4 ≡ 0
  pub capacity : n.capacity ≡ 0
  pub offset : n.offset ≡ 0
  pub budget : n.budget ≡ 0
  pub count : n.count ≡ 0

-- of any begin: whatever number names the text, what is refused is closed
abbrev pub RefusedIsClosed : ((kind size budget : ℕ) → TransferNumbers) → Type 0
RefusedIsClosed begin = (kind size budget : ℕ) → ((begin kind size budget).answer ≡ 0 → ⊥) → Closed (begin kind size budget)

-- a zeroed transfer is closed too (`zeroes-closed`)
abbrev pub zeroes : TransferNumbers
zeroes = record { capacity = 0; offset = 0; budget = 0; count = 0; phase = 0; answer = 0 }

-- of any two calls: such a transfer asks for nothing and stays so whatever comes, and no byte that is lent changes
pub record ClosedStays (request : TransferNumbers → List ℕ → RequestOutcome) (receive : TransferNumbers → List ℕ → List ℕ → Received) : Type 0 where
  pub asks : (n : TransferNumbers) → Closed n → (out : List ℕ) → ((request n out).answer ≡ 0 → ⊥) × ((request n out).output ≡ out)
  pub stays : (n : TransferNumbers) → Closed n → (buffer came : List ℕ) → Closed (receive n buffer came).numbers × ((receive n buffer came).buffer ≡ buffer)

-- ---- exported calls in a row

-- the three calls on the numbers of a transfer are the rules' calls on that transfer, and give the numbers of what these give
pub record Follows : Type 0 where
  pub begin : (k : TextKind) (size budget : ℕ) → begin_numbers (text_number k) size budget ≡ began_numbers (rules.begin k size budget)
  pub request : (t : Transfer) (answer : ℕ) (out : List ℕ) → request_outcome (numbers_of t answer) out ≡ rules.request t out
  pub receive : (t : Transfer) (answer : ℕ) (buffer came : List ℕ) → receive_numbers (numbers_of t answer) buffer came ≡ received_numbers (rules.receive t buffer came)

-- begin, and then receive for each exchange, given the numbers and the buffer that the last call left
abbrev pub receive_all : TransferNumbers → List ℕ → List Exchange → Received
receive_all n buffer [] = record { numbers = n; buffer = buffer }
receive_all n buffer (e ∷ es) = let x = receive_numbers n buffer e.came in receive_all x.numbers x.buffer es

abbrev pub calls_in_aRow : Setup → List Exchange → Received
calls_in_aRow s es = receive_all (begin_numbers (text_number s.kind) (length s.buffer) s.budget) s.buffer es

-- the numbers and the buffer are those of the transfer that the rules' calls lead to
pub record Shows (w : World) (x : Received) : Type 0 where
  pub answer : ℕ
  pub numbers : x.numbers ≡ numbers_of w.transfer answer
  pub buffer : x.buffer ≡ w.buffer

abbrev pub InARow : Type 0
InARow = (s : Setup) (es : List Exchange) → Shows (after_all ours (start_of ours s) es) (calls_in_aRow s es)

-- so "A run that says done has reached offset L and holds exactly those L bytes" in the numbers that a program sees: the state is 2
abbrev pub DoneHolds : Type 0
DoneHolds = (s : Setup) → Supposed s → (es : List Exchange) (n : ℕ) → CourseOf ours s es n → let x = calls_in_aRow s es in
    x.numbers.phase % 4 ≡ 2 → (x.numbers.offset ≡ length s.text) × (x.buffer ≡ s.text ++ drop (length s.text) s.buffer)

-- ---- the exported calls as three calls of a host, the transfer kept as numbers: demand 3 is claimed of them

-- the transfer that numbers stand for; numbers that name no text stand for none, and are read as those of the capabilities string
abbrev pub stands_for : TransferNumbers → Transfer
stands_for n = by_text (text_of (n.phase / 4)) (λ k. transfer_of k n) (transfer_of Capabilities n)

abbrev pub begun : TransferNumbers → BeginOutcome
begun n = record { answer = n.answer; transfer = stands_for n }

abbrev pub received : Received → ReceiveOutcome
received x = record { answer = x.numbers.answer; transfer = stands_for x.numbers; buffer = x.buffer }

abbrev pub exported : Calls
exported = record {
  begin = λ k size budget. begun (begin_numbers (text_number k) size budget);
  request = λ t out. request_outcome (numbers_of t 0) out;
  receive = λ t buffer came. received (receive_numbers (numbers_of t 0) buffer came);
}
