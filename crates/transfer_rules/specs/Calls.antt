-- Demand 2: "and so does a read run: its beginning, asking and offering". Document 01's sentences on the three calls, one a field, each with its number, over any three calls.
-- Proved for ours in proofs/Calls.antt, refuted for wrong ones in proofs/RefutedCalls.antt.
use Rattle.std.specs.Prelude.{ℕ, ◌+◌, ◌≤◌, ◌<◌, min, ◌≡◌, List, [], ◌++◌, true, false, cond, length, take, drop, eqb}
use Rattle.message_rules.specs.Read.{ok, refused}
use Rattle.message_rules.specs.Message.{Reply}
use Rattle.message_rules.specs.declared.TextKind.{TextKind}
use Rattle.transfer_rules.specs.declared.State.{State}
use Rattle.transfer_rules.specs.declared.State.TheVariants.{Running, Done, Exhausted, Overflowed}
use Rattle.transfer_rules.specs.declared.Transfer.{Transfer}
use Rattle.transfer_rules.specs.Fragment.{request_message, fragment_for, read_reply}
use Rattle.transfer_rules.specs.Transfer.{BeginOutcome, is_open, RequestOutcome, ReceiveOutcome}
use Rattle.transfer_rules.specs.Exchange.{Calls}

-- ---- what the calls come to

abbrev pub started : (answer : ℕ) → TextKind → State → (size budget : ℕ) → BeginOutcome
started n k s size budget = record { answer = n; transfer = record { kind = k; state = s; reached = record { 0 = 0 }; capacity = size; budget = budget; count = 0 } }

-- a refused asking writes nothing
abbrev pub not_asked : (answer : ℕ) → List ℕ → RequestOutcome
not_asked n output = record { answer = n; len = 0; output = output }

abbrev pub asked : (message output : List ℕ) → RequestOutcome
asked message output = record { answer = 0; len = length message; output = message ++ drop (length message) output }

-- an offering that counts nothing and changes nothing
abbrev pub not_offered : (answer : ℕ) → Transfer → List ℕ → ReceiveOutcome
not_offered n t buffer = record { answer = n; transfer = t; buffer = buffer }

-- one that "counts as one exchange", in the state and at the offset that the reply has led to
abbrev pub offered : (answer : ℕ) → Transfer → State → (reached : ℕ) → List ℕ → ReceiveOutcome
offered n t s o buffer =
    record { answer = n; transfer = record { kind = t.kind; state = s; reached = record { 0 = o }; capacity = t.capacity; budget = t.budget; count = t.count + 1 }; buffer = buffer }

-- "When the count meets the budget, an open run closes as spent"
abbrev pub runs_on : Transfer → State
runs_on t = cond (eqb (t.count + 1) t.budget) Exhausted Running

-- an open transfer, with "a buffer of the starting length"
pub record Ready (t : Transfer) (buffer : List ℕ) : Type 0 where
  pub is_open : is_open t ≡ true
  pub sized : length buffer ≡ t.capacity

-- ---- the sentences

pub record CallsFollow (c : Calls) : Type 0 where
  -- "Begun for one text, with a buffer and a budget 0 to 65,535"; "A budget of 0 is closed at once."
  pub begins : (k : TextKind) (size budget : ℕ) → budget ≤ 65535 → c.begin k size budget ≡ started 0 k (cond (eqb budget 0) Exhausted Running) size budget
  -- "(else 18)"; "A refused start gives .. a spent run of room 0."
  pub refuses_begin : (k : TextKind) (size budget : ℕ) → 65535 < budget → c.begin k size budget ≡ started 18 k Exhausted 0 0
  -- "Asking builds the request for the offset it has reached"; "Every builder needs 38 bytes of output."
  pub asks : (t : Transfer) (output : List ℕ) → is_open t ≡ true → 38 ≤ length output → c.request t output ≡ asked (request_message t.kind t.reached.0) output
  pub refuses_output : (t : Transfer) (output : List ℕ) → is_open t ≡ true → length output < 38 → c.request t output ≡ not_asked 1 output
  -- "(16 if closed)"
  pub refuses_asking : (t : Transfer) (output : List ℕ) → is_open t ≡ false → c.request t output ≡ not_asked 16 output
  pub refuses_offer : (t : Transfer) (buffer came : List ℕ) → is_open t ≡ false → c.receive t buffer came ≡ not_offered 16 t buffer
  -- "Each offering call is lent a buffer of the starting length (else 1)"
  pub refuses_buffer : (t : Transfer) (buffer came : List ℕ) → is_open t ≡ true → (length buffer ≡ t.capacity → ⊥) → c.receive t buffer came ≡ not_offered 1 t buffer
  -- a reply that is refused when it is read, with that number
  pub unread : (t : Transfer) (buffer came : List ℕ) (n : ℕ) → Ready t buffer → read_reply came ≡ refused n → c.receive t buffer came ≡ offered n t (runs_on t) t.reached.0 buffer
  -- "A reply of another kind, or at another offset, is 10."
  pub unwanted : (t : Transfer) (buffer came : List ℕ) (m : Reply) → Ready t buffer → read_reply came ≡ ok m →
      ((d : List ℕ) → m ≡ fragment_for t.kind t.reached.0 d → ⊥) → c.receive t buffer came ≡ offered 10 t (runs_on t) t.reached.0 buffer
  -- "Data past the room is 11 and closes the run"; "room: the lesser of its length and 4,096"
  pub past : (t : Transfer) (buffer came d : List ℕ) → Ready t buffer → read_reply came ≡ ok (fragment_for t.kind t.reached.0 d) →
      min t.capacity 4096 < t.reached.0 + length d → c.receive t buffer came ≡ offered 11 t Overflowed t.reached.0 buffer
  -- "An accepted piece is put at the offset"
  pub accepts : (t : Transfer) (buffer came d : List ℕ) → Ready t buffer → read_reply came ≡ ok (fragment_for t.kind t.reached.0 d) →
      t.reached.0 + length d ≤ min t.capacity 4096 → (length d ≡ 0 → ⊥) →
      c.receive t buffer came ≡ offered 0 t (runs_on t) (t.reached.0 + length d) (take t.reached.0 buffer ++ (d ++ drop (t.reached.0 + length d) buffer))
  -- "an empty one closes it as done"
  pub ends : (t : Transfer) (buffer came : List ℕ) → Ready t buffer → read_reply came ≡ ok (fragment_for t.kind t.reached.0 []) →
      t.reached.0 ≤ min t.capacity 4096 → c.receive t buffer came ≡ offered 0 t Done t.reached.0 buffer
