-- Demand 3: one claim about a transfer's whole list of exchanges, over any three calls. Proved for ours in proofs/Demand3.antt, refuted for wrong ones in proofs/Refuted.antt.
use Rattle.std.specs.Prelude.{ℕ, ◌+◌, ◌≤◌, ◌<◌, ◌≡◌, List, ◌++◌, true, false, cond, ◌&&◌, length, take, drop, leb}
use Rattle.std.proofs.Math.Option.{some, none}
use Rattle.checksum.specs.Bytes.{Bytes}
use Rattle.message_rules.specs.Answer.{done, wrong_size, transfer_closed}
use Rattle.message_rules.specs.Limits.{output_room}
use Rattle.message_rules.specs.declared.TextKind.{TextKind}
use Rattle.transfer_rules.specs.declared.State.TheVariants.{Running, Done}
use Rattle.message_rules.specs.Limits.{longest_text}
use Rattle.transfer_rules.specs.Limits.{most_budget}
use Rattle.transfer_rules.specs.Fragment.{request_message}
use Rattle.transfer_rules.specs.Transfer.{is_open, unchanged}
use Rattle.transfer_rules.specs.Conforming.{Cursor}
use Rattle.transfer_rules.specs.Exchange.{Calls, World, Exchange, counted_by, Replied, Corrupted, start, sent, received, after_all, Each, Course}

-- ---- what is supposed before the first exchange

-- the display's text of one kind and its cursor, and the buffer and budget that the host begins with
pub record Setup : Type 0 where
  pub kind : TextKind
  pub text : List ℕ
  pub buffer : List ℕ
  pub budget : ℕ
  pub cursor : Cursor

-- "a text of L bytes that fits the post's room and is at most 4,096", and a budget that is accepted; the cursor is any two numbers
pub record Supposed (s : Setup) : Type 0 where
  pub bytes : Bytes s.text
  pub small : length s.text ≤ longest_text
  pub fits : length s.text ≤ length s.buffer
  pub allowed : s.budget ≤ most_budget

-- ---- of where the list ends, after m exchanges of which n were corrupted

-- so many exchanges are enough for a text of l bytes if at most k are corrupted: "L + 1 + k"
abbrev pub enough : ℕ → ℕ → ℕ
enough l k = l + 1 + k

pub record EndClaim (s : Setup) (w : World) (m n : ℕ) : Type 0 where
  -- "the bytes accepted so far, which are the text's first ones"
  pub first : w.accepted ≡ take (length w.accepted) s.text
  -- "The buffer begins with" them, "and is otherwise as it was"
  pub holds : w.buffer ≡ w.accepted ++ drop (length w.accepted) s.buffer
  pub reached : w.transfer.reached.0 ≡ length w.accepted
  -- the count is the number of the calls counted
  pub count : w.transfer.count ≡ w.calls
  -- a transfer that runs has not met its budget
  pub within : w.transfer.state ≡ Running → w.transfer.count < s.budget
  -- "A run that says done has reached offset L and holds exactly those L bytes, whatever its budget."
  pub done : w.transfer.state ≡ Done →
      (w.transfer.reached.0 ≡ length s.text) × (w.accepted ≡ s.text) × (w.buffer ≡ s.text ++ drop (length s.text) s.buffer)
  -- "If at most k exchanges are spoiled .., and both the number of exchanges and the budget are L + 1 + k or more, the run is done and has counted at most L + 1 + k."
  pub finished : (k : ℕ) → n ≤ k → enough (length s.text) k ≤ m → enough (length s.text) k ≤ s.budget →
      (w.transfer.state ≡ Done) × (w.transfer.count ≤ enough (length s.text) k)

module _ (c : Calls) where
  -- ---- of each exchange
  pub record ExchangeClaim (kind : TextKind) (w : World) (e : Exchange) : Type 0 where
    -- "A refused asking sends none; any other builds the request for that text, its offset the number of bytes accepted so far"; refused are a closed transfer and a short output
    pub requests : sent c w e ≡ cond (is_open w.transfer && leb output_room (length e.output)) (some (request_message kind (length w.accepted))) none
    -- the answer of asking: "16 if closed", then 1 for an output under 38 bytes
    pub asks : (c.request w.transfer e.output).answer ≡ cond (is_open w.transfer) (cond (leb output_room (length e.output)) done wrong_size) transfer_closed
    -- "that the answer is then 0 is part of the claim"
    pub answers : is_open w.transfer ≡ true → Replied e → (received c w e).answer ≡ done
    -- "if not answered 16 or 1 it counts as one exchange": an open transfer answers neither, so each of its exchanges counts
    pub counts : is_open w.transfer ≡ true → counted_by (received c w e).answer ≡ 1
    -- a corrupted exchange is refused
    pub refuses : Corrupted kind w e → (received c w e).answer ≡ done → ⊥
    -- a closed transfer answers 16, and nothing changes
    pub stays : is_open w.transfer ≡ false → received c w e ≡ unchanged w.transfer w.buffer transfer_closed

  -- ---- the whole

  -- where the list starts
  abbrev pub start_of : Setup → World
  start_of s = start c s.kind s.buffer s.budget s.cursor

  -- the list is any of the exchanges that meet what is supposed
  abbrev pub CourseOf : Setup → List Exchange → ℕ → Type 0
  CourseOf s es n = Course c s.kind s.text (start_of s) es n

  -- the beginning is accepted, and the claims hold of each exchange and of the end
  abbrev pub Claims : Setup → List Exchange → ℕ → Type 0
  Claims s es n =
      ((c.begin s.kind (length s.buffer) s.budget).answer ≡ done)
      × Each c (ExchangeClaim s.kind) (start_of s) es
      × EndClaim s (after_all c (start_of s) es) (length es) n

  abbrev pub Demand3 : Type 0
  Demand3 = (s : Setup) → Supposed s → (es : List Exchange) (n : ℕ) → CourseOf s es n → Claims s es n
