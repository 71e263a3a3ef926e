-- A transfer's list of exchanges with a conforming display (document 01, "The read run", second paragraph), over any three calls.
use Rattle.std.specs.Prelude.{ℕ, suc, ◌+◌, ◌≡◌, List, [], ◌∷◌, ◌++◌, true, false, cond, ◌||◌, length, take, eqb}
use Rattle.std.proofs.Math.Option.{Option, some, none}
use Rattle.checksum.specs.Bytes.{Bytes}
use Rattle.message_rules.specs.Answer.{done, wrong_size, transfer_closed}
use Rattle.message_rules.specs.Message.{Valid, replies}
use Rattle.message_rules.specs.declared.TextKind.{TextKind}
use Rattle.transfer_rules.specs.declared.Transfer.{Transfer}
use Rattle.transfer_rules.specs.Fragment.{request_message, fragment_for, fragment_message, read_reply, data_in}
use Rattle.transfer_rules.specs.Transfer.{BeginOutcome, is_open, RequestOutcome, ReceiveOutcome}
use Rattle.transfer_rules.specs.Transfer as ours
use Rattle.transfer_rules.specs.Conforming.{Cursor, ConformingAct}

-- the three calls of a transfer
pub record Calls : Type 0 where
  pub begin : TextKind → ℕ → ℕ → BeginOutcome
  pub request : Transfer → List ℕ → RequestOutcome
  pub receive : Transfer → List ℕ → List ℕ → ReceiveOutcome

-- those of Transfer.antt, which the functions' contracts cite
abbrev pub rules : Calls
rules = record { begin = ours.begin; request = ours.request; receive = ours.receive }

-- the display's turn: "Ignoring keeps o and s", or it acts on the offset q, which leaves its cursor and gives its whole reply
pub data Turn : Type 0 where
  ignores : Turn
  acts : (q : ℕ) (after : Cursor) (reply : List ℕ) → Turn

-- what others bring to an exchange: the output buffer for the request, the display's turn, the bytes offered to receive
pub record Exchange : Type 0 where
  pub output : List ℕ
  pub turn : Turn
  pub came : List ℕ

-- where a list of exchanges stands: the transfer and its buffer, the display's cursor, "the bytes accepted so far (data of pieces answered 0)",
-- and how many receive calls were counted, that is "not answered 16 or 1"
pub record World : Type 0 where
  pub transfer : Transfer
  pub buffer : List ℕ
  pub cursor : Cursor
  pub accepted : List ℕ
  pub calls : ℕ

abbrev pub cursor_after : Cursor → Turn → Cursor
cursor_after b ignores = b
cursor_after b (acts q after reply) = after

abbrev pub accepted_by : ℕ → List ℕ → List ℕ
accepted_by answer came = cond (eqb answer done) (data_in (read_reply came)) []

abbrev pub counted_by : ℕ → ℕ
counted_by answer = cond (eqb answer transfer_closed || eqb answer wrong_size) 0 1

-- "Each call gets the run as the last one left it, and each offering the buffer .. as the last one left it"
abbrev pub advance : World → Exchange → ReceiveOutcome → World
advance w e o =
    record {
      transfer = o.transfer;
      buffer = o.buffer;
      cursor = cursor_after w.cursor e.turn;
      accepted = w.accepted ++ accepted_by o.answer e.came;
      calls = w.calls + counted_by o.answer;
    }

-- "A refused asking sends none"
abbrev pub sent_by : RequestOutcome → Option (List ℕ)
sent_by a = cond (eqb a.answer done) (some (take a.len a.output)) none

-- s begins with t
abbrev pub Begins : List ℕ → List ℕ → Type 0
Begins s t = (rest : List ℕ) × (s ≡ t ++ rest)

-- the display acts, and its whole reply begins what is offered
abbrev pub RepliedBy : List ℕ → Turn → Type 0
RepliedBy came ignores = ⊥
RepliedBy came (acts q after reply) = Begins came reply

abbrev pub Replied : Exchange → Type 0
Replied e = RepliedBy e.came e.turn

-- "with the run open, the bytes offered begin neither with the board's whole reply to the exchange's request (there is none if none was sent or the board ignored it)
-- nor with any piece message of that text's kind at the offset the run has reached": the papers' *spoiled*
pub record Corrupted (k : TextKind) (w : World) (e : Exchange) : Type 0 where
  pub running : is_open w.transfer ≡ true
  pub no_reply : Replied e → ⊥
  pub no_fragment : (d : List ℕ) → Valid replies (fragment_for k w.transfer.reached.0 d) → Begins e.came (fragment_message k w.transfer.reached.0 d) → ⊥

module _ (c : Calls) where
  -- "The list starts from an accepted beginning", with the display's cursor anywhere
  abbrev pub start : TextKind → List ℕ → ℕ → Cursor → World
  start k buffer budget cursor = record { transfer = (c.begin k (length buffer) budget).transfer; buffer = buffer; cursor = cursor; accepted = []; calls = 0 }

  -- "An exchange is asking, the board's turn, then offering."
  abbrev pub sent : World → Exchange → Option (List ℕ)
  sent w e = sent_by (c.request w.transfer e.output)

  abbrev pub received : World → Exchange → ReceiveOutcome
  received w e = c.receive w.transfer w.buffer e.came

  unfoldable pub after : World → Exchange → World
  after w e = advance w e (received w e)

  abbrev pub after_all : World → List Exchange → World
  after_all w [] = w
  after_all w (e ∷ es) = after_all (after w e) es

  -- what holds of each exchange, where the list stands before it
  abbrev pub Each : (World → Exchange → Type 0) → World → List Exchange → Type 0
  Each P w [] = Unit
  Each P w (e ∷ es) = P w e × Each P (after w e) es

  -- ---- what is supposed

  -- "the board acts on no request for that text but each exchange's own, at most once and before its offering"
  abbrev pub Lawful : TextKind → List ℕ → World → Exchange → Turn → Type 0
  Lawful k text w e ignores = Unit
  Lawful k text w e (acts q after reply) = (sent w e ≡ some (request_message k q)) × ConformingAct k text w.cursor q after reply

  -- of every exchange: what is offered is bytes, and the display conforms
  pub record Follows (k : TextKind) (text : List ℕ) (w : World) (e : Exchange) : Type 0 where
    pub bytes : Bytes e.came
    pub lawful : Lawful k text w e e.turn

  -- a list of exchanges of which n are corrupted. "In every other exchange of an open run it is supposed that the board acts and its whole reply begins what is offered"
  pub data Course (k : TextKind) (text : List ℕ) : World → List Exchange → ℕ → Type 0 where
    ended : {w : World} → Course k text w [] 0
    answered : {w : World} {e : Exchange} {es : List Exchange} {n : ℕ} →
        Follows k text w e → is_open w.transfer ≡ true → Replied e → Course k text (after w e) es n → Course k text w (e ∷ es) n
    corrupted : {w : World} {e : Exchange} {es : List Exchange} {n : ℕ} →
        Follows k text w e → Corrupted k w e → Course k text (after w e) es n → Course k text w (e ∷ es) (suc n)
    closed : {w : World} {e : Exchange} {es : List Exchange} {n : ℕ} →
        Follows k text w e → is_open w.transfer ≡ false → Course k text (after w e) es n → Course k text w (e ∷ es) n
