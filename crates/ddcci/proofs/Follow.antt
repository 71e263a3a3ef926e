-- The exported calls follow the rules' calls, since the phase of a text and a state names both; so demand 3 holds of them. What is refused at the start stays closed.
-- Assumes nothing.
use Rattle.std.specs.Prelude.{Option, Some, None}
use Prim.Native.Nat.{ℕ, ◌/◌, ◌%◌}
use mathlib.Core.Path.{◌≡◌, refl, ap, ap₂, sym, ◌∙◌, subst}
use mathlib.Core.List.{List, [], ◌∷◌}
use lib.ListN.{length}
use mathlib.Core.Bool.{Bool, true, false, cond, ◌&&◌}
use native.Mathlib.Omega.{arith}
use lib.Dec.{ltb, leb}
use Rattle.message_rules.specs.declared.TextKind.{TextKind}
use Rattle.message_rules.specs.declared.TextKind.TheVariants.{Capabilities, Table}
use Rattle.transfer_rules.specs.Transfer as rules
use Rattle.transfer_rules.specs.Transfer.{BeginOutcome, is_running, is_open}
use Rattle.transfer_rules.specs.Limits.{most_budget}
use Rattle.transfer_rules.specs.Exchange as over
use Rattle.transfer_rules.specs.Exchange.{World, Exchange, after, after_all}
use Rattle.transfer_rules.specs.Demand3.{start_of, Demand3}
use Rattle.transfer_rules.proofs.Demand3.{demand3}
use Rattle.transfer_rules.specs.declared.State.{State}
use Rattle.transfer_rules.specs.declared.State.TheVariants.{Running, Done, Exhausted, Overflowed}
use Rattle.transfer_rules.specs.declared.Transfer.{Transfer}
use Rattle.ddcci.specs.declared.transfers.TransferNumbers.{TransferNumbers}
use Rattle.ddcci.specs.Transfers.{state_of, text_number, text_of, phase_number, by_text, numbers_of, transfer_of, began_numbers, unknown_text, begin_numbers, request_outcome, Received, received_numbers, unmoved, receive_numbers}
use Rattle.ddcci.specs.Follow.{HeaderFields, HeaderNumbers, Closed, RefusedIsClosed, zeroes, ClosedStays, Follows, receive_all, Shows, InARow, DoneHolds, stands_for, begun, received, exported}

pub header_fields : HeaderFields numbers_of
header_fields =
    record {
      capacity = λ t a. refl;
      offset = λ t a. refl;
      budget = λ t a. refl;
      count = λ t a. refl;
      phase = λ t a. refl;
      answer = λ t a. refl;
    }

pub header_numbers : HeaderNumbers phase_number
header_numbers = record { capabilities = (refl, refl, refl, refl); table = (refl, refl, refl, refl) }

-- ---- the transfer that numbers stand for

text-back : (k : TextKind) (s : State) → text_of (phase_number k s / 4) ≡ Some k
text-back Capabilities Running = refl
text-back Capabilities Done = refl
text-back Capabilities Exhausted = refl
text-back Capabilities Overflowed = refl
text-back Table Running = refl
text-back Table Done = refl
text-back Table Exhausted = refl
text-back Table Overflowed = refl

state-back : (k : TextKind) (s : State) → state_of (phase_number k s % 4) ≡ s
state-back Capabilities Running = refl
state-back Capabilities Done = refl
state-back Capabilities Exhausted = refl
state-back Capabilities Overflowed = refl
state-back Table Running = refl
state-back Table Done = refl
state-back Table Exhausted = refl
state-back Table Overflowed = refl

back : (t : Transfer) (a : ℕ) → transfer_of t.kind (numbers_of t a) ≡ t
back t a = ap (λ (s : State). record { kind = t.kind; state = s; reached = t.reached; capacity = t.capacity; budget = t.budget; count = t.count }) (state-back t.kind t.state)

-- what is made of the numbers of a transfer, by their text
by_its_text : {A : Type 0} (t : Transfer) (a : ℕ) (f : Transfer → A) (other : A) → by_text (text_of ((numbers_of t a).phase / 4)) (λ k. f (transfer_of k (numbers_of t a))) other ≡ f t
by_its_text t a f other =
    ap (λ (x : Option TextKind). by_text x (λ k. f (transfer_of k (numbers_of t a))) other) (text-back t.kind t.state)
    ∙ ap f (back t a)

pub follows : Follows
follows = record {
  begin = begins;
  request = λ t a out. by_its_text t a (λ (x : Transfer). rules.request x out) (record { answer = 6; len = 0; output = out });
  receive = λ t a buffer came. by_its_text t a (λ (x : Transfer). received_numbers (rules.receive x buffer came)) (record { numbers = unmoved (numbers_of t a); buffer = buffer });
}
  where
    begins : (k : TextKind) (size budget : ℕ) → begin_numbers (text_number k) size budget ≡ began_numbers (rules.begin k size budget)
    begins Capabilities size budget = refl
    begins Table size budget = refl

stands : (t : Transfer) (a : ℕ) → stands_for (numbers_of t a) ≡ t
stands t a = by_its_text t a (λ (x : Transfer). x) (transfer_of Capabilities (numbers_of t a))

-- ---- calls in a row

-- an exchange more
receives_on : (w : World) (e : Exchange) (n : TransferNumbers) (a : ℕ) (buffer : List ℕ) → n ≡ numbers_of w.transfer a → buffer ≡ w.buffer →
    receive_numbers n buffer e.came ≡ received_numbers (rules.receive w.transfer w.buffer e.came)
receives_on w e n a buffer h g = ap₂ (λ (x : TransferNumbers) (y : List ℕ). receive_numbers x y e.came) h g ∙ follows.receive w.transfer a w.buffer e.came

shows_all : (w : World) (n : TransferNumbers) (a : ℕ) (buffer : List ℕ) (es : List Exchange) → n ≡ numbers_of w.transfer a → buffer ≡ w.buffer →
    Shows (after_all over.rules w es) (receive_all n buffer es)
unfolding after
shows_all w n a buffer [] h g = record { answer = a; numbers = h; buffer = g }
shows_all w n a buffer (e ∷ es) h g =
    let z = receives_on w e n a buffer h g in
    shows_all (after over.rules w e) _ _ _ es (ap (λ (x : Received). x.numbers) z) (ap (λ (x : Received). x.buffer) z)

pub in_a_row : InARow
in_a_row s es = shows_all (start_of over.rules s) _ _ s.buffer es (follows.begin s.kind (length s.buffer) s.budget) refl

-- the state 2 is done
two-is-done : (k : TextKind) (s : State) → phase_number k s % 4 ≡ 2 → s ≡ Done
two-is-done k Done h = refl
two-is-done Capabilities Running h = absurd (omega (arith, h))
two-is-done Capabilities Exhausted h = absurd (omega (arith, h))
two-is-done Capabilities Overflowed h = absurd (omega (arith, h))
two-is-done Table Running h = absurd (omega (arith, h))
two-is-done Table Exhausted h = absurd (omega (arith, h))
two-is-done Table Overflowed h = absurd (omega (arith, h))

pub done-holds : DoneHolds
done-holds s y es n c h =
    let w : World = after_all over.rules (start_of over.rules s) es in
    let z = in_a_row s es in
    let d : w.transfer.state ≡ Done = two-is-done w.transfer.kind w.transfer.state (sym (ap (λ (x : TransferNumbers). x.phase % 4) z.numbers) ∙ h) in
    let e = (demand3 s y es n c).2.done d in
    (ap (λ (x : TransferNumbers). x.offset) z.numbers ∙ e.0, z.buffer ∙ e.2)

-- ---- the exported calls are the rules' calls

exported-begin : (k : TextKind) (size budget : ℕ) → begun (begin_numbers (text_number k) size budget) ≡ rules.begin k size budget
exported-begin k size budget =
    let b : BeginOutcome = rules.begin k size budget in
    ap begun (follows.begin k size budget) ∙ ap (λ (x : Transfer). record { answer = b.answer; transfer = x }) (stands b.transfer b.answer)

exported-receive : (t : Transfer) (buffer came : List ℕ) → received (receive_numbers (numbers_of t 0) buffer came) ≡ rules.receive t buffer came
exported-receive t buffer came =
    let o = rules.receive t buffer came in
    ap received (follows.receive t 0 buffer came) ∙ ap (λ (x : Transfer). record { answer = o.answer; transfer = x; buffer = o.buffer }) (stands o.transfer o.answer)

same-calls : exported ≡ over.rules
same-calls = λ i. record {
  begin = λ k size budget. exported-begin k size budget i;
  request = λ t out. follows.request t 0 out i;
  receive = λ t buffer came. exported-receive t buffer came i;
}

pub exported_demand3 : Demand3 exported
exported_demand3 = subst Demand3 (sym same-calls) demand3

-- ---- a refused start

exhausted_phase : (t : TextKind) (s : State) → s ≡ Exhausted → phase_number t s % 4 ≡ 0
exhausted_phase Capabilities s e = ap (λ (x : State). phase_number Capabilities x % 4) e
exhausted_phase Table s e = ap (λ (x : State). phase_number Table x % 4) e

pub refused-is-closed : RefusedIsClosed begin_numbers
refused-is-closed kind size budget h = go (text_of kind) h
  where
    accepted : TextKind → BeginOutcome
    accepted t = record { answer = 0; transfer = record { kind = t; state = rules.first_state budget; reached = record { 0 = 0 }; capacity = size; budget = budget; count = 0 } }

    refused : TextKind → BeginOutcome
    refused t = record { answer = 18; transfer = record { kind = t; state = Exhausted; reached = record { 0 = 0 }; capacity = 0; budget = 0; count = 0 } }

    begun-closed : (t : TextKind) (x : Bool) → let b = cond x (accepted t) (refused t) in (b.answer ≡ 0 → ⊥) → Closed (began_numbers b)
    begun-closed t true h = absurd (h refl)
    begun-closed t false h = record { state = exhausted_phase t Exhausted refl; capacity = refl; offset = refl; budget = refl; count = refl }

    go : (x : Option TextKind) → let n = by_text x (λ t. began_numbers (rules.begin t size budget)) unknown_text in (n.answer ≡ 0 → ⊥) → Closed n
    go (Some t) h = begun-closed t (leb budget most_budget) h
    go None h = record { state = refl; capacity = refl; offset = refl; budget = refl; count = refl }

pub zeroes-closed : Closed zeroes
zeroes-closed = record { state = refl; capacity = refl; offset = refl; budget = refl; count = refl }

module _ (n : TransferNumbers) (s : Closed n) where
  is_exhausted : state_of (n.phase % 4) ≡ Exhausted
  is_exhausted = ap state_of s.state

  not_open : (t : TextKind) → is_open (transfer_of t n) ≡ false
  not_open t = ap (λ (x : State). is_running x && ltb n.count n.budget) is_exhausted

  asks_nothing : (out : List ℕ) (x : Option TextKind) →
      let o = by_text x (λ t. rules.request (transfer_of t n) out) (record { answer = 6; len = 0; output = out }) in (o.answer ≡ 0 → ⊥) × (o.output ≡ out)
  asks_nothing out (Some t) = rw (not_open t) ((λ e. omega (arith, e)), refl)
  asks_nothing out None = ((λ e. omega (arith, e)), refl)

  stays_closed : (buffer came : List ℕ) (x : Option TextKind) →
      let r = by_text x (λ t. received_numbers (rules.receive (transfer_of t n) buffer came)) (record { numbers = unmoved n; buffer = buffer }) in Closed r.numbers × (r.buffer ≡ buffer)
  stays_closed buffer came (Some t) =
      rw (not_open t)
      (record { state = exhausted_phase t (state_of (n.phase % 4)) is_exhausted; capacity = s.capacity; offset = s.offset; budget = s.budget; count = s.count }, refl)
  stays_closed buffer came None = (record { state = s.state; capacity = s.capacity; offset = s.offset; budget = s.budget; count = s.count }, refl)

pub closed-stays : ClosedStays request_outcome receive_numbers
closed-stays = record { asks = λ n s out. asks_nothing n s out (text_of (n.phase / 4)); stays = λ n s buffer came. stays_closed n s buffer came (text_of (n.phase / 4)) }
