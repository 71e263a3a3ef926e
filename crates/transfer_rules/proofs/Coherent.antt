-- A transfer that begin and receive made has not met its budget while it runs.
-- Assumes nothing.
use Prim.Native.Nat.{ℕ, ◌+◌, ◌≤◌, ◌<◌}
use mathlib.Core.Path.{◌≡◌, refl}
use mathlib.Core.List.{List}
use mathlib.Core.Bool.{Bool, true, false, cond}
use native.Mathlib.Omega.{arith}
use lib.ListN.{length}
use lib.Dec.{eqb, leb}
use borrow.Author.Tests.{eqb-false}
use Rattle.message_rules.specs.Read.{Read, ok, refused}
use Rattle.message_rules.specs.declared.TextKind.{TextKind}
use Rattle.transfer_rules.specs.declared.State.{State}
use Rattle.transfer_rules.specs.declared.State.TheVariants.{Running, Done, Exhausted, Overflowed}
use Rattle.transfer_rules.specs.declared.Transfer.{Transfer}
use Rattle.transfer_rules.specs.Limits.{most_budget}
use Rattle.transfer_rules.specs.Fragment.{Fragment, read_reply, fragment_of}
use Rattle.transfer_rules.specs.Transfer.{BeginOutcome, is_open, room, begin, ReceiveOutcome, exhausted_at, counted, state_after, accept, judge, unchanged, receive, Coherent, KeepsCoherent}
use Rattle.transfer_rules.proofs.Steps.{open_runs}

-- what holds of both arms of a test holds of its result
either : {A : Type 0} (P : A → Type 0) (b : Bool) (x y : A) → P x → P y → P (cond b x y)
either P true x y p q = p
either P false x y p q = q

-- a state that still runs after a count is below the budget
still_runs : (count budget : ℕ) (s : State) → count ≤ budget → exhausted_at count budget s ≡ Running → count < budget
still_runs count budget Running h e = go (eqb count budget) refl e
  where
    go : (b : Bool) → eqb count budget ≡ b → cond b Exhausted Running ≡ Running → count < budget
    go true p r = let z : ◌≡◌ {A = ℕ} 0 1 = cc in absurd (omega arith)
    go false p r = omega (arith, eqb-false count budget p)
still_runs count budget Done h e = let z : ◌≡◌ {A = ℕ} 0 1 = cc in absurd (omega arith)
still_runs count budget Exhausted h e = let z : ◌≡◌ {A = ℕ} 0 1 = cc in absurd (omega arith)
still_runs count budget Overflowed h e = let z : ◌≡◌ {A = ℕ} 0 1 = cc in absurd (omega arith)

module _ (t : Transfer) (buffer : List ℕ) (h : t.count < t.budget) where
  counted_coherent : (s : State) (o : ℕ) → Coherent (counted t s o)
  counted_coherent s o e = still_runs (t.count + 1) t.budget s (omega arith) e

  abbrev Good : ReceiveOutcome → Type 0
  Good o = Coherent o.transfer

  accept_coherent : (d : List ℕ) → Good (accept t buffer d)
  accept_coherent d = either Good (leb (t.reached.0 + length d) (room t)) _ _ (counted_coherent (state_after (length d)) (t.reached.0 + length d)) (counted_coherent Overflowed t.reached.0)

  judge_coherent : (x : Read Fragment) → Good (judge t buffer x)
  judge_coherent (refused n) = counted_coherent Running t.reached.0
  judge_coherent (ok f) = either Good (eqb f.offset t.reached.0) _ _ (accept_coherent f.bytes) (counted_coherent Running t.reached.0)

begin_coherent : (k : TextKind) (size budget : ℕ) → Coherent (begin k size budget).transfer
begin_coherent k size budget =
    either (λ (b : BeginOutcome). Coherent b.transfer) (leb budget most_budget) _ _ (first (eqb budget 0) refl) (λ e. let z : ◌≡◌ {A = ℕ} 0 1 = cc in absurd (omega arith))
  where
    first : (b : Bool) → eqb budget 0 ≡ b → cond b Exhausted Running ≡ Running → 0 < budget
    first true p r = let z : ◌≡◌ {A = ℕ} 0 1 = cc in absurd (omega arith)
    first false p r = omega (arith, eqb-false budget 0 p)

receive_coherent : (t : Transfer) (buffer came : List ℕ) → Coherent t → Coherent (receive t buffer came).transfer
receive_coherent t buffer came c = go (is_open t) refl
  where
    go : (b : Bool) → is_open t ≡ b → Coherent (cond b (cond (eqb (length buffer) t.capacity) (judge t buffer (fragment_of t.kind (read_reply came))) (unchanged t buffer 1)) (unchanged t buffer 16)).transfer
    go false e = c
    go true e = either (λ (o : ReceiveOutcome). Coherent o.transfer) (eqb (length buffer) t.capacity) _ _ (judge_coherent t buffer (open_runs t e).1 (fragment_of t.kind (read_reply came))) c

pub keeps_coherent : KeepsCoherent
keeps_coherent = record { begun = begin_coherent; received = receive_coherent }
