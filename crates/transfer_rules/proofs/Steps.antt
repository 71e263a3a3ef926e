-- The single steps of a transfer and of a conforming display.
-- Assumes nothing.
use Prim.Native.Nat.{ℕ, ◌+◌, ◌-◌, ◌≤◌, ◌<◌}
use mathlib.Core.Path.{◌≡◌, refl, ap, sym, ◌∙◌}
use mathlib.Core.List.{List}
use mathlib.Core.Option.{some, none}
use mathlib.Core.Bool.{Bool, true, false, cond, ◌&&◌, false≢true}
use native.Mathlib.Omega.{arith}
use lib.ListN.{length, drop}
use lib.Seq.{take-append_seam}
use lib.Dec.{ltb, leb, eqb}
use borrow.Author.Tests.{ltb-true, ltb-false, lt-ltb, le-leb, eq-eqb, eqb-true, eqb-false}
use Rattle.message_rules.specs.Read.{ok}
use Rattle.message_rules.specs.Limits.{output_room}
use Rattle.message_rules.specs.declared.TextKind.{TextKind}
use Rattle.transfer_rules.specs.declared.State.{State}
use Rattle.transfer_rules.specs.declared.State.TheVariants.{Running, Done, Exhausted, Overflowed}
use Rattle.transfer_rules.specs.declared.Transfer.{Transfer}
use Rattle.transfer_rules.specs.Fragment.{request_message, fragment_for, read_reply, fragment_of}
use Rattle.buffers.specs.Buffers.{put}
use Rattle.transfer_rules.specs.Transfer.{is_running, is_open, room, request, counted, state_after, judge, unchanged, receive}
use Rattle.transfer_rules.specs.Conforming.{Cursor, offset_set, SizeAllowed, MovesTo}
use Rattle.transfer_rules.specs.Exchange.{sent_by}
use Rattle.transfer_rules.proofs.Messages.{fragment-in, request_injective}

-- ---- open

pub open_runs : (t : Transfer) → is_open t ≡ true → (t.state ≡ Running) × (t.count < t.budget)
open_runs t h = go t.state refl (ltb t.count t.budget) refl h
  where
    go : (s : State) → t.state ≡ s → (b : Bool) → ltb t.count t.budget ≡ b → (is_running s && b) ≡ true → (t.state ≡ Running) × (t.count < t.budget)
    go Running e true f g = (e, ltb-true _ _ f)
    go Running e false f g = absurd (false≢true g)
    go Done e b f g = absurd (false≢true g)
    go Exhausted e b f g = absurd (false≢true g)
    go Overflowed e b f g = absurd (false≢true g)

pub runs_open : (t : Transfer) → t.state ≡ Running → t.count < t.budget → is_open t ≡ true
runs_open t e h = rw (e, lt-ltb _ _ h)

-- ---- receive

module _ (t : Transfer) (buffer came : List ℕ) where
  pub receive-closed : is_open t ≡ false → receive t buffer came ≡ unchanged t buffer 16
  receive-closed h = rw h

  pub receive_open : is_open t ≡ true → length buffer ≡ t.capacity → receive t buffer came ≡ judge t buffer (fragment_of t.kind (read_reply came))
  receive_open h e = rw (h, eq-eqb _ _ e)

-- the fragment wanted, within the room
pub judge-fragment : (t : Transfer) (buffer d : List ℕ) → t.reached.0 + length d ≤ room t →
    judge t buffer (fragment_of t.kind (ok (fragment_for t.kind t.reached.0 d)))
    ≡ record { answer = 0; transfer = counted t (state_after (length d)) (t.reached.0 + length d); buffer = put buffer t.reached.0 d }
judge-fragment t buffer d h =
    ap (judge t buffer) (fragment-in t.kind t.reached.0 d)
    ∙ rw (eq-eqb t.reached.0 t.reached.0 refl, le-leb (t.reached.0 + length d) (room t) h)

-- ---- request

pub sent_is : (t : Transfer) (output : List ℕ) →
    sent_by (request t output) ≡ cond (is_open t && leb output_room (length output)) (some (request_message t.kind t.reached.0)) none
sent_is t output = go (is_open t) refl (leb output_room (length output)) refl
  where
    go : (b : Bool) → is_open t ≡ b → (c : Bool) → leb output_room (length output) ≡ c →
        sent_by (request t output) ≡ cond (is_open t && leb output_room (length output)) (some (request_message t.kind t.reached.0)) none
    go false e c f = rw e
    go true e true f = rw (e, f) (ap some (take-append_seam (request_message t.kind t.reached.0) (drop (length (request_message t.kind t.reached.0)) output)))
    go true e false f = rw (e, f)

pub asked_is : (t : Transfer) (output : List ℕ) → (request t output).answer ≡ cond (is_open t) (cond (leb output_room (length output)) 0 1) 16
asked_is t output = go (is_open t) refl (leb output_room (length output)) refl
  where
    go : (b : Bool) → is_open t ≡ b → (c : Bool) → leb output_room (length output) ≡ c → (request t output).answer ≡ cond (is_open t) (cond (leb output_room (length output)) 0 1) 16
    go false e c f = rw e
    go true e true f = rw (e, f)
    go true e false f = rw (e, f)

-- a request that was sent is for the offset reached
pub sent_for : (k : TextKind) (t : Transfer) (output : List ℕ) (q : ℕ) → t.kind ≡ k → sent_by (request t output) ≡ some (request_message k q) → q ≡ t.reached.0
sent_for k t output q ke h = go (is_open t && leb output_room (length output)) (sent_is t output)
  where
    go : (b : Bool) → sent_by (request t output) ≡ cond b (some (request_message t.kind t.reached.0)) none → q ≡ t.reached.0
    go true e =
        let g : some (request_message t.kind t.reached.0) ≡ some (request_message k q) = sym e ∙ h in
        let i : request_message t.kind t.reached.0 ≡ request_message k q = cc in
        sym (request_injective k t.reached.0 q (rw ke at i))
    go false e =
        let g : none ≡ some (request_message k q) = sym e ∙ h in
        cc

-- ---- the display

-- where the cursor may stand when the transfer has reached p: anywhere before the first byte; else at p, or just before it
pub record CursorNear (total p : ℕ) (b : Cursor) : Type 0 where
  pub sized : 0 < p → SizeAllowed (total - b.offset) b.size
  pub near : 0 < p → (b.offset ≡ p → ⊥) → b.offset + b.size ≡ p

pub record Lands (total p : ℕ) (b : Cursor) : Type 0 where
  pub at : b.offset ≡ p
  pub sized : SizeAllowed (total - p) b.size

-- acting on the offset that the transfer has reached lands there
pub moves_land : (total p : ℕ) (b a : Cursor) → CursorNear total p b → MovesTo total b (offset_set b p) a → Lands total p a
moves_land total p b a n = go (eqb p 0) refl (eqb p b.offset) refl (eqb p (b.offset + b.size)) refl
  where
    go : (x : Bool) → eqb p 0 ≡ x → (y : Bool) → eqb p b.offset ≡ y → (z : Bool) → eqb p (b.offset + b.size) ≡ z →
        MovesTo total b (cond x (some 0) (cond y none (cond z (some p) (some 0)))) a → Lands total p a
    go true e y f z g c = record { at = c.0 ∙ sym (eqb-true p 0 e); sized = rw (eqb-true p 0 e) c.1 }
    go false e true f z g c = rw c (record { at = sym (eqb-true p b.offset f); sized = rw (eqb-true p b.offset f) (n.sized (omega (arith, eqb-false p 0 e))) })
    go false e false f true g c = record { at = c.0; sized = c.1 }
    go false e false f false g c = absurd (eqb-false p (b.offset + b.size) g (sym (n.near (omega (arith, eqb-false p 0 e)) (λ h. eqb-false p b.offset f (sym h)))))

pub lands_near : (total p : ℕ) (b : Cursor) → Lands total p b → CursorNear total p b
lands_near total p b l = record { sized = λ _. rw l.at l.sized; near = λ _ h. absurd (h l.at) }

-- only where no byte is left may the size be 0
pub size-end : (left s : ℕ) → SizeAllowed left s → s ≡ 0 → left ≡ 0
size-end left s z h = go (ltb 0 left) refl
  where
    go : (x : Bool) → ltb 0 left ≡ x → left ≡ 0
    go true e = absurd (omega (arith, z.least (ltb-true 0 left e)))
    go false e = omega (arith, ltb-false 0 left e)
