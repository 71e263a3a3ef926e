-- Demand 3 for the calls of Transfer.antt, by the invariant `Kept` over the list of exchanges.
-- Assumes nothing.
use Prim.Native.Nat.{ℕ, suc, ◌+◌, ◌≤◌, ◌<◌}
use mathlib.Core.Path.{◌≡◌, refl, ap, ap₂, sym, ◌∙◌, subst₂}
use mathlib.Core.List.{List, ◌++◌}
use mathlib.Core.Option.{some, none}
use mathlib.Core.Bool.{Bool, true, false, cond, ◌&&◌, true≢false}
use native.Mathlib.Omega.{arith}
use native.Mathlib.Nat.{zero-add}
use lib.ListN.{length, take, drop}
use lib.Seq.{take-length}
use lib.Dec.{leb, eqb}
use borrow.Author.Tests.{le-leb, eqb-true, eqb-false}
use Rattle.message_rules.specs.Limits.{output_room}
use Rattle.message_rules.specs.declared.TextKind.{TextKind}
use Rattle.transfer_rules.specs.declared.State.{State}
use Rattle.transfer_rules.specs.declared.State.TheVariants.{Running, Done, Exhausted, Overflowed}
use Rattle.transfer_rules.specs.Limits.{most_budget}
use Rattle.transfer_rules.specs.Fragment.{request_message}
use Rattle.transfer_rules.specs.Transfer.{is_open}
use Rattle.transfer_rules.specs.Exchange.{rules, World, Exchange, counted_by, ended, answered, corrupted, closed}
use Rattle.transfer_rules.specs.Exchange as over
use Rattle.transfer_rules.specs.Demand3.{Setup, Supposed, enough, EndClaim, Demand3}
use Rattle.transfer_rules.specs.Demand3 as claimed
use Rattle.transfer_rules.proofs.Steps.{receive-closed, sent_is, asked_is}
use Rattle.transfer_rules.proofs.Kept.{received, after, Follows, StateKept, Kept, first_le, answered-done, answered-counted, answered-kept, refused-not-done, refused-counted, corrupted-kept, closed-kept}

-- the calls of Transfer.antt
abbrev start_of : Setup → World
start_of = claimed.start_of rules

abbrev after_all : World → List Exchange → World
after_all = over.after_all rules

abbrev Course : TextKind → List ℕ → World → List Exchange → ℕ → Type 0
Course = over.Course rules

abbrev Each : (World → Exchange → Type 0) → World → List Exchange → Type 0
Each = over.Each rules

abbrev ExchangeClaim : TextKind → World → Exchange → Type 0
ExchangeClaim = claimed.ExchangeClaim rules

module _ (s : Setup) (h : Supposed s) where
  -- ---- the claim of each exchange
  claim : (w : World) (e : Exchange) (m n : ℕ) → Kept s w m n → Follows s.kind s.text w e →
      (is_open w.transfer ≡ true → counted_by (received w e).answer ≡ 1) → ExchangeClaim s.kind w e
  claim w e m n v f i =
      record {
        requests = sent_is w.transfer e.output
            ∙ ap₂ (λ (a : TextKind) (b : ℕ). cond (is_open w.transfer && leb output_room (length e.output)) (some (request_message a b)) none) v.kind_is v.reached_is;
        asks = asked_is w.transfer e.output;
        answers = λ o r. answered-done s h w e m n v o f r;
        counts = i;
        refuses = λ x z. refused-not-done s h w e m n v f x z;
        stays = λ c. receive-closed w.transfer w.buffer e.came c;
      }

  -- ---- the list
  renumber : (w : World) (m m' n n' : ℕ) → m ≡ m' → n ≡ n' → Kept s w m n → Kept s w m' n'
  renumber w m m' n n' a b v = subst₂ (λ (x y : ℕ). Kept s w x y) a b v

  all : (w : World) (es : List Exchange) (j : ℕ) → Course s.kind s.text w es j → (m n : ℕ) → Kept s w m n →
      Each (ExchangeClaim s.kind) w es × Kept s (after_all w es) (m + length es) (n + j)
  all w es j ended m n v = (tt, renumber w _ _ _ _ (omega arith) (omega arith) v)
  all w es j (answered {e = e} {es = rest} f o r c) m n v =
      let z = all (after w e) rest j c (suc m) n (answered-kept s h w e m n v o f r) in
      ((claim w e m n v f (λ _. answered-counted s h w e m n v o f r), z.0), renumber _ _ _ _ _ (omega arith) refl z.1)
  all w es j (corrupted {e = e} {es = rest} {n = i} f x c) m n v =
      let z = all (after w e) rest i c (suc m) (suc n) (corrupted-kept s h w e m n v f x) in
      ((claim w e m n v f (λ _. refused-counted s h w e m n v f x), z.0), renumber _ _ _ _ _ (omega arith) (omega arith) z.1)
  all w es j (closed {e = e} {es = rest} f o c) m n v =
      let z = all (after w e) rest j c (suc m) n (closed-kept s h w e m n v o) in
      ((claim w e m n v f (λ y. absurd (true≢false (sym y ∙ o))), z.0), renumber _ _ _ _ _ (omega arith) refl z.1)

  -- ---- the end
  end : (w : World) (m n : ℕ) → Kept s w m n → EndClaim s w m n
  end w m n v =
      record {
        first = v.first;
        holds = v.holds;
        reached = v.reached_is;
        count = v.count_is;
        within = λ e. running-part (rw e at v).state_is;
        done = λ e. done-part (rw e at v).state_is;
        finished = λ l le₀ le₁ le₂. finish l le₀ le₁ le₂ w.transfer.state refl v.state_is;
      }
    where
      running-part : StateKept (length s.text) s.budget w.transfer.count w.transfer.reached.0 w.cursor m n Running → w.transfer.count < s.budget
      running-part i = i.1

      done-part : (w.transfer.reached.0 ≡ length s.text) × (w.transfer.count ≤ length s.text + 1 + n) →
          (w.transfer.reached.0 ≡ length s.text) × (w.accepted ≡ s.text) × (w.buffer ≡ s.text ++ drop (length s.text) s.buffer)
      done-part i =
          let a : w.accepted ≡ s.text = v.first ∙ ap (λ (x : ℕ). take x s.text) (sym v.reached_is ∙ i.0) ∙ take-length s.text in
          (i.0, a, v.holds ∙ ap (λ (x : List ℕ). x ++ drop (length x) s.buffer) a)

      finish : (l : ℕ) → n ≤ l → enough (length s.text) l ≤ m → enough (length s.text) l ≤ s.budget → (p : State) → w.transfer.state ≡ p →
          StateKept (length s.text) s.budget w.transfer.count w.transfer.reached.0 w.cursor m n p →
          (w.transfer.state ≡ Done) × (w.transfer.count ≤ enough (length s.text) l)
      finish l le₀ le₁ le₂ Running q i = absurd (omega (arith, first_le w.accepted s.text v.first, v.reached_is, i.0, i.2))
      finish l le₀ le₁ le₂ Done q i = (q, omega (arith, i.1))
      finish l le₀ le₁ le₂ Exhausted q i = absurd (omega (arith, i.0, i.1))
      finish l le₀ le₁ le₂ Overflowed q i = absurd i

  -- ---- the beginning
  pub begun_kept : Kept s (start_of s) 0 0
  begun_kept =
      rw (le-leb s.budget most_budget h.allowed)
      (record { kind_is = refl; size_is = refl; budget_is = refl; reached_is = refl; first = refl; holds = refl; count_is = refl; state_is = state (eqb s.budget 0) refl })
    where
      state : (x : Bool) → eqb s.budget 0 ≡ x → StateKept (length s.text) s.budget 0 0 s.cursor 0 0 (cond x Exhausted Running)
      state true q = (sym (eqb-true s.budget 0 q), omega arith)
      state false q =
          (refl, omega (arith, eqb-false s.budget 0 q), omega arith, record { sized = λ z. absurd (omega (arith, z)); near = λ z _. absurd (omega (arith, z)) })

pub demand3 : Demand3 rules
demand3 s h es n c =
    let z = all s h (start_of s) es n c 0 0 (begun_kept s h) in
    (rw (le-leb s.budget most_budget h.allowed), z.0, end s h _ _ _ (renumber s h _ _ _ _ _ (zero-add (length es)) (zero-add n) z.1))
