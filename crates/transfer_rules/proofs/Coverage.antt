-- Which lists of exchanges demand 3's suppositions leave out: a list is a course exactly if each of its exchanges is genuine.
-- Assumes nothing.
use Prim.Native.Nat.{ℕ, suc}
use mathlib.Core.Path.{◌≡◌, refl, ap, sym, ◌∙◌}
use mathlib.Core.List.{List, [], ◌∷◌}
use mathlib.Core.Bool.{Bool, true, false, true≢false}
use Rattle.message_rules.specs.declared.TextKind.{TextKind}
use Rattle.transfer_rules.specs.Fragment.{read_reply}
use Rattle.transfer_rules.specs.Transfer.{is_open}
use Rattle.transfer_rules.specs.Exchange.{rules, World, Exchange, Replied, Corrupted, ended, answered, corrupted, closed}
use Rattle.transfer_rules.specs.Exchange as over
use Rattle.transfer_rules.specs.Demand3.{Setup, Supposed, start_of}
use Rattle.transfer_rules.specs.Coverage.{Covers}
use Rattle.transfer_rules.specs.Coverage as reach
use Rattle.transfer_rules.proofs.Messages.{read-fragment, read-valid, read-begins}
use Rattle.transfer_rules.proofs.Kept.{after, Follows, Kept, Judged, wanted, other, reply-read, answered-kept, judged, corrupted-kept, closed-kept}
use Rattle.transfer_rules.proofs.Demand3.{begun_kept}

-- the calls of Transfer.antt
abbrev Course : TextKind → List ℕ → World → List Exchange → ℕ → Type 0
Course = over.Course rules

abbrev Each : (World → Exchange → Type 0) → World → List Exchange → Type 0
Each = over.Each rules

abbrev Genuine : TextKind → List ℕ → World → Exchange → Type 0
Genuine = reach.Genuine rules

module _ (s : Setup) (h : Supposed s) where
  -- one exchange more
  next : (w : World) (e : Exchange) (es : List Exchange) (m n : ℕ) → Kept s w m n → Genuine s.kind s.text w e →
      ((m' n' : ℕ) → Kept s (after w e) m' n' → (j : ℕ) × Course s.kind s.text (after w e) es j) → (j : ℕ) × Course s.kind s.text w (e ∷ es) j
  next w e es m n v g rest = go (is_open w.transfer) refl
    where
      f : Follows s.kind s.text w e
      f = g.follows

      replied : is_open w.transfer ≡ true → Replied e → (j : ℕ) × Course s.kind s.text w (e ∷ es) j
      replied o r = let z = rest (suc m) n (answered-kept s h w e m n v o f r) in (z.0, answered f o r z.1)

      lost : Corrupted s.kind w e → (j : ℕ) × Course s.kind s.text w (e ∷ es) j
      lost x = let z = rest (suc m) (suc n) (corrupted-kept s h w e m n v f x) in (suc z.0, corrupted f x z.1)

      by-reply : is_open w.transfer ≡ true → Judged s.kind w e → (j : ℕ) × Course s.kind s.text w (e ∷ es) j
      by-reply o (wanted d y) =
          let p : ℕ = w.transfer.reached.0 in
          replied o (g.own o d (read-valid s.kind p d e.came f.bytes y) (read-begins s.kind p d e.came f.bytes y))
      by-reply o (other r y) =
          lost
          (record {
            running = o;
            no_reply = λ x. y _ (reply-read s h w e m n v o e.turn f.lawful x).1;
            no_fragment = λ d x b. y d (ap read_reply b.1 ∙ read-fragment s.kind w.transfer.reached.0 d b.0 x);
          })

      go : (b : Bool) → is_open w.transfer ≡ b → (j : ℕ) × Course s.kind s.text w (e ∷ es) j
      go false o = let z = rest (suc m) n (closed-kept s h w e m n v o) in (z.0, closed f o z.1)
      go true o = by-reply o (judged s h w e m n v)

  from : (w : World) (es : List Exchange) (m n : ℕ) → Kept s w m n → Each (Genuine s.kind s.text) w es → (j : ℕ) × Course s.kind s.text w es j
  from w [] m n v g = (0, ended)
  from w (e ∷ es) m n v g = next w e es m n v g.0 (λ m' n' v'. from (after w e) es m' n' v' g.1)

genuine : (k : TextKind) (text : List ℕ) (w : World) (es : List Exchange) (n : ℕ) → Course k text w es n → Each (Genuine k text) w es
genuine k text w es n ended = tt
genuine k text w es n (answered {e = e} {es = rest} f o r c) = (record { follows = f; own = λ _ _ _ _. r }, genuine k text (after w e) rest n c)
genuine k text w es n (corrupted {e = e} {es = rest} {n = i} f s c) =
    (record { follows = f; own = λ _ d v b. absurd (s.no_fragment d v b) }, genuine k text (after w e) rest i c)
genuine k text w es n (closed {e = e} {es = rest} f o c) =
    (record { follows = f; own = λ h _ _ _. absurd (true≢false (sym h ∙ o)) }, genuine k text (after w e) rest n c)

pub covers : Covers rules
covers = record { met = λ s h es g. from s h (start_of rules s) es 0 0 (begun_kept s h) g; only = genuine }
