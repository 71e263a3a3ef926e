-- What `capabilities_reader::read` promises meets demand 2.
-- Assumes nothing.
use Prim.Native.Nat.{ℕ, zero, suc}
use mathlib.Core.Path.{◌≡◌, refl, sym, ap, ◌∙◌}
use mathlib.Core.List.{List}
use native.Mathlib.Omega.{arith}
use Rattle.capabilities_rules.specs.Grammar.{Items, Node, Fits, size, nodes_from}
use Rattle.capabilities_rules.specs.Outcome.{told, Refused, outcome, Reading, Accepted}
use Rattle.capabilities_rules.specs.Nodes.{nodes_of}
use Rattle.capabilities_rules.specs.Buffers.{Buffers, written, Answered}
use Rattle.capabilities_rules.specs.Prefixes.{Why, too_long, cut_short, wrong_byte, ninth-open, no_node}
use Rattle.capabilities_rules.specs.Demand2.{room_in, Holds, Accepts, ReadRightly, Demand2}
use Rattle.capabilities_rules.proofs.Theorems.{theorems}

-- no reason has the number 0
not_done : {room k p : ℕ} {s : List ℕ} → Why room s k p → k ≡ 0 → ⊥
not_done (too_long _) e = omega arith
not_done (cut_short _ _) e = omega arith
not_done (wrong_byte _ _ _) e = omega arith
not_done (ninth-open _ _ _ _ _ _) e = omega arith
not_done (no_node _ _ _ _ _) e = omega arith

-- so a refusal's number is not 0, and what was lent stays
pub refusal-number : (room k p : ℕ) (s : List ℕ) → outcome room s ≡ Refused k p → k ≡ 0 → ⊥
refusal-number room k p s e = not_done (theorems.refusals room k p s e)

leaves : (k : ℕ) (xs : List Node) (t : Buffers) → (k ≡ 0 → ⊥) → written k xs t ≡ t
leaves zero xs t h = absurd (h refl)
leaves (suc k) xs t h = refl

pub refusal-leaves : (room k p : ℕ) (s : List ℕ) (xs : List Node) (t : Buffers) → outcome room s ≡ Refused k p → written k xs t ≡ t
refusal-leaves room k p s xs t e = leaves k xs t (refusal-number room k p s e)

held : (xs : List Node) (t t' : Buffers) → Holds xs t t' → t' ≡ written 0 xs t
held xs t t' h = λ i. record { starts = h.starts i; lengths = h.lengths i; parents = h.parents i; groups = h.groups i }

module _ (s : List ℕ) (t t' : Buffers) (r : Reading) (a : Answered s t t' r) where
  fitting : (xs : Items) → Fits (room_in t) s xs → Accepts s t t' r xs
  fitting xs f =
      let e : r ≡ Accepted (size xs) = a.answer ∙ theorems.accepts (room_in t) s xs f in
      let w : t' ≡ written 0 (nodes_from 65535 0 xs) t = a.stored ∙ ap (λ (x : Reading). written (told x).number (nodes_of s) t) e ∙ ap (λ (l : List Node). written 0 l t) (theorems.noded s xs f.grammar) in
      record {
        fits = f;
        only = λ ys y. theorems.unique s ys xs y f.grammar;
        counts = e;
        holds = record { starts = ap (λ (b : Buffers). b.starts) w; lengths = ap (λ (b : Buffers). b.lengths) w; parents = ap (λ (b : Buffers). b.parents) w; groups = ap (λ (b : Buffers). b.groups) w };
      }

  refusing : (k p : ℕ) → r ≡ Refused k p → Why (room_in t) s k p × (t' ≡ t)
  refusing k p e =
      let o = sym a.answer ∙ e in
      (theorems.refusals (room_in t) k p s o, a.stored ∙ ap (λ (x : Reading). written (told x).number (nodes_of s) t) e ∙ refusal-leaves (room_in t) k p s (nodes_of s) t o)

  accepting : (x : Reading) → r ≡ x → (told x).number ≡ 0 → (xs : Items) × Accepts s t t' r xs
  accepting (Accepted n) e z = let x = theorems.accepted (room_in t) n s (sym a.answer ∙ e) in (x.0, fitting x.0 x.1)
  accepting (Refused k p) e z = absurd (not_done (refusing k p e).0 z)

  read-rightly : ReadRightly s t t' r
  read-rightly = record {
    accepts = fitting;
    accepted = accepting r refl;
    refuses = refusing;
    refused-there = λ k p w. a.answer ∙ theorems.exactly (room_in t) k p s w;
  }

-- what reads rightly answers and leaves as ours does: demand 2 leaves no choice
pub answered : (s : List ℕ) (t t' : Buffers) (r : Reading) → ReadRightly s t t' r → Answered s t t' r
answered s t t' r h = go (outcome (room_in t) s) refl
  where
    go : (x : Reading) → outcome (room_in t) s ≡ x → Answered s t t' r
    go (Accepted n) e =
        let f = theorems.accepted (room_in t) n s e in
        let a = h.accepts f.0 f.1 in
        record {
          answer = a.counts ∙ sym (theorems.accepts (room_in t) s f.0 f.1);
          stored = held (nodes_from 65535 0 f.0) t t' a.holds ∙ ap (λ (l : List Node). written 0 l t) (sym (theorems.noded s f.0 f.1.grammar))
              ∙ sym (ap (λ (x : Reading). written (told x).number (nodes_of s) t) a.counts);
        }
    go (Refused k p) e =
        let q = h.refused-there k p (theorems.refusals (room_in t) k p s e) in
        record {
          answer = q ∙ sym e;
          stored = (h.refuses k p q).1 ∙ sym (ap (λ (x : Reading). written (told x).number (nodes_of s) t) q ∙ refusal-leaves (room_in t) k p s (nodes_of s) t e);
        }

pub demand2 : Demand2 Answered
demand2 = record {
  kept = λ s t. (written (told (outcome (room_in t) s)).number (nodes_of s) t, outcome (room_in t) s, record { answer = refl; stored = refl });
  rightly = read-rightly;
}
