-- One byte of `judge`, `letters`, `opens` and `nodes` at a place of a text: what each case of the reader's step comes to.
use Prim.Native.Nat.{◌-◌, ℕ, zero, suc, ◌+◌, ◌≤◌, ◌<◌}
use mathlib.Core.Path.{◌≡◌, refl, sym, ap, ◌∙◌}
use mathlib.Core.Bool.{Bool, true, false, cond}
use mathlib.Core.List.{List, ◌∷◌}
use native.Mathlib.Numerals.{add-one}
use native.Mathlib.Omega.{arith}
use lib.ListN.{length, get_or, drop, drop_of_length-le}
use lib.Seq.{drop-cons}
use lib.Dec.{leb}
use borrow.Author.Tests.{le-leb, lt-leb, leb-false}
use Rattle.message_rules.specs.Answer.{wrong_grammar, no_node_room, too_deep}
use Rattle.capabilities_rules.specs.Limits.{deepest}
use Rattle.capabilities_rules.specs.Machine.{kind_of, is_letter, Phase, inside, act, act_of, to, leaving, pause_of}
use Rattle.capabilities_rules.specs.Outcome.{judge, unless, fault, counted, Refused, is_accepted, Reading}
use Rattle.capabilities_rules.specs.Nodes.{letters, opens, opened, nodes, node_at, begun, stack, top}
use Rattle.capabilities_rules.specs.Kinds.{ByteKind}
use Rattle.capabilities_rules.specs.Kinds.{Mode}
use Rattle.capabilities_rules.specs.Kinds.{Free, Word}
use Rattle.capabilities_rules.specs.Kinds.{Act}
use Rattle.capabilities_rules.specs.Kinds.{Enter, Leave, Begin, Extend, Skip, Refuse}

-- the text from a place on: the byte there, and the text from the next place on
pub from : (s : List ℕ) (at : ℕ) → at < length s → drop at s ≡ get_or s at 0 ∷ drop (at + 1) s
from s at h = rw (add-one, drop-cons s at 0)

pub judge-at : (room at n : ℕ) (p : Phase) (s : List ℕ) (a : Act) → at < length s → a ≡ act p (kind_of (get_or s at 0))
    → judge room at n p (drop at s) ≡ unless (fault room n p a) at (judge room (at + 1) (counted n a) (to p a) (drop (at + 1) s))
unfolding judge
judge-at room at n p s a h e =
    ap (judge room at n p) (from s at h)
    ∙ ap (λ (x : Act). unless (fault room n p x) at (judge room (at + 1) (counted n x) (to p x) (drop (at + 1) s))) (sym e)

pub judge-end : (room at n d : ℕ) (m : Mode) (s : List ℕ) → length s ≤ at → judge room at n (inside d m) (drop at s) ≡ Refused wrong_grammar at
unfolding judge
judge-end room at n d m s h = ap (judge room at n (inside d m)) (drop_of_length-le s h)

module _ (room at n d : ℕ) (m : Mode) (s : List ℕ) (h : at < length s) where
  pub stop_deep : Enter ≡ act_of m (kind_of (get_or s at 0)) → deepest ≤ suc d → judge room at n (inside d m) (drop at s) ≡ Refused 15 at
  stop_deep e deep =
      judge-at room at n (inside d m) s Enter h e
      ∙ ap (λ (t : Bool). unless (cond t too_deep 0) at (judge room (at + 1) n (inside (suc d) Free) (drop (at + 1) s))) (le-leb deepest (suc d) (omega arith))

  pub go_in : Enter ≡ act_of m (kind_of (get_or s at 0)) → suc d < deepest
      → judge room at n (inside d m) (drop at s) ≡ judge room (at + 1) n (inside (suc d) Free) (drop (at + 1) s)
  go_in e room-left =
      judge-at room at n (inside d m) s Enter h e
      ∙ ap (λ (t : Bool). unless (cond t too_deep 0) at (judge room (at + 1) n (inside (suc d) Free) (drop (at + 1) s))) (lt-leb deepest (suc d) (omega arith))

  pub go_out : Leave ≡ act_of m (kind_of (get_or s at 0)) → judge room at n (inside d m) (drop at s) ≡ judge room (at + 1) n (leaving d) (drop (at + 1) s)
  go_out e = judge-at room at n (inside d m) s Leave h e

  pub stop_full : Begin ≡ act_of m (kind_of (get_or s at 0)) → room ≤ n → judge room at n (inside d m) (drop at s) ≡ Refused 14 at
  stop_full e full =
      judge-at room at n (inside d m) s Begin h e
      ∙ ap (λ (t : Bool). unless (cond t no_node_room 0) at (judge room (at + 1) (n + 1) (inside d Word) (drop (at + 1) s))) (le-leb room n full)

  pub go_word : Begin ≡ act_of m (kind_of (get_or s at 0)) → n < room
      → judge room at n (inside d m) (drop at s) ≡ judge room (at + 1) (n + 1) (inside d Word) (drop (at + 1) s)
  go_word e more =
      judge-at room at n (inside d m) s Begin h e
      ∙ ap (λ (t : Bool). unless (cond t no_node_room 0) at (judge room (at + 1) (n + 1) (inside d Word) (drop (at + 1) s))) (lt-leb room n more)

  pub go_on : Extend ≡ act_of m (kind_of (get_or s at 0)) → judge room at n (inside d m) (drop at s) ≡ judge room (at + 1) n (inside d Word) (drop (at + 1) s)
  go_on e = judge-at room at n (inside d m) s Extend h e

  pub go_space : Skip ≡ act_of m (kind_of (get_or s at 0))
      → judge room at n (inside d m) (drop at s) ≡ judge room (at + 1) n (inside d (pause_of m)) (drop (at + 1) s)
  go_space e = judge-at room at n (inside d m) s Skip h e

  pub stop_bad : Refuse ≡ act_of m (kind_of (get_or s at 0)) → judge room at n (inside d m) (drop at s) ≡ Refused wrong_grammar at
  stop_bad e = judge-at room at n (inside d m) s Refuse h e

-- the letters that a list begins with: one more where a letter stands, none else
pub letters-at : (s : List ℕ) (at : ℕ) (t : Bool) → at < length s → t ≡ is_letter (kind_of (get_or s at 0))
    → letters (drop at s) ≡ cond t (letters (drop (at + 1) s) + 1) 0
unfolding letters
letters-at s at t h e = ap letters (from s at h) ∙ ap (λ (x : Bool). cond x (letters (drop (at + 1) s) + 1) 0) (sym e)

pub letters-end : (s : List ℕ) (at : ℕ) → length s ≤ at → letters (drop at s) ≡ 0
unfolding letters
letters-end s at h = ap letters (drop_of_length-le s h)

pub opens-end : (s : List ℕ) (at : ℕ) → length s ≤ at → opens (drop at s) ≡ 0
unfolding opens
opens-end s at h = ap opens (drop_of_length-le s h)

pub opens_at : (s : List ℕ) (at : ℕ) (k : ByteKind) → at < length s → k ≡ kind_of (get_or s at 0) → opens (drop at s) ≡ opened k (opens (drop (at + 1) s))
unfolding opens
opens_at s at k h e = ap opens (from s at h) ∙ ap (λ (x : ByteKind). opened x (opens (drop (at + 1) s))) (sym e)

pub nodes-at : (at n : ℕ) (ps : List ℕ) (p : Phase) (s : List ℕ) (a : Act) → at < length s → a ≡ act p (kind_of (get_or s at 0))
    → nodes at n ps p (drop at s) ≡ begun a (node_at at (top ps) (drop at s)) (nodes (at + 1) (counted n a) (stack a n ps) (to p a) (drop (at + 1) s))
unfolding nodes
nodes-at at n ps p s a h e =
    ap (nodes at n ps p) (from s at h)
    ∙ ap (λ (x : Act). begun x (node_at at (top ps) (get_or s at 0 ∷ drop (at + 1) s)) (nodes (at + 1) (counted n x) (stack x n ps) (to p x) (drop (at + 1) s))) (sym e)
    ∙ ap (λ (l : List ℕ). begun a (node_at at (top ps) l) (nodes (at + 1) (counted n a) (stack a n ps) (to p a) (drop (at + 1) s))) (sym (from s at h))

-- a text that is accepted from a place on: the byte there is taken, and the rest is accepted
pub unless-read : (k at : ℕ) (r : Reading) → is_accepted (unless k at r) ≡ true → (k ≡ 0) × (is_accepted r ≡ true)
unless-read zero at r e = (refl, e)
unless-read (suc k) at r e = let z : ◌≡◌ {A = ℕ} 0 1 = cc in absurd (omega arith)

pub taken : (room at n : ℕ) (p : Phase) (s : List ℕ) (a : Act) → at < length s → a ≡ act p (kind_of (get_or s at 0))
    → is_accepted (judge room at n p (drop at s)) ≡ true
    → (fault room n p a ≡ 0) × (is_accepted (judge room (at + 1) (counted n a) (to p a) (drop (at + 1) s)) ≡ true)
taken room at n p s a h e r =
    unless-read (fault room n p a) at (judge room (at + 1) (counted n a) (to p a) (drop (at + 1) s)) (sym (ap is_accepted (judge-at room at n p s a h e)) ∙ r)

pub cond_zero : (t : Bool) (k : ℕ) → cond t (suc k) 0 ≡ 0 → t ≡ false
cond_zero true k e = absurd (omega arith)
cond_zero false k e = refl

pub not_deep : (d : ℕ) → ◌≡◌ {A = ℕ} (cond (leb deepest d) too_deep 0) 0 → d < deepest
not_deep d e = leb-false deepest d (cond_zero (leb deepest d) (too_deep - 1) e)

pub not_full : (room n : ℕ) → ◌≡◌ {A = ℕ} (cond (leb room n) no_node_room 0) 0 → n < room
not_full room n e = leb-false room n (cond_zero (leb room n) (no_node_room - 1) e)

pub not_ended : {A : Type 0} (room at n d : ℕ) (m : Mode) (s : List ℕ) → length s ≤ at → is_accepted (judge room at n (inside d m) (drop at s)) ≡ true → A
not_ended room at n d m s h r =
    let f : false ≡ true = sym (ap is_accepted (judge-end room at n d m s h)) ∙ r in
    let z : ◌≡◌ {A = ℕ} 0 1 = cc in absurd (omega arith)
