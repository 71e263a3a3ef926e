-- The whole text: the outer group's brackets, the number of nodes, and what an accepted string begins with.
use Prim.Native.Nat.{ℕ, zero, suc, ◌+◌, ◌≤◌, ◌<◌}
use mathlib.Core.Path.{◌≡◌, refl, sym, ap, ◌∙◌}
use mathlib.Core.Bool.{Bool, true, false, cond}
use mathlib.Core.List.{List, [], ◌∷◌}
use native.Mathlib.Omega.{arith}
use lib.Dec.{leb, eqb}
use lib.ListN.{length, get_or, drop, drop_of_length-le}
use borrow.Author.Tests.{le-leb, lt-leb, leb-true, leb-false, eqb-true, eqb-false}
use Rattle.message_rules.specs.Answer.{text_too_long, wrong_grammar}
use Rattle.message_rules.specs.Limits.{longest_text}
use Rattle.capabilities_rules.specs.Limits.{no_parent}
use Rattle.capabilities_rules.specs.Machine.{kind_of, Phase, before, inside, after, act, to}
use Rattle.capabilities_rules.specs.Outcome.{judge, unless, fault, counted, Refused, ending, outcome, Reading, Accepted}
use Rattle.capabilities_rules.specs.Nodes.{nodes, node_at, begun, stack, top, latest}
use Rattle.capabilities_rules.specs.Grammar.{Node}
use Rattle.capabilities_rules.specs.Kinds.{Open, Close, Space, Letter, Zero, Other}
use Rattle.capabilities_rules.specs.Kinds.{Free}
use Rattle.capabilities_rules.specs.Kinds.{Act}
use Rattle.capabilities_rules.specs.Kinds.{Enter, Leave, Begin, Extend, Skip, Refuse}
use Rattle.capabilities_rules.specs.Kinds.{ByteKind}
use Rattle.capabilities_rules.proofs.Bytes.{KindIs, kind-is}
use Rattle.capabilities_rules.proofs.Laws.{judge-at, nodes-at, not_full}

-- the first byte
pub opening : (b : ℕ) → b ≡ 0x28 → Enter ≡ act before (kind_of b)
unfolding kind_of
opening b e = sym (ap (λ (x : ℕ). act before (kind_of x)) e)

shut : (b : ℕ) (κ : ByteKind) → KindIs b κ → (b ≡ 0x28 → ⊥) → Refuse ≡ act before κ
shut b Open k ne = absurd (ne k)
shut b Close k ne = refl
shut b Space k ne = refl
shut b Letter k ne = refl
shut b Zero k ne = refl
shut b Other k ne = refl

pub no_opening : (b : ℕ) → (b ≡ 0x28 → ⊥) → Refuse ≡ act before (kind_of b)
no_opening b ne = shut b (kind_of b) (kind-is b) ne

-- what a byte does behind the outer group: a zero is skipped, any other refused
pub data Behind (b : ℕ) : Act → Type 0 where
  is_zero : b ≡ 0 → Behind b Skip
  is-other : Behind b Refuse

behind-kind : (b : ℕ) (κ : ByteKind) → KindIs b κ → Behind b (act after κ)
behind-kind b Open k = is-other
behind-kind b Close k = is-other
behind-kind b Space k = is-other
behind-kind b Letter k = is-other
behind-kind b Zero k = is_zero k
behind-kind b Other k = is-other

pub behind : (b : ℕ) → Behind b (act after (kind_of b))
behind b = behind-kind b (kind_of b) (kind-is b)

zero_skipped : (b : ℕ) → b ≡ 0 → Skip ≡ act after (kind_of b)
unfolding kind_of
zero_skipped b e = sym (ap (λ (x : ℕ). act after (kind_of x)) e)

other-refused : {b : ℕ} {a : Act} → Behind b a → (b ≡ 0 → ⊥) → Refuse ≡ a
other-refused (is_zero e) ne = absurd (ne e)
other-refused is-other ne = refl

module _ (room : ℕ) (s : List ℕ) where
  pub outcome-long : longest_text < length s → outcome room s ≡ Refused text_too_long 0
  unfolding outcome
  outcome-long h = ap (λ (t : Bool). cond t (judge room 0 0 before s) (Refused text_too_long 0)) (lt-leb (length s) longest_text h)

  pub outcome-short : length s ≤ longest_text → outcome room s ≡ judge room 0 0 before s
  unfolding outcome
  outcome-short h = ap (λ (t : Bool). cond t (judge room 0 0 before s) (Refused text_too_long 0)) (le-leb (length s) longest_text h)

  pub judge-none : length s ≡ 0 → judge room 0 0 before s ≡ Refused wrong_grammar 0
  unfolding judge
  judge-none h = ap (judge room 0 0 before) (drop_of_length-le s {i = 0} (omega arith))

  pub judge_shut : 0 < length s → (get_or s 0 0 ≡ 0x28 → ⊥) → judge room 0 0 before s ≡ Refused wrong_grammar 0
  judge_shut h ne = judge-at room 0 0 before s Refuse h (no_opening (get_or s 0 0) ne)

  pub judge_open : 0 < length s → get_or s 0 0 ≡ 0x28 → judge room 0 0 before s ≡ judge room 1 0 (inside 0 Free) (drop 1 s)
  judge_open h e = judge-at room 0 0 before s Enter h (opening (get_or s 0 0) e)

  pub nodes_open : 0 < length s → get_or s 0 0 ≡ 0x28 → nodes 0 0 [] before s ≡ nodes 1 0 (no_parent ∷ []) (inside 0 Free) (drop 1 s)
  nodes_open h e = nodes-at 0 0 [] before s Enter h (opening (get_or s 0 0) e)

  -- past the outer group only 00 may follow
  pub judge-more : (at n : ℕ) → at < length s → (get_or s at 0 ≡ 0 → ⊥) → judge room at n after (drop at s) ≡ Refused wrong_grammar at
  judge-more at n h ne = judge-at room at n after s Refuse h (other-refused (behind (get_or s at 0)) ne)

  pub judge-zero : (at n : ℕ) → at < length s → get_or s at 0 ≡ 0 → judge room at n after (drop at s) ≡ judge room (at + 1) n after (drop (at + 1) s)
  judge-zero at n h e = judge-at room at n after s Skip h (zero_skipped (get_or s at 0) e)

  pub judge-done : (at n : ℕ) → length s ≤ at → judge room at n after (drop at s) ≡ Accepted n
  unfolding judge
  judge-done at n h = ap (judge room at n after) (drop_of_length-le s h)

-- ---- the number of nodes

unless-is : (k at n : ℕ) (r : Reading) → unless k at r ≡ Accepted n → (k ≡ 0) × (r ≡ Accepted n)
unless-is zero at n r e = (refl, e)
unless-is (suc k) at n r e = let z : ◌≡◌ {A = ℕ} 0 1 = cc in absurd (omega arith)

-- an accepted text has as many nodes as the answer says, and room for them
abbrev Counts : (room n k : ℕ) → List Node → Type 0
Counts room n k xs = (n + length xs ≡ k) × (n ≤ room → k ≤ room)

ended : (room at n k : ℕ) (p : Phase) → ending at n p ≡ Accepted k → Counts room n k []
ended room at n k before e = let z : ◌≡◌ {A = ℕ} 0 1 = cc in absurd (omega arith)
ended room at n k (inside d m) e = let z : ◌≡◌ {A = ℕ} 0 1 = cc in absurd (omega arith)
ended room at n k after e = let z : n ≡ k = cc in omega arith

on : (room at n k : ℕ) (p : Phase) (s : List ℕ) (x : Node) (ps : List ℕ) (a : Act)
    → ((n : ℕ) (ps : List ℕ) (p : Phase) → judge room (at + 1) n p s ≡ Accepted k → Counts room n k (nodes (at + 1) n ps p s))
    → unless (fault room n p a) at (judge room (at + 1) (counted n a) (to p a) s) ≡ Accepted k
    → Counts room n k (begun a x (nodes (at + 1) (counted n a) (stack a n ps) (to p a) s))
on room at n k p s x ps Enter ih e = ih n (latest n ∷ ps) (to p Enter) (unless-is (fault room n p Enter) at k (judge room (at + 1) n (to p Enter) s) e).1
on room at n k p s x ps Leave ih e = ih n (stack Leave n ps) (to p Leave) (unless-is (fault room n p Leave) at k (judge room (at + 1) n (to p Leave) s) e).1
on room at n k p s x ps Begin ih e =
    let u = unless-is (fault room n p Begin) at k (judge room (at + 1) (n + 1) (to p Begin) s) e in
    let more : n < room = not_full room n u.0 in
    let c = ih (n + 1) ps (to p Begin) u.1 in
    let fits = c.1 (omega arith) in
    (omega (arith, c.0), λ h. fits)
on room at n k p s x ps Extend ih e = ih n ps (to p Extend) (unless-is (fault room n p Extend) at k (judge room (at + 1) n (to p Extend) s) e).1
on room at n k p s x ps Skip ih e = ih n ps (to p Skip) (unless-is (fault room n p Skip) at k (judge room (at + 1) n (to p Skip) s) e).1
on room at n k p s x ps Refuse ih e = let u = (unless-is wrong_grammar at k (judge room (at + 1) n (to p Refuse) s) e).0 in absurd (omega arith)

pub judge-count : (room at k : ℕ) (s : List ℕ) (n : ℕ) (ps : List ℕ) (p : Phase) → judge room at n p s ≡ Accepted k → Counts room n k (nodes at n ps p s)
unfolding judge nodes
judge-count room at k [] n ps p e = ended room at n k p e
judge-count room at k (b ∷ s) n ps p e = on room at n k p s (node_at at (top ps) (b ∷ s)) ps (act p (kind_of b)) (judge-count room (at + 1) k s) e

-- ---- an accepted text, and what the filler leaves

pub record Whole (room n : ℕ) (s : List ℕ) : Type 0 where
  pub small : length s ≤ longest_text
  pub some : 0 < length s
  pub opens : get_or s 0 0 ≡ 0x28
  pub inner : judge room 1 0 (inside 0 Free) (drop 1 s) ≡ Accepted n

not_refused : {A : Type 0} (k at n : ℕ) (r : Reading) → r ≡ Refused k at → r ≡ Accepted n → A
not_refused k at n r e f = let z : ◌≡◌ {A = ℕ} 0 1 = cc in absurd (omega arith)

pub accepted : (room n : ℕ) (s : List ℕ) → outcome room s ≡ Accepted n → Whole room n s
accepted room n s e = length-of (leb (length s) longest_text) refl
  where
    first : length s ≤ longest_text → 0 < length s → (t : Bool) → eqb (get_or s 0 0) 0x28 ≡ t → Whole room n s
    first h more true f =
        let o : get_or s 0 0 ≡ 0x28 = eqb-true (get_or s 0 0) 0x28 f in
        record { small = h; some = more; opens = o; inner = sym (judge_open room s more o) ∙ sym (outcome-short room s h) ∙ e }
    first h more false f =
        not_refused wrong_grammar 0 n (outcome room s) (outcome-short room s h ∙ judge_shut room s more (eqb-false (get_or s 0 0) 0x28 f)) e

    any : length s ≤ longest_text → (t : Bool) → leb 1 (length s) ≡ t → Whole room n s
    any h true f = first h (leb-true 1 (length s) f) (eqb (get_or s 0 0) 0x28) refl
    any h false f = not_refused wrong_grammar 0 n (outcome room s) (outcome-short room s h ∙ judge-none room s (omega (arith, leb-false 1 (length s) f))) e

    length-of : (t : Bool) → leb (length s) longest_text ≡ t → Whole room n s
    length-of true f = any (leb-true (length s) longest_text f) (leb 1 (length s)) refl
    length-of false f = not_refused text_too_long 0 n (outcome room s) (outcome-long room s (leb-false (length s) longest_text f)) e

-- past the outer group there are no nodes
none-begun : {b : ℕ} {a : Act} → Behind b a → (x : Node) (r : List Node) → r ≡ [] → begun a x r ≡ []
none-begun (is_zero z) x r e = e
none-begun is-other x r e = refl

pub nodes-past : (s : List ℕ) (at n : ℕ) (ps : List ℕ) → nodes at n ps after s ≡ []
unfolding nodes
nodes-past [] at n ps = refl
nodes-past (b ∷ s) at n ps =
    let a : Act = act after (kind_of b) in
    none-begun (behind b) (node_at at (top ps) (b ∷ s)) (nodes (at + 1) (counted n a) (stack a n ps) after s) (nodes-past s (at + 1) (counted n a) (stack a n ps))
