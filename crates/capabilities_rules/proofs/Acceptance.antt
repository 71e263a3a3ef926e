-- A string is accepted exactly if it is of the grammar and within the limits of depth, room and length, and its nodes are then those of its words.
use Prim.Native.Nat.{ℕ, ◌+◌}
use mathlib.Core.Path.{◌≡◌, refl, sym, ap, ◌∙◌}
use mathlib.Core.Bool.{true}
use mathlib.Core.List.{List, [], ◌∷◌, append-nil}
use mathlib.Core.Option.{some}
use native.Mathlib.Omega.{arith}
use Rattle.capabilities_rules.specs.Limits.{no_parent}
use Rattle.capabilities_rules.specs.Machine.{run_by, kind_of, Phase, before, inside, after, act, to, moved, run}
use Rattle.capabilities_rules.specs.Outcome.{judge, unless, fault, counted, ending, outcome, is_accepted, Accepted}
use Rattle.capabilities_rules.specs.Nodes.{nodes, nodes_of}
use Rattle.capabilities_rules.specs.Grammar.{Items, Text, size, nodes_from, Fits}
use Rattle.capabilities_rules.specs.Kinds.{Act}
use Rattle.capabilities_rules.specs.Kinds.{Enter, Leave, Begin, Extend, Skip, Refuse}
use Rattle.capabilities_rules.proofs.Laws.{unless-read}
use Rattle.capabilities_rules.proofs.Whole.{accepted, outcome-short}
use Rattle.capabilities_rules.proofs.Walk.{walk_text}
use Rattle.capabilities_rules.proofs.Parse.{complete}

act_taken : (room n at : ℕ) (p : Phase) (s : List ℕ) (a : Act) → (is_accepted (judge room (at + 1) (counted n a) (to p a) s) ≡ true → run (to p a) s ≡ some after)
    → is_accepted (unless (fault room n p a) at (judge room (at + 1) (counted n a) (to p a) s)) ≡ true → moved a (run (to p a) s) ≡ some after
act_taken room n at p s Enter ih r = ih (unless-read (fault room n p Enter) at (judge room (at + 1) n (to p Enter) s) r).1
act_taken room n at p s Leave ih r = ih r
act_taken room n at p s Begin ih r = ih (unless-read (fault room n p Begin) at (judge room (at + 1) (n + 1) (to p Begin) s) r).1
act_taken room n at p s Extend ih r = ih r
act_taken room n at p s Skip ih r = ih r
act_taken room n at p s Refuse ih r = let z : ◌≡◌ {A = ℕ} 0 1 = cc in absurd (omega arith)

ending-after : (at n : ℕ) (p : Phase) → is_accepted (ending at n p) ≡ true → p ≡ after
ending-after at n before r = let z : ◌≡◌ {A = ℕ} 0 1 = cc in absurd (omega arith)
ending-after at n (inside d m) r = let z : ◌≡◌ {A = ℕ} 0 1 = cc in absurd (omega arith)
ending-after at n after r = refl

pub judge-run : (room : ℕ) (s : List ℕ) (at n : ℕ) (p : Phase) → is_accepted (judge room at n p s) ≡ true → run p s ≡ some after
unfolding judge run_by
judge-run room [] at n p r = ap some (ending-after at n p r)
judge-run room (b ∷ s) at n p r = act_taken room n at p s (act p (kind_of b)) (judge-run room s (at + 1) (counted n (act p (kind_of b))) (to p (act p (kind_of b)))) r

-- what fits is accepted, with as many nodes as it has words
pub fits_read : (room : ℕ) (s : List ℕ) (xs : Items) → Fits room s xs → outcome room s ≡ Accepted (size xs)
unfolding judge
fits_read room s xs f = outcome-short room s f.short ∙ (walk_text f.grammar).judged room f.roomy f.deep

-- what is accepted fits
pub read_fits : (room k : ℕ) (s : List ℕ) → outcome room s ≡ Accepted k → (xs : Items) × Fits room s xs × (k ≡ size xs)
read_fits room k s e =
    let a = accepted room k s e in
    let j : judge room 0 0 before s ≡ Accepted k = sym (outcome-short room s a.small) ∙ e in
    let c = complete s (judge-run room s 0 0 before (ap is_accepted j)) in
    let b = (walk_text c.1).bounded room (ap is_accepted j) in
    let f : Fits room s c.0 = record { grammar = c.1; deep = b.0; roomy = b.1 (omega arith); short = a.small } in
    let g = fits_read room s c.0 f in
    (c.0, f, cc)

-- the nodes of a text are those of its words
pub text-nodes : (s : List ℕ) (xs : Items) → Text xs s → nodes_of s ≡ nodes_from no_parent 0 xs
unfolding nodes nodes_of
text-nodes s xs t = (walk_text t).noded ∙ append-nil (nodes_from no_parent 0 xs)
