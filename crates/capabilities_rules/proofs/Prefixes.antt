-- The machine passes exactly the bytes that could still begin a text; with a cap on depth, exactly those that could begin one of depth at most 8.
use Prim.Native.Nat.{ℕ, zero, suc, ◌+◌, ◌≤◌, ◌<◌}
use mathlib.Core.Path.{◌≡◌, refl, ap, ◌∙◌}
use mathlib.Core.Bool.{Bool, true, false, cond}
use mathlib.Core.List.{List, [], ◌∷◌, ◌++◌, append_assoc}
use mathlib.Core.Option.{Option, some}
use native.Mathlib.Omega.{arith}
use lib.Dec.{leb}
use lib.ListN.{length}
use borrow.Author.Tests.{lt-leb}
use Rattle.message_rules.specs.Answer.{no_node_room, too_deep}
use Rattle.capabilities_rules.specs.Limits.{deepest}
use Rattle.capabilities_rules.specs.Machine.{run_by, kind_of, Phase, before, inside, after, act, act_of, to, depth, moved, capped, run_capped, uncapped, run, leaving}
use Rattle.capabilities_rules.specs.Outcome.{judge, unless, fault, counted, ending, is_accepted}
use Rattle.capabilities_rules.specs.Grammar.{size}
use Rattle.capabilities_rules.specs.Prefixes.{ViableCapped, Viable}
use Rattle.capabilities_rules.specs.Kinds.{Close}
use Rattle.capabilities_rules.specs.Kinds.{Mode}
use Rattle.capabilities_rules.specs.Kinds.{Free, Word, Gap}
use Rattle.capabilities_rules.specs.Kinds.{Act}
use Rattle.capabilities_rules.specs.Kinds.{Enter, Leave, Begin, Extend, Skip, Refuse}
use Rattle.capabilities_rules.proofs.Laws.{unless-read}
use Rattle.capabilities_rules.proofs.Walk.{walk_text}
use Rattle.capabilities_rules.proofs.Parse.{none-some, complete}
use Rattle.capabilities_rules.proofs.Acceptance.{judge-run}

-- ---- the capped machine and the judge, with room for as many nodes as there are bytes

enter_free : (t : Bool) (r : Option Phase) (q : Phase) → moved (cond t Refuse Enter) r ≡ some q → (t ≡ false) × (r ≡ some q)
enter_free true r q e = none-some e
enter_free false r q e = (refl, e)

accept : (room at n : ℕ) (p : Phase) (s : List ℕ) (a : Act) → n < room
    → (run_capped (to p a) s ≡ some after → is_accepted (judge room (at + 1) (counted n a) (to p a) s) ≡ true)
    → moved (capped p a) (run_capped (to p a) s) ≡ some after → is_accepted (unless (fault room n p a) at (judge room (at + 1) (counted n a) (to p a) s)) ≡ true
accept room at n p s Enter h ih e =
    let f = enter_free (leb deepest (depth p)) (run_capped (to p Enter) s) after e in
    ap (λ (t : Bool). is_accepted (unless (cond t too_deep 0) at (judge room (at + 1) n (to p Enter) s))) f.0 ∙ ih f.1
accept room at n p s Leave h ih e = ih e
accept room at n p s Begin h ih e = ap (λ (t : Bool). is_accepted (unless (cond t no_node_room 0) at (judge room (at + 1) (n + 1) (to p Begin) s))) (lt-leb room n h) ∙ ih e
accept room at n p s Extend h ih e = ih e
accept room at n p s Skip h ih e = ih e
accept room at n p s Refuse h ih e = none-some e

counted-one : (n : ℕ) (a : Act) → counted n a ≤ n + 1
counted-one n Enter = omega arith
counted-one n Leave = omega arith
counted-one n Begin = omega arith
counted-one n Extend = omega arith
counted-one n Skip = omega arith
counted-one n Refuse = omega arith

capped-judge : (room : ℕ) (s : List ℕ) (at n : ℕ) (p : Phase) → n + length s ≤ room → run_capped p s ≡ some after → is_accepted (judge room at n p s) ≡ true
unfolding judge run_by
capped-judge room [] at n p h e = let z : p ≡ after = cc in ap (λ (x : Phase). is_accepted (ending at n x)) z
capped-judge room (b ∷ s) at n p h e =
    accept room at n p s (act p (kind_of b)) (omega arith) (capped-judge room s (at + 1) (counted n (act p (kind_of b))) (to p (act p (kind_of b))) (omega (arith, counted-one n (act p (kind_of b))))) e

pass : (room at n : ℕ) (p : Phase) (s : List ℕ) (a : Act)
    → (is_accepted (judge room (at + 1) (counted n a) (to p a) s) ≡ true → run_capped (to p a) s ≡ some after)
    → is_accepted (unless (fault room n p a) at (judge room (at + 1) (counted n a) (to p a) s)) ≡ true → moved (capped p a) (run_capped (to p a) s) ≡ some after
pass room at n p s Enter ih r = go (leb deepest (depth p)) r
  where
    go : (t : Bool) → is_accepted (unless (cond t too_deep 0) at (judge room (at + 1) n (to p Enter) s)) ≡ true → moved (cond t Refuse Enter) (run_capped (to p Enter) s) ≡ some after
    go true r = let z : ◌≡◌ {A = ℕ} 0 1 = cc in absurd (omega arith)
    go false r = ih r
pass room at n p s Leave ih r = ih r
pass room at n p s Begin ih r = ih (unless-read (fault room n p Begin) at (judge room (at + 1) (n + 1) (to p Begin) s) r).1
pass room at n p s Extend ih r = ih r
pass room at n p s Skip ih r = ih r
pass room at n p s Refuse ih r = let z : ◌≡◌ {A = ℕ} 0 1 = cc in absurd (omega arith)

ended_after : (at n : ℕ) (p : Phase) → is_accepted (ending at n p) ≡ true → p ≡ after
ended_after at n before r = let z : ◌≡◌ {A = ℕ} 0 1 = cc in absurd (omega arith)
ended_after at n (inside d m) r = let z : ◌≡◌ {A = ℕ} 0 1 = cc in absurd (omega arith)
ended_after at n after r = refl

judge-capped : (room : ℕ) (s : List ℕ) (at n : ℕ) (p : Phase) → is_accepted (judge room at n p s) ≡ true → run_capped p s ≡ some after
unfolding judge run_by
judge-capped room [] at n p r = ap some (ended_after at n p r)
judge-capped room (b ∷ s) at n p r = pass room at n p s (act p (kind_of b)) (judge-capped room s (at + 1) (counted n (act p (kind_of b))) (to p (act p (kind_of b)))) r

-- ---- prefixes and continuations, whatever caps the depth

on_append : (f : Phase → Act → Act) (q : Phase) (u : List ℕ) (a : Act) (r r' : Option Phase) → (r ≡ some q → r' ≡ run_by f q u) → moved a r ≡ some q → moved a r' ≡ run_by f q u
on_append f q u Enter r r' ih e = ih e
on_append f q u Leave r r' ih e = ih e
on_append f q u Begin r r' ih e = ih e
on_append f q u Extend r r' ih e = ih e
on_append f q u Skip r r' ih e = ih e
on_append f q u Refuse r r' ih e = none-some e

pub run-append : (f : Phase → Act → Act) (q : Phase) (u s : List ℕ) (p : Phase) → run_by f p s ≡ some q → run_by f p (s ++ u) ≡ run_by f q u
unfolding run_by
run-append f q u [] p e = let z : p ≡ q = cc in ap (λ (x : Phase). run_by f x u) z
run-append f q u (b ∷ s) p e =
    on_append f q u (f p (act p (kind_of b))) (run_by f (to p (act p (kind_of b))) s) (run_by f (to p (act p (kind_of b))) (s ++ u)) (run-append f q u s (to p (act p (kind_of b)))) e

on_prefix : (a : Act) (r r' : Option Phase) (q : Phase) → (r' ≡ some q → (x : Phase) × (r ≡ some x)) → moved a r' ≡ some q → (x : Phase) × (moved a r ≡ some x)
on_prefix Enter r r' q ih e = ih e
on_prefix Leave r r' q ih e = ih e
on_prefix Begin r r' q ih e = ih e
on_prefix Extend r r' q ih e = ih e
on_prefix Skip r r' q ih e = ih e
on_prefix Refuse r r' q ih e = none-some e

pub run_prefix : (f : Phase → Act → Act) (q : Phase) (u s : List ℕ) (p : Phase) → run_by f p (s ++ u) ≡ some q → (x : Phase) × (run_by f p s ≡ some x)
unfolding run_by
run_prefix f q u [] p e = (p, refl)
run_prefix f q u (b ∷ s) p e =
    on_prefix (f p (act p (kind_of b))) (run_by f (to p (act p (kind_of b))) s) (run_by f (to p (act p (kind_of b))) (s ++ u)) q (run_prefix f q u s (to p (act p (kind_of b)))) e

-- the closing brackets that are missing inside d groups and one more
unfoldable pub closers : ℕ → List ℕ
closers zero = 0x29 ∷ []
closers (suc d) = 0x29 ∷ closers d

leaves : (m : Mode) → act_of m Close ≡ Leave
leaves Free = refl
leaves Word = refl
leaves Gap = refl

-- a cap that takes every ")" and the first "("
pub record Closable (f : Phase → Act → Act) : Type 0 where
  pub first : f before Enter ≡ Enter
  pub leave : (p : Phase) → f p Leave ≡ Leave

run_close : (f : Phase → Act → Act) → Closable f → (d : ℕ) (m : Mode) (s : List ℕ) → run_by f (inside d m) (0x29 ∷ s) ≡ run_by f (leaving d) s
unfolding run_by kind_of
run_close f c d m s =
    ap (λ (a : Act). moved (f (inside d m) a) (run_by f (to (inside d m) a) s)) (leaves m)
    ∙ ap (λ (a : Act). moved a (run_by f (leaving d) s)) (c.leave (inside d m))

run_closers : (f : Phase → Act → Act) → Closable f → (d : ℕ) (m : Mode) → run_by f (inside d m) (closers d) ≡ some after
unfolding closers run_by
run_closers f c zero m = run_close f c zero m []
run_closers f c (suc d) m = run_close f c (suc d) m (closers d) ∙ run_closers f c d Free

-- from everywhere the machine can be led to the end
pub ended : (f : Phase → Act → Act) → Closable f → (p : Phase) → (u : List ℕ) × (run_by f p u ≡ some after)
unfolding run_by kind_of
ended f c before = (0x28 ∷ 0x29 ∷ [], ap (λ (a : Act). moved a (run_by f (inside 0 Free) (0x29 ∷ []))) c.first ∙ run_close f c 0 Free [])
ended f c (inside d m) = (closers d, run_closers f c d m)
ended f c after = ([], refl)

closable : Closable uncapped
closable = record { first = refl; leave = λ p. refl }

closable_capped : Closable capped
closable_capped = record { first = refl; leave = λ p. refl }

-- ---- bytes that could still begin a text

pub run-viable : (s : List ℕ) (p : Phase) → run before s ≡ some p → Viable s
run-viable s p e =
    let u = ended uncapped closable p in
    let c = complete (s ++ u.0) (run-append uncapped p u.0 s before e ∙ u.1) in
    (u.0, c.0, c.1)

pub viable-run : (s : List ℕ) → Viable s → (p : Phase) × (run before s ≡ some p)
unfolding run_by
viable-run s v = run_prefix uncapped after v.0 s before (walk_text v.2).ran

pub capped-viable : (s : List ℕ) (p : Phase) → run_capped before s ≡ some p → ViableCapped s
capped-viable s p e =
    let u = ended capped closable_capped p in
    let t : List ℕ = s ++ u.0 in
    let r = capped-judge (length t) t 0 0 before (omega arith) (run-append capped p u.0 s before e ∙ u.1) in
    let c = complete t (judge-run (length t) t 0 0 before r) in
    (u.0, c.0, c.1, ((walk_text c.1).bounded (length t) r).0)

pub viable-capped : (s : List ℕ) → ViableCapped s → (p : Phase) × (run_capped before s ≡ some p)
unfolding judge
viable-capped s v =
    let r = (walk_text v.2).judged (size v.1) (omega arith) v.3 in
    run_prefix capped after v.0 s before (judge-capped (size v.1) (s ++ v.0) 0 0 before (ap is_accepted r))

-- what begins something that could begin a text could begin one itself
pub viable-shorter : (s u : List ℕ) → Viable (s ++ u) → Viable s
viable-shorter s u v = (u ++ v.0, v.1, rw append_assoc at v.2)
