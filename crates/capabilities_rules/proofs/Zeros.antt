-- Zero bytes behind a string: they change neither the answer nor the nodes, and any reader that meets demand 2 reads them so.
-- Assumes nothing.
use Prim.Native.Nat.{ℕ, suc, ◌+◌, ◌≤◌, ◌<◌}
use mathlib.Core.Path.{◌≡◌, refl, sym, ap, ◌∙◌, subst}
use mathlib.Core.Bool.{Bool, true, false}
use mathlib.Core.List.{List, [], ◌∷◌, ◌++◌, append_assoc}
use mathlib.Core.Option.{some}
use native.Mathlib.Omega.{arith}
use lib.Dec.{leb}
use lib.ListN.{length, get_or, take, length-append}
use lib.Seq.{take-suc}
use borrow.Author.Tests.{leb-true, leb-false}
use Rattle.capabilities_rules.specs.Grammar.{Items, Zeros, no_zero, one-zero, Text, text, Node}
use Rattle.capabilities_rules.specs.Machine.{kind_of, Phase, before, inside, after, act, to, run_by, run, uncapped}
use Rattle.capabilities_rules.specs.Outcome.{told, judge, unless, fault, counted, Refused, ending, outcome, Reading, Accepted}
use Rattle.capabilities_rules.specs.Nodes.{nodes_of}
use Rattle.capabilities_rules.specs.Buffers.{Buffers, written, Answered}
use Rattle.capabilities_rules.specs.Prefixes.{Viable, wrong_byte}
use Rattle.capabilities_rules.specs.Demand2.{room_in, Promise, Demand2}
use Rattle.capabilities_rules.specs.Zeros.{ReadAlike, ReadsZeros}
use Rattle.capabilities_rules.specs.Kinds.{Free, Word, Gap}
use Rattle.capabilities_rules.specs.Kinds.{Act}
use Rattle.capabilities_rules.proofs.Walk.{walk_text}
use Rattle.capabilities_rules.proofs.Parse.{none-some, passes_zero, complete}
use Rattle.capabilities_rules.proofs.Prefixes.{run-append, run_prefix, viable-run}
use Rattle.capabilities_rules.proofs.Whole.{behind, outcome-short, outcome-long}
use Rattle.capabilities_rules.proofs.Theorems.{theorems}
use Rattle.capabilities_rules.proofs.Demand2.{answered, refusal-leaves, demand2}

-- ---- what zeros behind a string change

both : {y z : List ℕ} → Zeros y → Zeros z → Zeros (y ++ z)
both no_zero sz = sz
both (one-zero sy) sz = one-zero (both sy sz)

-- behind a text they leave a text, with the same words
pub text-zeros : {xs : Items} {s z : List ℕ} → Text xs s → Zeros z → Text xs (s ++ z)
text-zeros {xs} {z = z} (text {t = t} {z = y} r sy) sz = subst (λ (l : List ℕ). Text xs (0x28 ∷ l)) (sym (append_assoc t (0x29 ∷ y) z)) (text r (both sy sz))

-- a zero at the end of a string that is cut short is refused where the string's end is
zeros-end : (room : ℕ) {z : List ℕ} → Zeros z → (at n : ℕ) (p : Phase) → judge room at n p z ≡ ending at n p
unfolding judge kind_of
zeros-end room no_zero at n p = refl
zeros-end room (one-zero sz) at n before = refl
zeros-end room (one-zero sz) at n (inside d Free) = refl
zeros-end room (one-zero sz) at n (inside d Word) = refl
zeros-end room (one-zero sz) at n (inside d Gap) = refl
zeros-end room (one-zero sz) at n after = zeros-end room sz (at + 1) n after

-- so wherever the machine stands, zeros behind the bytes to come change no answer
zeros-judged : (room : ℕ) {z : List ℕ} → Zeros z → (s : List ℕ) (at n : ℕ) (p : Phase) → judge room at n p (s ++ z) ≡ judge room at n p s
unfolding judge
zeros-judged room sz [] at n p = zeros-end room sz at n p
zeros-judged room sz (b ∷ s) at n p =
    let a : Act = act p (kind_of b) in
    ap (unless (fault room n p a) at) (zeros-judged room sz s (at + 1) (counted n a) (to p a))

module _ (room : ℕ) (s : List ℕ) {z : List ℕ} (sz : Zeros z) (short : length (s ++ z) ≤ 4096) where
  pub outcome-zeros : outcome room (s ++ z) ≡ outcome room s
  outcome-zeros =
      let shorter : length s ≤ 4096 = omega (arith, length-append s z) in
      outcome-short room (s ++ z) short ∙ zeros-judged room sz s 0 0 before ∙ sym (outcome-short room s shorter)

  -- what is written for the nodes of either string is the same
  written-zeros : (t : Buffers) (x : Reading) → outcome room s ≡ x → written (told x).number (nodes_of (s ++ z)) t ≡ written (told x).number (nodes_of s) t
  written-zeros t (Accepted n) e =
      let f = (theorems.accepted room n s e).1.grammar in
      ap (λ (l : List Node). written 0 l t) (theorems.noded (s ++ z) _ (text-zeros f sz) ∙ sym (theorems.noded s _ f))
  written-zeros t (Refused k p) e = refusal-leaves room k p s (nodes_of (s ++ z)) t e ∙ sym (refusal-leaves room k p s (nodes_of s) t e)

-- ---- of any reader that meets demand 2

module _ (s z : List ℕ) (t t' t'' : Buffers) (r q : Reading) (sz : Zeros z) (a : Answered s t t' r) (b : Answered (s ++ z) t t'' q) where
  alike : length (s ++ z) ≤ 4096 → (q ≡ r) × (t'' ≡ t')
  alike h =
      let e : q ≡ outcome (room_in t) s = b.answer ∙ outcome-zeros (room_in t) s sz h in
      let same : q ≡ r = e ∙ sym a.answer in
      (same, b.stored ∙ written-zeros (room_in t) s sz h t q (sym e) ∙ ap (λ (x : Reading). written (told x).number (nodes_of s) t) same ∙ sym a.stored)

  long : 4096 < length (s ++ z) → (q ≡ Refused 11 0) × (t'' ≡ t)
  long h =
      let e : q ≡ Refused 11 0 = b.answer ∙ outcome-long (room_in t) (s ++ z) h in
      (e, b.stored ∙ ap (λ (x : Reading). written (told x).number (nodes_of (s ++ z)) t) e)

  within : (told q).number ≡ 0 → length (s ++ z) ≤ 4096
  within e = go (leb (length (s ++ z)) 4096) refl
    where
      go : (x : Bool) → leb (length (s ++ z)) 4096 ≡ x → length (s ++ z) ≤ 4096
      go true f = leb-true (length (s ++ z)) 4096 f
      go false f =
          let eleven = ap (λ (x : Reading). (told x).number) (long (leb-false (length (s ++ z)) 4096 f)).0 in
          absurd (omega arith)

  read_alike : ReadAlike s z t t' t'' r q
  read_alike = record {
    accepted = λ e. (sym (ap (λ (x : Reading). (told x).number) (alike (within e)).0) ∙ e, within e);
    accepts = λ e h. ap (λ (x : Reading). (told x).number) (alike h).0 ∙ e;
    same = alike;
    counted = long;
  }

-- ---- where a zero cannot stand, and what cannot stand behind one

-- the machine takes a zero behind the outer group alone ..
takes_zero : (p : Phase) {q : Phase} → run p (0 ∷ []) ≡ some q → p ≡ after
unfolding run_by kind_of
takes_zero before e = none-some e
takes_zero (inside d Free) e = none-some e
takes_zero (inside d Word) e = none-some e
takes_zero (inside d Gap) e = none-some e
takes_zero after e = refl

-- .. and there nothing else
takes_only_zero : (b : ℕ) {q : Phase} → run after (b ∷ []) ≡ some q → b ≡ 0
unfolding run_by
takes_only_zero b e = (passes_zero (behind b) e).0

-- where a byte could stand, the machine passes what is before it, and then the byte
passes : (s : List ℕ) (p : ℕ) → p < length s → Viable (take (suc p) s) → (x : Phase) × (run before (take p s) ≡ some x) × (q : Phase) × (run x (get_or s p 0 ∷ []) ≡ some q)
passes s p h v =
    let e = viable-run (take (suc p) s) v in
    let whole : run before (take p s ++ get_or s p 0 ∷ []) ≡ some e.0 = sym (ap (run before) (take-suc s p 0 h)) ∙ e.1 in
    let x = run_prefix uncapped e.0 (get_or s p 0 ∷ []) (take p s) before whole in
    (x.0, x.1, e.0, sym (run-append uncapped x.0 (get_or s p 0 ∷ []) (take p s) before x.1) ∙ whole)

not_elsewhere : (s : List ℕ) (p : ℕ) → p < length s → ((xs : Items) → Text xs (take p s) → ⊥) → get_or s p 0 ≡ 0 → Viable (take (suc p) s) → ⊥
not_elsewhere s p h no_text is v =
    let x = passes s p h v in
    let at-end = takes_zero x.0 (subst (λ (b : ℕ). run x.0 (b ∷ []) ≡ some x.2) is x.3) in
    let c = complete (take p s) (x.1 ∙ ap some at-end) in
    no_text c.0 c.1

not_behind : (s : List ℕ) (p : ℕ) (xs : Items) → p < length s → Text xs (take p s) → (get_or s p 0 ≡ 0 → ⊥) → Viable (take (suc p) s) → ⊥
unfolding run_by
not_behind s p xs h f other v =
    let x = passes s p h v in
    let at-end : x.0 ≡ after = let u : some x.0 ≡ some after = sym x.1 ∙ (walk_text f).ran in cc in
    other (takes_only_zero (get_or s p 0) (subst (λ (y : Phase). run y (get_or s p 0 ∷ []) ≡ some x.2) at-end x.3))

-- K2 of every reader that meets demand 2
pub reads_zeros : (P : Promise) → Demand2 P → ReadsZeros P
reads_zeros P d = record {
  behind = λ s z t t' t'' r q sz a b. read_alike s z t t' t'' r q sz (answered s t t' r (d.rightly s t t' r a)) (answered (s ++ z) t t'' q (d.rightly (s ++ z) t t'' q b));
  nothing-else = λ s t t' r p xs a c h f other. (d.rightly s t t' r a).refused-there 13 p (wrong_byte c h (not_behind s p xs h f other));
  elsewhere = λ s t t' r p a c h no_text is. (d.rightly s t t' r a).refused-there 13 p (wrong_byte c h (not_elsewhere s p h no_text is));
  earlier = λ s t t' r k p q a w before within is. (d.rightly s t t' r a).refused-there k p w;
}

-- so does `capabilities_reader::read`
pub zeros-read : ReadsZeros Answered
zeros-read = reads_zeros Answered demand2
