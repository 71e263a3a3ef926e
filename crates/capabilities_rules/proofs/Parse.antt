-- What the machine passes is of the grammar: from where it stands to where it ends lie the rest of a list, a ")", and what follows.
use Prim.Native.Nat.{ℕ, zero, suc, ◌+◌, ◌≤◌}
use mathlib.Core.Path.{◌≡◌, refl, sym, ap, ap₂, ◌∙◌, subst}
use mathlib.Core.List.{List, [], ◌∷◌, ◌++◌, append_assoc}
use mathlib.Core.Option.{Option, none, some}
use native.Mathlib.Omega.{arith}
use lib.ListN.{length, length-append}
use lib.Seq.{append_snoc}
use Rattle.capabilities_rules.specs.Machine.{run_by, kind_of, Phase, before, inside, after, act, act_of, to, leaving, moved, run}
use Rattle.capabilities_rules.specs.Grammar.{IsLetter, Letters, last, more, Spaces, no-space, one-space, Items, word, group, ListAt, ends, spaced, worded, grouped, Text, text, Zeros, no_zero, one-zero}
use Rattle.capabilities_rules.specs.Kinds.{ByteKind}
use Rattle.capabilities_rules.specs.Kinds.{Open, Close, Space, Letter, Zero, Other}
use Rattle.capabilities_rules.specs.Kinds.{Mode}
use Rattle.capabilities_rules.specs.Kinds.{Free, Word, Gap}
use Rattle.capabilities_rules.specs.Kinds.{Act}
use Rattle.capabilities_rules.proofs.Bytes.{KindIs, kind-is, space_apart}
use Rattle.capabilities_rules.proofs.Whole.{Behind, is_zero, is-other, behind}

-- t continues a list from a mode: from Free it is a list; within a word, or past a word and spaces, it is a list together with these
abbrev pub Continues : Mode → ℕ → List ℕ → Type 0
Continues Free at t = (xs : Items) × ListAt at xs t
Continues Word at t = (a : ℕ) (w : List ℕ) → Letters w → at ≡ a + length w → (xs : Items) × ListAt a xs (w ++ t)
Continues Gap at t = (a : ℕ) (w g : List ℕ) → Letters w → Spaces g → at ≡ a + length w + 1 + length g → (xs : Items) × ListAt a xs (w ++ 0x20 ∷ (g ++ t))

pub record Parsed (d at : ℕ) (m : Mode) (s : List ℕ) : Type 0 where
  pub part : List ℕ
  pub rest : List ℕ
  pub split : s ≡ part ++ 0x29 ∷ rest
  pub goes : run (leaving d) rest ≡ some after
  pub list : Continues m at part

-- the induction: what holds of every shorter list
abbrev Shorter : ℕ → Type 0
Shorter k = (s : List ℕ) → length s ≤ k → (d at : ℕ) (m : Mode) → run (inside d m) s ≡ some after → Parsed d at m s

moving : {at at' : ℕ} {xs : Items} {s : List ℕ} → at ≡ at' → ListAt at xs s → ListAt at' xs s
moving {xs = xs} {s = s} e r = subst (λ (a : ℕ). ListAt a xs s) e r

spaces-before : {g : List ℕ} {xs : Items} {t : List ℕ} (at at' : ℕ) → at' ≡ at + length g → Spaces g → ListAt at' xs t → ListAt at xs (g ++ t)
spaces-before at at' e no-space r = moving (omega arith) r
spaces-before at at' e (one-space sg) r = spaced (spaces-before (at + 1) at' (omega arith) sg r)

spaces-turn : {g : List ℕ} (t : List ℕ) → Spaces g → 0x20 ∷ (g ++ t) ≡ g ++ 0x20 ∷ t
spaces-turn t no-space = refl
spaces-turn t (one-space sg) = ap (λ (l : List ℕ). 0x20 ∷ l) (spaces-turn t sg)

one-more_letter : {w : List ℕ} {b : ℕ} → Letters w → IsLetter b → Letters (w ++ b ∷ [])
one-more_letter (last l) k = more l (last k)
one-more_letter (more l lw) k = more l (one-more_letter lw k)

-- the inner group of a word, and what follows it, as parts of s
record Inner (d at : ℕ) (s : List ℕ) : Type 0 where
  inner : List ℕ
  outer : List ℕ
  rest : List ℕ
  split : s ≡ (inner ++ 0x29 ∷ outer) ++ 0x29 ∷ rest
  goes : run (leaving d) rest ≡ some after
  ys : Items
  first : ListAt (at + 1) ys inner
  xs : Items
  second : ListAt (at + 1 + length inner + 1) xs outer

inner_of : (k : ℕ) → Shorter k → (d at : ℕ) (s : List ℕ) → length s ≤ k → run (inside (suc d) Free) s ≡ some after → Inner d at s
inner_of k ih d at s h e =
    let p = ih s h (suc d) (at + 1) Free e in
    let shorter : length p.rest ≤ k = omega (arith, ap length p.split, length-append p.part (0x29 ∷ p.rest)) in
    let q = ih p.rest shorter d (at + 1 + length p.part + 1) Free p.goes in
    record {
      inner = p.part;
      outer = q.part;
      rest = q.rest;
      split = p.split ∙ ap (λ (l : List ℕ). p.part ++ 0x29 ∷ l) q.split ∙ sym (append_assoc p.part (0x29 ∷ q.part) (0x29 ∷ q.rest));
      goes = q.goes;
      ys = p.list.0;
      first = p.list.1;
      xs = q.list.0;
      second = q.list.1;
    }

pub none-some : {A : Type 0} {q : Phase} → ◌≡◌ {A = Option Phase} none (some q) → A
none-some e = let z : ◌≡◌ {A = ℕ} 0 1 = cc in absurd (omega arith)

not_ended : {A : Type 0} (d : ℕ) (m : Mode) → ◌≡◌ {A = Option Phase} (some (inside d m)) (some after) → A
not_ended d m e = let z : ◌≡◌ {A = ℕ} 0 1 = cc in absurd (omega arith)

by_kind : (k : ℕ) → Shorter k → (d at : ℕ) (b : ℕ) (s : List ℕ) → length s ≤ k → (m : Mode) (κ : ByteKind) → KindIs b κ
    → moved (act_of m κ) (run (to (inside d m) (act_of m κ)) s) ≡ some after → Parsed d at m (b ∷ s)
by_kind k ih d at b s h Free Open e r = none-some r
by_kind k ih d at b s h Free Close e r = record { part = []; rest = s; split = ap (λ (x : ℕ). x ∷ s) e; goes = r; list = (Items.none, ends) }
by_kind k ih d at b s h Free Space e r =
    let p = ih s h d (at + 1) Free r in
    record { part = 0x20 ∷ p.part; rest = p.rest; split = ap₂ (λ (x : ℕ) (l : List ℕ). x ∷ l) e p.split; goes = p.goes; list = (p.list.0, spaced p.list.1) }
by_kind k ih d at b s h Free Letter e r =
    let p = ih s h d (at + 1) Word r in
    record { part = b ∷ p.part; rest = p.rest; split = ap (λ (l : List ℕ). b ∷ l) p.split; goes = p.goes; list = p.list at (b ∷ []) (last e) refl }
by_kind k ih d at b s h Free Zero e r = none-some r
by_kind k ih d at b s h Free Other e r = none-some r
by_kind k ih d at b s h Word Open e r =
    let i = inner_of k ih d at s h r in
    record {
      part = 0x28 ∷ (i.inner ++ 0x29 ∷ i.outer);
      rest = i.rest;
      split = ap₂ (λ (x : ℕ) (l : List ℕ). x ∷ l) e i.split;
      goes = i.goes;
      list = λ a w lw f. (group a (length w) i.ys i.xs, grouped {at = a} {w = w} {g = []} {t = i.inner} lw no-space (moving (omega arith) i.first) (moving (omega arith) i.second));
    }
by_kind k ih d at b s h Word Close e r = record { part = []; rest = s; split = ap (λ (x : ℕ). x ∷ s) e; goes = r; list = λ a w lw f. (word a (length w) Items.none, worded lw tt ends) }
by_kind k ih d at b s h Word Space e r =
    let p = ih s h d (at + 1) Gap r in
    record { part = 0x20 ∷ p.part; rest = p.rest; split = ap₂ (λ (x : ℕ) (l : List ℕ). x ∷ l) e p.split; goes = p.goes; list = λ a w lw f. p.list a w [] lw no-space (omega arith) }
by_kind k ih d at b s h Word Letter e r =
    let p = ih s h d (at + 1) Word r in
    record {
      part = b ∷ p.part;
      rest = p.rest;
      split = ap (λ (l : List ℕ). b ∷ l) p.split;
      goes = p.goes;
      list = λ a w lw f.
          let q = p.list a (w ++ b ∷ []) (one-more_letter lw e) (omega (arith, length-append w (b ∷ []))) in
          (q.0, subst (λ (l : List ℕ). ListAt a q.0 l) (append_snoc w b p.part) q.1);
    }
by_kind k ih d at b s h Word Zero e r = none-some r
by_kind k ih d at b s h Word Other e r = none-some r
by_kind k ih d at b s h Gap Open e r =
    let i = inner_of k ih d at s h r in
    record {
      part = 0x28 ∷ (i.inner ++ 0x29 ∷ i.outer);
      rest = i.rest;
      split = ap₂ (λ (x : ℕ) (l : List ℕ). x ∷ l) e i.split;
      goes = i.goes;
      list = λ a w g lw sg f. (group a (length w) i.ys i.xs, grouped {at = a} {w = w} {g = 0x20 ∷ g} {t = i.inner} lw (one-space sg) (moving (omega arith) i.first) (moving (omega arith) i.second));
    }
by_kind k ih d at b s h Gap Close e r = record {
  part = [];
  rest = s;
  split = ap (λ (x : ℕ). x ∷ s) e;
  goes = r;
  list = λ a w g lw sg f. (word a (length w) Items.none, worded {at = a} {w = w} lw space_apart (spaced (spaces-before (a + length w + 1) (a + length w + 1 + length g) refl sg ends)));
}
by_kind k ih d at b s h Gap Space e r =
    let p = ih s h d (at + 1) Gap r in
    record {
      part = 0x20 ∷ p.part;
      rest = p.rest;
      split = ap₂ (λ (x : ℕ) (l : List ℕ). x ∷ l) e p.split;
      goes = p.goes;
      list = λ a w g lw sg f.
          let q = p.list a w (0x20 ∷ g) lw (one-space sg) (omega arith) in
          (q.0, subst (λ (l : List ℕ). ListAt a q.0 (w ++ 0x20 ∷ l)) (spaces-turn p.part sg) q.1);
    }
by_kind k ih d at b s h Gap Letter e r =
    let p = ih s h d (at + 1) Word r in
    record {
      part = b ∷ p.part;
      rest = p.rest;
      split = ap (λ (l : List ℕ). b ∷ l) p.split;
      goes = p.goes;
      list = λ a w g lw sg f.
          let q = p.list at (b ∷ []) (last e) refl in
          (word a (length w) q.0, worded lw space_apart (spaced (spaces-before (a + length w + 1) at f sg q.1)));
    }
by_kind k ih d at b s h Gap Zero e r = none-some r
by_kind k ih d at b s h Gap Other e r = none-some r

none_left : Shorter 0
unfolding run_by
none_left [] h d at m e = not_ended d m e
none_left (b ∷ s) h d at m e = absurd (omega arith)

one_left : (k : ℕ) → Shorter k → Shorter (suc k)
unfolding run_by
one_left k ih [] h d at m e = not_ended d m e
one_left k ih (b ∷ s) h d at m e = by_kind k ih d at b s (omega arith) m (kind_of b) (kind-is b) e

pub parse : (k : ℕ) → Shorter k
parse zero = none_left
parse (suc k) = one_left k (parse k)

-- a text that the machine passes to its end is of the grammar
first_kind : (b : ℕ) (s : List ℕ) (κ : ByteKind) → KindIs b κ → moved (act before κ) (run (to before (act before κ)) s) ≡ some after → (b ≡ 0x28) × (run (inside 0 Free) s ≡ some after)
first_kind b s Open e r = (e, r)
first_kind b s Close e r = none-some r
first_kind b s Space e r = none-some r
first_kind b s Letter e r = none-some r
first_kind b s Zero e r = none-some r
first_kind b s Other e r = none-some r

-- behind the outer group it passes zeros alone
pub passes_zero : {b : ℕ} {a : Act} {r : Option Phase} {q : Phase} → Behind b a → moved a r ≡ some q → (b ≡ 0) × (r ≡ some q)
passes_zero (is_zero z) e = (z, e)
passes_zero is-other e = none-some e

past_end : (s : List ℕ) → run after s ≡ some after → Zeros s
unfolding run_by
past_end [] e = no_zero
past_end (b ∷ s) e = let f = passes_zero (behind b) e in subst (λ (x : ℕ). Zeros (x ∷ s)) (sym f.0) (one-zero (past_end s f.1))

pub complete : (s : List ℕ) → run before s ≡ some after → (xs : Items) × Text xs s
unfolding run_by
complete [] e = let z : ◌≡◌ {A = ℕ} 0 1 = cc in absurd (omega arith)
complete (b ∷ s) e =
    let f = first_kind b s (kind_of b) (kind-is b) e in
    let p = parse (length s) s (omega arith) 0 1 Free f.1 in
    let whole : 0x28 ∷ (p.part ++ 0x29 ∷ p.rest) ≡ b ∷ s = sym (ap₂ (λ (x : ℕ) (l : List ℕ). x ∷ l) f.0 p.split) in
    (p.list.0, subst (Text p.list.0) whole (text p.list.1 (past_end p.rest p.goes)))
