-- Each refusal has its reason, and none comes before it: what the machine has passed when it stops, and why it stops there.
use Prim.Native.Nat.{ℕ, zero, suc, ◌+◌, ◌≤◌, ◌<◌}
use mathlib.Core.Path.{◌≡◌, refl, sym, ap, ◌∙◌, subst}
use mathlib.Core.Bool.{Bool, true, false, cond}
use mathlib.Core.List.{List, [], ◌∷◌}
use mathlib.Core.Option.{none, some}
use native.Mathlib.Omega.{arith}
use lib.Dec.{leb}
use lib.ListN.{length, get_or, take}
use lib.Seq.{take_all}
use borrow.Author.Tests.{leb-true, leb-false}
use Rattle.message_rules.specs.Answer.{wrong_grammar, no_node_room, too_deep, text_too_long}
use Rattle.message_rules.specs.Limits.{longest_text}
use Rattle.capabilities_rules.specs.Limits.{deepest}
use Rattle.capabilities_rules.specs.Machine.{kind_of, is_letter, Phase, before, inside, after, act, to, depth, leaving, run_by, run, run_capped, capped, uncapped, moved}
use Rattle.capabilities_rules.specs.Outcome.{judge, unless, fault, counted, Refused, ending, outcome, Reading, Accepted}
use Rattle.capabilities_rules.specs.Prefixes.{nest, open_after, words_in, Clear, Why, too_long, cut_short, wrong_byte, ninth-open, no_node}
use Rattle.capabilities_rules.specs.Kinds.{ByteKind}
use Rattle.capabilities_rules.specs.Kinds.{Open, Close, Space, Letter, Zero, Other}
use Rattle.capabilities_rules.specs.Kinds.{Free, Word, Gap}
use Rattle.capabilities_rules.specs.Kinds.{Act}
use Rattle.capabilities_rules.specs.Kinds.{Enter, Leave, Begin, Extend, Skip, Refuse}
use Rattle.capabilities_rules.proofs.Whole.{outcome-short, outcome-long}
use Rattle.capabilities_rules.proofs.Bytes.{KindIs, kind-is}
use Rattle.capabilities_rules.proofs.Walk.{Taken, moved_taken, walk_text}
use Rattle.capabilities_rules.proofs.Parse.{none-some}
use Rattle.capabilities_rules.proofs.Prefixes.{run-viable, viable-run, capped-viable, viable-capped}

-- whether the reader stands within a word
abbrev pub in_word : Phase → Bool
in_word before = false
in_word (inside d Free) = false
in_word (inside d Word) = true
in_word (inside d Gap) = false
in_word after = false

-- the words that a byte of kind κ begins
abbrev pub news : Bool → ByteKind → ℕ
news within κ = cond (is_letter κ) (cond within 0 1) 0

left_word : (d : ℕ) → in_word (leaving d) ≡ false
left_word zero = refl
left_word (suc d) = refl

left_depth : (d : ℕ) → depth (leaving d) ≡ d
left_depth zero = refl
left_depth (suc d) = refl

-- a byte that is taken: the nodes, the word and the depth follow the bytes alone
record Tracks (n : ℕ) (p : Phase) (κ : ByteKind) : Type 0 where
  made : counted n (act p κ) ≡ n + news (in_word p) κ
  within : in_word (to p (act p κ)) ≡ is_letter κ
  deep : depth (to p (act p κ)) ≡ nest κ (depth p)

tracks : (n : ℕ) (p : Phase) (κ : ByteKind) → Taken (act p κ) → Tracks n p κ
tracks n before Open h = record { made = omega arith; within = refl; deep = refl }
tracks n before Close h = absurd h
tracks n before Space h = absurd h
tracks n before Letter h = absurd h
tracks n before Zero h = absurd h
tracks n before Other h = absurd h
tracks n (inside d Free) Open h = absurd h
tracks n (inside d Free) Close h = record { made = omega arith; within = left_word d; deep = omega (arith, left_depth d) }
tracks n (inside d Free) Space h = record { made = omega arith; within = refl; deep = refl }
tracks n (inside d Free) Letter h = record { made = refl; within = refl; deep = refl }
tracks n (inside d Free) Zero h = absurd h
tracks n (inside d Free) Other h = absurd h
tracks n (inside d Word) Open h = record { made = omega arith; within = refl; deep = refl }
tracks n (inside d Word) Close h = record { made = omega arith; within = left_word d; deep = omega (arith, left_depth d) }
tracks n (inside d Word) Space h = record { made = omega arith; within = refl; deep = refl }
tracks n (inside d Word) Letter h = record { made = omega arith; within = refl; deep = refl }
tracks n (inside d Word) Zero h = absurd h
tracks n (inside d Word) Other h = absurd h
tracks n (inside d Gap) Open h = record { made = omega arith; within = refl; deep = refl }
tracks n (inside d Gap) Close h = record { made = omega arith; within = left_word d; deep = omega (arith, left_depth d) }
tracks n (inside d Gap) Space h = record { made = omega arith; within = refl; deep = refl }
tracks n (inside d Gap) Letter h = record { made = refl; within = refl; deep = refl }
tracks n (inside d Gap) Zero h = absurd h
tracks n (inside d Gap) Other h = absurd h
tracks n after Open h = absurd h
tracks n after Close h = absurd h
tracks n after Space h = absurd h
tracks n after Letter h = absurd h
tracks n after Zero h = record { made = omega arith; within = refl; deep = refl }
tracks n after Other h = absurd h

-- why the machine stops at the byte j of s, where it stands at `end`
data Reason (room n : ℕ) (p : Phase) (s : List ℕ) : ℕ → ℕ → Phase → Type 0 where
  cut : {j : ℕ} {end : Phase} → j ≡ length s → (end ≡ after → ⊥) → Reason room n p s wrong_grammar j end
  bad : {j : ℕ} {end : Phase} → j < length s → run p (take (suc j) s) ≡ none → Reason room n p s wrong_grammar j end
  deep : {j : ℕ} {end : Phase} (q : Phase) → j < length s → get_or s j 0 ≡ 0x28 → deepest ≤ depth end → run p (take (suc j) s) ≡ some q
      → run_capped p (take (suc j) s) ≡ none → Reason room n p s too_deep j end
  full : {j : ℕ} {end : Phase} (q : Phase) → j < length s → room ≤ n + words_in (in_word p) (take j s)
      → words_in (in_word p) (take (suc j) s) ≡ suc (words_in (in_word p) (take j s)) → run_capped p (take (suc j) s) ≡ some q → Reason room n p s no_node_room j end

-- the machine stands at p with n nodes made, passes j bytes of s, and stops with k
record Stops (room n : ℕ) (p : Phase) (s : List ℕ) (k j : ℕ) : Type 0 where
  end : Phase
  ran : run p (take j s) ≡ some end
  passed : run_capped p (take j s) ≡ some end
  made : n ≤ room → n + words_in (in_word p) (take j s) ≤ room
  nested : depth end ≡ open_after (depth p) (take j s)
  shallow : depth p ≤ deepest → depth end ≤ deepest
  why : Reason room n p s k j end

-- a "(" that the cap lets through
free_enter : (t : Bool) → cond t Refuse Enter ≡ Enter → t ≡ false
free_enter true e = let z : ◌≡◌ {A = ℕ} 0 1 = cc in absurd (omega arith)
free_enter false e = refl

lower : (p : Phase) (a : Act) → Taken a → capped p a ≡ a → depth p ≤ deepest → depth (to p a) ≤ deepest
lower before a h same l = omega arith
lower (inside d m) Enter h same l = omega (arith, leb-false deepest (suc d) (free_enter (leb deepest (suc d)) same))
lower (inside d m) Leave h same l = omega (arith, left_depth d)
lower (inside d m) Begin h same l = l
lower (inside d m) Extend h same l = l
lower (inside d m) Skip h same l = l
lower (inside d m) Refuse h same l = absurd h
lower after a h same l = l

-- a byte b that does a, which neither the grammar nor the limits refuse
module _ (room n : ℕ) (p : Phase) (b : ℕ) (a : Act) (e : a ≡ act p (kind_of b)) (h : Taken a) where
  pub run_on : (f : Phase → Act → Act) (s : List ℕ) → f p a ≡ a → run_by f p (b ∷ s) ≡ run_by f (to p a) s
  unfolding run_by
  run_on f s same =
      ap (λ (x : Act). moved (f p x) (run_by f (to p x) s)) (sym e)
      ∙ ap (λ (x : Act). moved x (run_by f (to p a) s)) same
      ∙ moved_taken a h (run_by f (to p a) s)

  trail : Tracks n p (kind_of b)
  trail = tracks n p (kind_of b) (subst Taken e h)

  pub words_on : (s : List ℕ) → n + words_in (in_word p) (b ∷ s) ≡ counted n a + words_in (in_word (to p a)) s
  unfolding words_in
  words_on s =
      let m : counted n a ≡ n + news (in_word p) (kind_of b) = ap (counted n) e ∙ trail.made in
      let w : words_in (is_letter (kind_of b)) s ≡ words_in (in_word (to p a)) s = ap (λ (t : Bool). words_in t s) (sym (ap (λ (x : Act). in_word (to p x)) e ∙ trail.within)) in
      omega arith

  open_on : (s : List ℕ) → open_after (depth p) (b ∷ s) ≡ open_after (depth (to p a)) s
  unfolding open_after
  open_on s = ap (λ (d : ℕ). open_after d s) (sym (ap (λ (x : Act). depth (to p x)) e ∙ trail.deep))

  module _ (same : capped p a ≡ a) (fits : n ≤ room → counted n a ≤ room) where
    reason-on : (s : List ℕ) {k j : ℕ} {end : Phase} → Reason room (counted n a) (to p a) s k j end → Reason room n p (b ∷ s) k (suc j) end
    reason-on s (cut l ne) = cut (ap suc l) ne
    reason-on s (bad {j = j} l r) = bad {j = suc j} (omega arith) (run_on uncapped (take (suc j) s) refl ∙ r)
    reason-on s (deep {j = j} q l o d r c) = deep {j = suc j} q (omega arith) o d (run_on uncapped (take (suc j) s) refl ∙ r) (run_on capped (take (suc j) s) same ∙ c)
    reason-on s (full {j = j} q l m w c) =
        let u = words_on (take j s) in
        let v = words_on (take (suc j) s) in
        full {j = suc j} q (omega arith) (omega arith) (omega arith) (run_on capped (take (suc j) s) same ∙ c)

    stops-on : (s : List ℕ) {k j : ℕ} → Stops room (counted n a) (to p a) s k j → Stops room n p (b ∷ s) k (suc j)
    stops-on s {j = j} st = record {
      end = st.end;
      ran = run_on uncapped (take j s) refl ∙ st.ran;
      passed = run_on capped (take j s) same ∙ st.passed;
      made = λ l. let m = st.made (fits l) in omega (arith, words_on (take j s));
      nested = st.nested ∙ sym (open_on (take j s));
      shallow = λ l. st.shallow (lower p a h same l);
      why = reason-on s st.why;
    }

-- what an answer to the bytes s from the position `at` on comes from
abbrev Found : (room at n : ℕ) → Phase → List ℕ → Reading → Type 0
Found room at n p s (Accepted k) = Unit {0}
Found room at n p s (Refused k q) = (j : ℕ) × (q ≡ at + j) × Stops room n p s k j

-- the machine stops at once
here : (room at n : ℕ) (p : Phase) (s : List ℕ) (k : ℕ) → Reason room n p s k 0 p → Found room at n p s (Refused k at)
unfolding run_by words_in open_after
here room at n p s k why = (0, omega arith, record { end = p; ran = refl; passed = refl; made = λ l. omega arith; nested = refl; shallow = λ l. l; why = why })

later : (room at n : ℕ) (p : Phase) (b : ℕ) (s : List ℕ) (a : Act) → a ≡ act p (kind_of b) → Taken a → capped p a ≡ a → (n ≤ room → counted n a ≤ room)
    → (r : Reading) → Found room (at + 1) (counted n a) (to p a) s r → Found room at n p (b ∷ s) r
later room at n p b s a e h same fits (Accepted k) x = tt
later room at n p b s a e h same fits (Refused k q) x = (suc x.0, omega (arith, x.1), stops-on room n p b a e h same fits s x.2)

-- only "(" enters a group
other : {A : Type 0} {a : Act} → (a ≡ Enter → ⊥) → Enter ≡ a → A
other ne e = absurd (ne (sym e))

no_leave : Leave ≡ Enter → ⊥
no_leave e = let z : ◌≡◌ {A = ℕ} 0 1 = cc in omega arith

no_begin : Begin ≡ Enter → ⊥
no_begin e = let z : ◌≡◌ {A = ℕ} 0 1 = cc in omega arith

no_extend : Extend ≡ Enter → ⊥
no_extend e = let z : ◌≡◌ {A = ℕ} 0 1 = cc in omega arith

no_skip : Skip ≡ Enter → ⊥
no_skip e = let z : ◌≡◌ {A = ℕ} 0 1 = cc in omega arith

no_refuse : Refuse ≡ Enter → ⊥
no_refuse e = let z : ◌≡◌ {A = ℕ} 0 1 = cc in omega arith

enter_open : (p : Phase) (b : ℕ) (κ : ByteKind) → KindIs b κ → Enter ≡ act p κ → b ≡ 0x28
enter_open p b Open k e = k
enter_open before b Close k e = other no_refuse e
enter_open before b Space k e = other no_refuse e
enter_open before b Letter k e = other no_refuse e
enter_open before b Zero k e = other no_refuse e
enter_open before b Other k e = other no_refuse e
enter_open (inside d Free) b Close k e = other no_leave e
enter_open (inside d Free) b Space k e = other no_skip e
enter_open (inside d Free) b Letter k e = other no_begin e
enter_open (inside d Free) b Zero k e = other no_refuse e
enter_open (inside d Free) b Other k e = other no_refuse e
enter_open (inside d Word) b Close k e = other no_leave e
enter_open (inside d Word) b Space k e = other no_skip e
enter_open (inside d Word) b Letter k e = other no_extend e
enter_open (inside d Word) b Zero k e = other no_refuse e
enter_open (inside d Word) b Other k e = other no_refuse e
enter_open (inside d Gap) b Close k e = other no_leave e
enter_open (inside d Gap) b Space k e = other no_skip e
enter_open (inside d Gap) b Letter k e = other no_begin e
enter_open (inside d Gap) b Zero k e = other no_refuse e
enter_open (inside d Gap) b Other k e = other no_refuse e
enter_open after b Close k e = other no_refuse e
enter_open after b Space k e = other no_refuse e
enter_open after b Letter k e = other no_refuse e
enter_open after b Zero k e = other no_skip e
enter_open after b Other k e = other no_refuse e

on_act : (room at n : ℕ) (p : Phase) (b : ℕ) (s : List ℕ) (r : Reading) (a : Act) → a ≡ act p (kind_of b) → Found room (at + 1) (counted n a) (to p a) s r
    → Found room at n p (b ∷ s) (unless (fault room n p a) at r)
unfolding run_by words_in
on_act room at n p b s r Enter e ih = go (leb deepest (depth p)) refl
  where
    go : (t : Bool) → leb deepest (depth p) ≡ t → Found room at n p (b ∷ s) (unless (cond t too_deep 0) at r)
    go true f = here room at n p (b ∷ s) too_deep (deep (to p Enter) (omega arith) (enter_open p b (kind_of b) (kind-is b) e) (leb-true deepest (depth p) f)
        (run_on room n p b Enter e tt uncapped [] refl)
        (ap (λ (x : Act). moved (capped p x) (run_capped (to p x) [])) (sym e) ∙ ap (λ (t : Bool). moved (cond t Refuse Enter) (run_capped (to p Enter) [])) f))
    go false f = later room at n p b s Enter e tt (ap (λ (t : Bool). cond t Refuse Enter) f) (λ l. l) r ih
on_act room at n p b s r Leave e ih = later room at n p b s Leave e tt refl (λ l. l) r ih
on_act room at n p b s r Begin e ih = go (leb room n) refl
  where
    go : (t : Bool) → leb room n ≡ t → Found room at n p (b ∷ s) (unless (cond t no_node_room 0) at r)
    go true f = here room at n p (b ∷ s) no_node_room (let w = words_on room n p b Begin e tt [] in
        full (to p Begin) (omega arith) (omega (arith, leb-true room n f)) (omega arith) (run_on room n p b Begin e tt capped [] refl))
    go false f = later room at n p b s Begin e tt refl (λ l. omega (arith, leb-false room n f)) r ih
on_act room at n p b s r Extend e ih = later room at n p b s Extend e tt refl (λ l. l) r ih
on_act room at n p b s r Skip e ih = later room at n p b s Skip e tt refl (λ l. l) r ih
on_act room at n p b s r Refuse e ih =
    here room at n p (b ∷ s) wrong_grammar (bad (omega arith) (ap (λ (x : Act). moved x (run (to p x) [])) (sym e)))

at-end : (room at n : ℕ) (p : Phase) → Found room at n p [] (ending at n p)
at-end room at n before = here room at n before [] wrong_grammar (cut refl (λ e. let z : ◌≡◌ {A = ℕ} 0 1 = cc in omega arith))
at-end room at n (inside d m) = here room at n (inside d m) [] wrong_grammar (cut refl (λ e. let z : ◌≡◌ {A = ℕ} 0 1 = cc in omega arith))
at-end room at n after = tt

found : (room : ℕ) (s : List ℕ) (at n : ℕ) (p : Phase) → Found room at n p s (judge room at n p s)
unfolding judge
found room [] at n p = at-end room at n p
found room (b ∷ s) at n p =
    on_act room at n p b s (judge room (at + 1) (counted n (act p (kind_of b))) (to p (act p (kind_of b))) s) (act p (kind_of b)) refl
    (found room s (at + 1) (counted n (act p (kind_of b))) (to p (act p (kind_of b))))

-- ---- the refusals of a whole string

stopped : (room : ℕ) (s : List ℕ) {k j : ℕ} → length s ≤ longest_text → Stops room 0 before s k j → Why room s k j
unfolding run_by
stopped room s {j = j} short st =
    let clear : Clear room j s = record { short = short; viable = capped-viable (take j s) st.end st.passed; roomy = let m = st.made (omega arith) in omega arith } in
    reason clear st.why
  where
    reason : {k : ℕ} → Clear room j s → Reason room 0 before s k j st.end → Why room s k j
    reason clear (cut l ne) =
        subst (λ (i : ℕ). Why room s wrong_grammar i) (sym l)
        (cut_short (subst (λ (i : ℕ). Clear room i s) l clear)
        (λ xs t. ne (let u : some st.end ≡ some after = sym st.ran ∙ ap (λ (x : List ℕ). run before x) (take_all j s (omega arith)) ∙ (walk_text t).ran in cc)))
    reason clear (bad l r) = wrong_byte clear l (λ v. none-some (sym r ∙ (viable-run (take (suc j) s) v).1))
    reason clear (deep q l o d r c) =
        let low = st.shallow (omega arith) in
        ninth-open clear l o (omega (arith, st.nested)) (run-viable (take (suc j) s) q r) (λ v. none-some (sym c ∙ (viable-capped (take (suc j) s) v).1))
    reason clear (full q l m w c) =
        let roomy = clear.roomy in
        no_node clear l (omega arith) (omega arith) (capped-viable (take (suc j) s) q c)

same-refusal : {k at k' at' : ℕ} → Refused k at ≡ Refused k' at' → (k ≡ k') × (at ≡ at')
same-refusal e = (cc, ap placed e)
  where
    placed : Reading → ℕ
    placed (Accepted n) = 0
    placed (Refused k p) = p

pub refusals : (room k p : ℕ) (s : List ℕ) → outcome room s ≡ Refused k p → Why room s k p
refusals room k p s e = go (leb (length s) longest_text) refl
  where
    go : (t : Bool) → leb (length s) longest_text ≡ t → Why room s k p
    go true f =
        let short : length s ≤ longest_text = leb-true (length s) longest_text f in
        let x : Found room 0 0 before s (Refused k p) = subst (Found room 0 0 before s) (sym (outcome-short room s short) ∙ e) (found room s 0 0 before) in
        subst (Why room s k) (omega (arith, x.1)) (stopped room s short x.2)
    go false f =
        let long : longest_text < length s = leb-false (length s) longest_text f in
        let same = same-refusal (sym (outcome-long room s long) ∙ e) in
        subst (λ (i : ℕ). Why room s i p) same.0 (subst (Why room s text_too_long) same.1 (too_long long))
