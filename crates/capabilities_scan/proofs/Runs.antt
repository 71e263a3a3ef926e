-- Runs of letters, of spaces and of zeros: how long they are, and that the machine passes them with no node made and nothing refused.
use Prim.Native.Nat.{ℕ, zero, suc, ◌+◌, ◌≤◌, ◌<◌}
use mathlib.Core.Path.{◌≡◌, refl, sym, ap, ◌∙◌, subst}
use mathlib.Core.Bool.{Bool, true, false, cond}
use mathlib.Core.List.{List}
use native.Mathlib.Omega.{arith}
use lib.Dec.{eqb, leb}
use lib.ListN.{length, get_or, drop, drop_of_length-le, get_or-eq_default}
use borrow.Author.Tests.{leb-true, leb-false, eqb-true, eqb-false}
use Rattle.capabilities_rules.specs.Machine.{kind_of, is_letter, inside, after, act_of, pause_of}
use Rattle.std.proofs.lemmas.Grind.{get_or_default_zero}
use Rattle.message_rules.specs.Answer.{wrong_grammar}
use Rattle.capabilities_rules.specs.Outcome.{judge, Refused, Accepted}
use Rattle.capabilities_rules.specs.Grammar.{IsLetter}
use Rattle.capabilities_rules.specs.Nodes.{letters, nodes}
use Rattle.capabilities_rules.specs.Kinds.{ByteKind}
use Rattle.capabilities_rules.specs.Kinds.{Open, Close, Space, Letter, Zero, Other}
use Rattle.capabilities_rules.specs.Kinds.{Mode}
use Rattle.capabilities_rules.specs.Kinds.{Free, Word, Gap}
use Rattle.capabilities_rules.specs.Kinds.{Act}
use Rattle.capabilities_rules.specs.Kinds.{Enter, Leave, Begin, Extend, Skip, Refuse}
use Rattle.capabilities_rules.proofs.Laws.{from, letters-at, letters-end, judge-at, nodes-at, judge-end}
use Rattle.capabilities_rules.proofs.Whole.{judge-zero, judge-more, judge-done}
use Rattle.capabilities_rules.proofs.Bytes.{KindIs, kind-is, letter_kind}
use Rattle.capabilities_scan.specs.Scan.{leading, spaces, zeros}

-- ---- how long a run is

-- the bytes b from a position on: one more where b stands, none else
pub leading_at : (b : ℕ) (s : List ℕ) (at : ℕ) (t : Bool) → at < length s → t ≡ eqb (get_or s at 0) b → leading b (drop at s) ≡ cond t (leading b (drop (at + 1) s) + 1) 0
unfolding leading
leading_at b s at t h e = ap (leading b) (from s at h) ∙ ap (λ (x : Bool). cond x (leading b (drop (at + 1) s) + 1) 0) (sym e)

pub leading_end : (b : ℕ) (s : List ℕ) (at : ℕ) → length s ≤ at → leading b (drop at s) ≡ 0
unfolding leading
leading_end b s at h = ap (leading b) (drop_of_length-le s h)

-- a count of the bytes of one sort that a list begins with
pub record Counts (count : List ℕ → ℕ) (test : ℕ → Bool) : Type 0 where
  pub here : (s : List ℕ) (at : ℕ) (t : Bool) → at < length s → t ≡ test (get_or s at 0) → count (drop at s) ≡ cond t (count (drop (at + 1) s) + 1) 0
  pub past : (s : List ℕ) (at : ℕ) → length s ≤ at → count (drop at s) ≡ 0

pub counts-leading : (b : ℕ) → Counts (leading b) (λ c. eqb c b)
counts-leading b = record { here = leading_at b; past = leading_end b }

pub counts-letters : Counts letters (λ b. is_letter (kind_of b))
counts-letters = record { here = letters-at; past = letters-end }

pub record First (count : List ℕ → ℕ) (test : ℕ → Bool) (s : List ℕ) (at k : ℕ) : Type 0 where
  pub inside : at < length s
  pub is : test (get_or s at 0) ≡ true
  pub rest : count (drop (at + 1) s) ≡ k

module _ (count : List ℕ → ℕ) (test : ℕ → Bool) (law : Counts count test) (s : List ℕ) where
  -- the first byte of a run that is not empty
  pub first_of : (at k : ℕ) → count (drop at s) ≡ suc k → First count test s at k
  first_of at k e = go (leb (length s) at) refl
    where
      byte : at < length s → (t : Bool) → t ≡ test (get_or s at 0) → First count test s at k
      byte h true f = record { inside = h; is = sym f; rest = omega (arith, law.here s at true h f) }
      byte h false f = absurd (omega (arith, law.here s at false h f))

      go : (t : Bool) → leb (length s) at ≡ t → First count test s at k
      go true f = absurd (omega (arith, law.past s at (leb-true (length s) at f)))
      go false f = byte (leb-false (length s) at f) (test (get_or s at 0)) refl

  -- behind a run there is none
  pub run-over : (k at : ℕ) → count (drop at s) ≡ k → count (drop (at + k) s) ≡ 0
  run-over zero at e = let same : at ≡ at + 0 = omega arith in subst (λ (i : ℕ). count (drop i s) ≡ 0) same e
  run-over (suc k) at e = let same : at + 1 + k ≡ at + suc k = omega arith in subst (λ (i : ℕ). count (drop i s) ≡ 0) same (run-over k (at + 1) (first_of at k e).rest)

  -- a run ends within the string that it begins in
  run-within : (k at : ℕ) → count (drop at s) ≡ k → at ≤ length s → at + k ≤ length s
  run-within zero at e h = omega arith
  run-within (suc k) at e h =
      let f = first_of at k e in
      let inside = f.inside in
      omega (arith, run-within k (at + 1) f.rest (omega arith))

  pub ends-within : (at end : ℕ) → end ≡ at + count (drop at s) → at ≤ length s → end ≤ length s
  ends-within at end e h = omega (arith, run-within (count (drop at s)) at refl h)

  pub none_here : (at : ℕ) → at < length s → count (drop at s) ≡ 0 → test (get_or s at 0) ≡ false
  none_here at h e = byte (test (get_or s at 0)) refl
    where
      byte : (t : Bool) → t ≡ test (get_or s at 0) → test (get_or s at 0) ≡ false
      byte true f = absurd (omega (arith, law.here s at true h f))
      byte false f = sym f

-- ---- what the machine does with a run

-- the machine goes from one position and mode to another, with no node made and nothing refused
pub record Passes (d : ℕ) (s : List ℕ) (at : ℕ) (m : Mode) (at' : ℕ) (m' : Mode) : Type 0 where
  pub judged : (room n : ℕ) → judge room at n (inside d m) (drop at s) ≡ judge room at' n (inside d m') (drop at' s)
  pub noded : (n : ℕ) (ps : List ℕ) → nodes at n ps (inside d m) (drop at s) ≡ nodes at' n ps (inside d m') (drop at' s)

-- the mode after k spaces
abbrev pub rested : ℕ → Mode → Mode
rested zero m = m
rested (suc k) m = pause_of m

rested_pause : (k : ℕ) (m : Mode) → rested k (pause_of m) ≡ pause_of m
rested_pause zero m = refl
rested_pause (suc k) Free = refl
rested_pause (suc k) Word = refl
rested_pause (suc k) Gap = refl

rested_free : (k : ℕ) → rested k Free ≡ Free
rested_free zero = refl
rested_free (suc k) = refl

module _ (d : ℕ) (s : List ℕ) where
  stay : (at : ℕ) (m : Mode) → Passes d s at m at m
  stay at m = record { judged = λ room n. refl; noded = λ n ps. refl }

  pub join : {at : ℕ} {m : Mode} {at' : ℕ} {m' : Mode} {at'' : ℕ} {m'' : Mode} → Passes d s at m at' m' → Passes d s at' m' at'' m'' → Passes d s at m at'' m''
  join p q = record { judged = λ room n. p.judged room n ∙ q.judged room n; noded = λ n ps. p.noded n ps ∙ q.noded n ps }

  pub arrive : {at : ℕ} {m : Mode} {at' : ℕ} {m' : Mode} {at'' : ℕ} {m'' : Mode} → at' ≡ at'' → m' ≡ m'' → Passes d s at m at' m' → Passes d s at m at'' m''
  arrive {at = at} {m = m} {m' = m'} {at'' = at''} e f p = subst (λ (x : Mode). Passes d s at m at'' x) f (subst (λ (i : ℕ). Passes d s at m i m') e p)

  extend_one : (at : ℕ) → at < length s → Extend ≡ act_of Word (kind_of (get_or s at 0)) → Passes d s at Word (at + 1) Word
  extend_one at h e = record { judged = λ room n. judge-at room at n (inside d Word) s Extend h e; noded = λ n ps. nodes-at at n ps (inside d Word) s Extend h e }

  skip_one : (at : ℕ) (m : Mode) → at < length s → Skip ≡ act_of m (kind_of (get_or s at 0)) → Passes d s at m (at + 1) (pause_of m)
  skip_one at m h e = record { judged = λ room n. judge-at room at n (inside d m) s Skip h e; noded = λ n ps. nodes-at at n ps (inside d m) s Skip h e }

  extends : (κ : ByteKind) → is_letter κ ≡ true → Extend ≡ act_of Word κ
  extends Letter e = refl
  extends Open e = let z : ◌≡◌ {A = ℕ} 0 1 = cc in absurd (omega arith)
  extends Close e = let z : ◌≡◌ {A = ℕ} 0 1 = cc in absurd (omega arith)
  extends Space e = let z : ◌≡◌ {A = ℕ} 0 1 = cc in absurd (omega arith)
  extends Zero e = let z : ◌≡◌ {A = ℕ} 0 1 = cc in absurd (omega arith)
  extends Other e = let z : ◌≡◌ {A = ℕ} 0 1 = cc in absurd (omega arith)

  skips : (b : ℕ) (m : Mode) → b ≡ 0x20 → Skip ≡ act_of m (kind_of b)
  unfolding kind_of
  skips b Free e = sym (ap (λ (x : ℕ). act_of Free (kind_of x)) e)
  skips b Word e = sym (ap (λ (x : ℕ). act_of Word (kind_of x)) e)
  skips b Gap e = sym (ap (λ (x : ℕ). act_of Gap (kind_of x)) e)

  pub letters_pass : (k at : ℕ) → letters (drop at s) ≡ k → Passes d s at Word (at + k) Word
  letters_pass zero at e = arrive (omega arith) refl (stay at Word)
  letters_pass (suc k) at e =
      let f = first_of letters (λ b. is_letter (kind_of b)) counts-letters s at k e in
      arrive (omega arith) refl (join (extend_one at f.inside (extends (kind_of (get_or s at 0)) f.is)) (letters_pass k (at + 1) f.rest))

  pub spaces_pass : (k at : ℕ) (m : Mode) → spaces (drop at s) ≡ k → Passes d s at m (at + k) (rested k m)
  spaces_pass zero at m e = arrive (omega arith) refl (stay at m)
  spaces_pass (suc k) at m e =
      let f = first_of spaces (λ b. eqb b 0x20) (counts-leading 0x20) s at k e in
      arrive (omega arith) (rested_pause k m) (join (skip_one at m f.inside (skips (get_or s at 0) m (eqb-true (get_or s at 0) 0x20 f.is))) (spaces_pass k (at + 1) (pause_of m) f.rest))

  -- spaces where no word could take a group
  pub free-spaces : (at next : ℕ) → next ≡ at + spaces (drop at s) → Passes d s at Free next Free
  free-spaces at next e = arrive (sym e) (rested_free (spaces (drop at s))) (spaces_pass (spaces (drop at s)) at Free refl)

  -- a byte that does the same in both modes, and is no space
  calm : (at : ℕ) (m : Mode) (a : Act) → at < length s → a ≡ act_of m (kind_of (get_or s at 0)) → a ≡ act_of Free (kind_of (get_or s at 0)) → (a ≡ Skip → ⊥)
      → Passes d s at m at Free
  calm at m Enter h e f ne = record { judged = λ room n. judge-at room at n (inside d m) s Enter h e ∙ sym (judge-at room at n (inside d Free) s Enter h f); noded = λ n ps. nodes-at at n ps (inside d m) s Enter h e ∙ sym (nodes-at at n ps (inside d Free) s Enter h f) }
  calm at m Leave h e f ne = record { judged = λ room n. judge-at room at n (inside d m) s Leave h e ∙ sym (judge-at room at n (inside d Free) s Leave h f); noded = λ n ps. nodes-at at n ps (inside d m) s Leave h e ∙ sym (nodes-at at n ps (inside d Free) s Leave h f) }
  calm at m Begin h e f ne = record { judged = λ room n. judge-at room at n (inside d m) s Begin h e ∙ sym (judge-at room at n (inside d Free) s Begin h f); noded = λ n ps. nodes-at at n ps (inside d m) s Begin h e ∙ sym (nodes-at at n ps (inside d Free) s Begin h f) }
  calm at m Extend h e f ne = record { judged = λ room n. judge-at room at n (inside d m) s Extend h e ∙ sym (judge-at room at n (inside d Free) s Extend h f); noded = λ n ps. nodes-at at n ps (inside d m) s Extend h e ∙ sym (nodes-at at n ps (inside d Free) s Extend h f) }
  calm at m Skip h e f ne = absurd (ne refl)
  calm at m Refuse h e f ne = record { judged = λ room n. judge-at room at n (inside d m) s Refuse h e ∙ sym (judge-at room at n (inside d Free) s Refuse h f); noded = λ n ps. nodes-at at n ps (inside d m) s Refuse h e ∙ sym (nodes-at at n ps (inside d Free) s Refuse h f) }

  same-act : (b : ℕ) (m : Mode) (κ : ByteKind) → KindIs b κ → (b ≡ 0x28 → ⊥) → (b ≡ 0x20 → ⊥) → (m ≡ Word → IsLetter b → ⊥)
      → (act_of Free κ ≡ act_of m κ) × (act_of Free κ ≡ Skip → ⊥)
  same-act b m Open k shut ns nl = absurd (shut k)
  same-act b m Space k shut ns nl = absurd (ns k)
  same-act b Free Close k shut ns nl = (refl, λ e. let z : ◌≡◌ {A = ℕ} 0 1 = cc in omega arith)
  same-act b Word Close k shut ns nl = (refl, λ e. let z : ◌≡◌ {A = ℕ} 0 1 = cc in omega arith)
  same-act b Gap Close k shut ns nl = (refl, λ e. let z : ◌≡◌ {A = ℕ} 0 1 = cc in omega arith)
  same-act b Free Letter k shut ns nl = (refl, λ e. let z : ◌≡◌ {A = ℕ} 0 1 = cc in omega arith)
  same-act b Word Letter k shut ns nl = absurd (nl refl k)
  same-act b Gap Letter k shut ns nl = (refl, λ e. let z : ◌≡◌ {A = ℕ} 0 1 = cc in omega arith)
  same-act b Free Zero k shut ns nl = (refl, λ e. let z : ◌≡◌ {A = ℕ} 0 1 = cc in omega arith)
  same-act b Free Other k shut ns nl = (refl, λ e. let z : ◌≡◌ {A = ℕ} 0 1 = cc in omega arith)
  same-act b Word Zero k shut ns nl = (refl, λ e. let z : ◌≡◌ {A = ℕ} 0 1 = cc in omega arith)
  same-act b Word Other k shut ns nl = (refl, λ e. let z : ◌≡◌ {A = ℕ} 0 1 = cc in omega arith)
  same-act b Gap Zero k shut ns nl = (refl, λ e. let z : ◌≡◌ {A = ℕ} 0 1 = cc in omega arith)
  same-act b Gap Other k shut ns nl = (refl, λ e. let z : ◌≡◌ {A = ℕ} 0 1 = cc in omega arith)

  at-end : (at : ℕ) (m : Mode) → length s ≤ at → Passes d s at m at Free
  unfolding nodes
  at-end at m h = record {
    judged = λ room n. judge-end room at n d m s h ∙ sym (judge-end room at n d Free s h);
    noded = λ n ps. ap (nodes at n ps (inside d m)) (drop_of_length-le s h) ∙ sym (ap (nodes at n ps (inside d Free)) (drop_of_length-le s h));
  }

  -- behind a word and its spaces, where no "(" stands, nothing could take a group
  pub settle : (at : ℕ) (m : Mode) → (get_or s at 0 ≡ 0x28 → ⊥) → spaces (drop at s) ≡ 0 → (m ≡ Word → letters (drop at s) ≡ 0) → Passes d s at m at Free
  settle at m shut ns nl = go (leb (length s) at) refl
    where
      no_letter : at < length s → m ≡ Word → IsLetter (get_or s at 0) → ⊥
      no_letter h e l =
          let u : true ≡ false = sym (ap is_letter (letter_kind l)) ∙ none_here letters (λ b. is_letter (kind_of b)) counts-letters s at h (nl e) in
          let z : ◌≡◌ {A = ℕ} 0 1 = cc in omega arith

      go : (t : Bool) → leb (length s) at ≡ t → Passes d s at m at Free
      go true f = at-end at m (leb-true (length s) at f)
      go false f =
          let h : at < length s = leb-false (length s) at f in
          let space : get_or s at 0 ≡ 0x20 → ⊥ = eqb-false (get_or s at 0) 0x20 (none_here spaces (λ b. eqb b 0x20) (counts-leading 0x20) s at h ns) in
          let x = same-act (get_or s at 0) m (kind_of (get_or s at 0)) (kind-is (get_or s at 0)) shut space (no_letter h) in
          calm at m (act_of Free (kind_of (get_or s at 0))) h x.0 refl x.1

-- ---- a word, its spaces, and what follows

-- the byte b stands at `at`
pub record Stands (s : List ℕ) (at b : ℕ) : Type 0 where
  pub inside : at < length s
  pub is : b ≡ get_or s at 0

-- .. as the library's `get` says it
pub stands : (s : List ℕ) (at b : ℕ) → at < length s → b ≡ get_or s at b → Stands s at b
stands s at b h e = record { inside = h; is = e ∙ get_or_default_zero s at b h }

-- a word begins at `at` and ends at `end`, and its spaces end at `next`
pub record Passed (s : List ℕ) (at end next : ℕ) : Type 0 where
  pub inside : at < length s
  pub letter : is_letter (kind_of (get_or s at 0)) ≡ true
  pub ends : end ≡ at + 1 + letters (drop (at + 1) s)
  pub rests : next ≡ end + spaces (drop end s)

pub begins-free : (κ : ByteKind) → is_letter κ ≡ true → Begin ≡ act_of Free κ
begins-free Letter e = refl
begins-free Open e = let z : ◌≡◌ {A = ℕ} 0 1 = cc in absurd (omega arith)
begins-free Close e = let z : ◌≡◌ {A = ℕ} 0 1 = cc in absurd (omega arith)
begins-free Space e = let z : ◌≡◌ {A = ℕ} 0 1 = cc in absurd (omega arith)
begins-free Zero e = let z : ◌≡◌ {A = ℕ} 0 1 = cc in absurd (omega arith)
begins-free Other e = let z : ◌≡◌ {A = ℕ} 0 1 = cc in absurd (omega arith)

module _ (s : List ℕ) (at end next : ℕ) (w : Passed s at end next) where
  -- the mode behind the spaces
  abbrev pub behind : Mode
  behind = rested (spaces (drop end s)) Word

  pub begins : Begin ≡ act_of Free (kind_of (get_or s at 0))
  begins = begins-free (kind_of (get_or s at 0)) w.letter

  pub no_spaces : spaces (drop next s) ≡ 0
  no_spaces = subst (λ (i : ℕ). spaces (drop i s) ≡ 0) (sym w.rests) (run-over spaces (λ b. eqb b 0x20) (counts-leading 0x20) s (spaces (drop end s)) end refl)

  pub passed : (d : ℕ) → Passes d s (at + 1) Word next behind
  passed d = join d s (arrive d s (sym w.ends) refl (letters_pass d s (letters (drop (at + 1) s)) (at + 1) refl))
      (arrive d s (sym w.rests) refl (spaces_pass d s (spaces (drop end s)) end Word refl))

  -- with no space behind it, no letter either: the run of letters is the longest
  apart : (k : ℕ) → spaces (drop end s) ≡ k → rested k Word ≡ Word → letters (drop next s) ≡ 0
  apart zero e f =
      let same : end ≡ next = omega (arith, w.rests) in
      subst (λ (i : ℕ). letters (drop i s) ≡ 0) same
      (subst (λ (i : ℕ). letters (drop i s) ≡ 0) (sym w.ends) (run-over letters (λ b. is_letter (kind_of b)) counts-letters s (letters (drop (at + 1) s)) (at + 1) refl))
  apart (suc k) e f = let z : ◌≡◌ {A = ℕ} 0 1 = cc in absurd (omega arith)

  pub settled : (d : ℕ) → (get_or s next 0 ≡ 0x28 → ⊥) → Passes d s (at + 1) Word next Free
  settled d shut = join d s (passed d) (settle d s next behind shut no_spaces (apart (spaces (drop end s)) refl))

  enters_rested : (k b : ℕ) → b ≡ 0x28 → Enter ≡ act_of (rested k Word) (kind_of b)
  unfolding kind_of
  enters_rested zero b e = sym (ap (λ (x : ℕ). act_of Word (kind_of x)) e)
  enters_rested (suc k) b e = sym (ap (λ (x : ℕ). act_of Gap (kind_of x)) e)

  pub enters : get_or s next 0 ≡ 0x28 → Enter ≡ act_of behind (kind_of (get_or s next 0))
  enters e = enters_rested (spaces (drop end s)) (get_or s next 0) e

-- a byte that is read as other than 0 stands in the string
pub within : (s : List ℕ) (at : ℕ) → get_or s at 0 ≡ 0x28 → at < length s
within s at e = go (leb (length s) at) refl
  where
    go : (t : Bool) → leb (length s) at ≡ t → at < length s
    go true f = absurd (omega (arith, get_or-eq_default s 0 {n = at} (leb-true (length s) at f)))
    go false f = leb-false (length s) at f

-- past the spaces at the front of a list there is none
pub tight_after : (s : List ℕ) (at next : ℕ) → next ≡ at + spaces (drop at s) → spaces (drop next s) ≡ 0
tight_after s at next e = subst (λ (i : ℕ). spaces (drop i s) ≡ 0) (sym e) (run-over spaces (λ b. eqb b 0x20) (counts-leading 0x20) s (spaces (drop at s)) at refl)

-- where a run of spaces or letters that begins in the string ends
pub spaces-within : (s : List ℕ) (at next : ℕ) → next ≡ at + spaces (drop at s) → at ≤ length s → next ≤ length s
spaces-within s = ends-within spaces (λ b. eqb b 0x20) (counts-leading 0x20) s

pub letters-within : (s : List ℕ) (at end : ℕ) → end ≡ at + letters (drop at s) → at ≤ length s → end ≤ length s
letters-within s = ends-within letters (λ b. is_letter (kind_of b)) counts-letters s

-- a ")" ends the list
pub closes : (b : ℕ) → b ≡ 0x29 → Leave ≡ act_of Free (kind_of b)
unfolding kind_of
closes b e = sym (ap (λ (x : ℕ). act_of Free (kind_of x)) e)

-- a word's spaces end within the string
pub passed_within : (s : List ℕ) (at end next : ℕ) → Passed s at end next → next ≤ length s
passed_within s at end next w = spaces-within s end next w.rests (letters-within s (at + 1) end w.ends (let h = w.inside in omega arith))

-- ---- zeros behind the outer group

module _ (room n : ℕ) (s : List ℕ) where
  zeros_pass : (k at : ℕ) → zeros (drop at s) ≡ k → judge room at n after (drop at s) ≡ judge room (at + k) n after (drop (at + k) s)
  zeros_pass zero at e = let same : at ≡ at + 0 = omega arith in ap (λ (i : ℕ). judge room i n after (drop i s)) same
  zeros_pass (suc k) at e =
      let f = first_of zeros (λ b. eqb b 0) (counts-leading 0) s at k e in
      let same : at + 1 + k ≡ at + suc k = omega arith in
      judge-zero room s at n f.inside (eqb-true (get_or s at 0) 0 f.is) ∙ zeros_pass k (at + 1) f.rest ∙ ap (λ (i : ℕ). judge room i n after (drop i s)) same

  module _ (at end : ℕ) (e : end ≡ at + zeros (drop at s)) where
    passed-zeros : judge room at n after (drop at s) ≡ judge room end n after (drop end s)
    passed-zeros = zeros_pass (zeros (drop at s)) at refl ∙ sym (ap (λ (i : ℕ). judge room i n after (drop i s)) e)

    -- the first byte that is no zero is refused ..
    pub other-behind : end < length s → judge room at n after (drop at s) ≡ Refused wrong_grammar end
    other-behind h =
        let over = run-over zeros (λ b. eqb b 0) (counts-leading 0) s (zeros (drop at s)) at refl in
        let none : zeros (drop end s) ≡ 0 = subst (λ (i : ℕ). zeros (drop i s) ≡ 0) (sym e) over in
        passed-zeros ∙ judge-more room s end n h (eqb-false (get_or s end 0) 0 (none_here zeros (λ b. eqb b 0) (counts-leading 0) s end h none))

    -- .. and where there is none, the string is accepted
    pub zeros-to-end : length s ≤ end → judge room at n after (drop at s) ≡ Accepted n
    zeros-to-end h = passed-zeros ∙ judge-done room s end n h
