-- The words of a text are its longest runs of letters: each word is one, and there are as many of either.
-- Assumes nothing.
use Prim.Native.Nat.{ℕ, ◌+◌}
use mathlib.Core.Path.{◌≡◌, refl, sym, ap, ◌∙◌, subst}
use mathlib.Core.Bool.{Bool, true, false, cond}
use mathlib.Core.List.{List, [], ◌∷◌, ◌++◌, append_assoc}
use native.Mathlib.Nat.{zero-add}
use native.Mathlib.Omega.{arith}
use lib.ListN.{length, length-append}
use lib.Seq.{append_snoc}
use Rattle.capabilities_rules.specs.Grammar.{IsLetter, Letters, last, more, Spaces, no-space, one-space, Apart, Items, ListAt, ends, spaced, worded, grouped, Zeros, no_zero, one-zero, Text, text, size}
use Rattle.capabilities_rules.specs.Machine.{kind_of, is_letter}
use Rattle.capabilities_rules.specs.Prefixes.{words_in}
use Rattle.capabilities_rules.specs.Words.{last_of, LongestRun, EachWord}
use Rattle.capabilities_rules.specs.Kinds.{ByteKind}
use Rattle.capabilities_rules.proofs.Bytes.{letter_kind, space_apart, open_apart, close_apart}
use Rattle.capabilities_rules.proofs.Walk.{apart_close, apart_spaces, behind}

-- ---- each word is a longest run

last_snoc : (s : List ℕ) (b : ℕ) → last_of (s ++ b ∷ []) ≡ b
last_snoc [] b = refl
last_snoc (a ∷ []) b = refl
last_snoc (a ∷ c ∷ s) b = last_snoc (c ∷ s) b

-- behind a byte that is no letter anything may follow
parted : {A : Type 0} (s : List ℕ) (b : ℕ) → (IsLetter b → ⊥) → IsLetter (last_of (s ++ b ∷ [])) → A
parted s b no_letter l = absurd (no_letter (subst IsLetter (last_snoc s b) l))

-- letters do not stand apart
not_apart : {w : List ℕ} (s : List ℕ) → Letters w → Apart (w ++ s) → ⊥
not_apart s (last l) a = a l
not_apart s (more l lw) a = a l

longest-list : {at : ℕ} {xs : Items} {t : List ℕ} → ListAt at xs t → (pre post s : List ℕ) → s ≡ pre ++ (t ++ 0x29 ∷ post) → length pre ≡ at → (IsLetter (last_of pre) → Apart t)
    → EachWord (LongestRun s) xs
longest-list ends pre post s e n ok = tt
longest-list (spaced {s = t} r) pre post s e n ok =
    longest-list r (pre ++ 0x20 ∷ []) post s (e ∙ sym (append_snoc pre 0x20 (t ++ 0x29 ∷ post))) (omega (arith, length-append pre (0x20 ∷ []))) (parted pre 0x20 space_apart)
longest-list (worded {w = w} {s = t} lw a r) pre post s e n ok = (
  record {
    before = pre;
    run = w;
    behind = t ++ 0x29 ∷ post;
    whole = e ∙ simp append_assoc;
    starts = n;
    sizes = refl;
    letters = lw;
    begins = λ l. not_apart t lw (ok l);
    ends = apart_close t post a;
  },
  longest-list r (pre ++ w) post s (e ∙ simp append_assoc) (omega (arith, length-append pre w)) (λ l. a),
)
longest-list (grouped {w = w} {g = g} {t = t} {s = u} lw sg q r) pre post s e n ok =
    let inner : List ℕ = pre ++ (w ++ g) in
    let outer : List ℕ = pre ++ (w ++ (g ++ 0x28 ∷ t)) in
    let long-inner : length inner ≡ length pre + length w + length g = simp length-append (omega arith) in
    let long-outer : length outer ≡ length pre + length w + length g + 1 + length t = simp length-append (omega arith) in (
      record {
        before = pre;
        run = w;
        behind = g ++ 0x28 ∷ (t ++ 0x29 ∷ (u ++ 0x29 ∷ post));
        whole = e ∙ simp append_assoc;
        starts = n;
        sizes = refl;
        letters = lw;
        begins = λ l. not_apart (g ++ 0x28 ∷ (t ++ 0x29 ∷ u)) lw (ok l);
        ends = apart_spaces (t ++ 0x29 ∷ (u ++ 0x29 ∷ post)) sg;
      },
      longest-list q (inner ++ 0x28 ∷ []) (u ++ 0x29 ∷ post) s (e ∙ simp append_assoc) (omega (arith, length-append inner (0x28 ∷ []))) (parted inner 0x28 open_apart),
      longest-list r (outer ++ 0x29 ∷ []) post s (e ∙ simp append_assoc) (omega (arith, length-append outer (0x29 ∷ []))) (parted outer 0x29 close_apart),
    )

pub longest : (s : List ℕ) (xs : Items) → Text xs s → EachWord (LongestRun s) xs
longest s xs (text {z = z} r sz) = longest-list r (0x28 ∷ []) z s refl refl (λ l. absurd (open_apart l))

-- ---- as many words as runs

-- a letter begins a run, unless one stands before it
words_letter : {b : ℕ} (within : Bool) (s : List ℕ) → IsLetter b → words_in within (b ∷ s) ≡ cond within 0 1 + words_in true s
unfolding words_in
words_letter within s l = ap (λ (κ : ByteKind). cond (is_letter κ) (cond within 0 1) 0 + words_in (is_letter κ) s) (letter_kind l)

words-within : {w : List ℕ} (s : List ℕ) → Letters w → words_in true (w ++ s) ≡ words_in true s
words-within s (last l) = words_letter true s l ∙ zero-add _
words-within s (more {w = w} l lw) = words_letter true (w ++ s) l ∙ zero-add _ ∙ words-within s lw

words-begin : {w : List ℕ} (within : Bool) (s : List ℕ) → (within ≡ true → ⊥) → Letters w → words_in within (w ++ s) ≡ 1 + words_in true s
words-begin true s ok lw = absurd (ok refl)
words-begin false s ok (last l) = words_letter false s l
words-begin false s ok (more {w = w} l lw) = words_letter false (w ++ s) l ∙ ap (λ (k : ℕ). 1 + k) (words-within s lw)

words-spaces : {g : List ℕ} (within : Bool) (s : List ℕ) → Spaces g → words_in within (g ++ 0x28 ∷ s) ≡ words_in false s
unfolding words_in kind_of
words-spaces within s no-space = zero-add _
words-spaces within s (one-space sg) = zero-add _ ∙ words-spaces false s sg

no_run : {A : Type 0} → false ≡ true → A
no_run e = let z : ◌≡◌ {A = ℕ} 0 1 = cc in absurd (omega arith)

words-list : {at : ℕ} {xs : Items} {t : List ℕ} → ListAt at xs t → (within : Bool) → (within ≡ true → Apart t) → (post : List ℕ) → words_in within (t ++ 0x29 ∷ post) ≡ size xs + words_in false post
unfolding words_in kind_of
words-list ends within ok post = refl
words-list (spaced r) within ok post = zero-add _ ∙ words-list r false no_run post
words-list (worded {w = w} {s = t} {xs = xs} lw a r) within ok post =
    let split : words_in within ((w ++ t) ++ 0x29 ∷ post) ≡ words_in within (w ++ (t ++ 0x29 ∷ post)) = ap (words_in within) (append_assoc w t (0x29 ∷ post)) in
    let first = words-begin within (t ++ 0x29 ∷ post) (λ e. not_apart t lw (ok e)) lw in
    let rest = words-list r true (λ e. a) post in
    omega arith
words-list (grouped {w = w} {g = g} {t = t} {s = u} {ys = ys} {xs = xs} lw sg q r) within ok post =
    let inner : List ℕ = t ++ 0x29 ∷ (u ++ 0x29 ∷ post) in
    let split : words_in within ((w ++ (g ++ 0x28 ∷ (t ++ 0x29 ∷ u))) ++ 0x29 ∷ post) ≡ words_in within (w ++ (g ++ 0x28 ∷ inner)) = ap (words_in within) (sym (behind w g t u post)) in
    let first = words-begin within (g ++ 0x28 ∷ inner) (λ e. not_apart (g ++ 0x28 ∷ (t ++ 0x29 ∷ u)) lw (ok e)) lw in
    let opened = words-spaces true inner sg in
    let within-it = words-list q false no_run (u ++ 0x29 ∷ post) in
    let rest = words-list r false no_run post in
    omega arith

words-zeros : {z : List ℕ} → Zeros z → words_in false z ≡ 0
unfolding words_in kind_of
words-zeros no_zero = refl
words-zeros (one-zero sz) = zero-add _ ∙ words-zeros sz

pub runs : (s : List ℕ) (xs : Items) → Text xs s → words_in false s ≡ size xs
unfolding words_in kind_of
runs s xs (text {z = z} r sz) = zero-add _ ∙ words-list r false no_run z ∙ omega (arith, words-zeros sz)
