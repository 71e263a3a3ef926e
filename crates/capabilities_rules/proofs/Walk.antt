-- The machine walks over a list of the grammar: it passes each list of a group and stands behind the group's ")", it makes the
-- list's nodes, and it refuses on the way only for depth or room.
use Prim.Native.Nat.{ℕ, suc, ◌+◌, ◌≤◌, max}
use mathlib.Core.Path.{◌≡◌, refl, sym, ap, ◌∙◌, subst}
use mathlib.Core.Bool.{Bool, true, cond}
use mathlib.Core.List.{List, [], ◌∷◌, ◌++◌, append_assoc, append-nil}
use mathlib.Core.Option.{Option}
use native.Mathlib.Numerals.{add-one}
use native.Mathlib.Omega.{arith}
use lib.ListN.{length, drop, length-append}
use lib.Seq.{drop-append_seam}
use borrow.Author.Tests.{lt-leb}
use Rattle.message_rules.specs.Answer.{no_node_room, too_deep}
use Rattle.capabilities_rules.specs.Limits.{deepest, no_parent}
use Rattle.capabilities_rules.specs.Machine.{run_by, kind_of, is_letter, Phase, before, inside, after, act, act_of, to, depth, leaving, pause_of, moved, run}
use Rattle.capabilities_rules.specs.Outcome.{judge, unless, fault, counted, is_accepted}
use Rattle.capabilities_rules.specs.Nodes.{nodes, node_at, begun, stack, top, latest, letters, opens, opened}
use Rattle.capabilities_rules.specs.Grammar.{Node, IsLetter, Letters, last, more, Spaces, no-space, one-space, Apart, Items, word, group, ListAt, ends, spaced, worded, grouped, Text, text, Zeros, no_zero, one-zero, levels, size, nodes_from}
use Rattle.capabilities_rules.specs.Kinds.{ByteKind}
use Rattle.capabilities_rules.specs.Kinds.{Close, Space, Letter}
use Rattle.capabilities_rules.specs.Kinds.{Mode}
use Rattle.capabilities_rules.specs.Kinds.{Free, Word, Gap}
use Rattle.capabilities_rules.specs.Kinds.{Act}
use Rattle.capabilities_rules.specs.Kinds.{Enter, Leave, Begin, Extend, Skip, Refuse}
use Rattle.capabilities_rules.proofs.Laws.{not_deep, unless-read, not_full}
use Rattle.capabilities_rules.proofs.Bytes.{letter_kind, not_letter, space_apart, close_apart, open_apart}

-- ---- the letters and the group that a node looks ahead for

pub apart_letters : (r : List ℕ) → Apart r → letters r ≡ 0
unfolding letters
apart_letters [] a = refl
apart_letters (b ∷ r) a = ap (λ (t : Bool). cond t (letters r + 1) 0) (not_letter b a)

letters-one : {b : ℕ} (r : List ℕ) → IsLetter b → letters (b ∷ r) ≡ letters r + 1
unfolding letters
letters-one r l = ap (λ (k : ByteKind). cond (is_letter k) (letters r + 1) 0) (letter_kind l)

pub letters_all : {w : List ℕ} (r : List ℕ) → Letters w → Apart r → letters (w ++ r) ≡ length w
letters_all r (last l) a = letters-one r l ∙ omega (arith, apart_letters r a)
letters_all r (more {w = w} l lw) a = letters-one (w ++ r) l ∙ omega (arith, letters_all r lw a)

opens_letter : {b : ℕ} (r : List ℕ) → IsLetter b → opens (b ∷ r) ≡ 0
unfolding opens
opens_letter r l = ap (λ (k : ByteKind). opened k (opens r)) (letter_kind l)

opens-letters : {w : List ℕ} (r : List ℕ) → Letters w → opens (w ++ r) ≡ 0
opens-letters r (last l) = opens_letter r l
opens-letters r (more {w = w} l lw) = opens_letter (w ++ r) l

pub opens-list : {at : ℕ} {xs : Items} {t : List ℕ} (s : List ℕ) → ListAt at xs t → opens (t ++ 0x29 ∷ s) ≡ 0
unfolding opens kind_of
opens-list s ends = refl
opens-list s (spaced r) = opens-list s r
opens-list s (worded {w = w} {s = t} lw a r) = ap opens (append_assoc w t (0x29 ∷ s)) ∙ opens-letters (t ++ 0x29 ∷ s) lw
opens-list s (grouped {w = w} {g = g} {t = t} {s = u} lw sg q r) = ap opens (append_assoc w (g ++ 0x28 ∷ (t ++ 0x29 ∷ u)) (0x29 ∷ s)) ∙ opens-letters ((g ++ 0x28 ∷ (t ++ 0x29 ∷ u)) ++ 0x29 ∷ s) lw

pub opens-spaces : {g : List ℕ} (s : List ℕ) → Spaces g → opens (g ++ 0x28 ∷ s) ≡ 1
unfolding opens kind_of
opens-spaces s no-space = refl
opens-spaces s (one-space sg) = opens-spaces s sg

-- ---- one step, and steps joined

pub record Leads (at n : ℕ) (ps : List ℕ) (p : Phase) (s : List ℕ) (at' n' : ℕ) (ps' : List ℕ) (p' : Phase) (s' : List ℕ) (xs : List Node) (deep : ℕ) : Type 0 where
  pub grows : n ≤ n'
  pub ran : run p s ≡ run p' s'
  pub noded : nodes at n ps p s ≡ xs ++ nodes at' n' ps' p' s'
  pub judged : (room : ℕ) → n' ≤ room → deep ≤ deepest → judge room at n p s ≡ judge room at' n' p' s'
  pub bounded : (room : ℕ) → is_accepted (judge room at n p s) ≡ true → (deep ≤ deepest) × (n ≤ room → n' ≤ room) × (is_accepted (judge room at' n' p' s') ≡ true)

pub join : {at n : ℕ} {ps : List ℕ} {p : Phase} {s : List ℕ} {at' n' : ℕ} {ps' : List ℕ} {p' : Phase} {s' : List ℕ} {at'' n'' : ℕ} {ps'' : List ℕ} {p'' : Phase} {s'' : List ℕ} {xs ys : List Node} {deep deep' : ℕ}
    → Leads at n ps p s at' n' ps' p' s' xs deep → Leads at' n' ps' p' s' at'' n'' ps'' p'' s'' ys deep' → Leads at n ps p s at'' n'' ps'' p'' s'' (xs ++ ys) (max deep deep')
join {n = n} {n' = n'} {at'' = at''} {n'' = n''} {ps'' = ps''} {p'' = p''} {s'' = s''} {xs = xs} {ys = ys} {deep = deep} {deep' = deep'} a b = record {
  grows = omega (arith, a.grows, b.grows);
  ran = a.ran ∙ b.ran;
  noded = a.noded ∙ ap (λ (l : List Node). xs ++ l) b.noded ∙ sym (append_assoc xs ys (nodes at'' n'' ps'' p'' s''));
  judged = λ room h k. a.judged room (omega (arith, b.grows)) (omega arith) ∙ b.judged room h (omega arith);
  bounded = λ room r. let u = a.bounded room r in let v = b.bounded room u.2 in (omega (arith, u.0, v.0), (λ h. v.1 (u.1 h)), v.2);
}

pub reindex : {at n : ℕ} {ps : List ℕ} {p : Phase} {s : List ℕ} {at' n' : ℕ} {ps' : List ℕ} {p' : Phase} {s' : List ℕ} {xs : List Node} {deep : ℕ} {s₁ : List ℕ} {at₁ n₁ : ℕ} {xs₁ : List Node} {deep₁ : ℕ}
    → Leads at n ps p s at' n' ps' p' s' xs deep → s ≡ s₁ → at' ≡ at₁ → n' ≡ n₁ → xs ≡ xs₁ → deep ≡ deep₁ → Leads at n ps p s₁ at₁ n₁ ps' p' s' xs₁ deep₁
reindex {at = at} {n = n} {ps = ps} {p = p} {s = s} {at' = at'} {n' = n'} {ps' = ps'} {p' = p'} {s' = s'} {xs = xs} {deep = deep} {s₁ = s₁} {at₁ = at₁} {n₁ = n₁} {xs₁ = xs₁} l es ea en ex ed =
    subst (λ (d : ℕ). Leads at n ps p s₁ at₁ n₁ ps' p' s' xs₁ d) ed
    (subst (λ (x : List Node). Leads at n ps p s₁ at₁ n₁ ps' p' s' x deep) ex
    (subst (λ (k : ℕ). Leads at n ps p s₁ at₁ k ps' p' s' xs deep) en
    (subst (λ (k : ℕ). Leads at n ps p s₁ k n' ps' p' s' xs deep) ea
    (subst (λ (k : List ℕ). Leads at n ps p k at' n' ps' p' s' xs deep) es l))))

-- an act that is no refusal
abbrev pub Taken : Act → Type 0
Taken Enter = Unit {0}
Taken Leave = Unit {0}
Taken Begin = Unit {0}
Taken Extend = Unit {0}
Taken Skip = Unit {0}
Taken Refuse = ⊥

-- the depth that an act enters
abbrev pub entered : Act → Phase → ℕ
entered Enter p = suc (depth p)
entered Leave p = 0
entered Begin p = 0
entered Extend p = 0
entered Skip p = 0
entered Refuse p = 0

pub moved_taken : (a : Act) → Taken a → (r : Option Phase) → moved a r ≡ r
moved_taken Enter h r = refl
moved_taken Leave h r = refl
moved_taken Begin h r = refl
moved_taken Extend h r = refl
moved_taken Skip h r = refl
moved_taken Refuse h r = absurd h

begun-append : (a : Act) → Taken a → (x : Node) (xs : List Node) → begun a x xs ≡ begun a x [] ++ xs
begun-append Enter h x xs = refl
begun-append Leave h x xs = refl
begun-append Begin h x xs = refl
begun-append Extend h x xs = refl
begun-append Skip h x xs = refl
begun-append Refuse h x xs = absurd h

pub free : (a : Act) → Taken a → (room n : ℕ) (p : Phase) → counted n a ≤ room → entered a p ≤ deepest → fault room n p a ≡ 0
free Enter h room n p fits deep = ap (λ (t : Bool). cond t too_deep 0) (lt-leb deepest (depth p) deep)
free Leave h room n p fits deep = refl
free Begin h room n p fits deep = ap (λ (t : Bool). cond t no_node_room 0) (lt-leb room n (omega arith))
free Extend h room n p fits deep = refl
free Skip h room n p fits deep = refl
free Refuse h room n p fits deep = absurd h

bound : (a : Act) (room n : ℕ) (p : Phase) → fault room n p a ≡ 0 → (entered a p ≤ deepest) × (n ≤ room → counted n a ≤ room)
bound Enter room n p e = (not_deep (depth p) e, λ h. h)
bound Leave room n p e = (omega arith, λ h. h)
bound Begin room n p e = let h = not_full room n e in (omega arith, λ k. omega arith)
bound Extend room n p e = (omega arith, λ h. h)
bound Skip room n p e = (omega arith, λ h. h)
bound Refuse room n p e = (omega arith, λ h. h)

counted_grows : (n : ℕ) (a : Act) → n ≤ counted n a
counted_grows n Enter = omega arith
counted_grows n Leave = omega arith
counted_grows n Begin = omega arith
counted_grows n Extend = omega arith
counted_grows n Skip = omega arith
counted_grows n Refuse = omega arith

pub step : (at n : ℕ) (ps : List ℕ) (p : Phase) (b : ℕ) (s : List ℕ) (a : Act) → Taken a → a ≡ act p (kind_of b)
    → Leads at n ps p (b ∷ s) (at + 1) (counted n a) (stack a n ps) (to p a) s (begun a (node_at at (top ps) (b ∷ s)) []) (entered a p)
unfolding run_by nodes judge
step at n ps p b s a h e = record {
  grows = counted_grows n a;
  ran = ap (λ (x : Act). moved x (run (to p x) s)) (sym e) ∙ moved_taken a h (run (to p a) s);
  noded = ap (λ (x : Act). begun x (node_at at (top ps) (b ∷ s)) (nodes (at + 1) (counted n x) (stack x n ps) (to p x) s)) (sym e)
      ∙ begun-append a h (node_at at (top ps) (b ∷ s)) (nodes (at + 1) (counted n a) (stack a n ps) (to p a) s);
  judged = λ room fits deep. ap (λ (x : Act). unless (fault room n p x) at (judge room (at + 1) (counted n x) (to p x) s)) (sym e)
      ∙ ap (λ (k : ℕ). unless k at (judge room (at + 1) (counted n a) (to p a) s)) (free a h room n p fits deep);
  bounded = λ room r.
      let u = unless-read (fault room n p a) at (judge room (at + 1) (counted n a) (to p a) s) (ap (λ (x : Act). is_accepted (unless (fault room n p x) at (judge room (at + 1) (counted n x) (to p x) s))) e ∙ r) in
      let v = bound a room n p u.0 in (v.0, v.1, u.1);
}

-- ---- a word, spaces and a list

more-letters : {w : List ℕ} (at n : ℕ) (ps : List ℕ) (d : ℕ) (s : List ℕ) → Letters w → Leads at n ps (inside d Word) (w ++ s) (at + length w) n ps (inside d Word) s [] 0
more-letters at n ps d s (last {b = b} l) = step at n ps (inside d Word) b s Extend tt (ap (act_of Word) (sym (letter_kind l)))
more-letters at n ps d s (more {b = b} {w = w} l lw) =
    reindex (join (step at n ps (inside d Word) b (w ++ s) Extend tt (ap (act_of Word) (sym (letter_kind l)))) (more-letters (at + 1) n ps d s lw)) refl (omega arith) refl refl (omega arith)

begin-word : {w : List ℕ} (at n : ℕ) (ps : List ℕ) (d : ℕ) (m : Mode) (s : List ℕ) → Letters w → Begin ≡ act_of m Letter
    → Leads at n ps (inside d m) (w ++ s) (at + length w) (n + 1) ps (inside d Word) s (node_at at (top ps) (w ++ s) ∷ []) 0
begin-word at n ps d m s (last {b = b} l) e = step at n ps (inside d m) b s Begin tt (e ∙ ap (act_of m) (sym (letter_kind l)))
begin-word at n ps d m s (more {b = b} {w = w} l lw) e =
    reindex (join (step at n ps (inside d m) b (w ++ s) Begin tt (e ∙ ap (act_of m) (sym (letter_kind l)))) (more-letters (at + 1) (n + 1) ps d s lw)) refl (omega arith) refl refl (omega arith)

gap_enter : {g : List ℕ} (at n : ℕ) (ps : List ℕ) (d : ℕ) (s : List ℕ) → Spaces g
    → Leads at n ps (inside d Gap) (g ++ 0x28 ∷ s) (at + length g + 1) n (latest n ∷ ps) (inside (suc d) Free) s [] (suc (suc d))
unfolding kind_of
gap_enter at n ps d s no-space = reindex (step at n ps (inside d Gap) 0x28 s Enter tt refl) refl (omega arith) refl refl refl
gap_enter at n ps d s (one-space {g = g} sg) =
    reindex (join (step at n ps (inside d Gap) 0x20 (g ++ 0x28 ∷ s) Skip tt refl) (gap_enter (at + 1) n ps d s sg)) refl (omega arith) refl refl (omega arith)

word_enter : {g : List ℕ} (at n : ℕ) (ps : List ℕ) (d : ℕ) (s : List ℕ) → Spaces g
    → Leads at n ps (inside d Word) (g ++ 0x28 ∷ s) (at + length g + 1) n (latest n ∷ ps) (inside (suc d) Free) s [] (suc (suc d))
unfolding kind_of
word_enter at n ps d s no-space = reindex (step at n ps (inside d Word) 0x28 s Enter tt refl) refl (omega arith) refl refl refl
word_enter at n ps d s (one-space {g = g} sg) =
    reindex (join (step at n ps (inside d Word) 0x20 (g ++ 0x28 ∷ s) Skip tt refl) (gap_enter (at + 1) n ps d s sg)) refl (omega arith) refl refl (omega arith)

-- the deepest group that a list's words enter, with d groups around the list's own
abbrev pub enters : ℕ → Items → ℕ
enters d Items.none = 0
enters d (word a k xs) = enters d xs
enters d (group a k ys xs) = max (suc (suc d)) (max (enters (suc d) ys) (enters d xs))

pub enters_levels : (d : ℕ) (xs : Items) → max (suc d) (enters d xs) ≡ d + levels xs
enters_levels d Items.none = omega arith
enters_levels d (word a k xs) = enters_levels d xs
enters_levels d (group a k ys xs) =
    let y = enters_levels (suc d) ys in
    let x = enters_levels d xs in
    omega arith

leaves : (m : Mode) → Leave ≡ act_of m Close
leaves Free = refl
leaves Word = refl
leaves Gap = refl

skips : (m : Mode) → Skip ≡ act_of m Space
skips Free = refl
skips Word = refl
skips Gap = refl

paused : {A : Type 0} (m : Mode) → pause_of m ≡ Word → A
paused Free e = let z : ◌≡◌ {A = ℕ} 0 1 = cc in absurd (omega arith)
paused Word e = let z : ◌≡◌ {A = ℕ} 0 1 = cc in absurd (omega arith)
paused Gap e = let z : ◌≡◌ {A = ℕ} 0 1 = cc in absurd (omega arith)

begins : {w : List ℕ} (s : List ℕ) (m : Mode) → (m ≡ Word → Apart (w ++ s)) → Letters w → Begin ≡ act_of m Letter
begins s Free ok lw = refl
begins s Word ok (last l) = absurd (ok refl l)
begins s Word ok (more l lw) = absurd (ok refl l)
begins s Gap ok lw = refl

pub apart_close : (t s : List ℕ) → Apart t → Apart (t ++ 0x29 ∷ s)
apart_close [] s a = close_apart
apart_close (b ∷ t) s a = a

pub apart_spaces : {g : List ℕ} (s : List ℕ) → Spaces g → Apart (g ++ 0x28 ∷ s)
apart_spaces s no-space = open_apart
apart_spaces s (one-space sg) = space_apart

-- the node of a word, with what it looks ahead for found
node-is : {w : List ℕ} (at p : ℕ) (r : List ℕ) (k : ℕ) → Letters w → Apart r → opens r ≡ k
    → node_at at p (w ++ r) ≡ record { start = at; size = length w; parent = p; group = k }
node-is {w} at p r k lw a o =
    let e : letters (w ++ r) ≡ length w = letters_all r lw a in
    ap (λ (j : ℕ). record { start = at; size = j; parent = p; group = opens (drop j (w ++ r)) }) e
    ∙ ap (λ (l : List ℕ). record { start = at; size = length w; parent = p; group = opens l }) (drop-append_seam w r)
    ∙ ap (λ (j : ℕ). record { start = at; size = length w; parent = p; group = j }) o

pub free-word : {A : Type 0} → Free ≡ Word → A
free-word e = let z : ◌≡◌ {A = ℕ} 0 1 = cc in absurd (omega arith)

latest-one : (n : ℕ) → latest (n + 1) ≡ n
latest-one n = ap latest (add-one n)

pub behind : (w g t u s : List ℕ) → w ++ (g ++ 0x28 ∷ (t ++ 0x29 ∷ (u ++ 0x29 ∷ s))) ≡ (w ++ (g ++ 0x28 ∷ (t ++ 0x29 ∷ u))) ++ 0x29 ∷ s
behind w g t u s = simp append_assoc

pub walk : {at : ℕ} {xs : Items} {t : List ℕ} → ListAt at xs t → (m : Mode) → (m ≡ Word → Apart t) → (n p : ℕ) (ps : List ℕ) (d : ℕ) (s : List ℕ)
    → Leads at n (p ∷ ps) (inside d m) (t ++ 0x29 ∷ s) (at + length t + 1) (n + size xs) ps (leaving d) s (nodes_from p n xs) (enters d xs)
unfolding kind_of
walk (ends {at = at}) m ok n p ps d s = reindex (step at n (p ∷ ps) (inside d m) 0x29 s Leave tt (leaves m)) refl (omega arith) (omega arith) refl refl
walk (spaced {at = at} {s = t} r) m ok n p ps d s =
    reindex (join (step at n (p ∷ ps) (inside d m) 0x20 (t ++ 0x29 ∷ s) Skip tt (skips m)) (walk r (pause_of m) (paused m) n p ps d s))
    refl (omega arith) refl refl (omega arith)
walk (worded {at = at} {w = w} {s = t} {xs = xs} lw a r) m ok n p ps d s =
    reindex (join (begin-word at n (p ∷ ps) d m (t ++ 0x29 ∷ s) lw (begins t m ok lw)) (walk r Word (λ e. a) (n + 1) p ps d s))
    (sym (append_assoc w t (0x29 ∷ s)))
    (omega (arith, length-append w t))
    (omega arith)
    (ap (λ (x : Node). x ∷ nodes_from p (n + 1) xs) (node-is at p (t ++ 0x29 ∷ s) 0 lw (apart_close t s a) (opens-list s r)))
    (omega arith)
walk (grouped {at = at} {w = w} {g = g} {t = t} {s = u} {ys = ys} {xs = xs} lw sg q r) m ok n p ps d s =
    let after-inner : List ℕ = u ++ 0x29 ∷ s in
    let inner : List ℕ = t ++ 0x29 ∷ after-inner in
    let here : ℕ = at + length w in
    let name = begin-word at n (p ∷ ps) d m (g ++ 0x28 ∷ inner) lw (begins (g ++ 0x28 ∷ (t ++ 0x29 ∷ u)) m ok lw) in
    let enter = subst (λ (k : ℕ). Leads here (n + 1) (p ∷ ps) (inside d Word) (g ++ 0x28 ∷ inner) (here + length g + 1) (n + 1) (k ∷ p ∷ ps) (inside (suc d) Free) inner [] (suc (suc d)))
    (latest-one n) (word_enter here (n + 1) (p ∷ ps) d inner sg) in
    let within = walk q Free free-word (n + 1) n (p ∷ ps) (suc d) after-inner in
    let rest = walk r Free free-word (n + 1 + size ys) p ps d s in
    reindex (join (join name enter) (join within rest))
    (behind w g t u s)
    (omega (arith, length-append w (g ++ 0x28 ∷ (t ++ 0x29 ∷ u)), length-append g (0x28 ∷ (t ++ 0x29 ∷ u)), length-append t (0x29 ∷ u)))
    (omega arith)
    (ap (λ (x : Node). x ∷ (nodes_from n (n + 1) ys ++ nodes_from p (n + 1 + size ys) xs)) (node-is at p (g ++ 0x28 ∷ inner) 1 lw (apart_spaces inner sg) (opens-spaces inner sg)))
    (omega arith)

-- ---- a text

-- zeros behind the outer group make no node, and none is refused
stays : (at n : ℕ) → Leads at n [] after [] at n [] after [] [] 0
stays at n = record { grows = omega arith; ran = refl; noded = refl; judged = λ room h k. refl; bounded = λ room r. (omega arith, (λ h. h), r) }

walk_zeros : {z : List ℕ} (at n : ℕ) → Zeros z → Leads at n [] after z (at + length z) n [] after [] [] 0
unfolding kind_of
walk_zeros at n no_zero = reindex (stays at n) refl (omega arith) refl refl refl
walk_zeros at n (one-zero {z = z} sz) = reindex (join (step at n [] after 0 z Skip tt refl) (walk_zeros (at + 1) n sz)) refl (omega arith) refl refl refl

pub walk_text : {xs : Items} {s : List ℕ} → Text xs s → Leads 0 0 [] before s (length s) (size xs) [] after [] (nodes_from no_parent 0 xs) (levels xs)
unfolding kind_of
walk_text (text {xs = xs} {t = t} {z = z} r sz) =
    reindex (join (join (step 0 0 [] before 0x28 (t ++ 0x29 ∷ z) Enter tt refl) (walk r Free free-word 0 no_parent [] 0 z)) (walk_zeros (0 + 1 + length t + 1) (0 + size xs) sz))
    refl (omega (arith, length-append t (0x29 ∷ z))) (omega arith) (append-nil (nodes_from no_parent 0 xs)) (omega (arith, enters_levels 0 xs))
