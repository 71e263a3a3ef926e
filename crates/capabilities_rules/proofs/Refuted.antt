-- What demand 2 rejects: readers that are wrong in one thing each, refuted by one string each.
-- Assumes nothing.
use Prim.Native.Nat.{ℕ, zero, suc, ◌+◌}
use mathlib.Core.Path.{◌≡◌, refl, sym, ap}
use mathlib.Core.Bool.{Bool, cond}
use mathlib.Core.List.{List, [], ◌∷◌, ◌++◌, map}
use native.Mathlib.Omega.{arith}
use lib.Dec.{leb, eqb}
use lib.ListN.{length, get_or, replicate, length-append, length-replicate}
use borrow.Author.Tests.{le-leb}
use Rattle.capabilities_rules.specs.Grammar.{none, word, ListAt, ends, spaced, worded, last, no_zero, text, Fits, Node}
use Rattle.capabilities_rules.specs.Machine.{before, kind_of}
use Rattle.capabilities_rules.specs.Outcome.{told, Refused, judge, outcome, is_accepted, Reading, Accepted}
use Rattle.capabilities_rules.specs.Nodes.{letters, opens, nodes, nodes_of}
use Rattle.capabilities_rules.specs.Buffers.{Buffers, buffers, buffer_room, written}
use Rattle.capabilities_rules.specs.Prefixes.{Why, too_long, cut_short, wrong_byte, ninth-open, no_node}
use Rattle.capabilities_rules.specs.Demand2.{Promise, Demand2}
use Rattle.capabilities_rules.proofs.Theorems.{theorems}
use Rattle.capabilities_rules.proofs.Walk.{walk_text}

-- no room at all
abbrev pub bare : Buffers
bare = buffers [] [] [] []

-- ---- a reader that refuses everything

abbrev refuses_all : Promise
refuses_all s t t' r = (r ≡ Refused 13 0) × (t' ≡ t)

-- "()" fits
empty_fits : Fits 0 (0x28 ∷ 0x29 ∷ []) none
empty_fits = record { grammar = text ends no_zero; deep = omega arith; roomy = omega arith; short = omega arith }

pub no_refuser : Demand2 refuses_all → ⊥
no_refuser h =
    let a = ((h.rightly (0x28 ∷ 0x29 ∷ []) bare bare (Refused 13 0) (refl, refl)).accepts none empty_fits).counts in
    let z : ◌≡◌ {A = ℕ} 0 1 = cc in
    omega arith

-- ---- a reader that takes one byte too many

abbrev takes_more : Promise
takes_more s t t' r = (r ≡ cond (leb (length s) 4097) (judge (buffer_room t) 0 0 before s) (Refused 11 0)) × (t' ≡ written (told r).number (nodes_of s) t)

-- "(", n spaces, ")"
abbrev spacious : ℕ → List ℕ
spacious n = 0x28 ∷ (replicate n 0x20 ++ 0x29 ∷ [])

all_spaces : (n at : ℕ) → ListAt at none (replicate n 0x20)
all_spaces zero at = ends
all_spaces (suc n) at = spaced (all_spaces n (at + 1))

spacious_accepted : (room n : ℕ) → judge room 0 0 before (spacious n) ≡ Accepted 0
unfolding judge
spacious_accepted room n = (walk_text (text (all_spaces n 1) no_zero)).judged room (omega arith) (omega arith)

spacious_length : (n : ℕ) → length (spacious n) ≡ n + 2
spacious_length n = simp (length-append, length-replicate) (omega arith)

no_longer_by : (n : ℕ) → n ≡ 4095 → Demand2 takes_more → ⊥
no_longer_by n is h =
    let long = spacious_length n in
    let r : Reading = judge 0 0 0 before (spacious n) in
    let kept = h.rightly (spacious n) bare (written (told r).number (nodes_of (spacious n)) bare) r (ap (λ (b : Bool). cond b r (Refused 11 0)) (sym (le-leb (length (spacious n)) 4097 (omega arith))), refl) in
    let a = kept.refused-there 11 0 (too_long (omega arith)) in
    let b = spacious_accepted 0 n in
    let z : ◌≡◌ {A = ℕ} 0 1 = cc in
    omega arith

pub no_longer : Demand2 takes_more → ⊥
no_longer = no_longer_by 4095 refl

-- ---- a reader that gives the next number: 14 for 13, 15 for 14, 13 for 15

abbrev turned : ℕ → ℕ
turned k = cond (eqb k 13) 14 (cond (eqb k 14) 15 (cond (eqb k 15) 13 k))

abbrev rotated : Reading → Reading
rotated (Accepted n) = Accepted n
rotated (Refused k p) = Refused (turned k) p

abbrev rotates : Promise
rotates s t t' r = (r ≡ rotated (outcome (buffer_room t) s)) × (t' ≡ written (told r).number (nodes_of s) t)

-- an empty string has no word for which there is no node
no_word : {k p : ℕ} → Why 0 [] k p → k ≡ 14 → ⊥
no_word (too_long _) e = omega arith
no_word (cut_short _ _) e = omega arith
no_word (wrong_byte _ _ _) e = omega arith
no_word (ninth-open _ _ _ _ _ _) e = omega arith
no_word (no_node _ h _ _ _) e = omega arith

pub no_rotator : Demand2 rotates → ⊥
unfolding outcome judge
no_rotator h = no_word ((h.rightly [] bare bare (Refused 14 0) (refl, refl)).refuses 14 0 refl).0 refl

-- ---- a reader that gives 13 for the ninth "("

abbrev levelled : Reading → Reading
levelled (Accepted n) = Accepted n
levelled (Refused k p) = Refused (cond (eqb k 15) 13 k) p

abbrev levels15 : Promise
levels15 s t t' r = (r ≡ levelled (outcome (buffer_room t) s)) × (t' ≡ written (told r).number (nodes_of s) t)

-- n words, each with a group that nothing ends
abbrev descent : ℕ → List ℕ
descent zero = []
descent (suc n) = 0x61 ∷ 0x28 ∷ descent n

-- room for eight nodes
abbrev eight : Buffers
eight = buffers (replicate 8 0) (replicate 8 0) (replicate 8 0) (replicate 8 0)

-- the outer group and eight in it: the last "(" is the ninth
pub no_levelling : Demand2 levels15 → ⊥
unfolding outcome judge kind_of
no_levelling h =
    let s : List ℕ = 0x28 ∷ descent 8 in
    let a = (h.rightly s eight eight (Refused 13 16) (refl, refl)).refused-there 15 16 (theorems.refusals 8 15 16 s refl) in
    let z : ◌≡◌ {A = ℕ} 13 15 = ap (λ (r : Reading). (told r).number) a in
    omega arith

-- ---- a reader that overlooks a byte behind the outer group

-- the string without its last byte
abbrev cut : List ℕ → List ℕ
cut [] = []
cut (b ∷ []) = []
cut (b ∷ c ∷ s) = b ∷ cut (c ∷ s)

abbrev overlooks : Promise
overlooks s t t' r =
    (r ≡ cond (is_accepted (outcome (buffer_room t) (cut s))) (outcome (buffer_room t) (cut s)) (outcome (buffer_room t) s)) × (t' ≡ written (told r).number (nodes_of (cut s)) t)

-- "() "
pub no_overlooking : Demand2 overlooks → ⊥
unfolding outcome judge kind_of nodes nodes_of
no_overlooking h =
    let s : List ℕ = 0x28 ∷ 0x29 ∷ 0x20 ∷ [] in
    let a = (h.rightly s bare bare (Accepted 0) (refl, refl)).refused-there 13 2 (theorems.refusals 0 13 2 s refl) in
    let z : ◌≡◌ {A = ℕ} 0 13 = ap (λ (r : Reading). (told r).number) a in
    omega arith

-- ---- a reader that takes a space for a letter

abbrev joined : ℕ → ℕ
joined b = cond (eqb b 0x20) 0x61 b

abbrev joins : Promise
joins s t t' r = (r ≡ outcome (buffer_room t) (map joined s)) × (t' ≡ written (told r).number (nodes_of (map joined s)) t)

-- "( )" fits
gap-fits : Fits 0 (0x28 ∷ 0x20 ∷ 0x29 ∷ []) none
gap-fits = record { grammar = text (spaced ends) no_zero; deep = omega arith; roomy = omega arith; short = omega arith }

pub no_joining : Demand2 joins → ⊥
unfolding outcome judge kind_of
no_joining h =
    let a = ((h.rightly (0x28 ∷ 0x20 ∷ 0x29 ∷ []) bare bare (Refused 14 1) (refl, refl)).accepts none gap-fits).counts in
    let z : ◌≡◌ {A = ℕ} 14 0 = ap (λ (r : Reading). (told r).number) a in
    omega arith

-- ---- a reader that gives 65,534 as the parent at the top

abbrev lowered : Node → Node
lowered x = record { start = x.start; size = x.size; parent = cond (eqb x.parent 65535) 65534 x.parent; group = x.group }

abbrev lowers : Promise
lowers s t t' r = (r ≡ outcome (buffer_room t) s) × (t' ≡ written (told r).number (map lowered (nodes_of s)) t)

-- room for one node
abbrev pub single : Buffers
single = buffers (0 ∷ []) (0 ∷ []) (0 ∷ []) (0 ∷ [])

-- "(a)" fits
word_fits : Fits 1 (0x28 ∷ 0x61 ∷ 0x29 ∷ []) (word 1 1 none)
word_fits = record { grammar = text (worded (last {b = 0x61} (record { low = omega arith; high = omega arith; no-open = λ e. omega arith; no-close = λ e. omega arith })) tt ends) no_zero; deep = omega arith; roomy = omega arith; short = omega arith }

pub no_lowering : Demand2 lowers → ⊥
unfolding outcome judge kind_of letters opens nodes nodes_of
no_lowering h =
    let a = ((h.rightly (0x28 ∷ 0x61 ∷ 0x29 ∷ []) single (buffers (1 ∷ []) (1 ∷ []) (65534 ∷ []) (0 ∷ [])) (Accepted 1) (refl, refl)).accepts (word 1 1 none) word_fits).holds.parents in
    let z : ◌≡◌ {A = ℕ} 65534 65535 = ap (λ (l : List ℕ). get_or l 0 0) a in
    omega arith

-- ---- a reader that gives the position past a word as its start

abbrev ended : Node → Node
ended x = record { start = x.start + x.size; size = x.size; parent = x.parent; group = x.group }

abbrev starts_late : Promise
starts_late s t t' r = (r ≡ outcome (buffer_room t) s) × (t' ≡ written (told r).number (map ended (nodes_of s)) t)

pub no_late_start : Demand2 starts_late → ⊥
unfolding outcome judge kind_of letters opens nodes nodes_of
no_late_start h =
    let a = ((h.rightly (0x28 ∷ 0x61 ∷ 0x29 ∷ []) single (buffers (2 ∷ []) (1 ∷ []) (65535 ∷ []) (0 ∷ [])) (Accepted 1) (refl, refl)).accepts (word 1 1 none) word_fits).holds.starts in
    let z : ◌≡◌ {A = ℕ} 2 1 = ap (λ (l : List ℕ). get_or l 0 0) a in
    omega arith

-- ---- a reader that stores nodes as it goes, and leaves them where it refuses

abbrev spills : Promise
spills s t t' r = (r ≡ outcome (buffer_room t) s) × (t' ≡ written 0 (nodes_of s) t)

-- "(a" is cut short
pub no_spilling : Demand2 spills → ⊥
unfolding outcome judge kind_of letters opens nodes nodes_of
no_spilling h =
    let a = ((h.rightly (0x28 ∷ 0x61 ∷ []) single (buffers (1 ∷ []) (1 ∷ []) (65535 ∷ []) (0 ∷ [])) (Refused 13 2) (refl, refl)).refuses 13 2 refl).1 in
    let z : ◌≡◌ {A = ℕ} 1 0 = ap (λ (t : Buffers). get_or t.starts 0 0) a in
    omega arith
