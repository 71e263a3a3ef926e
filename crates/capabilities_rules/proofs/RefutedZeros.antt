-- What K2 rejects: readers that are wrong about zero bytes in one thing each, refuted by one string each.
-- None of them meets demand 2 either, since what meets it reads zeros as K2 says: `none_meets_demand2`.
-- Assumes nothing.
use Prim.Native.Nat.{ℕ, zero, suc, ◌+◌, ◌-◌}
use mathlib.Core.Path.{◌≡◌, refl, sym, ap, ◌∙◌}
use mathlib.Core.Bool.{cond, ◌&&◌}
use mathlib.Core.List.{List, [], ◌∷◌, ◌++◌, map}
use mathlib.Core.Option.{some}
use native.Mathlib.Omega.{arith}
use lib.Dec.{leb, eqb}
use lib.ListN.{length, replicate, length-append, length-replicate}
use Rattle.capabilities_rules.specs.Grammar.{none, ends, Zeros, no_zero, one-zero, Items, Text, text, Node}
use Rattle.capabilities_rules.specs.Machine.{before, inside, after, run_by, kind_of}
use Rattle.capabilities_rules.specs.Outcome.{told, Refused, judge, outcome, Reading, Accepted}
use Rattle.capabilities_rules.specs.Nodes.{nodes, nodes_of}
use Rattle.capabilities_rules.specs.Buffers.{buffers, buffer_room, written}
use Rattle.capabilities_rules.specs.Prefixes.{nest, words_in}
use Rattle.capabilities_rules.specs.Words.{last_of}
use Rattle.capabilities_rules.specs.Demand2.{Promise, Demand2}
use Rattle.capabilities_rules.specs.Zeros.{ReadsZeros}
use Rattle.capabilities_rules.specs.Kinds.{Free}
use Rattle.capabilities_rules.proofs.Theorems.{theorems}
use Rattle.capabilities_rules.proofs.Walk.{walk_text}
use Rattle.capabilities_rules.proofs.Zeros.{reads_zeros}
use Rattle.capabilities_rules.proofs.Refuted.{bare, single}

pub none_meets_demand2 : (P : Promise) → (ReadsZeros P → ⊥) → Demand2 P → ⊥
none_meets_demand2 P wrong d = wrong (reads_zeros P d)

-- the reader that takes f s for the string s
abbrev reading : (List ℕ → List ℕ) → Promise
reading f s t t' r = (r ≡ outcome (buffer_room t) (f s)) × (t' ≡ written (told r).number (nodes_of (f s)) t)

-- "()"
abbrev empty : List ℕ
empty = 0x28 ∷ 0x29 ∷ []

-- what is accepted is not refused with 13
not_13 : {n p : ℕ} → Accepted n ≡ Refused 13 p → ⊥
not_13 e = let z : ◌≡◌ {A = ℕ} 0 13 = ap (λ (r : Reading). (told r).number) e in omega arith

-- ---- document 01's reader, which takes no zero: to it 00 is as 01

abbrev hard : ℕ → ℕ
hard b = cond (eqb b 0) 1 b

abbrev takes_none : Promise
takes_none = reading (map hard)

pub no_old_reader : ReadsZeros takes_none → ⊥
unfolding outcome judge kind_of nodes nodes_of
no_old_reader h =
    let a = (h.behind empty (0 ∷ []) bare bare bare (Accepted 0) (Refused 13 2) (one-zero no_zero) (refl, refl) (refl, refl)).accepts refl (omega arith) in
    omega arith

-- ---- a reader that takes one zero and no more: to it 00 behind the first is as 01

abbrev first_only : List ℕ → List ℕ
first_only [] = []
first_only (b ∷ s) = cond (eqb b 0) (0 ∷ map hard s) (b ∷ first_only s)

abbrev takes_one : Promise
takes_one = reading first_only

pub no_single_zero : ReadsZeros takes_one → ⊥
unfolding outcome judge kind_of nodes nodes_of
no_single_zero h =
    let a = (h.behind empty (0 ∷ 0 ∷ []) bare bare bare (Accepted 0) (Refused 13 3) (one-zero (one-zero no_zero)) (refl, refl) (refl, refl)).accepts refl (omega arith) in
    omega arith

-- ---- a reader that takes a zero inside a group, for a space

abbrev blanked : ℕ → List ℕ → List ℕ
blanked d [] = []
blanked d (b ∷ s) = cond (leb 1 d && eqb b 0) 0x20 b ∷ blanked (nest (kind_of b) d) s

abbrev blanks : Promise
blanks = reading (blanked 0)

open_only : (xs : Items) → Text xs (0x28 ∷ []) → ⊥
unfolding run_by kind_of
open_only xs f = let e : some (inside 0 Free) ≡ some after = (walk_text f).ran in let z : ◌≡◌ {A = ℕ} 0 1 = cc in omega arith

-- "(" 00 ")"
pub no_zero-inside : ReadsZeros blanks → ⊥
unfolding outcome judge kind_of nodes nodes_of run_by words_in
no_zero-inside h =
    not_13 (h.elsewhere (0x28 ∷ 0 ∷ 0x29 ∷ []) bare bare (Accepted 0) 1 (refl, refl)
    (record { short = omega arith; viable = theorems.passes-capped (0x28 ∷ []) (inside 0 Free) refl; roomy = omega arith }) (omega arith) open_only refl)

-- ---- a reader that passes over zeros before the group

-- how many there are, and what follows them
abbrev led : List ℕ → ℕ
led [] = 0
led (b ∷ s) = cond (eqb b 0) (led s + 1) 0

abbrev unled : List ℕ → List ℕ
unled [] = []
unled (b ∷ s) = cond (eqb b 0) (unled s) (b ∷ s)

abbrev passes_over : Promise
passes_over s t t' r =
    (r ≡ cond (leb (length s) 4096) (judge (buffer_room t) (led s) 0 before (unled s)) (Refused 11 0)) × (t' ≡ written (told r).number (nodes (led s) 0 [] before (unled s)) t)

no_bytes : (xs : Items) → Text xs [] → ⊥
unfolding run_by
no_bytes xs f = let e : some before ≡ some after = (walk_text f).ran in let z : ◌≡◌ {A = ℕ} 0 1 = cc in omega arith

-- 00 "()"
pub no_zero-first : ReadsZeros passes_over → ⊥
unfolding judge kind_of nodes run_by words_in
no_zero-first h =
    not_13 (h.elsewhere (0 ∷ empty) bare bare (Accepted 0) 0 (refl, refl)
    (record { short = omega arith; viable = theorems.passes-capped [] before refl; roomy = omega arith }) (omega arith) no_bytes refl)

-- ---- a reader that looks no further than the first zero, as C does

abbrev up_to_zero : List ℕ → List ℕ
up_to_zero [] = []
up_to_zero (b ∷ s) = cond (eqb b 0) [] (b ∷ up_to_zero s)

abbrev stops_at_zero : Promise
stops_at_zero s t t' r = (r ≡ cond (leb (length s) 4096) (judge (buffer_room t) 0 0 before (up_to_zero s)) (Refused 11 0)) × (t' ≡ written (told r).number (nodes_of (up_to_zero s)) t)

-- "()" 00 "a"
pub no_letter_after : ReadsZeros stops_at_zero → ⊥
unfolding judge kind_of nodes nodes_of run_by words_in
no_letter_after h =
    not_13 (h.nothing-else (empty ++ 0 ∷ 0x61 ∷ []) bare bare (Accepted 0) 3 none (refl, refl)
    (record { short = omega arith; viable = theorems.passes-capped (empty ++ 0 ∷ []) after refl; roomy = omega arith }) (omega arith) (text ends (one-zero no_zero)) (λ e. omega arith))

-- ---- a reader that does not count zeros: it takes them off before it measures

abbrev unless-last : ℕ → List ℕ → List ℕ
unless-last b [] = cond (eqb b 0) [] (b ∷ [])
unless-last b (c ∷ s) = b ∷ c ∷ s

unfoldable pub stripped : List ℕ → List ℕ
stripped [] = []
stripped (b ∷ s) = unless-last b (stripped s)

abbrev uncounted : Promise
uncounted = reading stripped

all_zeros : (n : ℕ) → Zeros (replicate n 0)
all_zeros zero = no_zero
all_zeros (suc n) = one-zero (all_zeros n)

stripped_zeros : (n : ℕ) → stripped (replicate n 0) ≡ []
unfolding stripped
stripped_zeros zero = refl
stripped_zeros (suc n) = ap (unless-last 0) (stripped_zeros n)

stripped_empty : (n : ℕ) → stripped (empty ++ replicate n 0) ≡ empty
unfolding stripped
stripped_empty n = ap (λ (l : List ℕ). unless-last 0x28 (unless-last 0x29 l)) (stripped_zeros n)

no_uncounted_by : (n : ℕ) → n ≡ 4095 → ReadsZeros uncounted → ⊥
unfolding outcome judge kind_of nodes nodes_of stripped
no_uncounted_by n is h =
    let e : empty ≡ stripped (empty ++ replicate n 0) = sym (stripped_empty n) in
    let long : 4096 + 1 ≡ length (empty ++ replicate n 0) = sym (length-append empty (replicate n 0) ∙ ap (λ (k : ℕ). 2 + k) (length-replicate n 0) ∙ ap (λ (k : ℕ). 2 + k) is) in
    let a = ((h.behind empty (replicate n 0) bare bare bare (Accepted 0) (Accepted 0) (all_zeros n) (refl, refl) (ap (outcome 0) e, ap (λ (l : List ℕ). written 0 (nodes_of l) bare) e)).counted (omega arith)).0 in
    let z : ◌≡◌ {A = ℕ} 0 11 = ap (λ (r : Reading). (told r).number) a in
    omega arith

pub no_uncounted : ReadsZeros uncounted → ⊥
no_uncounted = no_uncounted_by 4095 refl

-- ---- a reader that makes a node of a zero at the end

abbrev one_more : (room : ℕ) → List ℕ → Reading → Reading
one_more room s (Accepted n) = cond (eqb (last_of s) 0) (cond (leb room n) (Refused 14 (length s - 1)) (Accepted (n + 1))) (Accepted n)
one_more room s (Refused k p) = Refused k p

abbrev zero_node : List ℕ → List Node
zero_node s = cond (eqb (last_of s) 0) (record { start = length s - 1; size = 1; parent = 65535; group = 0 } ∷ []) []

abbrev makes_node : Promise
makes_node s t t' r = (r ≡ one_more (buffer_room t) s (outcome (buffer_room t) s)) × (t' ≡ written (told r).number (nodes_of s ++ zero_node s) t)

pub no_node_of_zero : ReadsZeros makes_node → ⊥
unfolding outcome judge kind_of nodes nodes_of
no_node_of_zero h =
    let a = ((h.behind empty (0 ∷ []) single single (buffers (2 ∷ []) (1 ∷ []) (65535 ∷ []) (0 ∷ [])) (Accepted 0) (Accepted 1) (one-zero no_zero) (refl, refl) (refl, refl)).same (omega arith)).0 in
    let z : ◌≡◌ {A = ℕ} 1 0 = ap (λ (r : Reading). (told r).nodes) a in
    omega arith

-- ---- a reader that looks for zeros inside the outer group before it judges anything else

-- 13 at the first zero while d brackets are open, else what the rest gives
abbrev sought : (at d : ℕ) → List ℕ → Reading → Reading
sought at d [] rest = rest
sought at d (b ∷ s) rest = cond (leb d 0) rest (cond (eqb b 0) (Refused 13 at) (sought (at + 1) (nest (kind_of b) d) s rest))

abbrev sought_in : List ℕ → Reading → Reading
sought_in [] rest = rest
sought_in (b ∷ s) rest = sought 1 (nest (kind_of b) 0) s rest

abbrev seeks_zeros : Promise
seeks_zeros s t t' r = (r ≡ cond (leb (length s) 4096) (sought_in (stripped s) (outcome (buffer_room t) s)) (Refused 11 0)) × (t' ≡ written (told r).number (nodes_of s) t)

-- "((" 00 ")"
pub no_later_zero : ReadsZeros seeks_zeros → ⊥
unfolding outcome judge kind_of nodes nodes_of stripped
no_later_zero h =
    let s : List ℕ = 0x28 ∷ 0x28 ∷ 0 ∷ 0x29 ∷ [] in
    let a = h.earlier s bare bare (Refused 13 2) 13 1 2 (refl, refl) (theorems.refusals 0 13 1 s refl) (omega arith) (omega arith) refl in
    let z : ◌≡◌ {A = ℕ} 2 1 = ap (λ (r : Reading). (told r).place) a in
    omega arith
