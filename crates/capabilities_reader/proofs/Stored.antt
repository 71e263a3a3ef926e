-- Nodes stored one by one come to their values in front of what the buffers held; and what the filler leaves of an accepted string.
use Prim.Native.Nat.{ℕ, ◌+◌, ◌-◌, ◌≤◌}
use mathlib.Core.Path.{◌≡◌, refl, sym, ap, ◌∙◌}
use mathlib.Core.Bool.{true}
use mathlib.Core.List.{List, [], ◌∷◌, ◌++◌, map}
use native.Mathlib.Numerals.{add-one}
use native.Mathlib.Nat.{zero-add}
use native.Mathlib.Omega.{arith}
use lib.ListN.{length, drop, length-map}
use lib.Seq.{sets, sets-eq}
use Rattle.capabilities_rules.specs.Limits.{deepest, no_parent}
use Rattle.capabilities_rules.specs.Grammar.{Node}
use Rattle.capabilities_rules.specs.Machine.{before, after}
use Rattle.capabilities_rules.specs.Outcome.{outcome, is_accepted, Reading, Accepted, Refused}
use Rattle.capabilities_rules.specs.Nodes.{nodes, nodes_of}
use Rattle.buffers.specs.Buffers.{over}
use Rattle.capabilities_rules.specs.Buffers.{Buffers, buffers, buffer_room, written}
use Rattle.capabilities_rules.proofs.Whole.{accepted, nodes-past, nodes_open, judge-count, outcome-short}
use Rattle.capabilities_reader.specs.Filler.{put, stored, Fillable, Filled}

pub stored_sets : (xs : List Node) (t : Buffers) (n : ℕ)
    → stored t n xs ≡ buffers (sets t.starts n (map (λ x. x.start) xs)) (sets t.lengths n (map (λ x. x.size) xs)) (sets t.parents n (map (λ x. x.parent) xs)) (sets t.groups n (map (λ x. x.group) xs))
unfolding stored
stored_sets [] t n = refl
stored_sets (x ∷ xs) t n = stored_sets xs (put t n x) (n + 1) ∙ rw add-one

sets_over : (vs l : List ℕ) → length vs ≤ length l → sets l 0 vs ≡ over vs l
sets_over vs l h = sets-eq vs l 0 (omega arith) ∙ ap (λ (k : ℕ). vs ++ drop k l) (zero-add (length vs))

pub stored-over : (xs : List Node) (t : Buffers) → length xs ≤ buffer_room t → stored t 0 xs ≡ written 0 xs t
stored-over xs t h =
    let column : (f : Node → ℕ) (l : List ℕ) → length xs ≤ length l → sets l 0 (map f xs) ≡ over (map f xs) l =
    λ f l fits. sets_over (map f xs) l (omega (arith, length-map xs f)) in
    stored_sets xs t 0
    ∙ rw (column (λ x. x.start) t.starts (omega arith), column (λ x. x.size) t.lengths (omega arith), column (λ x. x.parent) t.parents (omega arith), column (λ x. x.group) t.groups (omega arith))

-- ---- an accepted string

-- an accepted reading has a number of nodes
made : (r : Reading) → is_accepted r ≡ true → (n : ℕ) × (r ≡ Accepted n)
made (Accepted n) e = (n, refl)
made (Refused k p) e = let z : ◌≡◌ {A = ℕ} 0 1 = cc in absurd (omega arith)

module _ (s : List ℕ) (t : Buffers) (ok : is_accepted (outcome (buffer_room t) s) ≡ true) where
  -- its outer group's list can be filled from its second byte on ..
  pub fillable : Fillable 1 (deepest - 1) 0 s t
  fillable =
      let m = made (outcome (buffer_room t) s) ok in
      let a = accepted (buffer_room t) m.0 s m.1 in
      record { small = a.small; begun = a.some; levels = omega arith; fits = omega arith; read = ap is_accepted a.inner }

  -- .. and then all its nodes are stored
  pub filled : (t' : Buffers) (next k : ℕ) → Filled 1 (deepest - 1) 0 no_parent s t t' next k → t' ≡ written 0 (nodes_of s) t
  unfolding stored nodes_of
  filled t' next k f =
      let m = made (outcome (buffer_room t) s) ok in
      let a = accepted (buffer_room t) m.0 s m.1 in
      let ended : stored t' k (nodes next k [] after (drop next s)) ≡ t' = ap (stored t' k) (nodes-past (drop next s) next k []) in
      let whole : stored t 0 (nodes_of s) ≡ t' = ap (stored t 0) (nodes_open (buffer_room t) s a.some a.opens) ∙ f.same [] ∙ ended in
      let count = judge-count (buffer_room t) 0 m.0 s 0 [] before (sym (outcome-short (buffer_room t) s a.small) ∙ m.1) in
      let room : m.0 ≤ buffer_room t = count.1 (omega arith) in
      sym whole ∙ stored-over (nodes_of s) t (omega (arith, count.0, room))
