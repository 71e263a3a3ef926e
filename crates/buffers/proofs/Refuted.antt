-- Wrong rules, and that the theorems do not hold of them: bytes put one place too far, bytes put in front of what stood
-- there, bytes cut where they do not fit, a part one byte too far.
use mathlib.Core.Path.{◌≡◌, ap}
use mathlib.Core.List.{List, [], ◌∷◌, ◌++◌}
use Prim.Native.Nat.{ℕ, ◌+◌}
use native.Mathlib.Omega.{arith}
use lib.ListN.{length, get_or, take, drop}
use Rattle.buffers.specs.Buffers.{put, part_of}
use Rattle.buffers.specs.Statements.{PutRule, PartRule, PutsBytes, PutsOrLeaves, PartBytes}

-- two bytes, and one that is put at index 0
abbrev two : List ℕ
two = 5 ∷ 6 ∷ []

abbrev one : List ℕ
one = 7 ∷ []

abbrev puts_too_far : PutRule
puts_too_far out at s = put out (at + 1) s

pub puts_too_far_refuted : PutsBytes puts_too_far → ⊥
puts_too_far_refuted h = let e : ◌≡◌ {A = ℕ} 5 7 = (h two 0 one (omega arith)).there 0 (omega arith) in omega arith

abbrev inserts : PutRule
inserts out at s = take at out ++ (s ++ drop at out)

pub inserts_refuted : PutsBytes inserts → ⊥
inserts_refuted h = let e : ◌≡◌ {A = ℕ} 5 6 = (h two 0 one (omega arith)).behind 1 (omega arith) in omega arith

-- bytes past the end are cut off, and the others put
abbrev puts_some : PutRule
puts_some out at s = take (length out) (put out at s)

pub puts-some_refuted : PutsOrLeaves puts_some → ⊥
puts-some_refuted h = let e : ◌≡◌ {A = List ℕ} (7 ∷ []) (5 ∷ []) = h.leaves (5 ∷ []) 0 (7 ∷ 7 ∷ []) (omega arith) in let f : ◌≡◌ {A = ℕ} 7 5 = ap (λ (l : List ℕ). get_or l 0 0) e in omega arith

abbrev part_too_far : PartRule
part_too_far s at n = part_of s (at + 1) n

pub part_too_far_refuted : PartBytes part_too_far → ⊥
part_too_far_refuted h = let e : ◌≡◌ {A = ℕ} 6 5 = (h two 0 1 (omega arith)).bytes 0 (omega arith) in omega arith
