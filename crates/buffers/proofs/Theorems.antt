-- The theorems of specs/Statements.antt.
use mathlib.Core.Path.{◌≡◌, refl, sym, ap, ◌∙◌, subst}
use mathlib.Core.List.{List, ◌++◌}
use Prim.Native.Nat.{ℕ, ◌+◌, ◌-◌, ◌≤◌, ◌<◌}
use native.Mathlib.Omega.{arith}
use lib.ListN.{length, get_or, take, drop, length-drop, get_or-append}
use lib.Seq.{get_or-append-add, get_or-take, get_or-drop, take_at, drop_at, length-take-le}
use Rattle.buffers.specs.Buffers.{over, put, put_whole, part_of}
use Rattle.buffers.specs.Statements.{PutsBytes, PutsThere, PutsOrLeaves, OverPuts, PartBytes, PutComesBack}
use Rattle.buffers.proofs.Puts.{put-length, put-over, put-fits, put_not}

-- ---- each byte

-- a byte behind a seam, by its own index
past : (xs ys : List ℕ) (i : ℕ) → length xs ≤ i → get_or (xs ++ ys) i 0 ≡ get_or ys (i - length xs) 0
past xs ys i h = let e : i ≡ length xs + (i - length xs) = omega arith in ap (λ (n : ℕ). get_or (xs ++ ys) n 0) e ∙ get_or-append-add xs ys (i - length xs) 0

module _ (out : List ℕ) (at : ℕ) (s : List ℕ) (h : at ≤ length out) where
  -- the bytes in front of the seam
  front : length (take at out) ≡ at
  front = length-take-le at out h

  pub put-before : (i : ℕ) → i < at → get_or (put out at s) i 0 ≡ get_or out i 0
  put-before i l = get_or-append (take at out) (s ++ drop (at + length s) out) 0 i (omega (arith, front)) ∙ get_or-take at out i 0 l

  pub put-there : (i : ℕ) → i < length s → get_or (put out at s) (at + i) 0 ≡ get_or s i 0
  put-there i l =
      let e : at + i ≡ length (take at out) + i = omega (arith, front) in
      ap (λ (n : ℕ). get_or (put out at s) n 0) e
      ∙ get_or-append-add (take at out) (s ++ drop (at + length s) out) i 0
      ∙ get_or-append s (drop (at + length s) out) 0 i l

  pub put-behind : (i : ℕ) → at + length s ≤ i → get_or (put out at s) i 0 ≡ get_or out i 0
  put-behind i l =
      let e : at + length s + (i - length (take at out) - length s) ≡ i = omega (arith, front) in
      past (take at out) (s ++ drop (at + length s) out) i (omega (arith, front))
      ∙ past s (drop (at + length s) out) (i - length (take at out)) (omega (arith, front))
      ∙ get_or-drop (at + length s) out (i - length (take at out) - length s) 0
      ∙ ap (λ (n : ℕ). get_or out n 0) e

pub puts-bytes : PutsBytes put
puts-bytes out at s h =
    record {
      same = put-length out at s h;
      before = put-before out at s (omega arith);
      there = put-there out at s (omega arith);
      behind = put-behind out at s (omega arith);
    }

pub puts_or_leaves : PutsOrLeaves put_whole
puts_or_leaves =
    record {
      puts = λ out at s h. subst (PutsThere out at s) (sym (put-fits out at s h)) (puts-bytes out at s h);
      leaves = put_not;
    }

pub over-puts : OverPuts over put
over-puts s out = put-over s out

-- ---- parts

pub part_bytes : PartBytes part_of
part_bytes s at n h =
    record {
      len = length-take-le n (drop at s) (omega (arith, length-drop at s));
      bytes = λ i l. get_or-take n (drop at s) i 0 l ∙ get_or-drop at s i 0;
    }

pub put-comes-back : PutComesBack put part_of
put-comes-back out at s h =
    ap (take (length s)) (drop_at (take at out) (s ++ drop (at + length s) out) at (length-take-le at out h))
    ∙ take_at s (drop (at + length s) out) (length s) refl
