-- Bytes put into a buffer: nothing, from its start on, and one run behind another.
use mathlib.Core.Path.{◌≡◌, refl, sym, ap, ap₂, ◌∙◌}
use mathlib.Core.List.{List, [], ◌++◌, append_assoc}
use Prim.Native.Nat.{ℕ, ◌+◌, ◌≤◌, ◌<◌}
use native.Mathlib.Omega.{arith}
use lib.ListN.{length, take, drop, length-append, length-drop, take-append-drop}
use lib.Seq.{sets, sets-eq, take_at, drop_at, drop-append-add, drop-drop, length-take-le}
use borrow.Author.Tests.{le-leb, lt-leb}
use Rattle.buffers.specs.Buffers.{over, put, put_whole}

-- nothing put
pub put-none : (out : List ℕ) (at : ℕ) → put out at [] ≡ out
put-none out at = let e : at + 0 ≡ at = omega arith in ap (λ (n : ℕ). take at out ++ drop n out) e ∙ take-append-drop at out

pub put-length : (out : List ℕ) (at : ℕ) (s : List ℕ) → at + length s ≤ length out → length (put out at s) ≡ length out
put-length out at s h = simp (length-append, length-drop) (omega (arith, length-take-le at out (omega arith)))

-- bytes that fit are put, and others leave the output as it was
pub put-fits : (out : List ℕ) (at : ℕ) (s : List ℕ) → at + length s ≤ length out → put_whole out at s ≡ put out at s
put-fits out at s h = rw (le-leb (at + length s) (length out) h)

pub put_not : (out : List ℕ) (at : ℕ) (s : List ℕ) → length out < at + length s → put_whole out at s ≡ out
put_not out at s h = rw (lt-leb (at + length s) (length out) h)

-- bytes stored one by one
pub put_sets : (out : List ℕ) (at : ℕ) (s : List ℕ) → at + length s ≤ length out → sets out at s ≡ put out at s
put_sets out at s h = sets-eq s out at h ∙ append_assoc (take at out) s (drop (at + length s) out)

-- from the start of the output
pub put-over : (s out : List ℕ) → put out 0 s ≡ over s out
put-over s out = let e : 0 + length s ≡ length s = omega arith in ap (λ (n : ℕ). s ++ drop n out) e

-- one run behind another
pub put_next : (out : List ℕ) (at : ℕ) (a b : List ℕ) → at + length a ≤ length out → put (put out at a) (at + length a) b ≡ put out at (a ++ b)
put_next out at a b h =
    let p = take at out ++ a in
    let rest = drop (at + length a) out in
    let l : length p ≡ at + length a = length-append (take at out) a ∙ omega (arith, length-take-le at out (omega arith)) in
    let whole : take at out ++ (a ++ rest) ≡ p ++ rest = sym (append_assoc (take at out) a rest) in
    let end : at + length a + length b ≡ at + length (a ++ b) = omega (arith, length-append a b) in
    let left : drop (at + length a + length b) (p ++ rest) ≡ drop (at + length (a ++ b)) out =
    ap (λ (n : ℕ). drop (n + length b) (p ++ rest)) (sym l) ∙ drop-append-add p rest (length b) ∙ drop-drop (length b) (at + length a) out ∙ ap (λ (n : ℕ). drop n out) end in
    ap (λ (q : List ℕ). take (at + length a) q ++ (b ++ drop (at + length a + length b) q)) whole
    ∙ ap₂ (λ (x y : List ℕ). x ++ (b ++ y)) (take_at p rest (at + length a) l) left
    ∙ append_assoc (take at out) a (b ++ drop (at + length (a ++ b)) out)
    ∙ ap (λ (x : List ℕ). take at out ++ x) (sym (append_assoc a b (drop (at + length (a ++ b)) out)))

-- a run that fits, put behind what was put so far
pub put_then : (out : List ℕ) (at : ℕ) (a b one two : List ℕ) (end : ℕ) → one ≡ put out at a → end ≡ at + length a → two ≡ put one end b → end + length b ≤ length out → two ≡ put out at (a ++ b)
put_then out at a b one two end e q f h = f ∙ ap₂ (λ (s : List ℕ) (i : ℕ). put s i b) e q ∙ put_next out at a b (omega arith)

pub put-whole_then : (out : List ℕ) (at : ℕ) (a b one two : List ℕ) (end : ℕ) → one ≡ put out at a → end ≡ at + length a → two ≡ put_whole one end b → end + length b ≤ length out → two ≡ put out at (a ++ b)
put-whole_then out at a b one two end e q f h =
    let size : length one ≡ length out = ap length e ∙ put-length out at a (omega arith) in
    put_then out at a b one two end e q (f ∙ put-fits one end b (omega arith)) h

-- one run behind another, by the part of the output that it goes into
pub over-next : (out x y : List ℕ) → take (length x) (over x out) ++ over y (drop (length x) (over x out)) ≡ over (x ++ y) out
over-next out x y =
    ap₂ (λ (p q : List ℕ). p ++ (y ++ drop (length y) q)) (take_at x (drop (length x) out) (length x) refl) (drop_at x (drop (length x) out) (length x) refl)
    ∙ sym (append_assoc x y _)
    ∙ ap (λ (q : List ℕ). (x ++ y) ++ q) (drop-drop (length y) (length x) out ∙ ap (λ (n : ℕ). drop n out) (sym (length-append x y)))
