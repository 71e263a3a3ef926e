-- What a builder leaves in its output.
-- Assumes nothing.
use mathlib.Core.Path.{◌≡◌, refl, sym, ap, ap₂, ◌∙◌, subst}
use Prim.Native.Nat.{ℕ, suc, ◌+◌, ◌-◌, ◌≤◌, ◌<◌}
use mathlib.Core.List.{List, [], ◌∷◌, ◌++◌, append-nil}
use mathlib.Core.Bool.{Bool, true, false, cond, ◌&&◌}
use lib.Dec.{leb}
use native.Mathlib.Omega.{arith}
use lib.ListN.{length, get_or, take, drop, set, length-append, length-drop, drop_of_length-le}
use lib.Seq.{take_all, drop-cons, set_at, append_snoc}
use borrow.Rule.Slice.PartMut.{mid_of, post_of, put_mid, Post-is}
use borrow.Author.Tests.{le-leb, lt-leb}
use Rattle.checksum.specs.Xor.{xor_all}
use Rattle.checksum.proofs.Laws.{xor_all-append}
use Rattle.message_rules.specs.Limits.{output_room}
use Rattle.message_rules.specs.Frame.{closed}
use Rattle.message_rules.specs.Read.{unless}
use Rattle.buffers.specs.Buffers.{over}
use Rattle.buffers.proofs.Puts.{over-next}
use Rattle.message_output.specs.Output.{Built, built_answer, built_output, built_length, built_number, Builds, BuildsShort, refusal}
use Rattle.std.specs.Prelude.{Ok, Err}
use Rattle.std.specs.Result.{result_unwrap_or}
use Rattle.message_rules.specs.Refusal.{answer_number}
use Rattle.message_rules.specs.declared.refusal.Refusal.TheVariants.{WrongSize, WrongField}

-- one run put behind another, where it goes into the part of the output behind the first
part_next : (out x y p ys : List ℕ) (at end : ℕ) → p ≡ over x out → at ≡ length x → at ≤ length p → end ≡ length p → ys ≡ over y (mid_of at (end - at) p) → put_mid at (end - at) p ys ≡ over (x ++ y) out
part_next out x y p ys at end e a h l f =
    let whole : mid_of at (end - at) p ≡ drop at p = take_all (end - at) (drop at p) (omega (arith, length-drop at p)) in
    let none : post_of at (end - at) p ≡ [] = Post-is at end p (omega arith) ∙ drop_of_length-le p {i = end} (omega arith) in
    ap₂ (λ (q t : List ℕ). take at p ++ (q ++ t)) (f ∙ ap (over y) whole) none
    ∙ ap (λ (q : List ℕ). take at p ++ q) (append-nil (over y (drop at p)))
    ∙ ap₂ (λ (n : ℕ) (q : List ℕ). take n q ++ over y (drop n q)) a e
    ∙ over-next out x y

-- the checksum put behind it all
pub over_closed : (seed : ℕ) (p out : List ℕ) (n : ℕ) → length p ≡ n → n < length out → set (over p out) n (xor_all seed p) ≡ over (closed seed p) out
over_closed seed p out n l h =
    let v : ℕ = xor_all seed p in
    let end : suc n ≡ length (closed seed p) = omega (arith, length-append p (v ∷ []), l) in
    ap (λ (k : ℕ). set (p ++ drop k out) n v) l
    ∙ ap (λ (q : List ℕ). set (p ++ q) n v) (drop-cons out n 0 h)
    ∙ set_at p (get_or out n 0) (drop (suc n) out) v n l
    ∙ sym (append_snoc p v (drop (suc n) out))
    ∙ ap (λ (k : ℕ). closed seed p ++ drop k out) end

-- the length of what was built, as the code takes it
pub unwrapped : (b : Built) → result_unwrap_or b 0 ≡ built_length b
unwrapped (Ok n) = refl
unwrapped (Err r) = refl

-- ---- a builder's three answers

module _ (allowed : Bool) (s out : List ℕ) where
  -- the number follows from the answer, by the two tests
  numbered : (r : Built) → r ≡ built_answer allowed s out → answer_number r ≡ built_number allowed (length out)
  numbered r e = ap answer_number e ∙ go (leb output_room (length out)) allowed
    where
      go : (t u : Bool) → answer_number (cond t (cond u (Ok (length s)) (Err WrongField)) (Err WrongSize)) ≡ unless t 1 (unless u 7 0)
      go true true = refl
      go true false = refl
      go false u = refl

  builds : {o : List ℕ} {r : Built} → r ≡ built_answer allowed s out → o ≡ built_output allowed s out → Builds allowed s out o r
  builds {o} {r} p q = record { answers = p; number = numbered r p; leaves = q }

  pub builds-none : length out < output_room → Builds allowed s out out (Err WrongSize)
  builds-none h = builds (rw (lt-leb output_room (length out) h)) (rw (lt-leb output_room (length out) h))

  pub builds-refused : allowed ≡ false → (r : Built) → r ≡ refusal (length out) → Builds allowed s out out r
  builds-refused e r q = builds (q ∙ rw e) (rw e (go (leb output_room (length out))))
    where
      go : (t : Bool) → out ≡ cond t out out
      go true = refl
      go false = refl

  pub builds-done : output_room ≤ length out → allowed ≡ true → (n : ℕ) (o : List ℕ) → n ≡ length s → o ≡ over s out → Builds allowed s out o (Ok n)
  builds-done h e n o p q = builds (ap Ok p ∙ rw (le-leb output_room (length out) h, e)) (q ∙ rw (le-leb output_room (length out) h, e))

pub builds_as : {t u : Bool} {s s' out o : List ℕ} {r : Built} → t ≡ u → s ≡ s' → Builds t s out o r → Builds u s' out o r
builds_as {t} {u} {s} {s'} {out} {o} {r} e f b = subst (λ (x : Bool). Builds x s' out o r) e (subst (λ (x : List ℕ). Builds t x out o r) f b)

-- ---- any bytes: more than the room are refused too

closed-length : (seed : ℕ) (x y : List ℕ) → length (closed seed (x ++ y)) ≡ length x + length y + 1
closed-length seed x y = omega (arith, length-append x y, length-append (x ++ y) (xor_all seed (x ++ y) ∷ []))

module _ (seed : ℕ) (x y : List ℕ) (allowed : Bool) where
  pub too_long : output_room ≤ length x + length y → leb (length (closed seed (x ++ y))) output_room && allowed ≡ false
  too_long h = rw (lt-leb (length (closed seed (x ++ y))) output_room (omega (arith, closed-length seed x y)))

  pub short-enough : length x + length y < output_room → leb (length (closed seed (x ++ y))) output_room && allowed ≡ allowed
  short-enough h = rw (le-leb (length (closed seed (x ++ y))) output_room (omega (arith, closed-length seed x y)))

pub short_as : {t u : Bool} {s s' out o : List ℕ} {r : Built} → t ≡ u → s ≡ s' → BuildsShort t s out o r → BuildsShort u s' out o r
short_as e f b = builds_as (ap₂ (λ (l : List ℕ) (x : Bool). leb (length l) output_room && x) f e) f b

pub short-refused : (allowed : Bool) (s out : List ℕ) → allowed ≡ false → (r : Built) → r ≡ refusal (length out) → BuildsShort allowed s out out r
short-refused allowed s out e r q = builds-refused (leb (length s) output_room && allowed) s out (go (leb (length s) output_room)) r q
  where
    go : (b : Bool) → b && allowed ≡ false
    go true = e
    go false = refl

-- what `build` leaves: the head, the data in the part behind it, and the checksum of both behind them
pub built : (seed sum at more end r : ℕ) (x y out p ys o : List ℕ) → length x + length y < length out
    → sum ≡ xor_all (xor_all seed x) y
    → at ≡ length x → p ≡ x ++ drop (length x) out → end ≡ length p
    → more ≡ length y → ys ≡ y ++ drop (length y) (mid_of at (end - at) p)
    → r ≡ at + more + 1 → o ≡ set (put_mid at (end - at) p ys) (at + more) sum
    → (r ≡ length (closed seed (x ++ y))) × (o ≡ over (closed seed (x ++ y)) out)
built seed sum at more end r x y out p ys o h s a e l m f q g =
    let e1 : p ≡ over x out = e in
    let f1 : ys ≡ over y (mid_of at (end - at) p) = f in
    let n : length (x ++ y) ≡ at + more = omega (arith, length-append x y) in
    let w : length p ≡ length out = ap length e1 ∙ simp (length-append, length-drop) (omega arith) in
    let put : put_mid at (end - at) p ys ≡ over (x ++ y) out = part_next out x y p ys at end e1 a (omega arith) l f1 in (
      omega (arith, length-append (x ++ y) (xor_all seed (x ++ y) ∷ [])),
      g ∙ ap₂ (λ (t : List ℕ) (v : ℕ). set t (at + more) v) put (s ∙ sym (xor_all-append seed x y)) ∙ over_closed seed (x ++ y) out (at + more) n (omega arith),
    )
