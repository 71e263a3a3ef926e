-- The first of a row of answers that refuses.
use mathlib.Core.Path.{◌≡◌, refl, sym, ap, ap₂, subst, ◌∙◌}
use mathlib.Core.Bool.{Bool, true, false}
use Prim.Native.Nat.{ℕ, zero, suc, ◌+◌, ◌<◌}
use native.Mathlib.Omega.{arith}
use lib.Dec.{eqb}
use borrow.Author.Tests.{eqb-true, eqb-false, ne_eqb}
use Rattle.message_rules.specs.Answer.{done}
use Rattle.call_list_rules.specs.CallList.{start_of, accepted_with, refused_at, first_refused}
use Rattle.call_list_rules.specs.declared.Checked.{Checked}
use Rattle.call_list_rules.proofs.Among.{with_next}

module _ (answers : ℕ → ℕ) where
  -- an accepted record, and a refused one
  pub goes_on : (n k : ℕ) → answers k ≡ done → first_refused answers (suc n) k ≡ first_refused answers n (suc k)
  unfolding first_refused
  goes_on n k e = rw e

  pub stops : (n k : ℕ) → (answers k ≡ done → ⊥) → first_refused answers (suc n) k ≡ refused_at (answers k) (start_of k)
  unfolding first_refused
  stops n k e = rw (ne_eqb (answers k) done e)

  -- the first m records are accepted: what is left decides
  pub passes : (n m k : ℕ) → ((i : ℕ) → i < k + m → answers i ≡ done) → first_refused answers (m + n) k ≡ first_refused answers n (k + m)
  passes n zero k h =
      let e : zero + n ≡ n = omega arith in
      let f : k ≡ k + zero = omega arith in
      ap₂ (first_refused answers) e f
  passes n (suc m) k h =
      let e : suc m + n ≡ suc (m + n) = omega arith in
      let f : suc k + m ≡ k + suc m = omega arith in
      ap (λ (a : ℕ). first_refused answers a k) e
      ∙ goes_on (m + n) k (h k (omega arith))
      ∙ passes n m (suc k) (λ i l. h i (omega arith))
      ∙ ap (first_refused answers n) f

  -- all of m records are accepted, or record j is the first that is not
  pub data Walked (m : ℕ) : Checked → Type 0 where
    all : ((i : ℕ) → i < m → answers i ≡ done) → Walked m (accepted_with m)
    first : (j : ℕ) → j < m → ((i : ℕ) → i < j → answers i ≡ done) → (answers j ≡ done → ⊥) → Walked m (refused_at (answers j) (start_of j))

  walk_step : (m n k : ℕ) → k + suc n ≡ m → ((i : ℕ) → i < k → answers i ≡ done) → (t : Bool) → eqb (answers k) done ≡ t
      → (answers k ≡ done → Walked m (first_refused answers n (suc k))) → Walked m (first_refused answers (suc n) k)
  walk_step m n k e h true q next = let d = eqb-true (answers k) done q in subst (Walked m) (sym (goes_on n k d)) (next d)
  walk_step m n k e h false q next = let d = eqb-false (answers k) done q in subst (Walked m) (sym (stops n k d)) (first k (omega arith) h d)

  pub walked : (m n k : ℕ) → k + n ≡ m → ((i : ℕ) → i < k → answers i ≡ done) → Walked m (first_refused answers n k)
  unfolding first_refused
  walked m zero k e h =
      let f : m ≡ k = omega arith in
      subst (λ (j : ℕ). Walked m (accepted_with j)) f (all (λ i l. h i (omega arith)))
  walked m (suc n) k e h =
      walk_step m n k e h (eqb (answers k) done) refl (λ d. walked m n (suc k) (omega arith) (with_next (λ (i : ℕ). answers i ≡ done) k h d))
