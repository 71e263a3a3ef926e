-- A number among the first k of a row, and rows of which no number stands twice.
use mathlib.Core.Path.{◌≡◌, refl, sym, ap, ap₂, subst, ◌∙◌}
use mathlib.Core.Bool.{Bool, true, false, ◌||◌, true≢false, false≢true}
use mathlib.Core.List.{List}
use Prim.Native.Nat.{ℕ, zero, suc, ◌+◌, ◌<◌}
use native.Mathlib.Omega.{arith}
use lib.ListN.{length, get_or}
use lib.Dec.{eqb, ltb}
use borrow.Author.Tests.{eqb-true, eq-eqb, ne_eqb, ltb-true, ltb-false}
use Rattle.call_list_rules.specs.CallList.{among}
use Rattle.call_list_rules.specs.Statements.{Stands, Distinct}

-- ---- below a number, or at it

pub data Below (i k : ℕ) : Type 0 where
  under : i < k → Below i k
  here : i ≡ k → Below i k

pub below : (i k : ℕ) → i < suc k → Below i k
below i k l = go (ltb i k) refl
  where
    go : (t : Bool) → ltb i k ≡ t → Below i k
    go true e = under (ltb-true i k e)
    go false e = let h = ltb-false i k e in here (omega arith)

-- what holds below k and at k holds below the next number
pub with_next : (P : ℕ → Type 0) (k : ℕ) → ((i : ℕ) → i < k → P i) → P k → (i : ℕ) → i < suc k → P i
with_next P k h p i l = go (below i k l)
  where
    go : Below i k → P i
    go (under m) = h i m
    go (here e) = subst P (sym e) p

-- ---- what `among` says

either : (p q : Bool) → q ≡ true → p || q ≡ true
either true q e = refl
either false q e = e

module _ (f : ℕ → ℕ) where
  among-step : (k n i : ℕ) → f i ≡ n → Below i k → (i < k → among f k n ≡ true) → among f (suc k) n ≡ true
  unfolding among
  among-step k n i e (under l) h = either (eqb (f k) n) (among f k n) (h l)
  among-step k n i e (here q) h = rw (eq-eqb (f k) n (ap f (sym q) ∙ e))

  -- a number that stands there is found
  pub among-here : (k n i : ℕ) → i < k → f i ≡ n → among f k n ≡ true
  among-here zero n i l e = absurd (omega arith)
  among-here (suc k) n i l e = among-step k n i e (below i k l) (λ m. among-here k n i m e)

  pub among_not : (k n i : ℕ) → among f k n ≡ false → i < k → f i ≡ n → ⊥
  among_not k n i h l e = true≢false (sym (among-here k n i l e) ∙ h)

  -- one more number: the one looked for, or another
  pub among_equal : (k n : ℕ) → f k ≡ n → true ≡ among f (k + 1) n
  among_equal k n e = sym (among-here (k + 1) n k (omega arith) e)

  pub among-other : (k n : ℕ) (t : Bool) → (f k ≡ n → ⊥) → t ≡ among f k n → t ≡ among f (k + 1) n
  unfolding among
  among-other k n t e h = let q : suc k ≡ k + 1 = omega arith in h ∙ ap (λ (b : Bool). b || among f k n) (sym (ne_eqb (f k) n e)) ∙ ap (λ (i : ℕ). among f i n) q

  -- a number that is found stands there
  pub record FoundBelow (k n : ℕ) : Type 0 where
    pub at : ℕ
    pub inside : at < k
    pub is : f at ≡ n

  found-step : (k n : ℕ) (t : Bool) → eqb (f k) n ≡ t → t || among f k n ≡ true → (among f k n ≡ true → FoundBelow k n) → FoundBelow (suc k) n
  found-step k n true e h next = record { at = k; inside = omega arith; is = eqb-true (f k) n e }
  found-step k n false e h next = let b = next h in record { at = b.at; inside = omega (arith, b.inside); is = b.is }

  pub among-found : (k n : ℕ) → among f k n ≡ true → FoundBelow k n
  unfolding among
  among-found zero n h = absurd (false≢true h)
  among-found (suc k) n h = found-step k n (eqb (f k) n) refl h (λ e. among-found k n e)

-- rows that are alike up to k have the same numbers there
pub among_alike : (f g : ℕ → ℕ) (k n : ℕ) → ((i : ℕ) → i < k → f i ≡ g i) → among f k n ≡ among g k n
unfolding among
among_alike f g zero n h = refl
among_alike f g (suc k) n h = ap₂ (λ (m : ℕ) (t : Bool). eqb m n || t) (h k (omega arith)) (among_alike f g k n (λ i l. h i (omega arith)))

-- ---- a row of numbers that is also a list

-- the numbers f are those of the list
abbrev pub Agrees : (ℕ → ℕ) → List ℕ → Type 0
Agrees f ns = (i : ℕ) → i < length ns → f i ≡ get_or ns i 0

module _ (f : ℕ → ℕ) (ns : List ℕ) (agrees : Agrees f ns) where
  pub among_stands : (k n : ℕ) → k ≡ length ns → among f k n ≡ true → Stands n ns
  among_stands k n e h =
      let b = among-found f k n h in
      let l : b.at < length ns = omega (arith, b.inside) in
      record { at = b.at; there = record { inside = l; is = sym (agrees b.at l) ∙ b.is } }

  pub stands-among : (k n : ℕ) → k ≡ length ns → Stands n ns → among f k n ≡ true
  stands-among k n e s = among-here f k n s.at (omega (arith, s.there.inside)) (agrees s.at s.there.inside ∙ s.there.is)

  -- no number repeats an earlier one: none stands twice
  pub distinct : ((i : ℕ) → i < length ns → among f i (f i) ≡ false) → Distinct ns
  distinct h n i j a b = go (ltb i j) (ltb j i) refl refl
    where
      same : f i ≡ f j
      same = agrees i a.inside ∙ a.is ∙ sym b.is ∙ sym (agrees j b.inside)

      go : (t u : Bool) → ltb i j ≡ t → ltb j i ≡ u → i ≡ j
      go true u e g = absurd (among_not f j (f j) i (h j b.inside) (ltb-true i j e) same)
      go false true e g = absurd (among_not f i (f i) j (h i a.inside) (ltb-true j i g) (sym same))
      go false false e g = let p = ltb-false i j e in let q = ltb-false j i g in omega arith

  -- and back
  pub not_repeated : Distinct ns → (i : ℕ) → i < length ns → among f i (f i) ≡ false
  not_repeated d i l = go (among f i (f i)) refl
    where
      go : (t : Bool) → among f i (f i) ≡ t → t ≡ false
      go false e = refl
      go true e =
          let b = among-found f i (f i) e in
          let m : b.at < length ns = omega (arith, b.inside) in
          let z : b.at ≡ i = d (f i) b.at i (record { inside = m; is = sym (agrees b.at m) ∙ b.is }) (record { inside = l; is = sym (agrees i l) }) in
          absurd (omega (arith, b.inside))
