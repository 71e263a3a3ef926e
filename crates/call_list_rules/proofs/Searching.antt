-- The query: the first entry with a household is the only one.
use mathlib.Core.Path.{◌≡◌, refl, sym, ap, subst, ◌∙◌}
use mathlib.Core.Bool.{Bool, true, false}
use mathlib.Core.List.{List}
use Rattle.std.specs.Prelude.{Option, Some, None, Ok, Err}
use Prim.Native.Nat.{ℕ, zero, suc, ◌+◌, ◌<◌}
use native.Mathlib.Omega.{arith}
use lib.ListN.{length}
use lib.Dec.{eqb}
use borrow.Author.Tests.{eqb-true, eqb-false, eq-eqb, ne_eqb}
use Rattle.call_list_rules.specs.CallList.{search_from, Found}
use Rattle.call_list_rules.specs.Statements.{StandsAt, Distinct, Finds, households_of}
use Rattle.call_list_rules.specs.declared.Entry.{Entry}
use Rattle.call_list_rules.specs.declared.EntryNumber.{EntryNumber}
use Rattle.call_list_rules.proofs.Among.{Agrees, with_next}

-- ---- a result and its number

-- 0 where there is none, else one more than the number
abbrev pub counted : Found → ℕ
counted (Ok (Some k)) = suc k.0
counted (Ok None) = 0
counted (Err c) = 0

-- ---- searching

module _ (f : ℕ → ℕ) (h : ℕ) where
  pub search_here : (n k : ℕ) → f k ≡ h → search_from f h (suc n) k ≡ Some (record { 0 = k })
  unfolding search_from
  search_here n k e = rw (eq-eqb (f k) h e)

  pub search_next : (n k : ℕ) → (f k ≡ h → ⊥) → search_from f h (suc n) k ≡ search_from f h n (suc k)
  unfolding search_from
  search_next n k e = rw (ne_eqb (f k) h e)

  -- one of m entries has the household, or none
  pub data Searched (m : ℕ) : Option EntryNumber → Type 0 where
    found : (k : ℕ) → k < m → f k ≡ h → Searched m (Some (record { 0 = k }))
    absent : ((i : ℕ) → i < m → f i ≡ h → ⊥) → Searched m None

  search_step : (m n k : ℕ) → k + suc n ≡ m → (t : Bool) → eqb (f k) h ≡ t → ((f k ≡ h → ⊥) → Searched m (search_from f h n (suc k))) → Searched m (search_from f h (suc n) k)
  search_step m n k e true q next = let d = eqb-true (f k) h q in subst (Searched m) (sym (search_here n k d)) (found k (omega arith) d)
  search_step m n k e false q next = let d = eqb-false (f k) h q in subst (Searched m) (sym (search_next n k d)) (next d)

  pub searched : (m n k : ℕ) → k + n ≡ m → ((i : ℕ) → i < k → f i ≡ h → ⊥) → Searched m (search_from f h n k)
  unfolding search_from
  searched m zero k e none = absent (λ i l. none i (omega arith))
  searched m (suc n) k e none = search_step m n k e (eqb (f k) h) refl (λ d. searched m n (suc k) (omega arith) (with_next (λ (i : ℕ). f i ≡ h → ⊥) k none d))

-- ---- what is found

module _ (es : List Entry) (f : ℕ → ℕ) (h : ℕ) (agrees : Agrees f (households_of es)) (distinct : Distinct (households_of es)) where
  abbrev ns : List ℕ
  ns = households_of es

  here : (k : ℕ) → k < length ns → f k ≡ h → StandsAt h ns k
  here k l e = record { inside = l; is = sym (agrees k l) ∙ e }

  pub finds : (found : Option EntryNumber) → Searched f h (length ns) found → Finds es h (Ok found)
  finds x (found k l e) = record {
    there = λ j s. ap (λ (n : ℕ). Ok (Some (record { 0 = n }))) (distinct h k j (here k l e) s);
    only = λ j q. let y : suc k ≡ suc j = ap counted q in let z : k ≡ j = omega arith in subst (StandsAt h ns) z (here k l e);
    absent = λ q. absurd (q (record { at = k; there = here k l e }));
    none = λ q. let y : suc k ≡ 0 = ap counted q in absurd (omega arith);
  }
  finds x (absent q) = record {
    there = λ j s. absurd (q j s.inside (agrees j s.inside ∙ s.is));
    only = λ j e. let y : 0 ≡ suc j = ap counted e in absurd (omega arith);
    absent = λ e. refl;
    none = λ e s. q s.at s.there.inside (agrees s.at s.there.inside ∙ s.there.is);
  }
