-- The codes that a test holds of, rising: by equal tests, their number, and from the next one on.
use mathlib.Core.Path.{◌≡◌, refl, sym, ap, ◌∙◌}
use mathlib.Core.Bool.{Bool, true, false, cond}
use mathlib.Core.Logic.{⊎_elim}
use mathlib.Core.List.{List, [], ◌∷◌}
use Prim.Native.Nat.{ℕ, zero, suc, ◌+◌, ◌-◌, ◌≤◌, ◌<◌}
use native.Mathlib.Nat.{add-zero, eq-or-lt_of_le}
use native.Mathlib.Numerals.{one-add}
use native.Mathlib.Omega.{arith}
use lib.ListN.{length}
use lib.Dec.{eqb}
use borrow.Author.Tests.{eq-eqb, ne_eqb}
use Rattle.codes.specs.Codes.{all_codes, member, how_many, count_of, first_of, next_of}
use Rattle.std.specs.Prelude.{Some, None}
use Rattle.codes.proofs.Counting.{how_many_ext, how_many_add, how_many-start}
use Rattle.profile_rules.specs.Profile.{rising, codes_from}

-- equal tests give equal codes
pub rising_ext : (p q : ℕ → Bool) (n c : ℕ) → ((i : ℕ) → c ≤ i → i < c + n → p i ≡ q i) → rising p n c ≡ rising q n c
unfolding rising
rising_ext p q zero c h = refl
rising_ext p q (suc n) c h = rw (h c (omega arith) (omega arith), rising_ext p q n (suc c) (λ i a b. h i (omega arith) (omega arith)))

-- of the first number alone
count-one : (q : ℕ → Bool) → how_many q 1 ≡ cond (q 0) 1 0
unfolding how_many
count-one q = omega arith

-- how many there are
pub rising-count : (p : ℕ → Bool) (n c : ℕ) → length (rising p n c) ≡ how_many (λ (i : ℕ). p (c + i)) n
unfolding rising
rising-count p zero c = sym (how_many-start (λ (i : ℕ). p (c + i)))
rising-count p (suc n) c =
    let q : ℕ → Bool = λ i. p (c + i) in
    let later : how_many (λ (i : ℕ). p (suc c + i)) n ≡ how_many (λ (i : ℕ). q (1 + i)) n =
    how_many_ext (λ (i : ℕ). p (suc c + i)) (λ (i : ℕ). q (1 + i)) n (λ i l. ap p (omega arith)) in
    let parts : how_many q (suc n) ≡ how_many q 1 + how_many (λ (i : ℕ). q (1 + i)) n = ap (how_many q) (sym (one-add n)) ∙ how_many_add q 1 n in
    let ih = rising-count p n (suc c) in
    go (p c) refl (count-one q) (ap p (add-zero c)) later parts ih
  where
    go : (t : Bool) → p c ≡ t → how_many (λ (i : ℕ). p (c + i)) 1 ≡ cond (p (c + 0)) 1 0 → p (c + 0) ≡ p c
        → how_many (λ (i : ℕ). p (suc c + i)) n ≡ how_many (λ (i : ℕ). p (c + (1 + i))) n
        → how_many (λ (i : ℕ). p (c + i)) (suc n) ≡ how_many (λ (i : ℕ). p (c + i)) 1 + how_many (λ (i : ℕ). p (c + (1 + i))) n
        → length (rising p n (suc c)) ≡ how_many (λ (i : ℕ). p (suc c + i)) n
        → length (cond t (c ∷ rising p n (suc c)) (rising p n (suc c))) ≡ how_many (λ (i : ℕ). p (c + i)) (suc n)
    go true e one z later parts ih = let o : how_many (λ (i : ℕ). p (c + i)) 1 ≡ 1 = rw (z, e) at one in omega arith
    go false e one z later parts ih = let o : how_many (λ (i : ℕ). p (c + i)) 1 ≡ 0 = rw (z, e) at one in omega arith

-- the count of a set is the number of its codes
pub set-count : (ws : List ℕ) → length (codes_from (member ws) 0) ≡ count_of ws
unfolding count_of
set-count ws = rising-count (member ws) all_codes 0 ∙ how_many_ext (λ (i : ℕ). member ws (0 + i)) (member ws) all_codes (λ i l. ap (member ws) (omega arith))

-- the next code of a set, with those behind it
pub record Found (p : ℕ → Bool) (from k : ℕ) : Type 0 where
  pub low : from ≤ k
  pub high : k < all_codes
  pub inside : p k ≡ true
  pub codes : codes_from p from ≡ k ∷ codes_from p (k + 1)

found : (p : ℕ → Bool) (n c k : ℕ) → c + n ≡ all_codes → first_of p n c ≡ Some k
    → (c ≤ k) × (k < all_codes) × (p k ≡ true) × (rising p n c ≡ k ∷ codes_from p (k + 1))
unfolding first_of rising
found p zero c k e f = let z : ◌≡◌ {A = ℕ} 0 1 = cc in absurd (omega arith)
found p (suc n) c k e f = go (p c) refl f (found p n (suc c) k (omega arith))
  where
    go : (t : Bool) → p c ≡ t → cond t (Some c) (first_of p n (suc c)) ≡ Some k
        → (first_of p n (suc c) ≡ Some k → (suc c ≤ k) × (k < all_codes) × (p k ≡ true) × (rising p n (suc c) ≡ k ∷ codes_from p (k + 1)))
        → (c ≤ k) × (k < all_codes) × (p k ≡ true) × (cond t (c ∷ rising p n (suc c)) (rising p n (suc c)) ≡ k ∷ codes_from p (k + 1))
    go true q f ih =
        let same : c ≡ k = cc in
        let left : n ≡ all_codes - (k + 1) = omega arith in
        let next : suc c ≡ k + 1 = omega arith in
        (omega arith, omega arith, ap p (sym same) ∙ q, rw (left, next, same))
    go false q f ih = let r = ih f in (omega (arith, r.0), r.1, r.2, r.3)

pub next-found : (ws : List ℕ) (from k : ℕ) → from ≤ all_codes → Some k ≡ next_of ws from → Found (member ws) from k
unfolding next_of
next-found ws from k h e =
    let r = found (member ws) (all_codes - from) from k (omega arith) (sym e) in
    record { low = r.0; high = r.1; inside = r.2; codes = r.3 }

none_left : (p : ℕ → Bool) (n c : ℕ) → first_of p n c ≡ None → rising p n c ≡ []
unfolding first_of rising
none_left p zero c f = refl
none_left p (suc n) c f = go (p c) f (none_left p n (suc c))
  where
    go : (t : Bool) → cond t (Some c) (first_of p n (suc c)) ≡ None → (first_of p n (suc c) ≡ None → rising p n (suc c) ≡ [])
        → cond t (c ∷ rising p n (suc c)) (rising p n (suc c)) ≡ []
    go true f ih = let z : ◌≡◌ {A = ℕ} 0 1 = cc in absurd (omega arith)
    go false f ih = ih f

pub next-none : (ws : List ℕ) (from : ℕ) → None ≡ next_of ws from → codes_from (member ws) from ≡ []
unfolding next_of
next-none ws from e = none_left (member ws) (all_codes - from) from (sym e)

-- ---- as a list

-- a list of codes from c on, rising
pub data RisingFrom : ℕ → List ℕ → Type 0 where
  none : {c : ℕ} → RisingFrom c []
  more : {k c : ℕ} {cs : List ℕ} → c ≤ k → k < all_codes → RisingFrom (suc k) cs → RisingFrom c (k ∷ cs)

lower : {c : ℕ} {cs : List ℕ} → RisingFrom (suc c) cs → RisingFrom c cs
lower none = none
lower {c} (more {k} a b r) = more {k = k} {c = c} (omega arith) b r

pub rising_rises : (p : ℕ → Bool) (n c : ℕ) → c + n ≤ all_codes → RisingFrom c (rising p n c)
unfolding rising
rising_rises p zero c h = none
rising_rises p (suc n) c h = go (p c) (rising_rises p n (suc c) (omega arith))
  where
    go : (t : Bool) → RisingFrom (suc c) (rising p n (suc c)) → RisingFrom c (cond t (c ∷ rising p n (suc c)) (rising p n (suc c)))
    go true r = more {k = c} {c = c} (omega arith) (omega arith) r
    go false r = lower r

-- whether a list has the code d
unfoldable pub has : List ℕ → ℕ → Bool
has [] d = false
has (c ∷ cs) d = cond (eqb d c) true (has cs d)

has_below : {c : ℕ} {cs : List ℕ} (d : ℕ) → RisingFrom c cs → d < c → has cs d ≡ false
unfolding has
has_below d none l = refl
has_below d (more {k} a b r) l = rw (ne_eqb d k (λ e. omega arith)) (has_below d r (omega arith))

-- it has those that the test holds of
pub has_rising : (p : ℕ → Bool) (n c d : ℕ) → c + n ≤ all_codes → c ≤ d → d < c + n → has (rising p n c) d ≡ p d
unfolding has rising
has_rising p zero c d h a b = absurd (omega arith)
has_rising p (suc n) c d h a b =
    ⊎_elim
    (λ e. rw (← e) (here (p c) refl (has_below c (rising_rises p n (suc c) (omega arith)) (omega arith))))
    (λ l. later (p c) l (has_rising p n (suc c) d (omega arith) l (omega arith)))
    (eq-or-lt_of_le a)
  where
    here : (t : Bool) → p c ≡ t → has (rising p n (suc c)) c ≡ false → has (cond t (c ∷ rising p n (suc c)) (rising p n (suc c))) c ≡ p c
    here true q f = rw (eq-eqb c c refl) (sym q)
    here false q f = f ∙ sym q

    later : (t : Bool) → c < d → has (rising p n (suc c)) d ≡ p d → has (cond t (c ∷ rising p n (suc c)) (rising p n (suc c))) d ≡ p d
    later true l f = rw (ne_eqb d c (λ e. omega arith)) f
    later false l f = f
