-- The list of differences: its lines, their order and number, and that there is one such list.
use mathlib.Core.Path.{◌≡◌, refl, sym, ap, ap₂, subst, ◌∙◌}
use mathlib.Core.Bool.{Bool, true, false}
use mathlib.Core.Logic.{◌⊎◌, inl, inr, ⊎_elim}
use mathlib.Core.List.{List, [], ◌∷◌}
use Prim.Native.Nat.{ℕ, zero, suc, ◌+◌, ◌≤◌, ◌<◌}
use native.Mathlib.Nat.{eq-or-lt_of_le}
use native.Mathlib.Omega.{arith}
use lib.ListN.{length}
use lib.Dec.{eqb}
use borrow.Author.Tests.{eqb-true, eqb-false, eq-eqb, ne_eqb}
use Rattle.profile_form_rules.specs.declared.Setting.{Setting}
use Rattle.profile_form_rules.specs.Statements.{Rising, end, more, Stands, here, later}
use Rattle.profile_compare_rules.specs.Compare.{value_of, Difference, differences_from, turned_value}
use Rattle.profile_compare_rules.specs.Statements.{difference, listed_codes}
use Rattle.profile_compare_rules.proofs.Values.{stands_some, stands_or}

-- ---- rising codes

pub rising_lower : {m n : ℕ} {codes : List ℕ} → m ≤ n → Rising n codes → Rising m codes
rising_lower l end = end
rising_lower {m} {n} l (more {code = code} le r) = let low : m ≤ code = omega arith in more low r

module _ (a b : List Setting) where
  abbrev line_of : ℕ → Difference
  line_of c = difference c (value_of a c) (value_of b c)

  -- the code c is left out, or listed
  pub line_same : (n c : ℕ) → value_of a c ≡ value_of b c → differences_from a b (suc n) c ≡ differences_from a b n (suc c)
  unfolding differences_from
  line_same n c e = rw (eq-eqb (value_of a c) (value_of b c) e)

  pub line_differs : (n c : ℕ) → (value_of a c ≡ value_of b c → ⊥) → differences_from a b (suc n) c ≡ line_of c ∷ differences_from a b n (suc c)
  unfolding differences_from
  line_differs n c e = rw (ne_eqb (value_of a c) (value_of b c) e)

  -- which of the two
  pub data Line (n c : ℕ) : Type 0 where
    same : value_of a c ≡ value_of b c → differences_from a b (suc n) c ≡ differences_from a b n (suc c) → Line n c
    differs : (value_of a c ≡ value_of b c → ⊥) → differences_from a b (suc n) c ≡ line_of c ∷ differences_from a b n (suc c) → Line n c

  pub line : (n c : ℕ) → Line n c
  line n c = go (eqb (value_of a c) (value_of b c)) refl
    where
      go : (t : Bool) → eqb (value_of a c) (value_of b c) ≡ t → Line n c
      go true q = let e = eqb-true _ _ q in same e (line_same n c e)
      go false q = let e = eqb-false _ _ q in differs e (line_differs n c e)

  -- ---- the lines

  -- what a line says
  pub record Said (n c : ℕ) (d : Difference) : Type 0 where
    pub low : c ≤ d.code
    pub high : d.code < c + n
    pub first : d.first ≡ value_of a d.code
    pub second : d.second ≡ value_of b d.code
    pub differ : d.first ≡ d.second → ⊥

  said_later : (n c : ℕ) (d : Difference) → Said n (suc c) d → Said (suc n) c d
  said_later n c d s = record { low = omega (arith, s.low); high = omega (arith, s.high); first = s.first; second = s.second; differ = s.differ }

  pub lines_said : (n c : ℕ) (d : Difference) → Stands d (differences_from a b n c) → Said n c d
  unfolding differences_from
  lines_said zero c d s = absurd (omega (arith, stands_some s))
  lines_said (suc n) c d s = go (line n c) (lines_said n (suc c) d)
    where
      this : d ≡ line_of c → (value_of a c ≡ value_of b c → ⊥) → Said (suc n) c d
      this e q = subst (Said (suc n) c) (sym e) (record { low = omega arith; high = omega arith; first = refl; second = refl; differ = q })

      go : Line n c → (Stands d (differences_from a b n (suc c)) → Said n (suc c) d) → Said (suc n) c d
      go (same e f) ih = said_later n c d (ih (subst (Stands d) f s))
      go (differs e f) ih = ⊎_elim (λ q. this q e) (λ q. said_later n c d (ih q)) (stands_or d (line_of c) (differences_from a b n (suc c)) (subst (Stands d) f s))

  -- every code whose values differ has its line
  pub lines-every : (n c d : ℕ) → c ≤ d → d < c + n → (value_of a d ≡ value_of b d → ⊥) → Stands (line_of d) (differences_from a b n c)
  unfolding differences_from
  lines-every zero c d l h q = absurd (omega arith)
  lines-every (suc n) c d l h q = go (line n c) (eq-or-lt_of_le l) (λ m. lines-every n (suc c) d m (omega arith) q)
    where
      go : Line n c → (c ≡ d) ⊎ (c < d) → (suc c ≤ d → Stands (line_of d) (differences_from a b n (suc c))) → Stands (line_of d) (differences_from a b (suc n) c)
      go (same e f) (inl z) ih = absurd (q (subst (λ (k : ℕ). value_of a k ≡ value_of b k) z e))
      go (same e f) (inr m) ih = subst (Stands (line_of d)) (sym f) (ih m)
      go (differs e f) (inl z) ih = subst (Stands (line_of d)) (sym f) (subst (λ (k : ℕ). Stands (line_of d) (line_of k ∷ differences_from a b n (suc c))) (sym z) here)
      go (differs e f) (inr m) ih = subst (Stands (line_of d)) (sym f) (later (ih m))

  -- ---- their order and number

  pub lines-rising : (n c : ℕ) → Rising c (listed_codes (differences_from a b n c))
  unfolding differences_from
  lines-rising zero c = end
  lines-rising (suc n) c = go (line n c) (lines-rising n (suc c))
    where
      go : Line n c → Rising (suc c) (listed_codes (differences_from a b n (suc c))) → Rising c (listed_codes (differences_from a b (suc n) c))
      go (same e f) r = subst (λ (ds : List Difference). Rising c (listed_codes ds)) (sym f) (rising_lower (omega arith) r)
      go (differs e f) r = subst (λ (ds : List Difference). Rising c (listed_codes ds)) (sym f) (more (omega arith) r)

  pub lines-few : (n c : ℕ) → length (differences_from a b n c) ≤ n
  unfolding differences_from
  lines-few zero c = omega arith
  lines-few (suc n) c = go (line n c) (lines-few n (suc c))
    where
      go : Line n c → length (differences_from a b n (suc c)) ≤ n → length (differences_from a b (suc n) c) ≤ suc n
      go (same e f) l = omega (arith, ap length f)
      go (differs e f) l = omega (arith, ap length f)

  -- ---- turning

  turned-next : (d : Difference) (ds : List Difference) (value : ℕ → ℕ) (c : ℕ) → (d.code ≡ c → ⊥) → turned_value (d ∷ ds) value c ≡ turned_value ds value c
  unfolding turned_value
  turned-next d ds value c q = rw (ne_eqb d.code c q)

  turned-here : (d : Difference) (ds : List Difference) (value : ℕ → ℕ) (c : ℕ) → d.code ≡ c → turned_value (d ∷ ds) value c ≡ d.second
  unfolding turned_value
  turned-here d ds value c q = rw (eq-eqb d.code c q)

  -- a code below all lines keeps its value
  turned-below : (n c d : ℕ) (value : ℕ → ℕ) → d < c → turned_value (differences_from a b n c) value d ≡ value d
  unfolding differences_from turned_value
  turned-below zero c d value l = refl
  turned-below (suc n) c d value l = go (line n c) (turned-below n (suc c) d value (omega arith))
    where
      go : Line n c → turned_value (differences_from a b n (suc c)) value d ≡ value d → turned_value (differences_from a b (suc n) c) value d ≡ value d
      go (same e f) ih = ap (λ (ds : List Difference). turned_value ds value d) f ∙ ih
      go (differs e f) ih = ap (λ (ds : List Difference). turned_value ds value d) f ∙ turned-next (line_of c) (differences_from a b n (suc c)) value d (λ q. omega arith) ∙ ih

  -- every other one has the second's
  pub turned-value : (n c d : ℕ) → c ≤ d → d < c + n → turned_value (differences_from a b n c) (value_of a) d ≡ value_of b d
  unfolding differences_from
  turned-value zero c d l h = absurd (omega arith)
  turned-value (suc n) c d l h = go (line n c) (eq-or-lt_of_le l) (λ m. turned-value n (suc c) d m (omega arith))
    where
      go : Line n c → (c ≡ d) ⊎ (c < d) → (suc c ≤ d → turned_value (differences_from a b n (suc c)) (value_of a) d ≡ value_of b d)
          → turned_value (differences_from a b (suc n) c) (value_of a) d ≡ value_of b d
      go (same e f) (inl z) ih =
          ap (λ (ds : List Difference). turned_value ds (value_of a) d) f ∙ turned-below n (suc c) d (value_of a) (omega arith)
          ∙ subst (λ (k : ℕ). value_of a k ≡ value_of b k) z e
      go (same e f) (inr m) ih = ap (λ (ds : List Difference). turned_value ds (value_of a) d) f ∙ ih m
      go (differs e f) (inl z) ih =
          ap (λ (ds : List Difference). turned_value ds (value_of a) d) f ∙ turned-here (line_of c) (differences_from a b n (suc c)) (value_of a) d z ∙ ap (value_of b) z
      go (differs e f) (inr m) ih =
          ap (λ (ds : List Difference). turned_value ds (value_of a) d) f ∙ turned-next (line_of c) (differences_from a b n (suc c)) (value_of a) d (λ q. omega arith) ∙ ih m

-- ---- one list

-- the code of a line is not below the lowest
line-above : (lowest : ℕ) (ds : List Difference) (d : Difference) → Rising lowest (listed_codes ds) → Stands d ds → lowest ≤ d.code
line-above lowest [] d _ x3 = elim x3 [ ]
line-above lowest (e ∷ ds) d (more l r) here = l
line-above lowest (e ∷ ds) d (more l r) (later s) = omega (arith, line-above (suc e.code) ds d r s)

-- rising lists with the same lines are the same
pub same_lines : (lowest : ℕ) (ds es : List Difference) → Rising lowest (listed_codes ds) → Rising lowest (listed_codes es)
    → ((d : Difference) → Stands d ds → Stands d es) → ((d : Difference) → Stands d es → Stands d ds) → ds ≡ es
same_lines lowest [] [] r q f g = refl
same_lines lowest [] (e ∷ es) r q f g = absurd (omega (arith, stands_some (g e here)))
same_lines lowest (d ∷ ds) [] r q f g = absurd (omega (arith, stands_some (f d here)))
same_lines lowest (d ∷ ds) (e ∷ es) (more l r) (more m q) f g =
    let first = heads (stands_or d e es (f d here)) (stands_or e d ds (g e here)) in
    let codes : d.code ≡ e.code = ap (λ (x : Difference). x.code) first in
    ap₂ (λ (x : Difference) (xs : List Difference). x ∷ xs) first
    (same_lines (suc d.code) ds es r (subst (λ (n : ℕ). Rising (suc n) (listed_codes es)) (sym codes) q)
    (λ x s. behind x e es (f x (later s)) (λ z. let y : x.code ≡ e.code = ap (λ (w : Difference). w.code) z in omega (arith, line-above (suc d.code) ds x r s)))
    (λ x s. behind x d ds (g x (later s)) (λ z. let y : x.code ≡ d.code = ap (λ (w : Difference). w.code) z in omega (arith, line-above (suc e.code) es x q s))))
  where
    -- each first line stands in the other list: were it behind, its code would be higher than the other's, both ways
    heads : (d ≡ e) ⊎ Stands d es → (e ≡ d) ⊎ Stands e ds → d ≡ e
    heads (inl z) y = z
    heads (inr z) (inl y) = sym y
    heads (inr z) (inr y) = absurd (omega (arith, line-above (suc e.code) es d q z, line-above (suc d.code) ds e r y))

    -- a line that is not the first stands behind it
    behind : (x y : Difference) (xs : List Difference) → Stands x (y ∷ xs) → (x ≡ y → ⊥) → Stands x xs
    behind x y xs s n = ⊎_elim (λ z. absurd (n z)) (λ z. z) (stands_or x y xs s)
