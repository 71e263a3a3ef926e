-- The value of a code among settings, and the settings by their values.
use mathlib.Core.Path.{◌≡◌, refl, sym, ap, ap₂, subst, ◌∙◌}
use mathlib.Core.Bool.{Bool, true, false, cond}
use mathlib.Core.Logic.{◌⊎◌, inl, inr, ⊎_elim}
use mathlib.Core.List.{List, [], ◌∷◌}
use Prim.Native.Nat.{ℕ, zero, suc, ◌+◌, ◌≤◌, ◌<◌}
use native.Mathlib.Nat.{eq-or-lt_of_le}
use native.Mathlib.Omega.{arith}
use lib.ListN.{length}
use lib.Dec.{eqb}
use borrow.Author.Tests.{eqb-true, eqb-false, eq-eqb, ne_eqb}
use Rattle.checksum.specs.Bytes.{Bytes}
use Rattle.checksum.proofs.Bytes.{bytes-at, bytes_drop}
use Rattle.profile_form_rules.specs.declared.Setting.{Setting}
use Rattle.profile_form_rules.specs.Statements.{Records, none, one, codes_of, Rising, end, more, Stands, here, later}
use Rattle.profile_compare_rules.specs.Compare.{absent, value_of, settings_by}
use Rattle.profile_compare_rules.specs.Statements.{Shows}
use Rattle.profile_compare_rules.specs.Statements as says

abbrev pub setting : (code value : ℕ) → Setting
setting code value = record { code = code; value = value }

-- ---- one code

-- the first setting has the code, or not
pub value-here : (e : Setting) (es : List Setting) (c : ℕ) → e.code ≡ c → value_of (e ∷ es) c ≡ e.value
unfolding value_of
value-here e es c q = rw (eq-eqb e.code c q)

pub value-later : (e : Setting) (es : List Setting) (c : ℕ) → (e.code ≡ c → ⊥) → value_of (e ∷ es) c ≡ value_of es c
unfolding value_of
value-later e es c q = rw (ne_eqb e.code c q)

-- below all of them there is none
pub value-below : (lowest : ℕ) (es : List Setting) (c : ℕ) → Rising lowest (codes_of es) → c < lowest → value_of es c ≡ absent
unfolding value_of
value-below lowest [] c end l = refl
value-below lowest (e ∷ es) c (more le r) l = value-later e es c (λ q. omega arith) ∙ value-below (suc e.code) es c r (omega arith)

-- ---- what is shown

-- nothing stands among none
pub stands_some : {A : Type 0} {x : A} {xs : List A} → Stands x xs → 0 < length xs
stands_some here = omega arith
stands_some (later s) = omega arith

-- the first, or one behind it
pub stands_or : {A : Type 0} (x y : A) (xs : List A) → Stands x (y ∷ xs) → (x ≡ y) ⊎ Stands x xs
stands_or x y xs here = inl refl
stands_or x y xs (later s) = inr s

shows_more : (e : Setting) (es : List Setting) (c x : ℕ) → (e.code ≡ c → ⊥) → Shows es c x → Shows (e ∷ es) c x
shows_more e es c x q (says.value s) = says.value (later s)
shows_more e es c x q (says.absent n) = says.absent (λ v s. ⊎_elim (λ f. q (sym (ap (λ (y : Setting). y.code) f))) (n v) (stands_or (setting c v) e es s))

-- a code's value is shown
pub shows : (es : List Setting) (c : ℕ) → Shows es c (value_of es c)
unfolding value_of
shows [] c = says.absent (λ v s. omega (arith, stands_some s))
shows (e ∷ es) c = go (eqb e.code c) refl (shows es c)
  where
    go : (t : Bool) → eqb e.code c ≡ t → Shows es c (value_of es c) → Shows (e ∷ es) c (cond t e.value (value_of es c))
    go true q s = let f : setting e.code e.value ≡ setting c e.value = ap (λ (k : ℕ). setting k e.value) (eqb-true _ _ q) in says.value (subst (λ (x : Setting). Stands x (e ∷ es)) f here)
    go false q s = shows_more e es c (value_of es c) (eqb-false _ _ q) s

-- and nothing else, where no code stands twice
stands_above : (lowest : ℕ) (es : List Setting) (e : Setting) → Rising lowest (codes_of es) → Stands e es → lowest ≤ e.code
stands_above lowest [] e _ x3 = elim x3 [ ]
stands_above lowest (f ∷ es) e (more l r) here = l
stands_above lowest (f ∷ es) e (more l r) (later s) = omega (arith, stands_above (suc f.code) es e r s)

pub stands_value : (lowest : ℕ) (es : List Setting) (e : Setting) → Rising lowest (codes_of es) → Stands e es → value_of es e.code ≡ e.value
stands_value lowest [] e _ x3 = elim x3 [ ]
stands_value lowest (f ∷ es) e (more l r) here = value-here e es e.code refl
stands_value lowest (f ∷ es) e (more l r) (later s) =
    value-later f es e.code (λ q. omega (arith, stands_above (suc f.code) es e r s)) ∙ stands_value (suc f.code) es e r s

pub shown_value : (lowest : ℕ) (es : List Setting) (c x : ℕ) → Rising lowest (codes_of es) → Shows es c x → x ≡ value_of es c
shown_value lowest es c x r (says.value {v} s) = sym (stands_value lowest es (setting c v) r s)
shown_value lowest es c x r (says.absent n) = go (value_of es c) (shows es c)
  where
    go : (y : ℕ) → Shows es c y → absent ≡ y
    go y (says.value {v} s) = absurd (n v s)
    go y (says.absent m) = refl

-- ---- numbers of bytes

-- codes below 256, and values below 65,536
pub data Small : List Setting → Type 0 where
  nil : Small []
  cons : {e : Setting} {es : List Setting} → e.code < 256 → e.value < 65536 → Small es → Small (e ∷ es)

pub records_small : (behind : List ℕ) (es : List Setting) (s : List ℕ) → Bytes s → Records behind es s → Small es
records_small behind [] s b none = nil
records_small behind (e ∷ es) s b (one {rest = rest} r) =
    cons {e = e} (bytes-at b 4) (omega (arith, bytes-at b 5, bytes-at b 6)) (records_small behind es rest (bytes_drop 7 b) r)

-- a code that has a value is a byte
pub value-code : (es : List Setting) (c : ℕ) → Small es → (value_of es c ≡ absent → ⊥) → c < 256
unfolding value_of
value-code [] c nil n = absurd (n refl)
value-code (e ∷ es) c (cons k w m) n = go (eqb e.code c) refl (λ q. value-code es c m (λ z. n (value-later e es c q ∙ z)))
  where
    go : (t : Bool) → eqb e.code c ≡ t → ((e.code ≡ c → ⊥) → c < 256) → c < 256
    go true q ih = let z = eqb-true e.code c q in omega arith
    go false q ih = ih (eqb-false _ _ q)

-- ---- the settings that have these values

module _ (value : ℕ → ℕ) where
  by_absent : (n c : ℕ) → value c ≡ absent → settings_by value (suc n) c ≡ settings_by value n (suc c)
  unfolding settings_by
  by_absent n c e = rw (eq-eqb (value c) absent e)

  by_there : (n c : ℕ) → (value c ≡ absent → ⊥) → settings_by value (suc n) c ≡ setting c (value c) ∷ settings_by value n (suc c)
  unfolding settings_by
  by_there n c e = rw (ne_eqb (value c) absent e)

  -- those settings are the only ones
  pub by_values : (n c : ℕ) (es : List Setting) → c + n ≡ 256 → Rising c (codes_of es) → Small es → ((d : ℕ) → c ≤ d → d < 256 → value d ≡ value_of es d) → settings_by value n c ≡ es
  unfolding settings_by value_of
  by_values zero c [] h r m v = refl
  by_values zero c (e ∷ es) h (more l r) (cons k w m) v = absurd (omega arith)
  by_values (suc n) c [] h r m v = by_absent n c (v c (omega arith) (omega arith)) ∙ by_values n (suc c) [] (omega arith) end nil (λ d l k. v d (omega arith) k)
  by_values (suc n) c (e ∷ es) h (more l r) (cons k w m) v =
      ⊎_elim
      (λ q. now q (by_values n (suc c) es (omega arith) (subst (λ (j : ℕ). Rising (suc j) (codes_of es)) (sym q) r) m (λ d i j. v d (omega arith) j ∙ value-later e es d (λ z. omega arith))))
      (λ q. then q (by_values n (suc c) (e ∷ es) (omega arith) (more q r) (cons k w m) (λ d i j. v d (omega arith) j)))
      (eq-or-lt_of_le l)
    where
      -- this code has the first setting, or one below it
      now : c ≡ e.code → settings_by value n (suc c) ≡ es → settings_by value (suc n) c ≡ e ∷ es
      now q ih =
          let is : value c ≡ e.value = v c (omega arith) (omega arith) ∙ value-here e es c (sym q) in
          by_there n c (λ z. omega arith) ∙ ap₂ (λ (f : Setting) (fs : List Setting). f ∷ fs) (ap₂ setting q is) ih

      then : c < e.code → settings_by value n (suc c) ≡ e ∷ es → settings_by value (suc n) c ≡ e ∷ es
      then q ih = by_absent n c (v c (omega arith) (omega arith) ∙ value-below (suc c) (e ∷ es) c (more q r) (omega arith)) ∙ ih
