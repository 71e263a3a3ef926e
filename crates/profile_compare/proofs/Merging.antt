-- Two rows of settings side by side: the list behind the lowest code of both.
use mathlib.Core.Path.{◌≡◌, refl, sym, ap, ap₂, ◌∙◌}
use mathlib.Core.Logic.{◌⊎◌, inl, inr}
use mathlib.Core.List.{List, [], ◌∷◌, ◌++◌, map, append-nil}
use Prim.Native.Nat.{ℕ, zero, suc, ◌+◌, ◌-◌, ◌≤◌, ◌<◌}
use native.Mathlib.Omega.{arith}
use Rattle.codes.specs.Codes.{all_codes}
use Rattle.profile_form_rules.specs.declared.Setting.{Setting}
use Rattle.profile_form_rules.specs.Statements.{codes_of, Rising, end, more}
use Rattle.profile_compare_rules.specs.Compare.{absent, value_of, Difference, differences_from, differences}
use Rattle.profile_compare_rules.specs.Statements.{difference}
use Rattle.profile_compare_rules.proofs.Values.{value-here, value-later, value-below, Small, cons}
use Rattle.profile_compare_rules.proofs.Differences.{Line, same, differs, line, line_same, line_differs}
use Rattle.profile_compare_rules.proofs.Theorems.{none-listed}

-- ---- a part of the list

-- codes whose values agree are passed over
skipped : (a b : List Setting) (m n c : ℕ) → ((d : ℕ) → c ≤ d → d < c + m → value_of a d ≡ value_of b d) → differences_from a b (m + n) c ≡ differences_from a b n (c + m)
skipped a b zero n c h =
    let e : zero + n ≡ n = omega arith in
    let f : c ≡ c + zero = omega arith in
    ap₂ (differences_from a b) e f
skipped a b (suc m) n c h =
    let e : suc m + n ≡ suc (m + n) = omega arith in
    let f : suc c + m ≡ c + suc m = omega arith in
    ap (λ (k : ℕ). differences_from a b k c) e
    ∙ line_same a b (m + n) c (h c (omega arith) (omega arith))
    ∙ skipped a b m n (suc c) (λ d l k. h d (omega arith) (omega arith))
    ∙ ap (differences_from a b n) f

-- rows that have the same values from a code on have the same list from there on
alike : (a b a' b' : List Setting) (n c : ℕ) → ((d : ℕ) → c ≤ d → value_of a d ≡ value_of a' d) → ((d : ℕ) → c ≤ d → value_of b d ≡ value_of b' d)
    → differences_from a b n c ≡ differences_from a' b' n c
unfolding differences_from
alike a b a' b' zero c f g = refl
alike a b a' b' (suc n) c f g =
    rw (f c (omega arith), g c (omega arith), alike a b a' b' n (suc c) (λ d l. f d (omega arith)) (λ d l. g d (omega arith)))

-- ---- behind a code

-- the row a has nothing below c, and a' is what it has above it
pub record Behind (a a' : List Setting) (c : ℕ) : Type 0 where
  pub below : (d : ℕ) → d < c → value_of a d ≡ absent
  pub above : (d : ℕ) → c < d → value_of a d ≡ value_of a' d
  pub gone : (d : ℕ) → d ≤ c → value_of a' d ≡ absent

-- its first setting has the code
pub behind-first : (e : Setting) (es : List Setting) → Rising (suc e.code) (codes_of es) → Behind (e ∷ es) es e.code
behind-first e es r = record {
  below = λ d l. value-below e.code (e ∷ es) d (more (omega arith) r) l;
  above = λ d l. value-later e es d (λ q. omega arith);
  gone = λ d l. value-below (suc e.code) es d r (omega arith);
}

-- all its codes are above
pub behind-none : (es : List Setting) (c : ℕ) → Rising (suc c) (codes_of es) → Behind es es c
behind-none es c r = record {
  below = λ d l. value-below (suc c) es d r (omega arith);
  above = λ d l. refl;
  gone = λ d l. value-below (suc c) es d r (omega arith);
}

module _ (a b a' b' : List Setting) (c : ℕ) (small : c < 256) (p : Behind a a' c) (q : Behind b b' c) where
  abbrev after : ℕ
  after = 255 - c

  -- the list from c on is the whole list, and the list behind c is that of what is left
  from_here : differences a b ≡ differences_from a b (suc after) c
  from_here =
      let e : all_codes ≡ c + suc after = omega arith in
      ap (λ (n : ℕ). differences_from a b n 0) e ∙ skipped a b c (suc after) 0 (λ d l k. p.below d (omega arith) ∙ sym (q.below d (omega arith))) ∙ ap (differences_from a b (suc after)) (let f : 0 + c ≡ c = omega arith in f)

  left : differences_from a b after (suc c) ≡ differences a' b'
  left =
      let e : suc c + after ≡ all_codes = omega arith in
      alike a b a' b' after (suc c) (λ d l. p.above d (omega arith)) (λ d l. q.above d (omega arith))
      ∙ sym (skipped a' b' (suc c) after 0 (λ d l k. p.gone d (omega arith) ∙ sym (q.gone d (omega arith))) ∙ ap (differences_from a' b' after) (let f : 0 + suc c ≡ suc c = omega arith in f))
      ∙ ap (λ (n : ℕ). differences_from a' b' n 0) e

  pub merged_same : value_of a c ≡ value_of b c → differences a b ≡ differences a' b'
  merged_same e = from_here ∙ line_same a b after c e ∙ left

  pub merged_differs : (value_of a c ≡ value_of b c → ⊥) → differences a b ≡ difference c (value_of a c) (value_of b c) ∷ differences a' b'
  merged_differs e = from_here ∙ line_differs a b after c e ∙ ap (λ (ds : List Difference). difference c (value_of a c) (value_of b c) ∷ ds) left

-- ---- where one row is empty

-- the line of a setting that only the first profile has, and of one that only the second has
abbrev pub first_only : Setting → Difference
first_only e = difference e.code e.value absent

abbrev pub second_only : Setting → Difference
second_only e = difference e.code absent e.value

-- each setting left is a line
none-second : (lowest : ℕ) (a : List Setting) → Rising lowest (codes_of a) → Small a → differences a [] ≡ map first_only a
none-second lowest [] r m = none-listed [] all_codes 0
none-second lowest (e ∷ a) (more l r) (cons k w m) =
    let here = value-here e a e.code refl in
    let none : value_of [] e.code ≡ absent = value-below (suc e.code) [] e.code end (omega arith) in
    merged_differs (e ∷ a) [] a [] e.code k (behind-first e a r) (behind-none [] e.code end) (λ q. omega (arith, here, none, q))
    ∙ ap₂ (λ (d : Difference) (ds : List Difference). d ∷ ds) (ap₂ (difference e.code) here none) (none-second (suc e.code) a r m)

-- the profiles change places
abbrev swapped : Difference → Difference
swapped d = difference d.code d.second d.first

other_way : (a b : List Setting) (n c : ℕ) → differences_from a b n c ≡ map swapped (differences_from b a n c)
unfolding differences_from
other_way a b zero c = refl
other_way a b (suc n) c = go (line a b n c) (other_way a b n (suc c))
  where
    go : Line a b n c → differences_from a b n (suc c) ≡ map swapped (differences_from b a n (suc c)) → differences_from a b (suc n) c ≡ map swapped (differences_from b a (suc n) c)
    go (same e f) ih = f ∙ ih ∙ ap (map swapped) (sym (line_same b a n c (sym e)))
    go (differs e f) ih = f ∙ ap (λ (ds : List Difference). difference c (value_of a c) (value_of b c) ∷ ds) ih ∙ ap (map swapped) (sym (line_differs b a n c (λ z. e (sym z))))

swapped_lines : (b : List Setting) → map swapped (map first_only b) ≡ map second_only b
swapped_lines [] = refl
swapped_lines (e ∷ b) = ap (λ (ds : List Difference). second_only e ∷ ds) (swapped_lines b)

none_first : (b : List Setting) → Rising 0 (codes_of b) → Small b → differences [] b ≡ map second_only b
none_first b r m = other_way [] b all_codes 0 ∙ ap (map swapped) (none-second 0 b r m) ∙ swapped_lines b

-- so the list is what is left of both, of which one is empty
pub rest_lines : (a b : List Setting) → (a ≡ []) ⊎ (b ≡ []) → Rising 0 (codes_of a) → Small a → Rising 0 (codes_of b) → Small b → differences a b ≡ map first_only a ++ map second_only b
rest_lines a b (inl e) r m q n = ap (λ (x : List Setting). differences x b) e ∙ none_first b q n ∙ ap (λ (x : List Setting). map first_only x ++ map second_only b) (sym e)
rest_lines a b (inr e) r m q n =
    ap (differences a) e ∙ none-second 0 a r m ∙ sym (append-nil (map first_only a)) ∙ ap (λ (x : List Setting). map first_only a ++ map second_only x) (sym e)
