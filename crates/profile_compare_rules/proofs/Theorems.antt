-- The theorems of specs/Statements.antt.
use mathlib.Core.Path.{◌≡◌, refl, sym, ap, ap₂, subst, ◌∙◌}
use mathlib.Core.Bool.{Bool, true, false, cond}
use mathlib.Core.List.{List, [], ◌∷◌, ◌++◌, map}
use Prim.Native.Nat.{ℕ, zero, suc, ◌≤◌, ◌<◌}
use native.Mathlib.Omega.{arith}
use lib.ListN.{length, take, drop, length-map}
use lib.Seq.{take_all}
use lib.Dec.{leb, eqb}
use borrow.Author.Tests.{leb-true, leb-false, le-leb, eqb-true, eqb-false}
use Rattle.buffers.specs.Buffers.{over}
use Rattle.checksum.specs.Bytes.{Bytes}
use Rattle.codes.specs.Codes.{all_codes}
use Rattle.profile_form_rules.specs.Form.{settings_of, bytes_of, judge_form}
use Rattle.profile_form_rules.specs.declared.Setting.{Setting}
use Rattle.profile_form_rules.specs.Statements.{codes_of, Rising, Stands, IsProfile, RefusedAt}
use Rattle.profile_form_rules.proofs.Theorems as form
use Rattle.profile_compare_rules.specs.Compare.{absent, value_of, Difference, differences_from, differences, Room, room_in, listed_in, Outcome, refused_with, list_differences, compare_as, compare_profiles, turned_value, turned}
use Rattle.profile_compare_rules.specs.Statements.{Shows, difference, listed_codes, first_values, second_values, IsList, OneList, answered, Fits, CompareRule, Compares, SameIsEmpty, EmptyIsSame, lines_in, lines_of, Turns, RoomEnough, OneComparison, LongCompared}
use Rattle.profile_compare_rules.proofs.Values.{stands_some, shows, shown_value, value-code, Small, records_small, by_values}
use Rattle.profile_compare_rules.proofs.Differences as lines

-- ---- the list

-- settings that rise and are numbers of bytes, as those of a profile of bytes are
pub record Proper (es : List Setting) : Type 0 where
  pub rising : Rising 0 (codes_of es)
  pub small : Small es

pub proper : (es : List Setting) (s : List ℕ) → Bytes s → IsProfile es s → Proper es
proper es s b p = record { rising = p.rising; small = records_small [] es s b p.whole }

module _ (a b : List Setting) (p : Proper a) (q : Proper b) where
  -- a code whose values differ is a byte
  code-listed : (c : ℕ) → (value_of a c ≡ value_of b c → ⊥) → c < 256
  code-listed c n = go (eqb (value_of a c) absent) refl
    where
      go : (t : Bool) → eqb (value_of a c) absent ≡ t → c < 256
      go true e = value-code b c q.small (λ z. n (eqb-true _ _ e ∙ sym z))
      go false e = value-code a c p.small (eqb-false _ _ e)

  only-listed : (c x y : ℕ) → Stands (difference c x y) (differences a b) → Shows a c x × Shows b c y × (x ≡ y → ⊥)
  only-listed c x y s =
      let d = lines.lines_said a b all_codes 0 (difference c x y) s in
      (subst (Shows a c) (sym d.first) (shows a c), subst (Shows b c) (sym d.second) (shows b c), d.differ)

  every-listed : (c x y : ℕ) → Shows a c x → Shows b c y → (x ≡ y → ⊥) → Stands (difference c x y) (differences a b)
  every-listed c x y f g n =
      let e = shown_value 0 a c x p.rising f in
      let h = shown_value 0 b c y q.rising g in
      let m : value_of a c ≡ value_of b c → ⊥ = λ z. n (e ∙ z ∙ sym h) in
      subst (λ (d : Difference). Stands d (differences a b)) (ap₂ (difference c) (sym e) (sym h)) (lines.lines-every a b all_codes 0 c (omega arith) (omega (arith, code-listed c m)) m)

  pub is-list : IsList a b (differences a b)
  is-list = record { exactly = record { only = only-listed; every = every-listed }; rising = lines.lines-rising a b all_codes 0 }

only-list : (a b : List Setting) (ds es : List Difference) → IsList a b ds → IsList a b es → ds ≡ es
only-list a b ds es p q = lines.same_lines 0 ds es p.rising q.rising (into p q) (into q p)
  where
    into : {ds es : List Difference} → IsList a b ds → IsList a b es → (d : Difference) → Stands d ds → Stands d es
    into p q d s = let x = p.exactly.only d.code d.first d.second s in q.exactly.every d.code d.first d.second x.0 x.1 x.2

pub one_list : OneList
one_list = record {
  some = λ a b s t p q i j. record { list = differences a b; is_list = is-list a b (proper a s p i) (proper b t q j); short = lines.lines-few a b all_codes 0 };
  only = only-list;
}

-- ---- the comparison

-- of two profiles the list decides
pub compare_accepted : (a b : List Setting) (s t : List ℕ) (r : Room) → IsProfile a s → IsProfile b t → compare_profiles s t r ≡ list_differences (differences a b) r
unfolding compare_profiles compare_as
compare_accepted a b s t r i j =
    rw ((form.accepts-exactly).every a s i, (form.accepts-exactly).every b t j)
    (ap₂ (λ (x y : List Setting). list_differences (differences x y) r) ((form.read_and_written).settings a s i) ((form.read_and_written).settings b t j))

list-short : (ds : List Difference) (r : Room) → (Fits ds r → ⊥) → list_differences ds r ≡ record { result = answered 1 0 0 0; room = r }
unfolding list_differences
list-short ds r n = go (leb (length ds) (room_in r)) refl
  where
    go : (t : Bool) → leb (length ds) (room_in r) ≡ t → cond t (record { result = answered 0 0 (length ds) 0; room = listed_in ds r }) (refused_with 1 0 0 r) ≡ record { result = answered 1 0 0 0; room = r }
    go false e = refl
    go true e = let l : length ds ≤ room_in r = leb-true _ _ e in absurd (n (record { codes = omega arith; first = omega arith; second = omega arith }))

-- an array with a column of the list at its start
column : (f : Difference → ℕ) (ds : List Difference) (out : List ℕ) → over (map f ds) out ≡ map f ds ++ drop (length ds) out
column f ds out = ap (λ (n : ℕ). map f ds ++ drop n out) (length-map ds f)

list-fits : (ds : List Difference) (r : Room) → Fits ds r → list_differences ds r ≡ record {
  result = answered 0 0 (length ds) 0;
  room = record {
    codes = listed_codes ds ++ drop (length ds) r.codes;
    first = first_values ds ++ drop (length ds) r.first;
    second = second_values ds ++ drop (length ds) r.second;
  };
}
unfolding list_differences
list-fits ds r f =
    let l : length ds ≤ room_in r = omega (arith, f.codes, f.first, f.second) in
    let x = column (λ (d : Difference). d.code) ds r.codes in
    let y = column (λ (d : Difference). d.first) ds r.first in
    let z = column (λ (d : Difference). d.second) ds r.second in
    rw (le-leb (length ds) (room_in r) l) (cc (x, y, z))

refuses-first : (s t : List ℕ) (r : Room) (p : ℕ) → RefusedAt s p → compare_profiles s t r ≡ record { result = answered 17 1 0 p; room = r }
unfolding compare_profiles compare_as
refuses-first s t r p x = rw ((form.first-refused).given s p x)

refuses-second : (a : List Setting) (s t : List ℕ) (r : Room) (p : ℕ) → IsProfile a s → RefusedAt t p → compare_profiles s t r ≡ record { result = answered 17 2 0 p; room = r }
unfolding compare_profiles compare_as
refuses-second a s t r p i x = rw ((form.accepts-exactly).every a s i, (form.first-refused).given t p x)

-- the list of two profiles is the one that is given
by_list : (a b : List Setting) (s t : List ℕ) (ds : List Difference) (r : Room) → Bytes s → Bytes t → IsProfile a s → IsProfile b t → IsList a b ds → compare_profiles s t r ≡ list_differences ds r
by_list a b s t ds r p q i j x =
    compare_accepted a b s t r i j
    ∙ ap (λ (es : List Difference). list_differences es r) (only-list a b (differences a b) ds (is-list a b (proper a s p i) (proper b t q j)) x)

pub compares : Compares compare_profiles
compares = record {
  first = refuses-first;
  second = refuses-second;
  short = λ a b s t ds r p q i j x n. by_list a b s t ds r p q i j x ∙ list-short ds r n;
  listed = λ a b s t ds r p q i j x f. by_list a b s t ds r p q i j x ∙ list-fits ds r f;
}

-- ---- equal bytes

-- no code differs: nothing is listed
pub none-listed : (a : List Setting) (n c : ℕ) → differences_from a a n c ≡ []
unfolding differences_from
none-listed a zero c = refl
none-listed a (suc n) c = lines.line_same a a n c refl ∙ none-listed a n (suc c)

pub same-is_empty : SameIsEmpty compare_profiles
unfolding list_differences
same-is_empty a s r i =
    compare_accepted a a s s r i i
    ∙ ap (λ (ds : List Difference). list_differences ds r) (none-listed a all_codes 0)
    ∙ rw (le-leb 0 (room_in r) (omega arith))

-- ---- what an accepted comparison has

pub record Accepted (s t : List ℕ) (r : Room) : Type 0 where
  pub first : IsProfile (settings_of s) s
  pub second : IsProfile (settings_of t) t
  pub fits : length (differences (settings_of s) (settings_of t)) ≤ room_in r

pub accepted_has : (s t : List ℕ) (r : Room) → (compare_profiles s t r).result.answer ≡ 0 → Accepted s t r
unfolding compare_profiles compare_as list_differences
accepted_has s t r h = go (eqb (judge_form s).answer 0) (eqb (judge_form t).answer 0) (leb (length ds) (room_in r)) refl refl refl h
  where
    ds : List Difference
    ds = differences (settings_of s) (settings_of t)

    go : (x y z : Bool) → eqb (judge_form s).answer 0 ≡ x → eqb (judge_form t).answer 0 ≡ y → leb (length (differences (settings_of s) (settings_of t))) (room_in r) ≡ z
        → (cond x (cond y (cond z (record { result = answered 0 0 (length (differences (settings_of s) (settings_of t))) 0; room = listed_in (differences (settings_of s) (settings_of t)) r }) (refused_with 1 0 0 r)) (refused_with (judge_form t).answer 2 (judge_form t).position.0 r)) (refused_with (judge_form s).answer 1 (judge_form s).position.0 r)).result.answer ≡ 0
        → Accepted s t r
    go true true true e f g q = record { first = form.accepted_profile s (eqb-true _ _ e); second = form.accepted_profile t (eqb-true _ _ f); fits = leb-true _ _ g }
    go true true false e f g q = absurd (omega arith)
    go true false z e f g q = absurd (eqb-false _ _ f q)
    go false y z e f g q = absurd (eqb-false _ _ e q)

-- and what it gives
pub accepted_gives : (s t : List ℕ) (r : Room) → Accepted s t r → let ds = differences (settings_of s) (settings_of t) in
    compare_profiles s t r ≡ record { result = answered 0 0 (length ds) 0; room = listed_in ds r }
unfolding list_differences
accepted_gives s t r x =
    compare_accepted (settings_of s) (settings_of t) s t r x.first x.second ∙ rw (le-leb (length (differences (settings_of s) (settings_of t))) (room_in r) x.fits)

-- ---- an empty list

-- values that agree give the same settings
agreeing : (a b : List Setting) → Proper a → Proper b → ((d : ℕ) → d < 256 → value_of a d ≡ value_of b d) → a ≡ b
agreeing a b p q v =
    sym (by_values (value_of a) all_codes 0 a refl p.rising p.small (λ d l h. refl)) ∙ by_values (value_of a) all_codes 0 b refl q.rising q.small (λ d l h. v d h)

-- where no line stands, the values of every code agree
unlisted : (a b : List Setting) → length (differences a b) ≡ 0 → (d : ℕ) → d < 256 → value_of a d ≡ value_of b d
unlisted a b e d h = go (eqb (value_of a d) (value_of b d)) refl
  where
    go : (t : Bool) → eqb (value_of a d) (value_of b d) ≡ t → value_of a d ≡ value_of b d
    go true q = eqb-true _ _ q
    go false q = absurd (omega (arith, stands_some (lines.lines-every a b all_codes 0 d (omega arith) (omega arith) (eqb-false _ _ q))))

pub empty_is_same : EmptyIsSame compare_profiles
empty_is_same s t r p q done e =
    let x = accepted_has s t r done in
    let a = settings_of s in
    let b = settings_of t in
    let n : length (differences a b) ≡ 0 = sym (ap (λ (o : Outcome). o.result.differences) (accepted_gives s t r x)) ∙ e in
    sym ((form.read_and_written).bytes a s p x.first)
    ∙ ap bytes_of (agreeing a b (proper a s p x.first) (proper b t q x.second) (unlisted a b n))
    ∙ (form.read_and_written).bytes b t q x.second

-- ---- turning

-- the lines are read from the arrays as they were listed
lines-read : (ds : List Difference) (x y z : List ℕ) → lines_in (length ds) (listed_codes ds ++ x) (first_values ds ++ y) (second_values ds ++ z) ≡ ds
lines-read [] x y z = refl
lines-read (d ∷ ds) x y z = ap (λ (es : List Difference). d ∷ es) (lines-read ds x y z)

pub lines-listed : (s t : List ℕ) (r : Room) → Accepted s t r → lines_of (compare_profiles s t r) ≡ differences (settings_of s) (settings_of t)
lines-listed s t r x = ap lines_of (accepted_gives s t r x) ∙ lines-read (differences (settings_of s) (settings_of t)) _ _ _

pub turns : Turns turned compare_profiles
turns s t r q e =
    let x = accepted_has s t r e in
    let a = settings_of s in
    let b = settings_of t in
    let proved = proper b t q x.second in
    ap (turned s) (lines-listed s t r x)
    ∙ ap bytes_of (by_values (turned_value (differences a b) (value_of a)) all_codes 0 b refl proved.rising proved.small (λ d l h. lines.turned-value a b all_codes 0 d l h))
    ∙ (form.read_and_written).bytes b t q x.second

-- ---- room

pub room-enough : RoomEnough compare_profiles
unfolding list_differences
room-enough a b s t r i j k l m =
    let few = lines.lines-few a b all_codes 0 in
    let fits : length (differences a b) ≤ room_in r = omega arith in
    ap (λ (o : Outcome). o.result.answer) (compare_accepted a b s t r i j) ∙ rw (le-leb (length (differences a b)) (room_in r) fits)

-- ---- no other comparison

-- of a rule that compares so, the answer and the arrays are ours, whatever the bytes
pub as_ours : (compare : CompareRule) → Compares compare → (s t : List ℕ) (r : Room) → Bytes s → Bytes t → compare s t r ≡ compare_profiles s t r
as_ours compare h s t r p q = go (eqb (judge_form s).answer 0) (eqb (judge_form t).answer 0) (leb (length ds) (room_in r)) refl refl refl
  where
    a : List Setting
    a = settings_of s

    b : List Setting
    b = settings_of t

    ds : List Difference
    ds = differences (settings_of s) (settings_of t)

    go : (x y z : Bool) → eqb (judge_form s).answer 0 ≡ x → eqb (judge_form t).answer 0 ≡ y → leb (length (differences (settings_of s) (settings_of t))) (room_in r) ≡ z → compare s t r ≡ compare_profiles s t r
    go false y z e f g = let w = ((form.first-refused).first s (eqb-false _ _ e)).1 in h.first s t r _ w ∙ sym (refuses-first s t r _ w)
    go true false z e f g =
        let i = form.accepted_profile s (eqb-true _ _ e) in
        let w = ((form.first-refused).first t (eqb-false _ _ f)).1 in
        h.second a s t r _ i w ∙ sym (refuses-second a s t r _ i w)
    go true true true e f g =
        let i = form.accepted_profile s (eqb-true _ _ e) in
        let j = form.accepted_profile t (eqb-true _ _ f) in
        let w = is-list a b (proper a s p i) (proper b t q j) in
        let l : length ds ≤ room_in r = leb-true _ _ g in
        let m : Fits ds r = record { codes = omega arith; first = omega arith; second = omega arith } in
        h.listed a b s t ds r p q i j w m ∙ sym (compares.listed a b s t ds r p q i j w m)
    go true true false e f g =
        let i = form.accepted_profile s (eqb-true _ _ e) in
        let j = form.accepted_profile t (eqb-true _ _ f) in
        let w = is-list a b (proper a s p i) (proper b t q j) in
        let l : room_in r < length ds = leb-false _ _ g in
        let m : Fits ds r → ⊥ = λ x. omega (arith, x.codes, x.first, x.second) in
        h.short a b s t ds r p q i j w m ∙ sym (compares.short a b s t ds r p q i j w m)

pub one_comparison : OneComparison
one_comparison one other h k s t r p q = as_ours one h s t r p q ∙ sym (as_ours other k s t r p q)

-- ---- long inputs

-- an accepted profile is not cut
uncut : (s : List ℕ) → Bytes s → (judge_form s).answer ≡ 0 → take 1793 s ≡ s
uncut s b e = let few = form.at-most_256 (settings_of s) s b (form.accepted_profile s e) in take_all 1793 s (omega (arith, few.1))

pub long_compared : LongCompared compare_profiles
unfolding compare_profiles compare_as
long_compared s t r p q = go (eqb (judge_form s).answer 0) (eqb (judge_form t).answer 0) refl refl
  where
    go : (x y : Bool) → eqb (judge_form s).answer 0 ≡ x → eqb (judge_form t).answer 0 ≡ y → compare_profiles (take 1793 s) (take 1793 t) r ≡ compare_profiles s t r
    go true true e f = ap₂ (λ (u v : List ℕ). compare_profiles u v r) (uncut s p (eqb-true _ _ e)) (uncut t q (eqb-true _ _ f))
    go true false e f = rw (form.long-cut s p, form.long-cut t q, e, f)
    go false y e f = rw (form.long-cut s p, e)
