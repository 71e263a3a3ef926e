-- What is written of two profiles, from what the comparison answers.
use mathlib.Core.Path.{◌≡◌, refl, sym, ap, ap₂, subst, ◌∙◌}
use mathlib.Core.List.{List, [], ◌∷◌, ◌++◌, map}
use Prim.Native.Nat.{ℕ, zero, suc, ◌≤◌}
use native.Mathlib.Omega.{arith}
use lib.ListN.{length, take}
use lib.Seq.{take_all}
use lib.Dec.{eqb}
use borrow.Author.Tests.{eqb-true, eqb-false}
use mathlib.Core.Bool.{Bool, true, false}
use Rattle.checksum.specs.Bytes.{Bytes}
use Rattle.checksum.proofs.Bytes.{bytes_take}
use Rattle.codes.specs.Codes.{all_codes}
use Rattle.profile_form_rules.specs.Form.{Judged, settings_of}
use Rattle.profile_form_rules.specs.declared.Setting.{Setting}
use Rattle.profile_form_rules.specs.Statements.{IsProfile, SomeProfile, Stands, here, later}
use Rattle.profile_form_rules.proofs.Theorems.{accepts-exactly, read_and_written, at-most_256, long-cut}
use Rattle.profile_compare_rules.specs.Compare.{absent, value_of, Difference, differences, Room, lent, listed_in, Outcome, outcome, compare_profiles}
use Rattle.profile_compare_rules.specs.Statements.{IsList, lines_in, lines_of}
use Rattle.profile_compare_rules.specs.declared.Compared.{Compared}
use Rattle.profile_compare_rules.proofs.Values.{Small, nil, cons, value-here, value-later, records_small}
use Rattle.profile_compare_rules.proofs.Differences.{lines_said, lines-few}
use Rattle.profile_compare_rules.proofs.Theorems.{Accepted, accepted_has, accepted_gives, lines-listed, room-enough, one_list, proper, is-list}
use Rattle.compare_profiles.specs.Lines.{Lines, refused_line, Written, LongWritten}
use Rattle.compare_profiles.specs.Parts.{Values}

-- ---- the numbers of the list

-- a value is at most the number that stands for none
value-most : (es : List Setting) (c : ℕ) → Small es → value_of es c ≤ absent
unfolding value_of
value-most [] c nil = omega arith
value-most (e ∷ es) c (cons k w m) = go (eqb e.code c) refl (value-most es c m)
  where
    go : (t : Bool) → eqb e.code c ≡ t → value_of es c ≤ absent → value_of (e ∷ es) c ≤ absent
    go true q l = let z = value-here e es c (eqb-true e.code c q) in omega arith
    go false q l = let z = value-later e es c (eqb-false e.code c q) in omega arith

-- a column whose numbers are values, whatever follows it
column_values : (f : Difference → ℕ) (ds : List Difference) (rest : List ℕ) → ((d : Difference) → Stands d ds → f d ≤ absent) → Values (length ds) (map f ds ++ rest)
column_values f [] rest h i l = absurd (omega arith)
column_values f (d ∷ ds) rest h zero l = h d here
column_values f (d ∷ ds) rest h (suc i) l = column_values f ds rest (λ e s. h e (later s)) i (omega arith)

-- ---- the answer

module _ (s t : List ℕ) (r : Room) (x : Compared) (codes firsts seconds : List ℕ) (e : outcome x (lent codes firsts seconds) ≡ compare_profiles s t r) where
  abbrev ds : List Difference
  ds = differences (settings_of s) (settings_of t)

  module _ (done : x.answer ≡ 0) where
    accepted : Accepted s t r
    accepted = accepted_has s t r (sym (ap (λ (o : Outcome). o.result.answer) e) ∙ done)

    gives : outcome x (lent codes firsts seconds) ≡ outcome (record { answer = 0; profile = 0; differences = length ds; position = record { 0 = 0 } }) (listed_in ds r)
    gives = e ∙ accepted_gives s t r accepted

    -- how many there are
    pub answer-count : x.differences ≡ length ds
    answer-count = ap (λ (o : Outcome). o.result.differences) gives

    pub answer-few : x.differences ≤ all_codes
    answer-few = omega (arith, answer-count, lines-few (settings_of s) (settings_of t) all_codes 0)

    -- their values
    pub first-values : Bytes s → Values x.differences firsts
    first-values b =
        let small = records_small [] (settings_of s) s b accepted.first.whole in
        let all = column_values (λ (d : Difference). d.first) ds _ (λ d w. let said = lines_said (settings_of s) (settings_of t) all_codes 0 d w in omega (arith, said.first, value-most (settings_of s) d.code small)) in
        rw (answer-count, ap (λ (o : Outcome). o.room.first) gives) all

    pub second-values : Bytes t → Values x.differences seconds
    second-values b =
        let small = records_small [] (settings_of t) t b accepted.second.whole in
        let all = column_values (λ (d : Difference). d.second) ds _ (λ d w. let said = lines_said (settings_of s) (settings_of t) all_codes 0 d w in omega (arith, said.second, value-most (settings_of t) d.code small)) in
        rw (answer-count, ap (λ (o : Outcome). o.room.second) gives) all

    -- the lines of the list
    pub answer-written : (text : List ℕ) → Lines (lines_in x.differences codes firsts seconds) text → Written s t text
    answer-written text l = record {
      lines = λ a b es p q i j k. subst (λ (fs : List Difference). Lines fs text) (is a b es p q i j k) l;
      refused = λ n. absurd (n (record { settings = settings_of s; is_profile = accepted.first }) (record { settings = settings_of t; is_profile = accepted.second }));
    }
      where
        is : (a b : List Setting) (es : List Difference) → Bytes s → Bytes t → IsProfile a s → IsProfile b t → IsList a b es → lines_in x.differences codes firsts seconds ≡ es
        is a b es p q i j k =
            ap lines_of e ∙ lines-listed s t r accepted
            ∙ ap₂ differences (read_and_written.settings a s i) (read_and_written.settings b t j)
            ∙ one_list.only a b (differences a b) es (is-list a b (proper a s p i) (proper b t q j)) k

  -- or the refusal, where there is room for all codes
  pub refused-written : (x.answer ≡ 0 → ⊥) → 256 ≤ length r.codes → 256 ≤ length r.first → 256 ≤ length r.second → Written s t refused_line
  refused-written n k l m = record {
    lines = λ a b es p q i j w. absurd (n (ap (λ (o : Outcome). o.result.answer) e ∙ room-enough a b s t r i j k l m));
    refused = λ z. refl;
  }

-- ---- long files

-- a profile is not cut, and what is cut to a profile is one
uncut : (a : List Setting) (s : List ℕ) → Bytes s → IsProfile a s → take 1793 s ≡ s
uncut a s b i = take_all 1793 s (omega (arith, (at-most_256 a s b i).1))

cut_profile : (s : List ℕ) → Bytes s → SomeProfile (take 1793 s) → SomeProfile s
cut_profile s b p =
    accepts-exactly.is_one s (ap (λ (j : Judged). j.answer) (sym (long-cut s b) ∙ accepts-exactly.every p.settings (take 1793 s) p.is_profile))

pub long-written : LongWritten
long-written s t text p q w = record {
  lines = λ a b ds x y i j k.
      let e = uncut a s p i in
      let f = uncut b t q j in
      w.lines a b ds (bytes_take 1793 p) (bytes_take 1793 q) (subst (IsProfile a) (sym e) i) (subst (IsProfile b) (sym f) j) k;
  refused = λ n. w.refused (λ x y. n (cut_profile s p x) (cut_profile t q y));
}
