-- The answers of the comparison, from the judgements and the list.
use mathlib.Core.Path.{◌≡◌, sym, ap, ap₂}
use mathlib.Core.Bool.{true, false}
use mathlib.Core.List.{List}
use Prim.Native.Nat.{ℕ, ◌≤◌}
use native.Mathlib.Omega.{arith}
use lib.ListN.{length}
use lib.Dec.{ltb}
use borrow.Author.Tests.{ltb-true, ltb-false, le-ltb, le-leb, lt-leb, eq-eqb, ne_eqb}
use Rattle.codes.specs.Codes.{all_codes}
use Rattle.message_rules.specs.Answer.{done, wrong_size}
use Rattle.message_rules.specs.Refusal.{number_of}
use Rattle.message_rules.specs.declared.refusal.RefusedAt.{RefusedAt}
use Rattle.profile_form_rules.proofs.Judging.{refusal-is-none}
use Rattle.profile_form_rules.specs.Form.{settings_of, refused_as, judge_form}
use Rattle.profile_compare_rules.specs.Compare.{Difference, Room, room_in, listed_in, Outcome, outcome, refusal, neither, the_first, the_second, list_differences, compare_as, compare_profiles}
use Rattle.profile_compare_rules.specs.declared.Compared.{Compared}
use Rattle.profile_compare_rules.proofs.Differences.{lines-few}
use Rattle.profile_compare.specs.Parts.{list_of}

-- ---- the room

-- room for every code is enough
pub not_many : (s t : List ℕ) (room : ℕ) → 256 ≤ room → false ≡ ltb room (length (list_of s t))
not_many s t room h = sym (le-ltb room (length (list_of s t)) (omega (arith, lines-few (settings_of s) (settings_of t) all_codes 0)))

module _ (ds : List Difference) (r : Room) (room : ℕ) (e : room ≡ room_in r) where
  pub list-refused : ltb room (length ds) ≡ true → (x : Compared) → x ≡ refusal wrong_size neither 0 → outcome x r ≡ list_differences ds r
  unfolding list_differences
  list-refused q x f = let l = ltb-true room (length ds) q in rw (lt-leb (length ds) (room_in r) (omega arith)) (ap (λ (y : Compared). outcome y r) f)

  pub list-fits : ltb room (length ds) ≡ false → length ds ≤ room_in r
  list-fits q = let l = ltb-false room (length ds) q in omega arith

  pub list-listed : ltb room (length ds) ≡ false → (n : ℕ) (after : Room) → n ≡ length ds → after ≡ listed_in ds r
      → outcome (record { answer = done; profile = neither; differences = n; position = record { 0 = 0 } }) after ≡ list_differences ds r
  unfolding list_differences
  list-listed q n after f g =
      rw (le-leb (length ds) (room_in r) (list-fits q)) (ap₂ (λ (m : ℕ) (a : Room). outcome (record { answer = done; profile = neither; differences = m; position = record { 0 = 0 } }) a) f g)

-- ---- the judgements

module _ (s t : List ℕ) (r : Room) where
  pub compare_first : (e : RefusedAt) (x : Compared) → refused_as e ≡ judge_form s → x ≡ refusal (number_of e.refusal) the_first e.position.0 → outcome x r ≡ compare_profiles s t r
  unfolding compare_profiles compare_as
  compare_first e x q f = rw (← q) (rw (ne_eqb (number_of e.refusal) done (refusal-is-none e.refusal)) (ap (λ (y : Compared). outcome y r) f))

  module _ (a : (judge_form s).answer ≡ done) where
    pub compare_second : (e : RefusedAt) (x : Compared) → refused_as e ≡ judge_form t → x ≡ refusal (number_of e.refusal) the_second e.position.0 → outcome x r ≡ compare_profiles s t r
    unfolding compare_profiles compare_as
    compare_second e x q f = rw (eq-eqb (judge_form s).answer done a, ← q) (rw (ne_eqb (number_of e.refusal) done (refusal-is-none e.refusal)) (ap (λ (y : Compared). outcome y r) f))

    pub compare_both : (judge_form t).answer ≡ done → (o : Outcome) → o ≡ list_differences (list_of s t) r → o ≡ compare_profiles s t r
    unfolding compare_profiles compare_as
    compare_both b o f = rw (eq-eqb (judge_form s).answer done a, eq-eqb (judge_form t).answer done b) f
