-- The paper's sentences answer every profile, each with one answer at one place, and that is what `judge` gives.
use mathlib.Core.Path.{◌≡◌, refl, sym, ap, subst, ◌∙◌}
use mathlib.Core.Bool.{Bool, true, false, true≢false}
use mathlib.Core.List.{List, [], ◌∷◌}
use Prim.Native.Nat.{ℕ, suc, ◌+◌, ◌*◌, ◌≤◌, ◌<◌}
use native.Mathlib.Omega.{arith}
use lib.ListN.{length, get_or, drop}
use lib.Dec.{eqb}
use borrow.Author.Tests.{eqb-true, eqb-false, eq-eqb, ne_eqb, lt-ltb, ltb-true}
use Rattle.settings_rules.specs.Settings.{exceeds_maximum}
use Rattle.settings_rules.specs.Entries.{entry_of}
use Rattle.settings_rules.specs.declared.Settings.{Settings}
use Rattle.settings_rules.proofs.Answers.{both, at_most, not_exceeding}
use Rattle.profile_form_rules.specs.Records.{code_in, begins_with_record}
use Rattle.profile_rules.specs.Profile.{record_answer, answer_to, judge}
use Rattle.profile_form_rules.specs.Statements.{record_then}
use Rattle.profile_rules.specs.Operations.{end, Judges, JudgesOnce}
use Rattle.profile_rules.specs.Operations as says
use Rattle.profile_form_rules.specs.Form.{Judged}
use Rattle.profile_form_rules.proofs.Records.{begun, begins-with, begins-none}
use Rattle.profile_rules.proofs.Judging.{judge-next, judge_stops}

module _ (s : Settings) (c : ℕ) where
  answer-good : (low high : ℕ) (rest : List ℕ) → ((entry_of s c).continuous ≡ true → low + high * 256 ≤ (entry_of s c).maximum)
      → answer_to s c (record_then c low high rest) ≡ 0
  unfolding answer_to record_answer
  answer-good low high rest h = rw (begins-with c low high rest, eq-eqb c c refl, not_exceeding (entry_of s c).continuous (entry_of s c).maximum (low + high * 256) h)

  answer-value : (low high : ℕ) (rest : List ℕ) → (entry_of s c).continuous ≡ true → (entry_of s c).maximum < low + high * 256 → answer_to s c (record_then c low high rest) ≡ 9
  unfolding answer_to record_answer
  answer-value low high rest k l = rw (begins-with c low high rest, eq-eqb c c refl, k, lt-ltb (entry_of s c).maximum (low + high * 256) l)

  answer-code : (b low high : ℕ) (rest : List ℕ) → (b ≡ c → ⊥) → answer_to s c (record_then b low high rest) ≡ 8
  unfolding answer_to record_answer
  answer-code b low high rest n = rw (begins-with b low high rest, ne_eqb b c n)

  answer-broken : (bytes : List ℕ) → ((b low high : ℕ) (rest : List ℕ) → bytes ≡ record_then b low high rest → ⊥) → answer_to s c bytes ≡ 17
  unfolding answer_to record_answer
  answer-broken bytes n = rw (begins-none bytes n)

judged_as : (answer place : ℕ) → Judged
judged_as k p = record { answer = k; position = record { 0 = p } }

-- a record that is answered with a refusal
stops_with : (s : Settings) (c : ℕ) (cs : List ℕ) (at : ℕ) (bytes : List ℕ) (k : ℕ) → answer_to s c bytes ≡ suc k → judge s (c ∷ cs) at bytes ≡ judged_as (suc k) at
unfolding judged_as
stops_with s c cs at bytes k e = judge_stops s c cs at bytes (λ z. omega (arith, e, z)) ∙ ap (λ (n : ℕ). judged_as n at) e

-- what the paper's sentences say is what `judge` gives
judge-is : {s : Settings} {cs : List ℕ} {at : ℕ} {bytes : List ℕ} {k p : ℕ} → Judges s cs at bytes k p → judge s cs at bytes ≡ judged_as k p
unfolding judge judged_as
judge-is says.end = refl
judge-is {s} (says.good {c} {at} {low} {high} {k} {p} {cs} {rest} h j) =
    judge-next s c cs at (record_then c low high rest) (answer-good s c low high rest h) ∙ judge-is j
judge-is {s} (says.broken {c} {at} {cs} {bytes} n) = stops_with s c cs at bytes 16 (answer-broken s c bytes n)
judge-is {s} (says.code {c} {b} {at} {low} {high} {cs} {rest} n) = stops_with s c cs at (record_then b low high rest) 7 (answer-code s c b low high rest n)
judge-is {s} (says.value {c} {at} {low} {high} {cs} {rest} k l) = stops_with s c cs at (record_then c low high rest) 8 (answer-value s c low high rest k l)
judge-is (says.extra {at} {b} {rest}) = rw (ne_eqb (length (b ∷ rest)) 0 (λ e. omega arith))
judge-is {s} (says.missing {c} {at} {cs}) = stops_with s c cs at [] 16 (answer-broken s c [] (λ b low high rest e. let z : ◌≡◌ {A = ℕ} 0 1 = cc in omega arith))

pub judges_once : JudgesOnce
unfolding judged_as
judges_once s cs at bytes k l p q a b =
    let e : judged_as k p ≡ judged_as l q = sym (judge-is a) ∙ judge-is b in
    (ap (λ (j : Judged). j.answer) e, ap (λ (j : Judged). j.position.0) e)

-- the paper's sentences answer every profile
record Decided (s : Settings) (cs : List ℕ) (at : ℕ) (bytes : List ℕ) : Type 0 where
  answer : ℕ
  place : ℕ
  judges : Judges s cs at bytes answer place

of_record : (s : Settings) (c : ℕ) (cs : List ℕ) (at b low high : ℕ) (rest : List ℕ) → Decided s cs (at + 7) rest → Decided s (c ∷ cs) at (record_then b low high rest)
of_record s c cs at b low high rest d = go (eqb b c) (exceeds_maximum (entry_of s c).continuous (entry_of s c).maximum (low + high * 256)) refl refl
  where
    of-next : (t : Bool) → exceeds_maximum (entry_of s c).continuous (entry_of s c).maximum (low + high * 256) ≡ t → Decided s (c ∷ cs) at (record_then c low high rest)
    of-next true f =
        let e = both (entry_of s c).continuous _ f in
        record { answer = 9; place = at; judges = says.value e.0 (ltb-true _ _ e.1) }
    of-next false f = record { answer = d.answer; place = d.place; judges = says.good (at_most _ _ _ f) d.judges }

    go : (t u : Bool) → eqb b c ≡ t → exceeds_maximum (entry_of s c).continuous (entry_of s c).maximum (low + high * 256) ≡ u
        → Decided s (c ∷ cs) at (record_then b low high rest)
    go false u e f = record { answer = 8; place = at; judges = says.code (eqb-false _ _ e) }
    go true u e f = rw (eqb-true b c e) (of-next u f)

decided : (s : Settings) (cs : List ℕ) (at : ℕ) (bytes : List ℕ) → Decided s cs at bytes
decided s [] at [] = record { answer = 0; place = at; judges = says.end }
decided s [] at (b ∷ rest) = record { answer = 17; place = at; judges = says.extra }
decided s (c ∷ cs) at bytes = go (begins_with_record bytes) refl (decided s cs (at + 7) (drop 7 bytes))
  where
    go : (t : Bool) → begins_with_record bytes ≡ t → Decided s cs (at + 7) (drop 7 bytes) → Decided s (c ∷ cs) at bytes
    go true e d = subst (λ (l : List ℕ). Decided s (c ∷ cs) at l) (sym (begun bytes e)) (of_record s c cs at (code_in bytes) (get_or bytes 5 0) (get_or bytes 6 0) (drop 7 bytes) d)
    go false e d = record {
      answer = 17;
      place = at;
      judges = says.broken (λ b low high rest f. true≢false (sym (begins-with b low high rest) ∙ ap begins_with_record (sym f) ∙ e));
    }

pub judged_so : (s : Settings) (cs : List ℕ) (at : ℕ) (bytes : List ℕ) → Judges s cs at bytes (judge s cs at bytes).answer (judge s cs at bytes).position.0
unfolding judged_as
judged_so s cs at bytes = let d = decided s cs at bytes in rw (judge-is d.judges) d.judges
