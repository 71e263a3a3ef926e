-- Judging a profile: settings that were declared alike judge alike, and records of the next codes are passed one by one.
use mathlib.Core.Path.{◌≡◌, refl, sym, ap, ◌∙◌}
use mathlib.Core.Bool.{Bool, true, false, cond}
use mathlib.Core.List.{List, [], ◌∷◌, ◌++◌}
use Prim.Native.Nat.{ℕ, ◌+◌, ◌*◌, ◌<◌}
use native.Mathlib.Omega.{arith}
use lib.ListN.{length, get_or, drop, length-drop}
use lib.Dec.{eqb}
use borrow.Author.Tests.{eq-eqb, ne_eqb, eqb-true}
use Rattle.message_rules.specs.Answer.{done, broken_record}
use Rattle.settings_rules.specs.Settings.{exceeds_maximum}
use Rattle.settings_rules.specs.Entries.{entry_of}
use Rattle.settings_rules.specs.declared.Settings.{Settings}
use Rattle.profile_form_rules.specs.Records.{value_record, record_size}
use Rattle.profile_rules.specs.Profile.{records_of, record_answer, answer_to, judge}
use Rattle.profile_rules.specs.Statements.{Alike}
use Rattle.profile_form_rules.proofs.Records.{cut-is-none, whole}
use Rattle.profile_rules.proofs.Records.{record-accepted, Fits, accepted-fits}

pub answer_alike : (s t : Settings) (c : ℕ) (bytes : List ℕ) → Alike (entry_of s c) (entry_of t c) → answer_to s c bytes ≡ answer_to t c bytes
unfolding answer_to
answer_alike s t c bytes a = rw (a.continuous, a.maximum)

pub judge_alike : (s t : Settings) (cs : List ℕ) (at : ℕ) (bytes : List ℕ) → ((c : ℕ) → Alike (entry_of s c) (entry_of t c)) → judge s cs at bytes ≡ judge t cs at bytes
unfolding judge
judge_alike s t [] at bytes a = refl
judge_alike s t (c ∷ cs) at bytes a = rw (answer_alike s t c bytes (a c), judge_alike s t cs (at + record_size) (drop record_size bytes) a)

-- one accepted record
pub judge-next : (s : Settings) (c : ℕ) (cs : List ℕ) (at : ℕ) (bytes : List ℕ) → answer_to s c bytes ≡ done
    → judge s (c ∷ cs) at bytes ≡ judge s cs (at + record_size) (drop record_size bytes)
unfolding judge
judge-next s c cs at bytes e = rw e

-- the first bad record decides
pub judge_stops : (s : Settings) (c : ℕ) (cs : List ℕ) (at : ℕ) (bytes : List ℕ) → (answer_to s c bytes ≡ done → ⊥)
    → judge s (c ∷ cs) at bytes ≡ record { answer = answer_to s c bytes; position = record { 0 = at } }
unfolding judge
judge_stops s c cs at bytes e = rw (ne_eqb _ _ e)

-- records with values within the maxima are passed
pub judge-records : (s : Settings) (values cs ds : List ℕ) (at : ℕ) (rest : List ℕ)
    → ((c : ℕ) → exceeds_maximum (entry_of s c).continuous (entry_of s c).maximum (get_or values c 0) ≡ false)
    → judge s (cs ++ ds) at (records_of values cs ++ rest) ≡ judge s ds (at + record_size * length cs) rest
unfolding records_of answer_to
judge-records s values [] ds at rest h = ap (λ (n : ℕ). judge s ds n rest) (omega arith)
judge-records s values (c ∷ cs) ds at rest h =
    judge-next s c (cs ++ ds) at (value_record c (get_or values c 0) ++ (records_of values cs ++ rest)) (accepted c)
    ∙ judge-records s values cs ds (at + record_size) rest h
    ∙ ap (λ (n : ℕ). judge s ds n rest) (omega arith)
  where
    accepted : (c : ℕ) → answer_to s c (value_record c (get_or values c 0) ++ (records_of values cs ++ rest)) ≡ done
    accepted c = record-accepted c (get_or values c 0) (entry_of s c).maximum (entry_of s c).continuous (records_of values cs ++ rest) (h c)

-- the next record is cut or missing
pub judge-cut : (s : Settings) (cs : List ℕ) (at : ℕ) (bytes : List ℕ) → 0 < length cs → length bytes < record_size
    → judge s cs at bytes ≡ record { answer = broken_record; position = record { 0 = at } }
unfolding answer_to record_answer
judge-cut s [] at bytes l h = absurd (omega arith)
judge-cut s (c ∷ cs) at bytes l h =
    judge_stops s c cs at bytes (λ e. let z : ◌≡◌ {A = ℕ} 17 0 = sym (broken c) ∙ e in omega arith)
    ∙ ap (λ (k : ℕ). record { answer = k; position = record { 0 = at } }) (broken c)
  where
    broken : (c : ℕ) → answer_to s c bytes ≡ broken_record
    broken c = rw (cut-is-none bytes h)

-- what an accepted profile's first record has, and how the rest is judged
pub record Step (s : Settings) (c : ℕ) (cs : List ℕ) (at : ℕ) (bytes : List ℕ) : Type 0 where
  pub fits : Fits c (entry_of s c).maximum (entry_of s c).continuous bytes
  pub next : (judge s cs (at + record_size) (drop record_size bytes)).answer ≡ done

pub judge-step : (s : Settings) (c : ℕ) (cs : List ℕ) (at : ℕ) (bytes : List ℕ) → (judge s (c ∷ cs) at bytes).answer ≡ done → Step s c cs at bytes
unfolding judge answer_to
judge-step s c cs at bytes a = go (eqb (answer_to s c bytes) done) refl
  where
    go : (t : Bool) → eqb (answer_to s c bytes) done ≡ t → Step s c cs at bytes
    go true e = record { fits = accepted-fits c _ _ bytes (eqb-true _ _ e); next = rw e at a }
    go false e = let z : answer_to s c bytes ≡ done = (rw e at a) in let y : ◌≡◌ {A = Bool} true false = sym (eq-eqb _ _ z) ∙ e in let x : ◌≡◌ {A = ℕ} 0 1 = cc in absurd (omega arith)

-- an accepted profile has 7 bytes for each code
pub judged-length : (s : Settings) (cs : List ℕ) (at : ℕ) (bytes : List ℕ) → (judge s cs at bytes).answer ≡ done → length bytes ≡ record_size * length cs
unfolding judge
judged-length s [] at bytes a = go (eqb (length bytes) 0) refl a
  where
    go : (t : Bool) → eqb (length bytes) 0 ≡ t → cond t done broken_record ≡ done → length bytes ≡ 0
    go true e h = eqb-true _ _ e
    go false e h = absurd (omega arith)
judged-length s (c ∷ cs) at bytes a =
    let step = judge-step s c cs at bytes a in
    omega (arith, judged-length s cs (at + record_size) (drop record_size bytes) step.next, length-drop record_size bytes, (whole bytes step.fits.form).size)
