-- The answer to one record, and the records of a list of codes.
use mathlib.Core.Path.{◌≡◌, refl}
use mathlib.Core.Bool.{Bool, true, false}
use mathlib.Core.List.{List, [], ◌∷◌, ◌++◌}
use Prim.Native.Nat.{ℕ, ◌*◌}
use native.Mathlib.Omega.{arith}
use lib.ListN.{length}
use lib.Dec.{eqb}
use borrow.Author.Tests.{eqb-true, eq-eqb}
use Rattle.message_rules.specs.Answer.{done}
use Rattle.settings_rules.specs.Settings.{exceeds_maximum}
use Rattle.records.proofs.Numbers.{low-high}
use Rattle.profile_form_rules.specs.Records.{value_record, record_size, code_in, value_in, begins_with_record}
use Rattle.profile_form_rules.proofs.Records.{begins}
use Rattle.profile_rules.specs.Profile.{records_of, record_answer}

-- ---- the answer to a record

-- a record of the next code with a value within its maximum is accepted
pub record-accepted : (c v m : ℕ) (k : Bool) (rest : List ℕ) → exceeds_maximum k m v ≡ false → record_answer c k m (value_record c v ++ rest) ≡ done
unfolding record_answer
record-accepted c v m k rest e = rw (begins c v rest, eq-eqb c c refl, low-high v, e)

-- what an accepted record has
pub record Fits (c m : ℕ) (k : Bool) (s : List ℕ) : Type 0 where
  pub form : begins_with_record s ≡ true
  pub code : code_in s ≡ c
  pub within : exceeds_maximum k m (value_in s) ≡ false

pub accepted-fits : (c m : ℕ) (k : Bool) (s : List ℕ) → record_answer c k m s ≡ done → Fits c m k s
unfolding record_answer
accepted-fits c m k s a = go (begins_with_record s) (eqb (code_in s) c) (exceeds_maximum k m (value_in s)) refl refl refl
  where
    go : (p q r : Bool) → begins_with_record s ≡ p → eqb (code_in s) c ≡ q → exceeds_maximum k m (value_in s) ≡ r → Fits c m k s
    go true true false e f g = record { form = e; code = eqb-true _ _ f; within = g }
    go true true true e f g = let z : ◌≡◌ {A = ℕ} 9 0 = (rw (e, f, g) at a) in absurd (omega arith)
    go true false r e f g = let z : ◌≡◌ {A = ℕ} 8 0 = (rw (e, f) at a) in absurd (omega arith)
    go false q r e f g = let z : ◌≡◌ {A = ℕ} 17 0 = (rw e at a) in absurd (omega arith)

-- ---- the records of a list of codes

pub records_length : (values cs : List ℕ) → length (records_of values cs) ≡ record_size * length cs
unfolding records_of
records_length values [] = refl
records_length values (c ∷ cs) = omega (arith, records_length values cs)
