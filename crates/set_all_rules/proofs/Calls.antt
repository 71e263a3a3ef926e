-- What a call comes to: allowed, every setting is tried and every answer stands at its place; refused, nothing.
use mathlib.Core.Path.{◌≡◌, refl, ap, ◌∙◌, subst}
use mathlib.Core.Bool.{Bool, true, false, cond, not, ◌&&◌, ◌||◌}
use mathlib.Core.Logic.{◌⊎◌, inl, inr}
use mathlib.Core.List.{List, [], ◌∷◌}
use Prim.Native.Nat.{ℕ, zero, suc, ◌+◌, ◌≤◌, ◌<◌}
use native.Mathlib.Omega.{arith}
use lib.ListN.{length, get_or}
use lib.Dec.{eqb, leb}
use borrow.Author.Tests.{eq-eqb, ne_eqb, eqb-true, le-leb, leb-true, lt-leb}
use Rattle.buffers.specs.Buffers.{over}
use Rattle.buffers.specs.Statements.{PutsThere}
use Rattle.buffers.proofs.Theorems.{puts-bytes, over-puts}
use Rattle.codes.specs.Codes.{member}
use Rattle.message_rules.specs.Answer.{done, code_not_allowed, value_too_large}
use Rattle.message_rules.specs.Message.{table_code}
use Rattle.settings_rules.specs.Settings.{exceeds_maximum, answer_to_set, set_answer, set_code}
use Rattle.settings_rules.specs.declared.Settings.{Settings}
use Rattle.set_all_rules.specs.Limits.{most_settings}
use Rattle.set_all_rules.specs.SetAll.{try_all, call_answer, left_as_it_was, left_by_all, set_all}
use Rattle.set_all_rules.specs.Statements.{Allowed}

-- ---- the call's own answer

pub short-is_1 : (n m room : ℕ) → room < n → call_answer n m room ≡ 1
unfolding call_answer
short-is_1 n m room h = rw (lt-leb n room h)

pub many-is_7 : (n m room : ℕ) → n ≤ room → 64 < n → call_answer n m room ≡ 7
unfolding call_answer
many-is_7 n m room r h = rw (le-leb n room r, lt-leb n most_settings h)

pub uneven-is_7 : (n m room : ℕ) → n ≤ room → (n ≡ m → ⊥) → call_answer n m room ≡ 7
unfolding call_answer
uneven-is_7 n m room r h = rw (le-leb n room r, ne_eqb n m h) (either (leb n most_settings))
  where
    either : (t : Bool) → ◌≡◌ {A = ℕ} (cond (t && false) 0 7) 7
    either true = refl
    either false = refl

pub allowed-is_0 : (n m room : ℕ) → n ≤ room → n ≤ 64 → n ≡ m → call_answer n m room ≡ 0
unfolding call_answer
allowed-is_0 n m room r f p = rw (le-leb n room r, le-leb n most_settings f, eq-eqb n m p)

-- what the answer 0 says
pub record Fits (n m answers : ℕ) : Type 0 where
  pub room : n ≤ answers
  pub paired : n ≡ m

pub answered_0 : (n m room : ℕ) → call_answer n m room ≡ 0 → Fits n m room
unfolding call_answer
answered_0 n m room h = go (leb n room) (leb n most_settings) (eqb n m) refl refl h
  where
    go : (a b c : Bool) → leb n room ≡ a → eqb n m ≡ c → ◌≡◌ {A = ℕ} (cond a (cond (b && c) 0 7) 1) 0 → Fits n m room
    go true true true e f g = record { room = leb-true n room e; paired = eqb-true n m f }
    go true true false e f g = absurd (omega arith)
    go true false c e f g = absurd (omega arith)
    go false b c e f g = absurd (omega arith)

-- ---- the call by its answer

module _ (s : Settings) (codes values answers : List ℕ) where
  pub tried_as : call_answer (length codes) (length values) (length answers) ≡ 0 → set_all s codes values answers ≡ left_by_all (try_all s codes values) answers
  unfolding set_all
  tried_as e = rw e

  pub refused_as : (k : ℕ) → call_answer (length codes) (length values) (length answers) ≡ k → (k ≡ 0 → ⊥) → set_all s codes values answers ≡ left_as_it_was s k answers
  unfolding set_all
  refused_as k e n = rw (e, ne_eqb k 0 n)

  pub allowed_as : Allowed codes values answers → set_all s codes values answers ≡ left_by_all (try_all s codes values) answers
  allowed_as a = tried_as (allowed-is_0 _ _ _ a.room a.few a.paired)

-- ---- the answers

pub tried_length : (s : Settings) (codes values : List ℕ) → length codes ≡ length values → length (try_all s codes values).answers ≡ length codes
tried_length s [] values e = refl
tried_length s (c ∷ codes) [] e = absurd (omega arith)
tried_length s (c ∷ codes) (v ∷ values) e = let rest = tried_length (set_code s c v).settings codes values (omega arith) in omega arith

-- each one stands at its place, and nothing else of the buffer changes
pub answers-there : (s : Settings) (codes values answers : List ℕ) → length codes ≡ length values → length codes ≤ length answers
    → PutsThere answers 0 (try_all s codes values).answers (over (try_all s codes values).answers answers)
answers-there s codes values answers e h =
    let n = tried_length s codes values e in
    subst (PutsThere answers 0 given) (over-puts given answers) (puts-bytes answers 0 given (omega arith))
  where
    given : List ℕ
    given = (try_all s codes values).answers

-- the answer of a setting, read from the buffer
pub at_place : (s : Settings) (codes values answers : List ℕ) → length codes ≡ length values → length codes ≤ length answers → (i : ℕ) → i < length codes
    → get_or (over (try_all s codes values).answers answers) i 0 ≡ get_or (try_all s codes values).answers i 0
at_place s codes values answers e h i l =
    let z : i ≡ 0 + i = omega arith in
    ap (λ (j : ℕ). get_or (over (try_all s codes values).answers answers) j 0) z
    ∙ (answers-there s codes values answers e h).there i (omega (arith, tried_length s codes values e))

-- a Set is answered with 0, 8 or 9
abbrev pub ZeroEightNine : ℕ → Type 0
ZeroEightNine k = (k ≡ 0) ⊎ ((k ≡ 8) ⊎ (k ≡ 9))

set-number : (s : Settings) (c v : ℕ) → ZeroEightNine (set_code s c v).answer
unfolding set_code set_answer answer_to_set
set-number s c v =
    go (not (member s.declared c) || eqb c table_code || not (member s.writable c)) (exceeds_maximum (member s.continuous c) (get_or s.maximum c 0) v)
  where
    go : (p q : Bool) → ZeroEightNine (cond p code_not_allowed (cond q value_too_large done))
    go true q = inr (inl refl)
    go false true = inr (inr refl)
    go false false = inl refl

pub tried_number : (s : Settings) (codes values : List ℕ) (i : ℕ) → ZeroEightNine (get_or (try_all s codes values).answers i 0)
tried_number s [] values i = inl refl
tried_number s (c ∷ codes) [] i = inl refl
tried_number s (c ∷ codes) (v ∷ values) zero = set-number s c v
tried_number s (c ∷ codes) (v ∷ values) (suc i) = tried_number (set_code s c v).settings codes values i
