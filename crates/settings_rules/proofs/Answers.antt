-- What an accepted declaration and an accepted Set have passed.
use mathlib.Core.Path.{◌≡◌, refl}
use mathlib.Core.Bool.{Bool, true, false, cond, not, ◌&&◌, ◌||◌}
use mathlib.Core.Logic.{◌⊎◌, inl, inr}
use Prim.Native.Nat.{ℕ, ◌≤◌}
use native.Mathlib.Omega.{arith}
use lib.ListN.{get_or}
use lib.Dec.{eqb}
use borrow.Author.Tests.{ltb-false, le-ltb}
use Rattle.message_rules.specs.Answer.{done, code_not_allowed, value_too_large}
use Rattle.codes.specs.Codes.{member}
use Rattle.message_rules.specs.Message.{table_code}
use Rattle.settings_rules.specs.Settings.{momentary_type, exceeds_maximum, access_refused, declaration_refused, declare_code, answer_to_set, set_answer}
use Rattle.settings_rules.specs.declared.Settings.{Settings}
use Rattle.settings_rules.specs.declared.Declaration.{Declaration}

-- of two tests joined, what each one is
pub neither : (p q : Bool) → p || q ≡ false → (p ≡ false) × (q ≡ false)
neither false q e = (refl, e)
neither true q e = let z : ◌≡◌ {A = ℕ} 0 1 = cc in absurd (omega arith)

pub both : (p q : Bool) → p && q ≡ true → (p ≡ true) × (q ≡ true)
both true q e = (refl, e)
both false q e = let z : ◌≡◌ {A = ℕ} 0 1 = cc in absurd (omega arith)

-- a value that does not exceed the maximum of a continuous code is at most that
pub at_most : (continuous : Bool) (maximum value : ℕ) → exceeds_maximum continuous maximum value ≡ false → continuous ≡ true → value ≤ maximum
at_most continuous maximum value e h = ltb-false maximum value (rw h at e)

pub not_exceeding : (continuous : Bool) (maximum value : ℕ) → (continuous ≡ true → value ≤ maximum) → exceeds_maximum continuous maximum value ≡ false
not_exceeding true maximum value h = le-ltb maximum value (h refl)
not_exceeding false maximum value h = refl

-- the access of a code that is writable, or readable and kept, is not refused
pub access-allowed : (readable writable : Bool) (kind : ℕ) → (writable ≡ true) ⊎ ((readable ≡ true) × (kind ≡ 0))
    → access_refused readable writable (eqb kind momentary_type) ≡ false
access-allowed readable true kind h = refl
access-allowed readable false kind (inl w) = let z : ◌≡◌ {A = ℕ} 0 1 = cc in absurd (omega arith)
access-allowed readable false kind (inr (r, k)) = rw (r, k)

-- an accepted declaration is of a code that is neither F4 nor declared, with a present value within a continuous maximum
pub record Accepted (s : Settings) (d : Declaration) : Type 0 where
  pub code : eqb d.code table_code ≡ false
  pub fresh : member s.declared d.code ≡ false
  pub within : exceeds_maximum d.continuous d.maximum d.present ≡ false

pub not_refused : (s : Settings) (d : Declaration) → declaration_refused (member s.declared d.code) d ≡ false → Accepted s d
unfolding declaration_refused
not_refused s d e =
    let last = neither _ _ e in
    let access = neither _ _ last.0 in
    let kind = neither _ _ access.0 in
    let first = neither _ _ kind.0 in
    record { code = first.0; fresh = first.1; within = last.1 }

-- a declaration is accepted exactly where it is not refused
pub declare-accepted : (s : Settings) (d : Declaration) → (declare_code s d).answer ≡ done → declaration_refused (member s.declared d.code) d ≡ false
unfolding declare_code
declare-accepted s d a = go (declaration_refused (member s.declared d.code) d) refl
  where
    go : (t : Bool) → declaration_refused (member s.declared d.code) d ≡ t → t ≡ false
    go false q = refl
    go true q = let n : ◌≡◌ {A = ℕ} 18 0 = (rw q at a) in absurd (omega arith)

-- an accepted Set is of a declared code, with a value within a continuous maximum
pub record Settable (s : Settings) (c value : ℕ) : Type 0 where
  pub declared : member s.declared c ≡ true
  pub within : exceeds_maximum (member s.continuous c) (get_or s.maximum c 0) value ≡ false

pub set-accepted : (s : Settings) (c value : ℕ) → set_answer s c value ≡ done → Settable s c value
unfolding set_answer answer_to_set
set-accepted s c value a =
    go (member s.declared c) (member s.writable c) (eqb c table_code) (exceeds_maximum (member s.continuous c) (get_or s.maximum c 0) value) refl refl a
  where
    go : (p q r t : Bool) → member s.declared c ≡ p → exceeds_maximum (member s.continuous c) (get_or s.maximum c 0) value ≡ t
        → cond (not p || r || not q) code_not_allowed (cond t value_too_large done) ≡ done → Settable s c value
    go true true false false e f h = record { declared = e; within = f }
    go true true false true e f h = absurd (omega arith)
    go true true true t e f h = absurd (omega arith)
    go true false true t e f h = absurd (omega arith)
    go true false false t e f h = absurd (omega arith)
    go false q r t e f h = absurd (omega arith)
