-- A wrong rule, and that the statement does not hold of it: the first token is written before the rest is looked at.
use mathlib.Core.Path.{◌≡◌, ap}
use mathlib.Core.List.{List, [], ◌∷◌}
use Prim.Native.Nat.{ℕ}
use native.Mathlib.Omega.{arith}
use lib.ListN.{length}
use Rattle.io.specs.Digits.{hex_digit_ascii}
use Rattle.records.specs.Records.{begins_with}
use Rattle.call_list_rules.specs.CallList.{token_of, among, record_answer, first_refused, check_list}
use Rattle.call_list_rules.specs.Statements.{record_then}
use Rattle.gate_check.specs.Tokens.{WriteRule, WritesTokens}

-- the first token, of one digit
abbrev first_at_once : WriteRule
first_at_once s = hex_digit_ascii (token_of s 0) ∷ 0x0A ∷ []

-- a list that repeats its token
abbrev twice : List ℕ
twice = record_then 1 0 0 0 7 0 0 0 (record_then 1 0 0 0 8 0 0 0 [])

pub first-at_once_refuted : WritesTokens first_at_once → ⊥
unfolding check_list first_refused record_answer among begins_with
first-at_once_refuted h =
    let e : ◌≡◌ {A = ℕ} 2 0 = ap length ((h twice).nothing (λ z. let y : ◌≡◌ {A = ℕ} 19 0 = z in omega arith)) in
    omega arith
