-- The numbers of the exported query are the header's, and a wrong rule for them is refuted: a refused list that reads as one
-- without the household.
-- Assumes nothing.
use Prim.Native.Nat.{ℕ}
use mathlib.Core.Path.{◌≡◌, refl, ap}
use native.Mathlib.Omega.{arith}
use Rattle.std.specs.Prelude.{Some, None, Ok, Err}
use Rattle.call_list_rules.specs.CallList.{Found}
use Rattle.ddcci.specs.declared.calls.HouseholdNumbers.{HouseholdNumbers}
use Rattle.ddcci.specs.Calls.{household_numbers, HeaderHousehold}

pub header_household : HeaderHousehold household_numbers
header_household = record { at = λ k. refl; absent = refl; refused = λ c. refl }

-- the refusal is lost
abbrev refusal_lost : Found → HouseholdNumbers
refusal_lost (Ok (Some k)) = household_numbers (Ok (Some k))
refusal_lost (Ok None) = household_numbers (Ok None)
refusal_lost (Err c) = household_numbers (Ok None)

pub refusal_lost_refuted : HeaderHousehold refusal_lost → ⊥
refusal_lost_refuted h = let e : ◌≡◌ {A = ℕ} 0 19 = ap (λ (n : HouseholdNumbers). n.answer) (h.refused (record { answer = 19; entries = 0; position = record { 0 = 12 } })) in omega arith
