-- The answer of the exported query of a call list, as numbers.
use Rattle.std.specs.Prelude.{◌≡◌, Some, None, Ok, Err}
use Rattle.message_rules.specs.Answer.{done}
use Rattle.call_list_rules.specs.CallList.{Found}
use Rattle.call_list_rules.specs.declared.Checked.{Checked}
use Rattle.call_list_rules.specs.declared.EntryNumber.{EntryNumber}
use Rattle.ddcci.specs.declared.calls.HouseholdNumbers.{HouseholdNumbers}

-- the numbers of each case
abbrev pub household_numbers : Found → HouseholdNumbers
household_numbers (Ok (Some k)) = record { answer = done; there = 1; number = k.0; position = 0 }
household_numbers (Ok None) = record { answer = done; there = 0; number = 0; position = 0 }
household_numbers (Err c) = record { answer = c.answer; there = 0; number = 0; position = c.position.0 }

-- what the header says: there 1 and the entry's number; or there 0 and 0 where the household is not there; of a list that is
-- not accepted the check's answer and position
pub record HeaderHousehold (numbers : Found → HouseholdNumbers) : Type 0 where
  pub at : (k : EntryNumber) → numbers (Ok (Some k)) ≡ record { answer = 0; there = 1; number = k.0; position = 0 }
  pub absent : numbers (Ok None) ≡ record { answer = 0; there = 0; number = 0; position = 0 }
  pub refused : (c : Checked) → numbers (Err c) ≡ record { answer = c.answer; there = 0; number = 0; position = c.position.0 }
