-- What is kept of the records in front, and what it says of a record behind them.
use Rattle.std.specs.Prelude.{ℕ, ◌+◌, ◌≡◌, cond, List, take, slice_set}
use Rattle.message_rules.specs.Answer.{done, broken_record, repeated_token, repeated_household}
use Rattle.records.specs.Records.{begins_with}
use Rattle.call_list_rules.specs.Limits.{record_length, entry_kind}
use Rattle.call_list_rules.specs.declared.Entry.{Entry}
use Rattle.call_list.specs.Parts.{stands_in, entry_at}
use Rattle.call_list.specs.declared.earlier.Earlier.{Earlier}

-- the answer to the bytes of a record behind these
abbrev pub answer_behind : Earlier → List ℕ → ℕ
answer_behind e s =
    cond (begins_with record_length entry_kind s)
    (cond (stands_in (take e.len e.tokens) (entry_at s 0).token) repeated_token
    (cond (stands_in (take e.len e.households) (entry_at s 0).household) repeated_household done))
    broken_record

-- an entry is put behind these
pub record Joined (before : Earlier) (entry : Entry) (after : Earlier) : Type 0 where
  pub tokens : after.tokens ≡ slice_set before.tokens before.len entry.token
  pub households : after.households ≡ slice_set before.households before.len entry.household
  pub len : after.len ≡ before.len + 1
