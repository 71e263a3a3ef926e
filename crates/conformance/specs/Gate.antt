-- Document 02, K9, over demand 3 of the two ends together: a gate that has read the table to its end, and whose check
-- accepts what it read, calls by the very list that the display holds.
-- Over any three calls of a host, any rule for a display's steps, any rule for what of a transfer's buffer the gate takes
-- for the list, and any rules of the gate check.
use Rattle.std.specs.Prelude.{ℕ, ◌≡◌, List, length, get_or, take}
use Rattle.message_rules.specs.declared.TextKind.TheVariants.{Table}
use Rattle.display_rules.specs.Kept.{Kept, StepRule}
use Rattle.display_rules.specs.Statements.{whole}
use Rattle.transfer_rules.specs.declared.State.TheVariants.{Done}
use Rattle.transfer_rules.specs.Exchange.{Calls, World, Exchange, after_all}
use Rattle.transfer_rules.specs.Demand3.{start_of}
use Rattle.call_list_rules.specs.CallList.{no_entry}
use Rattle.call_list_rules.specs.Statements.{CheckRule, EntryRule, IsList}
use Rattle.call_list_rules.specs.declared.Entry.{Entry}
use Rattle.conformance.specs.BothEnds.{Between, Ready, setup_of}

-- what of a transfer's buffer is taken for the list
abbrev pub TakeRule : Type 0
TakeRule = World → List ℕ

-- what it has read: its buffer up to the offset reached
abbrev pub bytes_read : TakeRule
bytes_read w = take w.transfer.reached.0 w.buffer

-- the bytes read are those that the display holds, they are the list of these calls, and each token and household that
-- the gate gives is theirs
pub record CallsOf (check : CheckRule) (entry : EntryRule) (table bytes : List ℕ) : Type 0 where
  pub same : bytes ≡ table
  pub calls : List Entry
  pub is_list : IsList calls table
  pub number : (check bytes).entries ≡ length calls
  pub given : (k : ℕ) → entry bytes k ≡ get_or calls k no_entry

-- so it is after every list of exchanges between the two ends
abbrev pub GateReads : Calls → StepRule → TakeRule → CheckRule → EntryRule → Type 0
GateReads c step taken check entry =
    (now : Kept) (out buffer : List ℕ) (budget : ℕ) → Ready step Table now out buffer budget → let s = setup_of Table now buffer budget in
    (es : List Exchange) (n : ℕ) → Between c step Table now (start_of c s) es n →
    let w = after_all c (start_of c s) es in
    w.transfer.state ≡ Done → (check (taken w)).answer ≡ 0 → CallsOf check entry (whole Table now) (taken w)
