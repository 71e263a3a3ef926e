-- What the checker of one group ensures, in terms of the reading of the whole string.
use Rattle.std.specs.Prelude.{ℕ, ◌≤◌, ◌<◌, ◌≡◌, List, length, drop, Result, Ok, Err}
use Rattle.message_rules.specs.Refusal.{number_of}
use Rattle.message_rules.specs.declared.refusal.RefusedAt.{RefusedAt}
use Rattle.capabilities_rules.specs.Machine.{inside, leaving}
use Rattle.capabilities_rules.specs.Outcome.{Refused, judge, Reading}
use Rattle.capabilities_rules.specs.Kinds.{Free}
use Rattle.capabilities_scan.specs.declared.Past.{Past}

-- what the checker of a group finds: the position past its ")" and the nodes made by then, or a refusal
abbrev pub Group : Type 0
Group = Result Past RefusedAt

-- what reading a string answers once the group that d groups stand around has been checked
abbrev pub resumed : (room d : ℕ) → List ℕ → Group → Reading
resumed room d s (Ok g) = judge room g.next.0 g.nodes (leaving d) (drop g.next.0 s)
resumed room d s (Err e) = Refused (number_of e.refusal) e.position.0

-- a group that began at `at` with `count` nodes made closes past `at`, within the string and the room
abbrev pub Within : (room at count : ℕ) → List ℕ → Group → Type 0
Within room at count s (Ok g) = (at < g.next.0) × (g.next.0 ≤ length s) × (count ≤ g.nodes) × (g.nodes ≤ room)
Within room at count s (Err e) = Unit {0}

-- the checker of a group: judging on from where it began is judging on from what it found
pub record Checked (room start count d : ℕ) (s : List ℕ) (r : Group) : Type 0 where
  pub answer : judge room start count (inside d Free) (drop start s) ≡ resumed room d s r
  pub within : Within room start count s r
