-- What the filler of one group needs and ensures, in terms of the reading of the whole string.
use Rattle.std.specs.Prelude.{ℕ, ◌+◌, ◌≤◌, ◌<◌, ◌≡◌, true, List, [], ◌∷◌, length, drop, set}
use Rattle.message_rules.specs.Limits.{longest_text}
use Rattle.capabilities_rules.specs.Limits.{deepest}
use Rattle.capabilities_rules.specs.Grammar.{Node}
use Rattle.capabilities_rules.specs.Machine.{inside, leaving}
use Rattle.capabilities_rules.specs.Outcome.{judge, is_accepted}
use Rattle.capabilities_rules.specs.Nodes.{nodes}
use Rattle.capabilities_rules.specs.Buffers.{Buffers, buffers, buffer_room}
use Rattle.capabilities_rules.specs.Kinds.{Free}
use Rattle.capabilities_scan.specs.Scan.{around}

abbrev pub node : (start size parent group : ℕ) → Node
node a k p g = record { start = a; size = k; parent = p; group = g }

-- the buffers with the node x stored at entry n
abbrev pub put : Buffers → ℕ → Node → Buffers
put t n x = buffers (set t.starts n x.start) (set t.lengths n x.size) (set t.parents n x.parent) (set t.groups n x.group)

-- the buffers with the nodes xs stored from entry n on
unfoldable pub stored : Buffers → ℕ → List Node → Buffers
stored t n [] = t
stored t n (x ∷ xs) = stored (put t n x) (n + 1) xs

-- what the filler of a group needs: the checker accepted the string
pub record Fillable (start left count : ℕ) (s : List ℕ) (t : Buffers) : Type 0 where
  pub small : length s ≤ longest_text
  pub begun : start ≤ length s
  pub levels : left < deepest
  pub fits : count ≤ buffer_room t
  pub read : is_accepted (judge (buffer_room t) start count (inside (around left) Free) (drop start s)) ≡ true

-- what it ensures: the group's nodes are stored, and what is left to store is what follows the group
pub record Filled (start left count parent : ℕ) (s : List ℕ) (t t' : Buffers) (next n : ℕ) : Type 0 where
  pub past : start < next
  pub ends : next ≤ length s
  pub fits : n ≤ buffer_room t
  pub read : is_accepted (judge (buffer_room t) next n (leaving (around left)) (drop next s)) ≡ true
  pub same : (ps : List ℕ) → stored t count (nodes start count (parent ∷ ps) (inside (around left) Free) (drop start s)) ≡ stored t' n (nodes next n ps (leaving (around left)) (drop next s))
