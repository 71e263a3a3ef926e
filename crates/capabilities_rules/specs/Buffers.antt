-- The four lent buffers: "Node room is the shortest of the four lent buffers, at most 512; entries past the nodes stay."
use Rattle.std.specs.Prelude.{ℕ, zero, suc, min, ◌≡◌, List, map, length}
use Rattle.buffers.specs.Buffers.{over}
use Rattle.capabilities_rules.specs.Limits.{most_nodes}
use Rattle.capabilities_rules.specs.Grammar.{Node}
use Rattle.capabilities_rules.specs.Outcome.{told, outcome, Reading}
use Rattle.capabilities_rules.specs.Nodes.{nodes_of}

-- the room for nodes, from the lengths of the four buffers
abbrev pub room_of : ℕ → ℕ → ℕ → ℕ → ℕ
room_of a b c d = min most_nodes (min (min a b) (min c d))

-- the four lent buffers
pub record Buffers : Type 0 where
  pub starts : List ℕ
  pub lengths : List ℕ
  pub parents : List ℕ
  pub groups : List ℕ

abbrev pub buffers : List ℕ → List ℕ → List ℕ → List ℕ → Buffers
buffers a b c d = record { starts = a; lengths = b; parents = c; groups = d }

abbrev pub buffer_room : Buffers → ℕ
buffer_room t = room_of (length t.starts) (length t.lengths) (length t.parents) (length t.groups)

-- the buffers after an answer number: the nodes' values after 0, and each buffer's own entries past them; "node buffers unchanged" after any other
abbrev pub written : ℕ → List Node → Buffers → Buffers
written zero xs t = buffers (over (map (λ x. x.start) xs) t.starts) (over (map (λ x. x.size) xs) t.lengths) (over (map (λ x. x.parent) xs) t.parents) (over (map (λ x. x.group) xs) t.groups)
written (suc k) xs t = t

-- what reading the string s with the buffers t ensures of its answer r and of the buffers t' afterwards
pub record Answered (s : List ℕ) (t t' : Buffers) (r : Reading) : Type 0 where
  pub answer : r ≡ outcome (buffer_room t) s
  pub stored : t' ≡ written (told r).number (nodes_of s) t
