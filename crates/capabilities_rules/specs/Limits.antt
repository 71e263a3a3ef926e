-- Document 01's limits on capabilities strings, each named once.
use Rattle.std.specs.Prelude.{ℕ}

-- "Groups nest at most 8 deep, the outer being 1."
abbrev pub deepest : ℕ
deepest = 8

-- "Node room is the shortest of the four lent buffers, at most 512"
abbrev pub most_nodes : ℕ
most_nodes = 512

-- "parent's node (65,535 at the top)"
abbrev pub no_parent : ℕ
no_parent = 65535
