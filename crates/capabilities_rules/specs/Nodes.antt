-- The nodes that the machine makes as it goes, in text order: "start, length, parent's node (65,535 at the top), and whether it has a group".
use Rattle.std.specs.Prelude.{ℕ, zero, suc, ◌+◌, cond, List, [], ◌∷◌, drop}
use Rattle.capabilities_rules.specs.Limits.{no_parent}
use Rattle.capabilities_rules.specs.Grammar.{Node}
use Rattle.capabilities_rules.specs.Machine.{kind_of, is_letter, Phase, before, act, to}
use Rattle.capabilities_rules.specs.Outcome.{counted}
use Rattle.capabilities_rules.specs.Kinds.{ByteKind}
use Rattle.capabilities_rules.specs.Kinds.{Open, Close, Space, Letter, Zero, Other}
use Rattle.capabilities_rules.specs.Kinds.{Act}
use Rattle.capabilities_rules.specs.Kinds.{Enter, Leave, Begin, Extend, Skip, Refuse}

-- how many letters a list begins with
unfoldable pub letters : List ℕ → ℕ
letters [] = 0
letters (b ∷ s) = cond (is_letter (kind_of b)) (letters s + 1) 0

abbrev pub opened : ByteKind → ℕ → ℕ
opened Open rest = 1
opened Close rest = 0
opened Space rest = rest
opened Letter rest = 0
opened Zero rest = 0
opened Other rest = 0

-- 1 if the first byte past any spaces is "(", else 0
unfoldable pub opens : List ℕ → ℕ
opens [] = 0
opens (b ∷ s) = opened (kind_of b) (opens s)

-- the node of a word at the position `at`, where s is the string from there on
abbrev pub node_at : (at parent : ℕ) → List ℕ → Node
node_at at parent s = record { start = at; size = letters s; parent = parent; group = opens (drop (letters s) s) }

-- the last of `count` nodes; 65,535 where there is none
abbrev pub latest : ℕ → ℕ
latest zero = no_parent
latest (suc n) = n

-- the parents of the open groups' words, innermost first, after a byte
abbrev pub stack : Act → ℕ → List ℕ → List ℕ
stack Enter count ps = latest count ∷ ps
stack Leave count [] = []
stack Leave count (p ∷ ps) = ps
stack Begin count ps = ps
stack Extend count ps = ps
stack Skip count ps = ps
stack Refuse count ps = ps

abbrev pub top : List ℕ → ℕ
top [] = no_parent
top (p ∷ ps) = p

-- x and the nodes after it, where the byte begins a word; none after a refused byte
abbrev pub begun : Act → Node → List Node → List Node
begun Enter x xs = xs
begun Leave x xs = xs
begun Begin x xs = x ∷ xs
begun Extend x xs = xs
begun Skip x xs = xs
begun Refuse x xs = []

-- the nodes of the words from the position `at` on, in text order
unfoldable pub nodes : (at count : ℕ) → List ℕ → Phase → List ℕ → List Node
nodes at count ps p [] = []
nodes at count ps p (b ∷ s) =
    let a : Act = act p (kind_of b) in
    begun a (node_at at (top ps) (b ∷ s)) (nodes (at + 1) (counted count a) (stack a count ps) (to p a) s)

-- the nodes of a string
unfoldable pub nodes_of : List ℕ → List Node
nodes_of s = nodes 0 0 [] before s
