-- Demand 2, its last sentence: "A capability text is accepted exactly when the papers' grammar, depth, length and
-- room hold, with the one tree it has."
-- Said of any reader's promise, so that wrong readers can be refuted. Its numbers are the papers' own.
use Rattle.std.specs.Prelude.{ℕ, min, ◌≡◌, List, map, length}
use Rattle.capabilities_rules.specs.Grammar.{Items, Text, Fits, Node, size, nodes_from}
use Rattle.capabilities_rules.specs.Outcome.{told, Refused, Reading, Accepted}
use Rattle.buffers.specs.Buffers.{over}
use Rattle.capabilities_rules.specs.Buffers.{Buffers}
use Rattle.capabilities_rules.specs.Prefixes.{Why}

-- "Node room is the shortest of the four lent buffers, at most 512"
abbrev pub room_in : Buffers → ℕ
room_in t = min 512 (min (min (length t.starts) (length t.lengths)) (min (length t.parents) (length t.groups)))

-- the buffers t' begin with the values of the nodes xs; "entries past the nodes stay" as they were in t
pub record Holds (xs : List Node) (t t' : Buffers) : Type 0 where
  pub starts : t'.starts ≡ over (map (λ x. x.start) xs) t.starts
  pub lengths : t'.lengths ≡ over (map (λ x. x.size) xs) t.lengths
  pub parents : t'.parents ≡ over (map (λ x. x.parent) xs) t.parents
  pub groups : t'.groups ≡ over (map (λ x. x.group) xs) t.groups

-- the string s is accepted with the words xs, which are the only ones it has
pub record Accepts (s : List ℕ) (t t' : Buffers) (r : Reading) (xs : Items) : Type 0 where
  pub fits : Fits (room_in t) s xs
  pub only : (ys : Items) → Text ys s → ys ≡ xs
  pub counts : r ≡ Accepted (size xs)
  pub holds : Holds (nodes_from 65535 0 xs) t t'

-- the string s was read with the buffers t: the answer r, and the buffers t' afterwards
pub record ReadRightly (s : List ℕ) (t t' : Buffers) (r : Reading) : Type 0 where
  -- what fits is accepted ..
  pub accepts : (xs : Items) → Fits (room_in t) s xs → Accepts s t t' r xs
  -- .. and what is accepted fits
  pub accepted : (told r).number ≡ 0 → (xs : Items) × Accepts s t t' r xs
  -- a refusal has a reason, "node buffers unchanged" ..
  pub refuses : (k p : ℕ) → r ≡ Refused k p → Why (room_in t) s k p × (t' ≡ t)
  -- .. and where there is a reason, it is given
  pub refused-there : (k p : ℕ) → Why (room_in t) s k p → r ≡ Refused k p

-- what a reader of the string s with the buffers t promises of the buffers t' afterwards and of its answer r
abbrev pub Promise : Type 1
Promise = (s : List ℕ) (t t' : Buffers) (r : Reading) → Type 0

-- A promise meets demand 2 if it can be kept for every string and all buffers, and whatever keeps it has read rightly.
pub record Demand2 (P : Promise) : Type 0 where
  pub kept : (s : List ℕ) (t : Buffers) → (t' : Buffers) × (r : Reading) × P s t t' r
  pub rightly : (s : List ℕ) (t t' : Buffers) (r : Reading) → P s t t' r → ReadRightly s t t' r
