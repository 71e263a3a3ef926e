-- Document 01, "Capability text", with the zero bytes of document 02, K2: the grammar, sentence by sentence, and the nodes of its one tree.
use Rattle.std.specs.Prelude.{ℕ, suc, ◌+◌, ◌≤◌, max, ◌≡◌, List, [], ◌∷◌, ◌++◌, length}

-- "bytes 21 to 7E other than the two brackets"
pub record IsLetter (b : ℕ) : Type 0 where
  pub low : 0x21 ≤ b
  pub high : b ≤ 0x7e
  pub no-open : b ≡ 0x28 → ⊥
  pub no-close : b ≡ 0x29 → ⊥

-- one or more letters
pub data Letters : List ℕ → Type 0 where
  last : {b : ℕ} → IsLetter b → Letters (b ∷ [])
  more : {b : ℕ} {w : List ℕ} → IsLetter b → Letters w → Letters (b ∷ w)

-- "any spaces": "a space is 20"
pub data Spaces : List ℕ → Type 0 where
  no-space : Spaces []
  one-space : {g : List ℕ} → Spaces g → Spaces (0x20 ∷ g)

-- "a longest run": no letter stands behind it
abbrev pub Apart : List ℕ → Type 0
Apart [] = Unit {0}
Apart (b ∷ s) = IsLetter b → ⊥

-- the words of a list in order: each one's position and length, and the words of its group where it has one
pub data Items : Type 0 where
  none : Items
  word : (start size : ℕ) → Items → Items
  group : (start size : ℕ) → Items → Items → Items

-- "A list is words and spaces; each word may be followed, after any spaces, by one group."
-- `ListAt at xs s`: the bytes s, which begin at the position `at`, are a list whose words are xs.
pub data ListAt : ℕ → Items → List ℕ → Type 0 where
  ends : {at : ℕ} → ListAt at none []
  spaced : {at : ℕ} {xs : Items} {s : List ℕ} → ListAt (at + 1) xs s → ListAt at xs (0x20 ∷ s)
  worded : {at : ℕ} {w s : List ℕ} {xs : Items} → Letters w → Apart s → ListAt (at + length w) xs s → ListAt at (word at (length w) xs) (w ++ s)
  grouped : {at : ℕ} {w g t s : List ℕ} {ys xs : Items} → Letters w → Spaces g
      → ListAt (at + length w + length g + 1) ys t
      → ListAt (at + length w + length g + 1 + length t + 1) xs s
      → ListAt at (group at (length w) ys xs) (w ++ (g ++ 0x28 ∷ (t ++ 0x29 ∷ s)))

-- "any number of 00 bytes"
pub data Zeros : List ℕ → Type 0 where
  no_zero : Zeros []
  one-zero : {z : List ℕ} → Zeros z → Zeros (0 ∷ z)

-- "A text is one group and nothing else. A group is "(", a list, ")".", as document 02, K2, mends it: "after the outer
-- group any number of 00 bytes may follow, and nothing else. They make no node."
-- `Text xs s`: s is a text whose words are xs.
pub data Text : Items → List ℕ → Type 0 where
  text : {xs : Items} {t z : List ℕ} → ListAt 1 xs t → Zeros z → Text xs (0x28 ∷ (t ++ 0x29 ∷ z))

-- how deep the groups nest, "the outer being 1"
abbrev pub levels : Items → ℕ
levels none = 1
levels (word a k xs) = levels xs
levels (group a k ys xs) = max (suc (levels ys)) (levels xs)

-- how many words there are
abbrev pub size : Items → ℕ
size none = 0
size (word a k xs) = suc (size xs)
size (group a k ys xs) = suc (size ys + size xs)

-- "One node a word": "start, length, parent's node", and 1 if it has a group, else 0
pub record Node : Type 0 where
  pub start : ℕ
  pub size : ℕ
  pub parent : ℕ
  pub group : ℕ

-- the nodes "in text order", where p is the parent and n the number of nodes before
abbrev pub nodes_from : (p n : ℕ) → Items → List Node
nodes_from p n none = []
nodes_from p n (word a k xs) = record { start = a; size = k; parent = p; group = 0 } ∷ nodes_from p (n + 1) xs
nodes_from p n (group a k ys xs) = record { start = a; size = k; parent = p; group = 1 } ∷ nodes_from n (n + 1) ys ++ nodes_from p (n + 1 + size ys) xs

-- s is a text of the grammar within the limits of depth (8), node room and length (4,096), and its words are xs
pub record Fits (room : ℕ) (s : List ℕ) (xs : Items) : Type 0 where
  pub grammar : Text xs s
  pub deep : levels xs ≤ 8
  pub roomy : size xs ≤ room
  pub short : length s ≤ 4096
