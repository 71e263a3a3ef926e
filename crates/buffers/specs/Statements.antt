-- What the definitions of Buffers.antt come to, byte by byte. proofs/Theorems.antt proves each.
use Rattle.std.specs.Prelude.{ℕ, ◌+◌, ◌≤◌, ◌<◌, ◌≡◌, List, length, get_or}

-- a rule that lays bytes into a buffer at an index, and one that takes a part out of a buffer
abbrev pub PutRule : Type 0
PutRule = (out : List ℕ) (at : ℕ) (s : List ℕ) → List ℕ

abbrev pub PartRule : Type 0
PartRule = (s : List ℕ) (at n : ℕ) → List ℕ

-- bytes that fit: each one stands at its place, every other byte and the length stay
pub record PutsThere (out : List ℕ) (at : ℕ) (s after : List ℕ) : Type 0 where
  pub same : length after ≡ length out
  pub before : (i : ℕ) → i < at → get_or after i 0 ≡ get_or out i 0
  pub there : (i : ℕ) → i < length s → get_or after (at + i) 0 ≡ get_or s i 0
  pub behind : (i : ℕ) → at + length s ≤ i → get_or after i 0 ≡ get_or out i 0

abbrev pub PutsBytes : PutRule → Type 0
PutsBytes put = (out : List ℕ) (at : ℕ) (s : List ℕ) → at + length s ≤ length out → PutsThere out at s (put out at s)

-- the same of bytes that fit, and bytes that do not all fit change nothing
pub record PutsOrLeaves (put : PutRule) : Type 0 where
  pub puts : PutsBytes put
  pub leaves : (out : List ℕ) (at : ℕ) (s : List ℕ) → length out < at + length s → put out at s ≡ out

-- bytes at the start of an output are bytes at index 0
abbrev pub OverPuts : (List ℕ → List ℕ → List ℕ) → PutRule → Type 0
OverPuts over put = (s out : List ℕ) → put out 0 s ≡ over s out

-- a part that is there: its length, and each of its bytes
pub record TakesPart (s : List ℕ) (at n : ℕ) (part : List ℕ) : Type 0 where
  pub len : length part ≡ n
  pub bytes : (i : ℕ) → i < n → get_or part i 0 ≡ get_or s (at + i) 0

abbrev pub PartBytes : PartRule → Type 0
PartBytes part = (s : List ℕ) (at n : ℕ) → at + n ≤ length s → TakesPart s at n (part s at n)

-- what was put is there
abbrev pub PutComesBack : PutRule → PartRule → Type 0
PutComesBack put part = (out : List ℕ) (at : ℕ) (s : List ℕ) → at ≤ length out → part (put out at s) at (length s) ≡ s
