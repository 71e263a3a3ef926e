-- What the definitions of Numbers.antt and Records.antt come to. A statement takes the rule as a parameter: proofs/
-- proves it of theirs, and refutes it of wrong ones.
use Rattle.std.specs.Prelude.{ℕ, suc, ◌+◌, ◌*◌, ◌/◌, ◌%◌, ◌≤◌, ◌<◌, ◌≡◌, Bool, true, List, [], ◌∷◌, ◌++◌, length, take, drop}
use Rattle.checksum.specs.Bytes.{Bytes}

-- ---- numbers

-- a rule that gives the k bytes of a number, and one that gives the number whose k bytes start at index i
abbrev pub BytesRule : Type 0
BytesRule = (k n : ℕ) → List ℕ

abbrev pub NumberRule : Type 0
NumberRule = (k : ℕ) → List ℕ → ℕ → ℕ

-- "little-endian": two bytes and four, the low one first
pub record LowFirst (bytes : BytesRule) : Type 0 where
  pub two : (a b : ℕ) → a < 256 → bytes 2 (a + b * 256) ≡ a ∷ b ∷ []
  pub four : (a b c d : ℕ) → a < 256 → b < 256 → c < 256 → bytes 4 (a + b * 256 + c * 65536 + d * 16777216) ≡ a ∷ b ∷ c ∷ d ∷ []

-- as many bytes as the width says
abbrev pub AsWide : BytesRule → Type 0
AsWide bytes = (k n : ℕ) → length (bytes k n) ≡ k

-- a number comes back from its bytes, whatever stands before and behind them
abbrev pub NumberBack : BytesRule → NumberRule → Type 0
NumberBack bytes number = (k n : ℕ) (before behind : List ℕ) → number (suc k) (before ++ (bytes (suc k) n ++ behind)) (length before) ≡ n

-- bytes come back from their number
abbrev pub BytesBack : BytesRule → NumberRule → Type 0
BytesBack bytes number = (k : ℕ) (s : List ℕ) (i : ℕ) → Bytes s → i + k ≤ length s → bytes k (number k s i) ≡ take k (drop i s)

-- ---- records

-- a rule that says whether bytes begin with a record of this length and kind
abbrev pub BeginsRule : Type 0
BeginsRule = (len kind : ℕ) → List ℕ → Bool

-- "length (2 bytes, little-endian, counting what follows it), kind (2 bytes, little-endian), body", and what follows it
pub record Begins (len kind : ℕ) (s : List ℕ) : Type 0 where
  pub body : List ℕ
  pub rest : List ℕ
  pub counted : 2 + length body ≡ len
  pub bytes : s ≡ len % 256 ∷ len / 256 ∷ kind % 256 ∷ kind / 256 ∷ (body ++ rest)

-- exactly the bytes that begin with such a record
pub record BeginsExactly (rule : BeginsRule) : Type 0 where
  pub whole : (len kind : ℕ) (s : List ℕ) → Bytes s → rule len kind s ≡ true → Begins len kind s
  pub every : (len kind : ℕ) (s : List ℕ) → Begins len kind s → rule len kind s ≡ true

-- a rule that gives the bytes of a record
abbrev pub WriteRule : Type 0
WriteRule = (kind : ℕ) (body : List ℕ) → List ℕ

-- what is written begins with a record of that kind and body, whatever follows
abbrev pub WritesRecord : WriteRule → Type 0
WritesRecord write = (kind : ℕ) (body rest : List ℕ) → Begins (2 + length body) kind (write kind body ++ rest)
