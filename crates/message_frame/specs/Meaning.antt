-- What a reader's result says of the slice that was read, either way.
use Rattle.std.specs.Prelude.{ℕ, ◌+◌, ◌-◌, ◌≤◌, ◌<◌, ◌≡◌, List, length, Result, Ok, Err}
use Rattle.buffers.specs.Buffers.{part_of}
use Rattle.message_rules.specs.Read.{Read, ok, refused}
use Rattle.message_rules.specs.Row.{Kind}
use Rattle.message_rules.specs.Layout.{layout_of, least}
use Rattle.message_rules.specs.Frame.{body_length}
use Rattle.message_rules.specs.Message.{Reading, decode}
use Rattle.message_rules.specs.Refusal.{number_of}
use Rattle.message_rules.specs.declared.Address.{Address}
use Rattle.message_rules.specs.declared.refusal.Refusal.{Refusal}
use Rattle.message_frame.specs.declared.Carried.{Carried}
use Rattle.message_frame.specs.Parts.{body_in}

-- what a result stands for: the message, or the number of the refusal
abbrev pub stands_for : {M R : Type 0} → (List ℕ → R → M) → List ℕ → Result R Refusal → Read M
stands_for of s (Ok r) = ok (of s r)
stands_for of s (Err k) = refused (number_of k)

-- what holds of a message that was read
abbrev pub if_read : {R : Type 0} → (List ℕ → R → Type 0) → List ℕ → Result R Refusal → Type 0
if_read In s (Ok r) = In s r
if_read In s (Err k) = Unit {0}

-- a reader's result r stands for x, and what it names of the slice is in it
pub record Meaning {M R : Type 0} (of : List ℕ → R → M) (In : List ℕ → R → Type 0) (s : List ℕ) (r : Result R Refusal) (x : Read M) : Type 0 where
  pub means : stands_for of s r ≡ x
  pub inside : if_read In s r

-- the bytes that a message carries, and where they stand in its slice: from position k on
abbrev pub carried_in : List ℕ → Carried → List ℕ
carried_in s c = part_of s c.at.0 c.len

abbrev pub CarriedAt : ℕ → List ℕ → Carried → Type 0
CarriedAt k s c = (c.at.0 ≡ k) × (c.at.0 + c.len ≤ length s)

-- a body of this kind stands in the slice, with all its fields
abbrev pub Readable : Kind → List ℕ → Type 0
Readable c s = (1 < length s) × (body_length s + 3 ≤ length s) × (0 < body_length s) × (least (layout_of c) ≤ body_length s - 1)

-- what the tests of a message say of it, but those of its fields: it is refused, or a body of a known kind is left to be read
abbrev pub Holds : {M K : Type 0} → Reading M → (K → Kind) → Address → List ℕ → Read K → Type 0
Holds t kind a s (ok c) = Readable (kind c) s × (decode t a s ≡ body_in t (kind c) s)
Holds t kind a s (refused k) = decode t a s ≡ refused k
