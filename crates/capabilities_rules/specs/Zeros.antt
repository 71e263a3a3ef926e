-- Document 02, K2, "Zero bytes after the capability text", sentence by sentence.
-- Said of any reader's promise, so that wrong readers can be refuted; that it can be kept is demand 2's matter.
-- Its numbers are the papers' own.
use Rattle.std.specs.Prelude.{ℕ, ◌≤◌, ◌<◌, ◌≡◌, List, ◌++◌, length, get_or, take}
use Rattle.capabilities_rules.specs.Grammar.{Items, Zeros, Text}
use Rattle.capabilities_rules.specs.Outcome.{told, Refused, Reading}
use Rattle.capabilities_rules.specs.Buffers.{Buffers}
use Rattle.capabilities_rules.specs.Prefixes.{Clear, Why}
use Rattle.capabilities_rules.specs.Demand2.{room_in, Promise}

-- The string s was read with the buffers t: the answer r, and the buffers t' afterwards.
-- With z behind it, it was read with the same buffers t: the answer q, and the buffers t'' afterwards.
pub record ReadAlike (s z : List ℕ) (t t' t'' : Buffers) (r q : Reading) : Type 0 where
  -- with z it is accepted exactly when it is accepted without, and the length allows it ..
  pub accepted : (told q).number ≡ 0 → ((told r).number ≡ 0) × (length (s ++ z) ≤ 4096)
  pub accepts : (told r).number ≡ 0 → length (s ++ z) ≤ 4096 → (told q).number ≡ 0
  -- .. with the same nodes: "They make no node." A refusal has the same number and place, too.
  pub same : length (s ++ z) ≤ 4096 → (q ≡ r) × (t'' ≡ t')
  -- "The 4,096 limit counts them."
  pub counted : 4096 < length (s ++ z) → (q ≡ Refused 11 0) × (t'' ≡ t)

-- `Clear`: nothing is refused before the place.
pub record ReadsZeros (P : Promise) : Type 0 where
  -- "after the outer group any number of 00 bytes may follow"
  pub behind : (s z : List ℕ) (t t' t'' : Buffers) (r q : Reading) → Zeros z → P s t t' r → P (s ++ z) t t'' q → ReadAlike s z t t' t'' r q
  -- "and nothing else": "a byte other than 00 after the first of them is 13 at its place", and so is one right behind the group
  pub nothing-else : (s : List ℕ) (t t' : Buffers) (r : Reading) (p : ℕ) (xs : Items) → P s t t' r → Clear (room_in t) p s → p < length s
      → Text xs (take p s) → (get_or s p 0 ≡ 0 → ⊥) → r ≡ Refused 13 p
  -- "A 00 anywhere else is 13 at its place": where the bytes before it are no text
  pub elsewhere : (s : List ℕ) (t t' : Buffers) (r : Reading) (p : ℕ) → P s t t' r → Clear (room_in t) p s → p < length s
      → ((xs : Items) → Text xs (take p s) → ⊥) → get_or s p 0 ≡ 0 → r ≡ Refused 13 p
  -- "an earlier refused place still wins": where there is a reason at p, a 00 further on changes nothing
  pub earlier : (s : List ℕ) (t t' : Buffers) (r : Reading) (k p q : ℕ) → P s t t' r → Why (room_in t) s k p → p < q → q < length s
      → get_or s q 0 ≡ 0 → r ≡ Refused k p
