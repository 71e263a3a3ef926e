-- Document 01: "The first place wins: 13 where no continuation could be accepted with depth, length and room unlimited
-- (the end if cut short), else 15 at a ninth "(", 14 at a word with no node left."
-- Said of the bytes before a position and the kinds of bytes, without the machine. Its numbers are the papers' own:
-- none is named by a definition that it judges.
use Rattle.std.specs.Prelude.{ℕ, suc, ◌+◌, ◌-◌, ◌≤◌, ◌<◌, ◌≡◌, Bool, false, cond, List, [], ◌∷◌, ◌++◌, length, get_or, take}
use Rattle.capabilities_rules.specs.Grammar.{Items, Text, levels}
use Rattle.capabilities_rules.specs.Machine.{kind_of, is_letter}
use Rattle.capabilities_rules.specs.Kinds.{ByteKind}
use Rattle.capabilities_rules.specs.Kinds.{Open, Close, Space, Letter, Zero, Other}

-- s could still begin a text, with depth, length and room unlimited
abbrev pub Viable : List ℕ → Type 0
Viable s = (u : List ℕ) × (xs : Items) × Text xs (s ++ u)

-- s could still begin a text of depth at most 8, with length and room unlimited
abbrev pub ViableCapped : List ℕ → Type 0
ViableCapped s = (u : List ℕ) × (xs : Items) × Text xs (s ++ u) × (levels xs ≤ 8)

-- the brackets open at once after a byte, where d are open before it
abbrev pub nest : ByteKind → ℕ → ℕ
nest Open d = suc d
nest Close d = d - 1
nest Space d = d
nest Letter d = d
nest Zero d = d
nest Other d = d

-- how many brackets are open at once after the bytes s, where d are open before them
unfoldable pub open_after : ℕ → List ℕ → ℕ
open_after d [] = d
open_after d (b ∷ s) = open_after (nest (kind_of b) d) s

-- how many words begin in the bytes s; `within`: a letter stands right before them
unfoldable pub words_in : Bool → List ℕ → ℕ
words_in within [] = 0
words_in within (b ∷ s) = cond (is_letter (kind_of b)) (cond within 0 1) 0 + words_in (is_letter (kind_of b)) s

-- nothing is refused before the position p of the string s
pub record Clear (room p : ℕ) (s : List ℕ) : Type 0 where
  pub short : length s ≤ 4096
  pub viable : ViableCapped (take p s)
  pub roomy : words_in false (take p s) ≤ room

-- `Why room s k p`: the string s with room for `room` nodes is refused with k at the position p
pub data Why (room : ℕ) (s : List ℕ) : ℕ → ℕ → Type 0 where
  too_long : 4096 < length s → Why room s 11 0
  -- cut short: the string ends and is no text
  cut_short : Clear room (length s) s → ((xs : Items) → Text xs s → ⊥) → Why room s 13 (length s)
  -- with the byte there it could no longer begin a text
  wrong_byte : {p : ℕ} → Clear room p s → p < length s → (Viable (take (suc p) s) → ⊥) → Why room s 13 p
  -- a ninth "(": eight are open, and with it the string could begin a text, but none of depth at most 8
  ninth-open : {p : ℕ} → Clear room p s → p < length s → get_or s p 0 ≡ 0x28 → open_after 0 (take p s) ≡ 8
      → Viable (take (suc p) s) → (ViableCapped (take (suc p) s) → ⊥) → Why room s 15 p
  -- a word with no node left: as many words as there is room begin before it, one more begins there, and the string could go on
  no_node : {p : ℕ} → Clear room p s → p < length s → words_in false (take p s) ≡ room → words_in false (take (suc p) s) ≡ suc room
      → ViableCapped (take (suc p) s) → Why room s 14 p
