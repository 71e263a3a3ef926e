-- Document 01, "Capability text", its last three sentences: what reading a string answers.
use Rattle.std.specs.Prelude.{ℕ, zero, suc, ◌+◌, Bool, true, false, cond, List, [], ◌∷◌, length, leb, Result, Ok, Err}
use Rattle.message_rules.specs.Answer.{done, text_too_long, wrong_grammar, no_node_room, too_deep}
use Rattle.message_rules.specs.Limits.{longest_text}
use Rattle.message_rules.specs.Refusal.{number_of}
use Rattle.message_rules.specs.declared.refusal.RefusedAt.{RefusedAt}
use Rattle.capabilities_rules.specs.Limits.{deepest}
use Rattle.capabilities_rules.specs.Machine.{kind_of, Phase, before, inside, after, act, to, depth}
use Rattle.capabilities_rules.specs.Kinds.{Act}
use Rattle.capabilities_rules.specs.Kinds.{Enter, Leave, Begin, Extend, Skip, Refuse}

-- what reading a string answers in document 01's words: the number of nodes, or an answer number and the place of the refusal
pub data Reading : Type 0 where
  Accepted : (nodes : ℕ) → Reading
  Refused : (number place : ℕ) → Reading

-- "If an answer is an enum, a definition gives this paper's number and values for each of its cases."
abbrev pub reading_of : Result ℕ RefusedAt → Reading
reading_of (Ok n) = Accepted n
reading_of (Err e) = Refused (number_of e.refusal) e.position.0

-- a reading's answer number, the number of its nodes and its place; 0 where it has none
pub record Told : Type 0 where
  pub number : ℕ
  pub nodes : ℕ
  pub place : ℕ

abbrev pub told : Reading → Told
told (Accepted n) = record { number = done; nodes = n; place = 0 }
told (Refused k p) = record { number = k; nodes = 0; place = p }

-- The answer number of a byte that does `a` where the reader stands, with `count` nodes made: 13 where it cannot stand,
-- "else 15 at a ninth "(", 14 at a word with no node left", and 0 where it is taken.
abbrev pub fault : (room count : ℕ) → Phase → Act → ℕ
fault room count p Enter = cond (leb deepest (depth p)) too_deep 0
fault room count p Leave = 0
fault room count p Begin = cond (leb room count) no_node_room 0
fault room count p Extend = 0
fault room count p Skip = 0
fault room count p Refuse = wrong_grammar

-- the nodes made once the byte is taken: one more where it begins a word
abbrev pub counted : ℕ → Act → ℕ
counted count Enter = count
counted count Leave = count
counted count Begin = count + 1
counted count Extend = count
counted count Skip = count
counted count Refuse = count

-- refusal k, if it is one, else what the rest gives: "the first place wins"
abbrev pub unless : ℕ → ℕ → Reading → Reading
unless zero at rest = rest
unless (suc k) at rest = Refused (suc k) at

-- the answer at the end of the string: the number of nodes, or 13 there "if cut short"
abbrev pub ending : (at count : ℕ) → Phase → Reading
ending at count before = Refused wrong_grammar at
ending at count (inside d m) = Refused wrong_grammar at
ending at count after = Accepted count

-- the answer to the bytes from the position `at` on: the first refusal, or the number of nodes
unfoldable pub judge : (room at count : ℕ) → Phase → List ℕ → Reading
judge room at count p [] = ending at count p
judge room at count p (b ∷ s) =
    let a : Act = act p (kind_of b) in
    unless (fault room count p a) at (judge room (at + 1) (counted count a) (to p a) s)

-- the answer to a string, with room for `room` nodes: "A text over 4,096 is 11 at place 0."
unfoldable pub outcome : (room : ℕ) → List ℕ → Reading
outcome room s = cond (leb (length s) longest_text) (judge room 0 0 before s) (Refused text_too_long 0)

-- whether a reading accepts
abbrev pub is_accepted : Reading → Bool
is_accepted (Accepted n) = true
is_accepted (Refused k p) = false
