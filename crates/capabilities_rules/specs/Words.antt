-- Document 01: "A word is a longest run of bytes 21 to 7E other than the two brackets".
-- Said of the string's bytes, without the grammar.
use Rattle.std.specs.Prelude.{ℕ, ◌≡◌, List, [], ◌∷◌, ◌++◌, length}
use Rattle.capabilities_rules.specs.Grammar.{IsLetter, Letters, Apart, Items, none, word, group}

-- the last byte of a list; 0, which is no letter, where there is none
abbrev pub last_of : List ℕ → ℕ
last_of [] = 0
last_of (b ∷ []) = b
last_of (b ∷ c ∷ s) = last_of (c ∷ s)

-- the `size` bytes of s from `start` on are letters, and no letter stands right before or right behind them
pub record LongestRun (s : List ℕ) (start size : ℕ) : Type 0 where
  pub before : List ℕ
  pub run : List ℕ
  pub behind : List ℕ
  pub whole : s ≡ before ++ (run ++ behind)
  pub starts : length before ≡ start
  pub sizes : length run ≡ size
  pub letters : Letters run
  pub begins : IsLetter (last_of before) → ⊥
  pub ends : Apart behind

-- P holds of the position and the length of each word
abbrev pub EachWord : (ℕ → ℕ → Type 0) → Items → Type 0
EachWord P none = Unit {0}
EachWord P (word a k xs) = P a k × EachWord P xs
EachWord P (group a k ys xs) = P a k × EachWord P ys × EachWord P xs
