-- What the definitions amount to: each line is a claim of document 01, "Capability text". The proof is in proofs/Theorems.antt.
use Rattle.std.specs.Prelude.{ℕ, ◌≡◌, false, List, ◌++◌}
use Rattle.std.proofs.Math.Option.{some}
use Rattle.capabilities_rules.specs.Grammar.{Items, Text, Fits, size, nodes_from}
use Rattle.capabilities_rules.specs.Machine.{Phase, before, run, run_capped}
use Rattle.capabilities_rules.specs.Outcome.{Refused, outcome, Accepted}
use Rattle.capabilities_rules.specs.Nodes.{nodes_of}
use Rattle.capabilities_rules.specs.Words.{LongestRun, EachWord}
use Rattle.capabilities_rules.specs.Prefixes.{words_in, Viable, ViableCapped, Why}

pub record Theorems : Type 0 where
  -- a string of the grammar within the limits is accepted, with one node a word ..
  pub accepts : (room : ℕ) (s : List ℕ) (xs : Items) → Fits room s xs → outcome room s ≡ Accepted (size xs)
  -- .. and no other is
  pub accepted : (room k : ℕ) (s : List ℕ) → outcome room s ≡ Accepted k → (xs : Items) × Fits room s xs × (k ≡ size xs)
  -- a text has one tree ..
  pub unique : (s : List ℕ) (xs ys : Items) → Text xs s → Text ys s → xs ≡ ys
  -- .. and its nodes are those that the machine makes
  pub noded : (s : List ℕ) (xs : Items) → Text xs s → nodes_of s ≡ nodes_from 65535 0 xs
  -- "A word is a longest run": each word is one, and there are as many words as places where a run begins,
  -- so that each run is a word
  pub longest : (s : List ℕ) (xs : Items) → Text xs s → EachWord (LongestRun s) xs
  pub runs : (s : List ℕ) (xs : Items) → Text xs s → words_in false s ≡ size xs
  -- a refusal has its number and its position by the rule, and nothing is refused before it ..
  pub refusals : (room k p : ℕ) (s : List ℕ) → outcome room s ≡ Refused k p → Why room s k p
  -- .. and wherever the rule says so, it is given
  pub exactly : (room k p : ℕ) (s : List ℕ) → Why room s k p → outcome room s ≡ Refused k p
  -- the bytes that could begin a text are those that the machine passes ..
  pub viable-passes : (s : List ℕ) → Viable s → (p : Phase) × (run before s ≡ some p)
  pub passes-viable : (s : List ℕ) (p : Phase) → run before s ≡ some p → Viable s
  -- .. and those that could begin one of depth at most 8 are those that it passes with the depth capped
  pub capped-passes : (s : List ℕ) → ViableCapped s → (p : Phase) × (run_capped before s ≡ some p)
  pub passes-capped : (s : List ℕ) (p : Phase) → run_capped before s ≡ some p → ViableCapped s
  -- where no continuation is a text, none is further on: so the position of 13 is the least such
  pub shorter : (s u : List ℕ) → Viable (s ++ u) → Viable s
