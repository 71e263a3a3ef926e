-- Document 02, K9: "The post program .. writes the tokens in list order, decimal, one a line, or nothing if refused."
use Rattle.std.specs.Prelude.{ℕ, ◌≡◌, List, [], ◌∷◌, ◌++◌}
use Rattle.numerals.specs.Numerals.{Decimal}
use Rattle.call_list_rules.specs.CallList.{check_list}
use Rattle.call_list_rules.specs.Statements.{IsList, tokens_of}
use Rattle.call_list_rules.specs.declared.Entry.{Entry}

-- "decimal, one a line": behind each number a line end, 0A
pub data Lines : (numbers text : List ℕ) → Type 0 where
  none : Lines [] []
  line : {n : ℕ} {ns number text : List ℕ} → Decimal n number → Lines ns text → Lines (n ∷ ns) (number ++ (0x0A ∷ text))

-- "the tokens in list order .., or nothing if refused": what is written of the bytes s
pub record Written (s text : List ℕ) : Type 0 where
  pub tokens : (es : List Entry) → IsList es s → Lines (tokens_of es) text
  pub nothing : ((check_list s).answer ≡ 0 → ⊥) → text ≡ []

-- a rule that says what is written of any bytes, and that it is this
abbrev pub WriteRule : Type 0
WriteRule = List ℕ → List ℕ

abbrev pub WritesTokens : WriteRule → Type 0
WritesTokens write = (s : List ℕ) → Written s (write s)
