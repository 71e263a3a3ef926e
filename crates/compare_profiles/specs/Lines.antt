-- Document 02, K4: "The program writes a line per code: code in two capital hex digits, then both values in decimal, "-" where
-- absent, one space between: `10 50 70`. .. A refused program .. writes only one line with the number, as `refused 17`."
use Rattle.std.specs.Prelude.{ℕ, ◌<◌, ◌≡◌, List, [], ◌∷◌, ◌++◌, take}
use Rattle.checksum.specs.Bytes.{Bytes}
use Rattle.numerals.specs.Numerals.{Decimal, hexadecimal}
use Rattle.profile_form_rules.specs.declared.Setting.{Setting}
use Rattle.profile_form_rules.specs.Statements.{IsProfile, SomeProfile}
use Rattle.profile_compare_rules.specs.Compare.{Difference}
use Rattle.profile_compare_rules.specs.Statements.{IsList}

-- "in decimal, "-" where absent": absent is listed as 65,536
pub data Value : (value : ℕ) (text : List ℕ) → Type 0 where
  number : {v : ℕ} {text : List ℕ} → v < 65536 → Decimal v text → Value v text
  absent : Value 65536 (0x2D ∷ [])

-- "a line per code: code in two capital hex digits, then both values .., one space between"; behind it a line end, 0A
abbrev pub line_of : (code : ℕ) (first second : List ℕ) → List ℕ
line_of code first second = hexadecimal code ++ (0x20 ∷ (first ++ (0x20 ∷ (second ++ (0x0A ∷ [])))))

pub data Lines : List Difference → (text : List ℕ) → Type 0 where
  none : Lines [] []
  line : {d : Difference} {ds : List Difference} {first second text : List ℕ} → Value d.first first → Value d.second second → Lines ds text
      → Lines (d ∷ ds) (line_of d.code first second ++ text)

-- "only one line with the number, as `refused 17`"
abbrev pub refused_line : List ℕ
refused_line = 0x72 ∷ 0x65 ∷ 0x66 ∷ 0x75 ∷ 0x73 ∷ 0x65 ∷ 0x64 ∷ 0x20 ∷ 0x31 ∷ 0x37 ∷ 0x0A ∷ []

-- what is written of the bytes s and t: the lines of their differences, or the refusal where they are not both profiles
pub record Written (s t text : List ℕ) : Type 0 where
  pub lines : (a b : List Setting) (ds : List Difference) → Bytes s → Bytes t → IsProfile a s → IsProfile b t → IsList a b ds → Lines ds text
  pub refused : (SomeProfile s → SomeProfile t → ⊥) → text ≡ refused_line

-- a rule that says what is written of any bytes, and that it is this
abbrev pub WriteRule : Type 0
WriteRule = (s t : List ℕ) → List ℕ

abbrev pub WritesDifferences : WriteRule → Type 0
WritesDifferences write = (s t : List ℕ) → Written s t (write s t)

-- a file is read up to 1,793 bytes: what is to be written of these is what is to be written of the whole files
abbrev pub LongWritten : Type 0
LongWritten = (s t text : List ℕ) → Bytes s → Bytes t → Written (take 1793 s) (take 1793 t) text → Written s t text
