-- Document 01, "The board": the start and declaring sentence by sentence, of any rule for each.
use Rattle.std.specs.Prelude.{ℕ, ◌/◌, ◌%◌, ◌≤◌, ◌<◌, ◌≡◌}
use Rattle.settings_rules.specs.Entries.{Sized}
use Rattle.settings_rules.specs.Operations.{no_timing, NoCode, Declares}
use Rattle.settings_rules.specs.declared.Declaration.{Declaration}
use Rattle.settings_rules.specs.declared.Timing.{Timing}
use Rattle.display_rules.specs.Operations.{SameTexts}
use Rattle.display_rules.specs.declared.TextState.{TextState}
use Rattle.display_rules.specs.declared.Display.{Display}
use Rattle.display_rules.specs.declared.Changed.{Changed}

-- ---- the start

abbrev pub StartRule : Type 0
StartRule = Timing → (text size : ℕ) → Changed

-- a text of n bytes: "Each of the two texts has a place: an offset and the length of the last piece, both 0 at first."
pub record Unsent (n : ℕ) (t : TextState) : Type 0 where
  pub whole : t.len ≡ n
  pub offset : t.cursor.offset.0 ≡ 0
  pub len : t.cursor.len ≡ 0

-- no code, this timing, a capabilities string of n bytes, a table "empty at first", and this fragment size
pub record Fresh (t : Timing) (n p : ℕ) (d : Display) : Type 0 where
  pub settings : NoCode t d.settings
  pub capabilities : Unsent n d.capabilities
  pub table : Unsent 0 d.table
  pub size : d.size ≡ p

pub record DisplayStarts (t : Timing) (n p : ℕ) (r : Changed) : Type 0 where
  -- "status bits 5 to 2 are 0"; "Timing with a reserved bit set is 18."
  pub reserved : (t.status / 4 % 16 ≡ 0 → ⊥) → r.answer ≡ 18
  -- "The capability text is at most 4,096 bytes (else 11)"
  pub long : t.status / 4 % 16 ≡ 0 → 4096 < n → r.answer ≡ 11
  -- "A piece size 1 to 32 is fixed at the start (else 18)."
  pub small : t.status / 4 % 16 ≡ 0 → n ≤ 4096 → p ≡ 0 → r.answer ≡ 18
  pub large : t.status / 4 % 16 ≡ 0 → n ≤ 4096 → 32 < p → r.answer ≡ 18
  pub otherwise : t.status / 4 % 16 ≡ 0 → n ≤ 4096 → 1 ≤ p → p ≤ 32 → r.answer ≡ 0
  pub started : r.answer ≡ 0 → Fresh t n p r.display
  -- "A refused start gives an empty board (no code, no text, timing 0, piece size 1)"
  pub refused : (r.answer ≡ 0 → ⊥) → Fresh no_timing 0 1 r.display

abbrev pub StartNumbers : StartRule → Type 0
StartNumbers start = (t : Timing) (n p : ℕ) → DisplayStarts t n p (start t n p)

-- ---- declaring

abbrev pub DeclareRule : Type 0
DeclareRule = Display → Declaration → Changed

abbrev pub DeclareRefuses : DeclareRule → Type 0
DeclareRefuses declare = (d : Display) (e : Declaration) → Sized d.settings → e.code < 256
    → Declares d.settings e (declare d e).answer (declare d e).display.settings × SameTexts d (declare d e).display
