-- Document 01, "The board", on the settings: what a start, declaring, Set and Save come to, by what is kept of each
-- code and in the paper's own numbers.
-- Each statement is of an answer and of the settings afterwards, whatever gave them: proofs/Operations.antt proves it
-- of the rules of Settings.antt, and display_rules states it of a display's start, declaring and steps.
use Rattle.std.specs.Prelude.{ℕ, ◌/◌, ◌%◌, ◌≤◌, ◌<◌, ◌≡◌, true, false}
use Rattle.settings_rules.specs.Entries.{Entry, entry_of, entry_present, entry_saved, Sized}
use Rattle.settings_rules.specs.declared.Timing.{Timing}
use Rattle.settings_rules.specs.declared.Settings.{Settings}
use Rattle.settings_rules.specs.declared.Declaration.{Declaration}
use Rattle.settings_rules.specs.Settings.{Change}

-- the timing is as it was
pub record SameTiming (s after : Settings) : Type 0 where
  pub status : after.status ≡ s.status
  pub horizontal : after.horizontal ≡ s.horizontal
  pub vertical : after.vertical ≡ s.vertical

-- ---- the start

-- what is kept of a code that was never declared
abbrev pub no_entry : Entry
no_entry = record { declared = false; readable = false; writable = false; momentary = false; continuous = false; maximum = 0; present = 0; saved = 0 }

-- "timing 0"
abbrev pub no_timing : Timing
no_timing = record { status = 0; horizontal = 0; vertical = 0 }

-- settings with no code and this timing
pub record NoCode (t : Timing) (s : Settings) : Type 0 where
  pub entries : (c : ℕ) → entry_of s c ≡ no_entry
  pub status : s.status ≡ t.status
  pub horizontal : s.horizontal ≡ t.horizontal
  pub vertical : s.vertical ≡ t.vertical

pub record Starts (t : Timing) (answer : ℕ) (after : Settings) : Type 0 where
  -- "status bits 5 to 2 are 0"; "Timing with a reserved bit set is 18."
  pub reserved : (t.status / 4 % 16 ≡ 0 → ⊥) → answer ≡ 18
  pub otherwise : t.status / 4 % 16 ≡ 0 → answer ≡ 0
  pub started : answer ≡ 0 → NoCode t after
  -- "A refused start gives an empty board (no code, .. timing 0, ..)"
  pub refused : (answer ≡ 0 → ⊥) → NoCode no_timing after

-- ---- declaring

-- a declaration that none of the paper's six refusals names
pub record Declarable (s : Settings) (d : Declaration) : Type 0 where
  pub code : d.code ≡ 0xF4 → ⊥
  pub first : (entry_of s d.code).declared ≡ false
  pub kind : d.kind ≤ 1
  pub access : d.readable ≡ false → d.writable ≡ true
  pub momentary : d.kind ≡ 1 → d.writable ≡ true
  pub within : d.continuous ≡ true → d.present ≤ d.maximum

-- what is kept of a code once it is declared
pub record DeclaredAs (d : Declaration) (e : Entry) : Type 0 where
  pub declared : e.declared ≡ true
  pub readable : e.readable ≡ d.readable
  pub writable : e.writable ≡ d.writable
  -- "type (0 kept, 1 momentary)"
  pub kept : d.kind ≡ 0 → e.momentary ≡ false
  pub momentary : d.kind ≡ 1 → e.momentary ≡ true
  pub continuous : e.continuous ≡ d.continuous
  pub maximum : e.maximum ≡ d.maximum
  pub present : e.present ≡ d.present
  -- "Saved starts equal to present."
  pub saved : e.saved ≡ d.present

pub record Declares (s : Settings) (d : Declaration) (answer : ℕ) (after : Settings) : Type 0 where
  -- "Declaring is refused (18) for F4, a code twice, a type above 1, neither readable nor writable, momentary and not
  -- writable, or continuous with present above maximum."
  pub table : d.code ≡ 0xF4 → answer ≡ 18
  pub twice : (entry_of s d.code).declared ≡ true → answer ≡ 18
  pub kind : 1 < d.kind → answer ≡ 18
  pub neither : d.readable ≡ false → d.writable ≡ false → answer ≡ 18
  pub momentary : d.kind ≡ 1 → d.writable ≡ false → answer ≡ 18
  pub above : d.continuous ≡ true → d.maximum < d.present → answer ≡ 18
  pub otherwise : Declarable s d → answer ≡ 0
  -- 18 leaves "nothing changed"
  pub refused : (answer ≡ 0 → ⊥) → after ≡ s
  pub entry : answer ≡ 0 → DeclaredAs d (entry_of after d.code)
  pub others : (c : ℕ) → (c ≡ d.code → ⊥) → entry_of after c ≡ entry_of s c
  pub timing : SameTiming s after

-- ---- Set

-- a code that is neither "undeclared, F4 or not writable"
pub record MaySet (s : Settings) (c : ℕ) : Type 0 where
  pub declared : (entry_of s c).declared ≡ true
  pub code : c ≡ 0xF4 → ⊥
  pub writable : (entry_of s c).writable ≡ true

pub record Sets (s : Settings) (c value answer : ℕ) (after : Settings) : Type 0 where
  -- "8 if undeclared, F4 or not writable"
  pub undeclared : (entry_of s c).declared ≡ false → answer ≡ 8
  pub table : c ≡ 0xF4 → answer ≡ 8
  pub read_only : (entry_of s c).writable ≡ false → answer ≡ 8
  -- "9 if continuous and above the maximum"
  pub above : MaySet s c → (entry_of s c).continuous ≡ true → (entry_of s c).maximum < value → answer ≡ 9
  pub within : MaySet s c → (entry_of s c).continuous ≡ true → value ≤ (entry_of s c).maximum → answer ≡ 0
  pub free : MaySet s c → (entry_of s c).continuous ≡ false → answer ≡ 0
  -- 8 and 9 leave "nothing changed"
  pub refused : (answer ≡ 0 → ⊥) → after ≡ s
  -- "Momentary: accepted, nothing stored."
  pub momentary : (entry_of s c).momentary ≡ true → after ≡ s
  -- "Else present is the value."
  pub stored : answer ≡ 0 → (entry_of s c).momentary ≡ false → entry_of after c ≡ entry_present (entry_of s c) value
  pub others : (b : ℕ) → (b ≡ c → ⊥) → entry_of after b ≡ entry_of s b
  pub timing : SameTiming s after

-- ---- Save

pub record Saves (s : Settings) (after : Settings) : Type 0 where
  -- "every saved value is the present one", and all else of each code is as it was
  pub saved : (c : ℕ) → entry_of after c ≡ entry_saved (entry_of s c) (entry_of s c).present
  pub timing : SameTiming s after

-- ---- the rules of Settings.antt, and any other: proofs/ refutes wrong ones

abbrev pub StartsAsWritten : (Timing → Change) → Type 0
StartsAsWritten start = (t : Timing) → Starts t (start t).answer (start t).settings

abbrev pub DeclareRule : Type 0
DeclareRule = Settings → Declaration → Change

abbrev pub DeclaresAsWritten : DeclareRule → Type 0
DeclaresAsWritten declare = (s : Settings) (d : Declaration) → Sized s → d.code < 256 → Declares s d (declare s d).answer (declare s d).settings

abbrev pub SetRule : Type 0
SetRule = Settings → (code value : ℕ) → Change

abbrev pub SetsAsWritten : SetRule → Type 0
SetsAsWritten set = (s : Settings) (c value : ℕ) → Sized s → c < 256 → Sets s c value (set s c value).answer (set s c value).settings

abbrev pub SavesAsWritten : (Settings → Settings) → Type 0
SavesAsWritten save = (s : Settings) → Saves s (save s)
