-- What the functions return, read in the terms of Settings.antt.
use Rattle.std.specs.Prelude.{ℕ, true, false, Result, Ok, Err, Option, Some, None}
use Rattle.message_rules.specs.Answer.{done}
use Rattle.message_rules.specs.Refusal.{number_of}
use Rattle.message_rules.specs.declared.refusal.Refusal.{Refusal}
use Rattle.settings_rules.specs.Settings.{Change, Feature, Judgement, empty_settings, type_number}
use Rattle.settings_rules.specs.declared.Settings.{Settings}
use Rattle.settings_rules.specs.declared.Accepted.{Accepted}
use Rattle.settings_rules.specs.declared.Accepted.TheVariants.{Stored, Momentary}
use Rattle.settings_rules.specs.declared.Shown.{Shown}

-- the settings of a start; "A refused start gives an empty board"
abbrev pub started_as : Result Settings Refusal → Change
started_as (Ok s) = record { answer = done; settings = s }
started_as (Err r) = record { answer = number_of r; settings = empty_settings }

-- the settings with a code declared; a declaration that is refused leaves those that there were
abbrev pub declared_as : Settings → Result Settings Refusal → Change
declared_as s (Ok t) = record { answer = done; settings = t }
declared_as s (Err r) = record { answer = number_of r; settings = s }

-- a Set that is accepted, stored or not, or its refusal's number
abbrev pub judgement_of : Result Accepted Refusal → Judgement
judgement_of (Ok Stored) = record { answer = done; stored = true }
judgement_of (Ok Momentary) = record { answer = done; stored = false }
judgement_of (Err r) = record { answer = number_of r; stored = false }

-- "A code undeclared or not readable gives result 1 with type, max and present 0."
abbrev pub feature_of : (code : ℕ) → Option Shown → Feature
feature_of c (Some v) = record { result = 0; code = c; kind = type_number v.momentary; maximum = v.maximum; present = v.present }
feature_of c None = record { result = 1; code = c; kind = 0; maximum = 0; present = 0 }
