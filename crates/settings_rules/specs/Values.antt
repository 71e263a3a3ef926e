-- Document 01, "Settings sheet": loading a profile sets present and saved of a code together.
use Rattle.std.specs.Prelude.{ℕ, set}
use Rattle.settings_rules.specs.Entries.{Entry}
use Rattle.settings_rules.specs.declared.Settings.{Settings}

-- the settings with another value of one code, present and saved
unfoldable pub with_value : Settings → ℕ → ℕ → Settings
with_value s c value = record {
  declared = s.declared;
  readable = s.readable;
  writable = s.writable;
  momentary = s.momentary;
  continuous = s.continuous;
  maximum = s.maximum;
  present = set s.present c value;
  saved = set s.saved c value;
  status = s.status;
  horizontal = s.horizontal;
  vertical = s.vertical;
}

-- an entry with another value, present and saved
unfoldable pub entry_value : Entry → ℕ → Entry
entry_value e value = record {
  declared = e.declared;
  readable = e.readable;
  writable = e.writable;
  momentary = e.momentary;
  continuous = e.continuous;
  maximum = e.maximum;
  present = value;
  saved = value;
}
