-- The settings as a function of the code: what is kept of each one. Statements.antt says in these terms what the operations do.
use Rattle.std.specs.Prelude.{ℕ, ◌≤◌, ◌≡◌, Bool, true, false, get_or, length, eqb}
use Rattle.codes.specs.Codes.{all_codes, member}
use Rattle.message_rules.specs.Message.{table_code}
use Rattle.settings_rules.specs.Settings.{momentary_type, reserved_bits}
use Rattle.settings_rules.specs.declared.Settings.{Settings}
use Rattle.settings_rules.specs.declared.Declaration.{Declaration}

-- "declared or not, readable, writable, type (0 kept, 1 momentary), continuous or not, maximum, present, saved"
pub record Entry : Type 0 where
  pub declared : Bool
  pub readable : Bool
  pub writable : Bool
  pub momentary : Bool
  pub continuous : Bool
  pub maximum : ℕ
  pub present : ℕ
  pub saved : ℕ

unfoldable pub entry_of : Settings → ℕ → Entry
entry_of s c = record {
  declared = member s.declared c;
  readable = member s.readable c;
  writable = member s.writable c;
  momentary = member s.momentary c;
  continuous = member s.continuous c;
  maximum = get_or s.maximum c 0;
  present = get_or s.present c 0;
  saved = get_or s.saved c 0;
}

-- the entry that a declaration makes
unfoldable pub entry_declared : Declaration → Entry
entry_declared d = record {
  declared = true;
  readable = d.readable;
  writable = d.writable;
  momentary = eqb d.kind momentary_type;
  continuous = d.continuous;
  maximum = d.maximum;
  present = d.present;
  saved = d.present;
}

-- an entry with another present value, and one with another saved value
unfoldable pub entry_present : Entry → ℕ → Entry
entry_present e value = record {
  declared = e.declared;
  readable = e.readable;
  writable = e.writable;
  momentary = e.momentary;
  continuous = e.continuous;
  maximum = e.maximum;
  present = value;
  saved = e.saved;
}

unfoldable pub entry_saved : Entry → ℕ → Entry
entry_saved e value = record {
  declared = e.declared;
  readable = e.readable;
  writable = e.writable;
  momentary = e.momentary;
  continuous = e.continuous;
  maximum = e.maximum;
  present = e.present;
  saved = value;
}

-- the lengths of the arrays, which every value of the struct has
pub record Sized (s : Settings) : Type 0 where
  pub declared : length s.declared ≡ 4
  pub readable : length s.readable ≡ 4
  pub writable : length s.writable ≡ 4
  pub momentary : length s.momentary ≡ 4
  pub continuous : length s.continuous ≡ 4
  pub maximum : length s.maximum ≡ all_codes
  pub present : length s.present ≡ all_codes
  pub saved : length s.saved ≡ all_codes

-- the values of a continuous code are within its maximum
pub record Within (e : Entry) : Type 0 where
  pub present : e.continuous ≡ true → e.present ≤ e.maximum
  pub saved : e.continuous ≡ true → e.saved ≤ e.maximum

-- What holds of all settings that a start, declaring, Set and Save have made: F4 is never declared, continuous values are within their maximum,
-- and the timing can be sent.
pub record Sound (s : Settings) : Type 0 where
  pub sized : Sized s
  pub table : (entry_of s table_code).declared ≡ false
  pub within : (c : ℕ) → Within (entry_of s c)
  pub timing : reserved_bits s.status ≡ 0
