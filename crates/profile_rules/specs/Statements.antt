-- What the definitions of Profile.antt come to. proofs/Theorems.antt proves each.
use Rattle.std.specs.Prelude.{ℕ, ◌+◌, ◌*◌, ◌<◌, ◌≡◌, true, cond, List, [], ◌∷◌, ◌++◌, length, take}
use Rattle.checksum.specs.Bytes.{Bytes}
use Rattle.message_rules.specs.Answer.{done, broken_record}
use Rattle.codes.specs.Codes.{all_codes}
use Rattle.settings_rules.specs.Settings.{empty_settings, start_with, declare_code, set_code, save_all}
use Rattle.settings_rules.specs.Entries.{Entry, entry_of, Sized, Sound}
use Rattle.settings_rules.specs.Values.{entry_value}
use Rattle.settings_rules.specs.declared.Settings.{Settings}
use Rattle.settings_rules.specs.declared.Declaration.{Declaration}
use Rattle.settings_rules.specs.declared.Timing.{Timing}
use Rattle.profile_form_rules.specs.Records.{record_size}
use Rattle.profile_rules.specs.Profile.{profile_code, profile_codes, profile_of, judge_profile, load_profile}

-- ---- the profile

-- one record of 7 bytes for each code of the profile
abbrev pub OneRecordEach : Type 0
OneRecordEach = (s : Settings) → length (profile_of s) ≡ record_size * length (profile_codes s)

-- ---- what was written loads

-- two entries that were declared alike: they may differ in their values
pub record Alike (e f : Entry) : Type 0 where
  pub declared : e.declared ≡ f.declared
  pub readable : e.readable ≡ f.readable
  pub writable : e.writable ≡ f.writable
  pub momentary : e.momentary ≡ f.momentary
  pub continuous : e.continuous ≡ f.continuous
  pub maximum : e.maximum ≡ f.maximum

-- the profile of settings s loads into settings t that were declared alike: s itself at any later time
abbrev pub WrittenLoads : Type 0
WrittenLoads = (s t : Settings) → Sound s → ((c : ℕ) → Alike (entry_of s c) (entry_of t c)) → (load_profile t (profile_of s)).answer ≡ done

-- then present and saved of the profile's codes are the saved values of s, and all other entries are as they were
abbrev pub WrittenComesBack : Type 0
WrittenComesBack = (s t : Settings) → Sound s → Sized t → ((c : ℕ) → Alike (entry_of s c) (entry_of t c)) → (c : ℕ) → c < all_codes
    → entry_of (load_profile t (profile_of s)).settings c ≡ cond (profile_code t c) (entry_value (entry_of t c) (entry_of s c).saved) (entry_of t c)

-- ---- what loads was written

-- a profile that is accepted is what the settings then write
abbrev pub LoadedWrites : Type 0
LoadedWrites = (s : Settings) (bytes : List ℕ) → Sized s → Bytes bytes → (load_profile s bytes).answer ≡ done
    → profile_of (load_profile s bytes).settings ≡ bytes

-- an accepted profile sets present and saved of each of its codes alike, and leaves all else
abbrev pub LoadSetsBoth : Type 0
LoadSetsBoth = (s : Settings) (bytes : List ℕ) → Sized s → (load_profile s bytes).answer ≡ done → (c : ℕ) → c < all_codes
    → let after = entry_of (load_profile s bytes).settings c in
    after ≡ cond (profile_code s c) (entry_value (entry_of s c) after.saved) (entry_of s c)

-- ---- all or nothing

abbrev pub RefusedLoadKeeps : Type 0
RefusedLoadKeeps = (s : Settings) (bytes : List ℕ) → ((load_profile s bytes).answer ≡ done → ⊥) → (load_profile s bytes).settings ≡ s

-- ---- where a profile is refused

-- bytes behind a whole profile: 17 at their start, which is 7 times the number of codes
abbrev pub ExtraBytesRefused : Type 0
ExtraBytesRefused = (s : Settings) → Sound s → (b : ℕ) (more : List ℕ)
    → judge_profile s (profile_of s ++ (b ∷ more)) ≡ record { answer = broken_record; position = record { 0 = record_size * length (profile_codes s) } }

-- a profile that ends early: 17 at the start of the record that is cut, and at the end of the profile where it ends with a record
abbrev pub ShortProfileRefused : Type 0
ShortProfileRefused = (s : Settings) → Sound s → (k r : ℕ) → k < length (profile_codes s) → r < record_size
    → judge_profile s (take (record_size * k + r) (profile_of s)) ≡ record { answer = broken_record; position = record { 0 = record_size * k } }

-- ---- the invariant

abbrev pub LoadKeepsSound : Type 0
LoadKeepsSound = (s : Settings) (bytes : List ℕ) → Sound s → Sound (load_profile s bytes).settings

-- settings that a start, refused or not, then declaring, Set, Save and loading have made, in any order
pub data Made : Settings → Type 0 where
  started : (t : Timing) → Made (start_with t).settings
  declared : {s : Settings} → Made s → (d : Declaration) → d.code < all_codes → Made (declare_code s d).settings
  valued : {s : Settings} → Made s → (c value : ℕ) → c < all_codes → Made (set_code s c value).settings
  saved : {s : Settings} → Made s → Made (save_all s)
  loaded : {s : Settings} → Made s → (bytes : List ℕ) → Made (load_profile s bytes).settings

-- on all of them continuous values, present and saved, are within their maximum
abbrev pub MadeIsSound : Type 0
MadeIsSound = (s : Settings) → Made s → Sound s

-- so what they write loads back into them
abbrev pub MadeLoadsBack : Type 0
MadeLoadsBack = (s : Settings) → Made s → (load_profile s (profile_of s)).answer ≡ done

-- ---- the worked example

-- "Sheet of code 10 at 50: 05 00 01 00 10 32 00"
abbrev pub code10 : Declaration
code10 = record { code = 0x10; readable = true; writable = true; kind = 0; continuous = true; maximum = 100; present = 50 }

-- the settings of that display
abbrev pub only10 : Settings
only10 = (declare_code empty_settings code10).settings

abbrev pub bytes10 : List ℕ
bytes10 = 0x05 ∷ 0x00 ∷ 0x01 ∷ 0x00 ∷ 0x10 ∷ 0x32 ∷ 0x00 ∷ []

-- the profile is written as these bytes, and these bytes load and leave the settings, which have these values, as they were
abbrev pub Profile10 : Type 0
Profile10 = (profile_of only10 ≡ bytes10) × (load_profile only10 bytes10 ≡ record { settings = only10; answer = done; position = record { 0 = 7 } })
