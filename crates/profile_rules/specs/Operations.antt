-- Document 01, "Settings sheet", sentence by sentence: the codes of a profile, the bytes that are written, and how a
-- profile is judged and loaded, in literal bytes and the paper's own numbers. A statement takes the rule as a
-- parameter: proofs/ proves it of Profile.antt's, and refutes it of wrong ones.
use Rattle.std.specs.Prelude.{ℕ, suc, ◌+◌, ◌*◌, ◌/◌, ◌%◌, ◌≤◌, ◌<◌, ◌≡◌, true, false, List, [], ◌∷◌, length, get_or, take, drop}
use Rattle.settings_rules.specs.Entries.{Entry, entry_of, Sized}
use Rattle.settings_rules.specs.Operations.{SameTiming}
use Rattle.settings_rules.specs.Values.{entry_value}
use Rattle.settings_rules.specs.declared.Settings.{Settings}
use Rattle.profile_form_rules.specs.Statements.{record_then}
use Rattle.profile_rules.specs.Profile.{profile_codes, Outcome}
use Rattle.profile_rules.specs.Profile.{Loaded}

-- ---- the codes

-- "each code that is readable, writable and kept"; only a declared code is any of these
pub record InProfile (e : Entry) : Type 0 where
  pub declared : e.declared ≡ true
  pub readable : e.readable ≡ true
  pub writable : e.writable ≡ true
  pub kept : e.momentary ≡ false

-- "One for each code .., rising": cs are the codes of the profile from c on, up to 255
pub data CodesFrom (s : Settings) : (c : ℕ) → List ℕ → Type 0 where
  end : CodesFrom s 256 []
  inside : {c : ℕ} {cs : List ℕ} → InProfile (entry_of s c) → CodesFrom s (suc c) cs → CodesFrom s c (c ∷ cs)
  outside : {c : ℕ} {cs : List ℕ} → (InProfile (entry_of s c) → ⊥) → CodesFrom s (suc c) cs → CodesFrom s c cs

-- every settings have such codes, and Profile.antt's are they
abbrev pub CodesAsWritten : Type 0
CodesAsWritten = (s : Settings) → CodesFrom s 0 (profile_codes s)

-- ---- writing

-- the records of these codes, with their saved values
abbrev pub saved_records : Settings → List ℕ → List ℕ
saved_records s [] = []
saved_records s (c ∷ cs) = record_then c ((entry_of s c).saved % 256) ((entry_of s c).saved / 256) (saved_records s cs)

abbrev pub WriteRule : Type 0
WriteRule = Settings → List ℕ → Outcome

pub record WritesProfile (s : Settings) (cs out : List ℕ) (o : Outcome) : Type 0 where
  -- 1: "sheet output too short", "nothing changed"
  pub short : length out < 7 * length cs → (o.result.answer ≡ 1) × (o.result.len ≡ 0) × (o.output ≡ out)
  pub otherwise : 7 * length cs ≤ length out → (o.result.answer ≡ 0) × (o.result.len ≡ 7 * length cs)
  pub written : 7 * length cs ≤ length out → take (7 * length cs) o.output ≡ saved_records s cs
  -- "Bytes of an output beyond the reply length stay."
  pub rest : drop (7 * length cs) o.output ≡ drop (7 * length cs) out

abbrev pub WriteNumbers : WriteRule → Type 0
WriteNumbers write = (s : Settings) (cs out : List ℕ) → CodesFrom s 0 cs → WritesProfile s cs out (write s out)

-- ---- loading

-- The next codes are cs, and the bytes left start at place `at`: what the paper answers, and the place that it gives.
-- "The first bad record decides".
pub data Judges (s : Settings) : (cs : List ℕ) (at : ℕ) (bytes : List ℕ) (answer place : ℕ) → Type 0 where
  -- a record for each code, and nothing behind the last; the place is then the end
  end : {at : ℕ} → Judges s [] at [] 0 at
  -- a record of the next code with a value that it may have: the records behind it decide
  good : {c at low high k p : ℕ} {cs rest : List ℕ} → ((entry_of s c).continuous ≡ true → low + high * 256 ≤ (entry_of s c).maximum)
      → Judges s cs (at + 7) rest k p → Judges s (c ∷ cs) at (record_then c low high rest) k p
  -- "cut, length or kind wrong 17": the bytes begin with no record of kind 1
  broken : {c at : ℕ} {cs bytes : List ℕ} → ((code low high : ℕ) (rest : List ℕ) → bytes ≡ record_then code low high rest → ⊥)
      → Judges s (c ∷ cs) at bytes 17 at
  -- "not the next code 8"
  code : {c b at low high : ℕ} {cs rest : List ℕ} → (b ≡ c → ⊥) → Judges s (c ∷ cs) at (record_then b low high rest) 8 at
  -- "value 9"
  value : {c at low high : ℕ} {cs rest : List ℕ} → (entry_of s c).continuous ≡ true → (entry_of s c).maximum < low + high * 256
      → Judges s (c ∷ cs) at (record_then c low high rest) 9 at
  -- "any bytes after the last code's record .. 17"
  extra : {at b : ℕ} {rest : List ℕ} → Judges s [] at (b ∷ rest) 17 at
  -- "or too few records, 17. The place is .. the end of the sheet when records are missing."
  missing : {c at : ℕ} {cs : List ℕ} → Judges s (c ∷ cs) at [] 17 at

-- one answer at one place
abbrev pub JudgesOnce : Type 0
JudgesOnce = (s : Settings) (cs : List ℕ) (at : ℕ) (bytes : List ℕ) (k l p q : ℕ) → Judges s cs at bytes k p → Judges s cs at bytes l q → (k ≡ l) × (p ≡ q)

abbrev pub LoadRule : Type 0
LoadRule = Settings → List ℕ → Loaded

pub record Loads (s : Settings) (cs bytes : List ℕ) (r : Loaded) : Type 0 where
  pub judged : Judges s cs 0 bytes r.answer r.position.0
  -- "Loading sets present and saved of all the sheet's codes": of code i of the profile, to the value of record i
  pub stored : r.answer ≡ 0 → (i : ℕ) → i < length cs
      → entry_of r.settings (get_or cs i 0) ≡ entry_value (entry_of s (get_or cs i 0)) (get_or bytes (7 * i + 5) 0 + get_or bytes (7 * i + 6) 0 * 256)
  pub others : (c : ℕ) → c < 256 → (InProfile (entry_of s c) → ⊥) → entry_of r.settings c ≡ entry_of s c
  pub timing : SameTiming s r.settings
  -- "or changes nothing"
  pub refused : (r.answer ≡ 0 → ⊥) → r.settings ≡ s

abbrev pub LoadNumbers : LoadRule → Type 0
LoadNumbers load = (s : Settings) (cs bytes : List ℕ) → Sized s → CodesFrom s 0 cs → Loads s cs bytes (load s bytes)
