-- Document 02, K4, on the form of a profile, sentence by sentence, in literal bytes and the paper's own numbers. A
-- statement takes the rule as a parameter: proofs/ proves it of Form.antt's, and refutes it of wrong ones.
use Rattle.std.specs.Prelude.{ℕ, suc, ◌+◌, ◌*◌, ◌≤◌, ◌<◌, ◌≡◌, List, [], ◌∷◌, map, length, take}
use Rattle.checksum.specs.Bytes.{Bytes}
use Rattle.profile_form_rules.specs.Form.{Judged}
use Rattle.profile_form_rules.specs.declared.Setting.{Setting}

-- ---- records

-- document 01: "length (2 bytes, little-endian, counting what follows it), kind (2 bytes, little-endian), body. Kind 1:
-- code, saved value (2 bytes, little-endian); so length 5": the bytes of a record, and what follows it
abbrev pub record_then : (code low high : ℕ) → List ℕ → List ℕ
record_then code low high rest = 0x05 ∷ 0x00 ∷ 0x01 ∷ 0x00 ∷ code ∷ low ∷ high ∷ rest

-- what it says
abbrev pub setting_said : (code low high : ℕ) → Setting
setting_said code low high = record { code = code; value = low + high * 256 }

-- the bytes s are the records of these settings, in this order, and the bytes behind them
pub data Records (behind : List ℕ) : List Setting → (s : List ℕ) → Type 0 where
  none : Records behind [] behind
  one : {code low high : ℕ} {es : List Setting} {rest : List ℕ}
      → Records behind es rest → Records behind (setting_said code low high ∷ es) (record_then code low high rest)

abbrev pub codes_of : List Setting → List ℕ
codes_of es = map (λ (e : Setting). e.code) es

-- "rising codes, no code twice": each is above those before it; the first is not below a lowest one
pub data Rising : (lowest : ℕ) → List ℕ → Type 0 where
  end : {lowest : ℕ} → Rising lowest []
  more : {lowest code : ℕ} {codes : List ℕ} → lowest ≤ code → Rising (suc code) codes → Rising lowest (code ∷ codes)

-- x stands among these
pub data Stands {A : Type 0} (x : A) : List A → Type 0 where
  here : {xs : List A} → Stands x (x ∷ xs)
  later : {y : A} {xs : List A} → Stands x xs → Stands x (y ∷ xs)

-- ---- what is accepted

abbrev pub JudgeRule : Type 0
JudgeRule = List ℕ → Judged

-- "judged by form (records, kind 1, rising codes, no code twice ..)": s is the profile of these settings
pub record IsProfile (es : List Setting) (s : List ℕ) : Type 0 where
  pub whole : Records [] es s
  pub rising : Rising 0 (codes_of es)

-- s is some profile
pub record SomeProfile (s : List ℕ) : Type 0 where
  pub settings : List Setting
  pub is_profile : IsProfile settings s

pub record AcceptsExactly (judge : JudgeRule) : Type 0 where
  -- what is accepted is a profile ..
  pub is_one : (s : List ℕ) → (judge s).answer ≡ 0 → SomeProfile s
  -- .. and every profile is accepted, with its end
  pub every : (es : List Setting) (s : List ℕ) → IsProfile es s → judge s ≡ record { answer = 0; position = record { 0 = length s } }

-- the settings are the only ones that the bytes are a profile of
abbrev pub OnlySettings : Type 0
OnlySettings = (es fs : List Setting) (s : List ℕ) → IsProfile es s → IsProfile fs s → es ≡ fs

-- a rule that reads the settings of a profile, and one that writes them
abbrev pub ReadRule : Type 0
ReadRule = List ℕ → List Setting

abbrev pub WriteRule : Type 0
WriteRule = List Setting → List ℕ

-- of a profile these settings are read, and written they are its bytes
pub record ReadAndWritten (read : ReadRule) (write : WriteRule) : Type 0 where
  pub settings : (es : List Setting) (s : List ℕ) → IsProfile es s → read s ≡ es
  pub bytes : (es : List Setting) (s : List ℕ) → Bytes s → IsProfile es s → write es ≡ s
  -- and every rising row of settings has a profile, which is what is written of it
  pub every : (es : List Setting) → Rising 0 (codes_of es) → IsProfile es (write es)

-- ---- what is refused

-- behind these settings the bytes do not go on as they should
pub data Bad (earlier : List Setting) : (bytes : List ℕ) → Type 0 where
  -- there are bytes left, and they begin with no record of kind 1
  broken : {bytes : List ℕ} → 0 < length bytes → ((code low high : ℕ) (rest : List ℕ) → bytes ≡ record_then code low high rest → ⊥) → Bad earlier bytes
  -- they begin with one whose code is not above an earlier one
  not_above : {c code low high : ℕ} {rest : List ℕ} → Stands c (codes_of earlier) → code ≤ c → Bad earlier (record_then code low high rest)

-- "else 17 at the record's start": the records before it are good, and 7 bytes each
pub record RefusedAt (s : List ℕ) (position : ℕ) : Type 0 where
  pub earlier : List Setting
  pub bytes : List ℕ
  pub before : Records bytes earlier s
  pub rising : Rising 0 (codes_of earlier)
  pub bad : Bad earlier bytes
  pub start : position ≡ 7 * length earlier

pub record FirstRefused (judge : JudgeRule) : Type 0 where
  -- what is not accepted is refused with 17 at such a place ..
  pub first : (s : List ℕ) → ((judge s).answer ≡ 0 → ⊥) → ((judge s).answer ≡ 17) × RefusedAt s (judge s).position.0
  -- .. and wherever the rule says so it is given
  pub given : (s : List ℕ) (position : ℕ) → RefusedAt s position → judge s ≡ record { answer = 17; position = record { 0 = position } }

-- ---- how long a profile is

-- a code is a byte: of bytes, a profile has at most 256 records, so 1,792 bytes
abbrev pub AtMost256 : Type 0
AtMost256 = (es : List Setting) (s : List ℕ) → Bytes s → IsProfile es s → (length es ≤ 256) × (length s ≤ 1792)

-- so whoever reads 1,793 bytes of a longer input judges it as if all were read
abbrev pub LongCut : JudgeRule → Type 0
LongCut judge = (s : List ℕ) → Bytes s → judge (take 1793 s) ≡ judge s
