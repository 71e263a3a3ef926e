-- The worked example: a display with code 10 alone.
use mathlib.Core.Path.{◌≡◌, refl, sym, ap, ◌∙◌}
use mathlib.Core.Bool.{Bool, true, false, cond}
use mathlib.Core.List.{List, [], ◌∷◌}
use Prim.Native.Nat.{ℕ}
use native.Mathlib.Omega.{arith}
use lib.ListN.{set, replicate}
use lib.Seq.{set-set}
use lib.Dec.{eqb}
use Rattle.message_rules.specs.Answer.{done}
use Rattle.codes.specs.Codes.{all_codes, member}
use Rattle.settings_rules.specs.Settings.{empty_settings, with_declaration, declare_code, starting_settings, declaration_refused}
use Rattle.settings_rules.specs.Entries.{Entry, entry_of, entry_declared}
use Rattle.settings_rules.specs.Values.{with_value}
use Rattle.settings_rules.specs.declared.Settings.{Settings}
use Rattle.settings_rules.specs.declared.Declaration.{Declaration}
use Rattle.settings_rules.proofs.Answers.{declare-accepted}
use Rattle.settings_rules.proofs.Theorems.{declare-accepts, declares_one, starts_with-none, empty_is_sound}
use mathlib.Core.Logic.{inl}
use Rattle.records.specs.Numbers.{little_endian}
use Rattle.records.specs.Records.{begins_with}
use Rattle.profile_rules.specs.Profile.{in_profile, profile_code, profile_codes, rising, records_of, profile_of, record_answer, answer_to, judge, stored, load_as, load_profile}
use Rattle.profile_rules.specs.Statements.{code10, only10, bytes10, Profile10}
use Rattle.profile_form_rules.specs.Form.{Judged}
use Rattle.profile_rules.specs.Profile.{Loaded}
use Rattle.profile_rules.proofs.Rising.{rising_ext}

accepted : (declare_code empty_settings code10).answer ≡ done
accepted = declare-accepts empty_settings code10 (λ e. omega arith) (starts_with-none _ 0x10) (omega arith) (inl refl) (λ e. omega arith)

entries : (c : ℕ) → entry_of only10 c ≡ cond (eqb c 0x10) (entry_declared code10) (entry_of empty_settings c)
entries = declares_one empty_settings code10 empty_is_sound.sized (omega arith) accepted

-- only code 10 is in the profile
only : (c : ℕ) → profile_code only10 c ≡ eqb c 0x10
unfolding profile_code in_profile entry_declared
only c = ap in_profile (entries c) ∙ go (eqb c 0x10) (starts_with-none _ c)
  where
    go : (t : Bool) → (entry_of empty_settings c).declared ≡ false → in_profile (cond t (entry_declared code10) (entry_of empty_settings c)) ≡ t
    go true e = refl
    go false e = rw e

pub codes_10 : profile_codes only10 ≡ 0x10 ∷ []
unfolding rising
codes_10 = rising_ext (profile_code only10) (λ (c : ℕ). eqb c 0x10) all_codes 0 (λ i l h. only i) ∙ refl

written_10 : profile_of only10 ≡ bytes10
unfolding records_of entry_of entry_declared
written_10 = ap (records_of only10.saved) codes_10 ∙ ap (λ (e : Entry). 0x05 ∷ 0x00 ∷ 0x01 ∷ 0x00 ∷ 0x10 ∷ little_endian 2 e.saved) (entries 0x10)

-- storing the value that is there changes nothing
again : (s : Settings) (c v : ℕ) → set s.present c v ≡ s.present → set s.saved c v ≡ s.saved → with_value s c v ≡ s
unfolding with_value
again s c v e f = rw (e, f)

judged_10 : judge only10 (0x10 ∷ []) 0 bytes10 ≡ record { answer = done; position = record { 0 = 7 } }
unfolding judge answer_to record_answer begins_with entry_declared
judged_10 = rw (entries 0x10)

declared_as : (s : Settings) (d : Declaration) → declaration_refused (member s.declared d.code) d ≡ false → (declare_code s d).settings ≡ with_declaration s d
unfolding declare_code
declared_as s d e = rw e

made : only10 ≡ with_declaration empty_settings code10
made = declared_as empty_settings code10 (declare-accepted empty_settings code10 accepted)

stored_10 : stored only10 (0x10 ∷ []) bytes10 ≡ only10
unfolding stored with_declaration starting_settings
stored_10 = again only10 0x10 50 (twice (λ n. n.present) refl) (twice (λ n. n.saved) refl)
  where
    twice : (f : Settings → List ℕ) → f (with_declaration empty_settings code10) ≡ set (replicate all_codes 0) 0x10 50 → set (f only10) 0x10 50 ≡ f only10
    twice f e =
        let g : f only10 ≡ set (replicate all_codes 0) 0x10 50 = ap f made ∙ e in
        ap (λ (l : List ℕ). set l 0x10 50) g ∙ set-set (replicate all_codes 0) 0x10 50 50 ∙ sym g

loaded_10 : load_profile only10 bytes10 ≡ record { settings = only10; answer = done; position = record { 0 = 7 } }
unfolding load_profile load_as
loaded_10 =
    ap (λ (cs : List ℕ). load cs (judge only10 cs 0 bytes10)) codes_10
    ∙ ap (load (0x10 ∷ [])) judged_10
    ∙ ap (λ (n : Settings). record { settings = n; answer = done; position = record { 0 = 7 } }) stored_10
  where
    load : List ℕ → Judged → Loaded
    load cs j = record { settings = cond (eqb j.answer done) (stored only10 cs bytes10) only10; answer = j.answer; position = j.position }

pub profile_10 : Profile10
profile_10 = (written_10, loaded_10)
