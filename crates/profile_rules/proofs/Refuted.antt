-- Wrong rules for loading, and that the theorem does not hold of them: codes that cannot be written are in the
-- profile, 8 and 9 are swapped, the place is behind the bad record.
use mathlib.Core.Path.{◌≡◌, refl, ap, ◌∙◌}
use mathlib.Core.Bool.{Bool, true, false, cond, not, ◌&&◌}
use mathlib.Core.Logic.{inr}
use mathlib.Core.List.{List, [], ◌∷◌}
use Prim.Native.Nat.{ℕ, ◌+◌}
use native.Mathlib.Omega.{arith}
use lib.Dec.{eqb}
use Rattle.settings_rules.specs.Settings.{empty_settings, declare_code}
use Rattle.settings_rules.specs.Entries.{Entry, entry_of, entry_declared, Sized}
use Rattle.settings_rules.specs.declared.Settings.{Settings}
use Rattle.settings_rules.specs.declared.Declaration.{Declaration}
use Rattle.settings_rules.proofs.Theorems.{declare-accepts, declares_one, starts_with-none, empty_is_sound, declare-keeps_sound}
use Rattle.profile_rules.specs.Profile.{in_profile, profile_code, profile_codes, rising, load_profile}
use Rattle.profile_rules.specs.Statements.{code10, only10}
use Rattle.profile_form_rules.specs.Statements.{record_then}
use Rattle.profile_rules.specs.Operations.{CodesFrom, Judges, end, code, missing, LoadRule, LoadNumbers}
use Rattle.profile_rules.proofs.Rising.{rising_ext}
use Rattle.profile_rules.proofs.Example.{codes_10}
use Rattle.profile_rules.proofs.Listed.{codes_as_written}
use Rattle.profile_rules.proofs.Sentences.{judges_once}
use Rattle.profile_rules.proofs.Operations.{load-judged}

-- ---- a profile of code 11, offered to a display with code 10 alone: 8 at place 0

abbrev of11 : List ℕ
of11 = record_then 0x11 0 0 []

only10-codes : CodesFrom only10 0 (0x10 ∷ [])
only10-codes = rw codes_10 at (codes_as_written only10)

only10-sized : Sized only10
only10-sized = (declare-keeps_sound empty_settings code10 (omega arith) empty_is_sound).sized

not_next : Judges only10 (0x10 ∷ []) 0 of11 8 0
not_next = let n : ◌≡◌ {A = ℕ} 0x11 0x10 → ⊥ = λ e. omega arith in code n

-- what the right rule answers
right : ((load_profile only10 of11).answer ≡ 8) × ((load_profile only10 of11).position.0 ≡ 0)
right = judges_once only10 (0x10 ∷ []) 0 of11 _ 8 _ 0 (rw codes_10 at (load-judged only10 of11)) not_next

abbrev swaps : LoadRule
swaps s bytes = let r = load_profile s bytes in record { settings = r.settings; answer = cond (eqb r.answer 8) 9 (cond (eqb r.answer 9) 8 r.answer); position = r.position }

pub swaps_refuted : LoadNumbers swaps → ⊥
swaps_refuted h =
    let wrong = (judges_once only10 (0x10 ∷ []) 0 of11 _ 8 _ 0 (h only10 (0x10 ∷ []) of11 only10-sized only10-codes).judged not_next).0 in
    let e : ◌≡◌ {A = ℕ} 9 8 = rw right.0 at wrong in
    omega arith

abbrev places_behind : LoadRule
places_behind s bytes = let r = load_profile s bytes in record { settings = r.settings; answer = r.answer; position = record { 0 = r.position.0 + 7 } }

pub places-behind_refuted : LoadNumbers places_behind → ⊥
places-behind_refuted h =
    let wrong = (judges_once only10 (0x10 ∷ []) 0 of11 _ 8 _ 0 (h only10 (0x10 ∷ []) of11 only10-sized only10-codes).judged not_next).1 in
    omega (arith, right.1, wrong)

-- ---- an empty profile, offered to a display whose one code cannot be written: 0

abbrev read_only : Declaration
read_only = record { code = 0x10; readable = true; writable = false; kind = 0; continuous = true; maximum = 100; present = 50 }

abbrev shown10 : Settings
shown10 = (declare_code empty_settings read_only).settings

shown_sized : Sized shown10
shown_sized = (declare-keeps_sound empty_settings read_only (omega arith) empty_is_sound).sized

shown_entries : (c : ℕ) → entry_of shown10 c ≡ cond (eqb c 0x10) (entry_declared read_only) (entry_of empty_settings c)
shown_entries = declares_one empty_settings read_only empty_is_sound.sized (omega arith)
    (declare-accepts empty_settings read_only (λ e. omega arith) (starts_with-none _ 0x10) (omega arith) (inr (refl, refl)) (λ e. omega arith))

none_inside : (c : ℕ) → profile_code shown10 c ≡ false
unfolding profile_code in_profile entry_declared
none_inside c = ap in_profile (shown_entries c) ∙ go (eqb c 0x10) (starts_with-none _ c)
  where
    go : (t : Bool) → (entry_of empty_settings c).declared ≡ false → in_profile (cond t (entry_declared read_only) (entry_of empty_settings c)) ≡ false
    go true e = refl
    go false e = rw e

shown_codes : CodesFrom shown10 0 []
unfolding rising
shown_codes = rw (rising_ext (profile_code shown10) (λ (c : ℕ). false) 256 0 (λ i l h. none_inside i)) at (codes_as_written shown10)

-- settings in which every code that is readable is writable too
abbrev all_writable : Settings → Settings
all_writable s = record {
  declared = s.declared;
  readable = s.readable;
  writable = s.readable;
  momentary = s.momentary;
  continuous = s.continuous;
  maximum = s.maximum;
  present = s.present;
  saved = s.saved;
  status = s.status;
  horizontal = s.horizontal;
  vertical = s.vertical;
}

abbrev loads_read_only : LoadRule
loads_read_only s bytes = load_profile (all_writable s) bytes

one_inside : (c : ℕ) → profile_code (all_writable shown10) c ≡ eqb c 0x10
unfolding profile_code in_profile entry_of entry_declared
one_inside c = ap inside (shown_entries c) ∙ go (eqb c 0x10) (starts_with-none _ c)
  where
    inside : Entry → Bool
    inside e = e.declared && (e.readable && (e.readable && not e.momentary))

    go : (t : Bool) → (entry_of empty_settings c).declared ≡ false → inside (cond t (entry_declared read_only) (entry_of empty_settings c)) ≡ t
    go true e = refl
    go false e = rw e

writable-codes : profile_codes (all_writable shown10) ≡ 0x10 ∷ []
unfolding rising
writable-codes = rising_ext (profile_code (all_writable shown10)) (λ (c : ℕ). eqb c 0x10) 256 0 (λ i l h. one_inside i) ∙ refl

pub loads_read_only_refuted : LoadNumbers loads_read_only → ⊥
loads_read_only_refuted h =
    let says17 = (judges_once (all_writable shown10) (0x10 ∷ []) 0 [] _ 17 _ 0 (rw writable-codes at (load-judged (all_writable shown10) [])) missing).0 in
    let says0 = (judges_once shown10 [] 0 [] _ 0 _ 0 (h shown10 [] [] shown_sized shown_codes).judged end).0 in
    omega arith
