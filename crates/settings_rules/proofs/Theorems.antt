-- The theorems of specs/Statements.antt.
use mathlib.Core.Path.{◌≡◌, refl, sym, ap, ◌∙◌}
use mathlib.Core.Bool.{Bool, true, false, cond, not, ◌&&◌}
use Prim.Native.Nat.{ℕ, ◌≤◌, ◌<◌}
use native.Mathlib.Omega.{arith}
use lib.ListN.{get_or, length-replicate}
use lib.Dec.{eqb}
use borrow.Author.Tests.{eq-eqb, ne_eqb, eqb-true, eqb-false, le-ltb}
use Rattle.message_rules.specs.Answer.{done}
use Rattle.codes.specs.Codes.{all_codes, member, no_codes, count_of}
use Rattle.codes.proofs.Theorems.{none_inside, counts-none, counts-inserted}
use Rattle.message_rules.specs.Message.{table_code}
use Rattle.settings_rules.specs.Settings.{momentary_type, type_number, reserved_bits, starting_settings, start_with, declaration_refused, with_declaration, declare_code, answer_to_set, set_answer, with_present, set_code, save_all, get_code}
use Rattle.settings_rules.specs.Entries.{Entry, entry_of, entry_declared, entry_present, entry_saved, Within, Sound}
use Rattle.settings_rules.specs.Statements.{DeclareAccepts, SetAccepts, RefusedDeclareKeeps, RefusedSetKeeps, StartsWithNone, DeclaresOne, SetsOne, MomentarySetKeeps, SavesAll, GetsWhatWasSet, GetIsSendable, CountsTheDeclared, StartsAtNought, DeclaringCountsOne, StartIsSound, EmptyIsSound, DeclareKeepsSound, SetKeepsSound, SaveKeepsSound}
use Rattle.settings_rules.specs.declared.Timing.{Timing}
use Rattle.settings_rules.specs.declared.Settings.{Settings}
use Rattle.settings_rules.specs.declared.Declaration.{Declaration}
use Rattle.settings_rules.specs.Settings.{Feature}
use Rattle.settings_rules.proofs.Answers.{both, at_most, not_exceeding, access-allowed, Accepted, not_refused, declare-accepted, Settable, set-accepted}
use Rattle.settings_rules.proofs.Stores.{stored_at, declaration_stored, present-stored, declaration_sized, present-sized}

-- ---- what is accepted

pub declare-accepts : DeclareAccepts
unfolding declare_code declaration_refused entry_of
declare-accepts s d code fresh kind access within =
    rw (ne_eqb _ _ code, fresh, le-ltb momentary_type d.kind kind, access-allowed _ _ _ access, not_exceeding _ _ _ within)

pub set-accepts : SetAccepts
unfolding set_code set_answer answer_to_set entry_of
set-accepts s c value declared code writable within = rw (declared, ne_eqb _ _ code, writable, not_exceeding _ _ _ within)

-- ---- declaring

-- the settings after a declaration that is not refused, and after one that is
declared_as : (s : Settings) (d : Declaration) → declaration_refused (member s.declared d.code) d ≡ false → (declare_code s d).settings ≡ with_declaration s d
unfolding declare_code
declared_as s d e = rw e

refused_as : (s : Settings) (d : Declaration) → declaration_refused (member s.declared d.code) d ≡ true → (declare_code s d).settings ≡ s
unfolding declare_code
refused_as s d e = rw e

pub refused-declare-keeps : RefusedDeclareKeeps
unfolding declare_code
refused-declare-keeps s d h = go (declaration_refused (member s.declared d.code) d) refl
  where
    go : (t : Bool) → declaration_refused (member s.declared d.code) d ≡ t → (declare_code s d).settings ≡ s
    go true e = rw e
    go false e = absurd (h (rw e))

pub declares_one : DeclaresOne
declares_one s d z h a c = ap (λ (n : Settings). entry_of n c) (declared_as s d (declare-accepted s d a)) ∙ declaration_stored s d z h c

-- ---- Set

pub refused-set-keeps : RefusedSetKeeps
unfolding set_code
refused-set-keeps s c value h = rw (ne_eqb _ _ h)

pub momentary-set-keeps : MomentarySetKeeps
unfolding set_code entry_of
momentary-set-keeps s c value h = rw h (either (eqb (set_answer s c value) done))
  where
    either : (t : Bool) → cond (t && false) (with_present s c value) s ≡ s
    either true = refl
    either false = refl

-- the settings after an accepted Set of a kept code
set_as : (s : Settings) (c value : ℕ) → (set_code s c value).answer ≡ done → member s.momentary c ≡ false → (set_code s c value).settings ≡ with_present s c value
unfolding set_code
set_as s c value a m = rw (a, m)

pub sets_one : SetsOne
unfolding entry_of
sets_one s c value z h a m d = ap (λ (n : Settings). entry_of n d) (set_as s c value a m) ∙ present-stored s c value z h d

pub gets_what_was_set : GetsWhatWasSet
unfolding entry_of get_code with_present set_code
gets_what_was_set s c value z h a m r =
    ap (λ (n : Settings). get_code n c) (set_as s c value a m)
    ∙ rw ((set-accepted s c value a).declared, r, m, stored_at s.present c value 0 c (omega (arith, z.present)), eq-eqb c c refl)

pub get_is_sendable : GetIsSendable
unfolding get_code
get_is_sendable s c = go (member s.declared c && member s.readable c) (member s.momentary c)
  where
    go : (t m : Bool)
        → let f : Feature = cond t (record { result = 0; code = c; kind = type_number m; maximum = get_or s.maximum c 0; present = get_or s.present c 0 }) (record { result = 1; code = c; kind = 0; maximum = 0; present = 0 })
        in (f.code ≡ c) × (f.result ≤ 1) × (f.kind ≤ 1)
    go true true = (refl, omega arith, omega arith)
    go true false = (refl, omega arith, omega arith)
    go false m = (refl, omega arith, omega arith)

-- ---- Save

pub saves_all : SavesAll
unfolding entry_of entry_saved save_all
saves_all s c = refl

-- ---- the number declared

pub starts_with-none : StartsWithNone
unfolding entry_of starting_settings
starts_with-none t c = none_inside c

pub counts_the_declared : CountsTheDeclared
unfolding entry_of count_of
counts_the_declared s = refl

pub starts-at_nought : StartsAtNought
unfolding starting_settings
starts-at_nought t = counts-none

pub declaring-counts-one : DeclaringCountsOne
unfolding with_declaration
declaring-counts-one s d z h a =
    let e = declare-accepted s d a in
    ap (λ (n : Settings). count_of n.declared) (declared_as s d e) ∙ counts-inserted s.declared d.code z.declared h (not_refused s d e).fresh

-- ---- the invariant

-- what holds of each of two entries holds of the one chosen
chosen : (P : Entry → Type 0) (t : Bool) (a b : Entry) → (t ≡ true → P a) → (t ≡ false → P b) → P (cond t a b)
chosen P true a b f g = f refl
chosen P false a b f g = g refl

starting_sound : (t : Timing) → reserved_bits t.status ≡ 0 → Sound (starting_settings t)
unfolding starting_settings entry_of
starting_sound t h = record {
  sized = record {
    declared = refl;
    readable = refl;
    writable = refl;
    momentary = refl;
    continuous = refl;
    maximum = length-replicate {A = ℕ} all_codes 0;
    present = length-replicate {A = ℕ} all_codes 0;
    saved = length-replicate {A = ℕ} all_codes 0;
  };
  table = none_inside table_code;
  within = λ c. record { present = λ e. absurd (never c e); saved = λ e. absurd (never c e) };
  timing = h;
}
  where
    never : (c : ℕ) → member no_codes c ≡ true → ⊥
    never c e = let f = none_inside c in let z : ◌≡◌ {A = ℕ} 0 1 = cc in omega arith

pub empty_is_sound : EmptyIsSound
empty_is_sound = starting_sound _ refl

pub start-is_sound : StartIsSound
start-is_sound t = go (eqb (reserved_bits t.status) 0) refl
  where
    go : (b : Bool) → eqb (reserved_bits t.status) 0 ≡ b → Sound (start_with t).settings
    go true e = rw e (starting_sound t (eqb-true _ _ e))
    go false e = rw e empty_is_sound

-- the entry of an accepted declaration is within its maximum
made_within : (s : Settings) (d : Declaration) → Accepted s d → Within (entry_declared d)
unfolding entry_declared
made_within s d a = record { present = at_most _ _ _ a.within; saved = at_most _ _ _ a.within }

declaration_status : (s : Settings) (d : Declaration) → (with_declaration s d).status ≡ s.status
unfolding with_declaration
declaration_status s d = refl

declaration_sound : (s : Settings) (d : Declaration) → d.code < all_codes → Accepted s d → Sound s → Sound (with_declaration s d)
declaration_sound s d h a o = record {
  sized = declaration_sized s d o.sized;
  table = rw (declaration_stored s d o.sized h table_code, ne_eqb table_code d.code (λ e. eqb-false _ _ a.code (sym e))) o.table;
  within = λ c. rw (declaration_stored s d o.sized h c) (chosen Within (eqb c d.code) (entry_declared d) (entry_of s c) (λ e. made_within s d a) (λ e. o.within c));
  timing = rw (declaration_status s d) o.timing;
}

pub declare-keeps_sound : DeclareKeepsSound
declare-keeps_sound s d h o = go (declaration_refused (member s.declared d.code) d) refl
  where
    go : (t : Bool) → declaration_refused (member s.declared d.code) d ≡ t → Sound (declare_code s d).settings
    go true e = rw (refused_as s d e) o
    go false e = rw (declared_as s d e) (declaration_sound s d h (not_refused s d e) o)

-- the entry of an accepted Set is within its maximum, and the rest of what is sound does not look at present values
set-within : (s : Settings) (c value : ℕ) → Settable s c value → Within (entry_of s c) → Within (entry_present (entry_of s c) value)
unfolding entry_of entry_present
set-within s c value a w = record { present = at_most _ _ _ a.within; saved = w.saved }

present-declared : (s : Settings) (c value d : ℕ) → (entry_of (with_present s c value) d).declared ≡ (entry_of s d).declared
unfolding entry_of with_present
present-declared s c value d = refl

present-status : (s : Settings) (c value : ℕ) → (with_present s c value).status ≡ s.status
unfolding with_present
present-status s c value = refl

present_sound : (s : Settings) (c value : ℕ) → c < all_codes → Settable s c value → Sound s → Sound (with_present s c value)
present_sound s c value h a o = record {
  sized = present-sized s c value o.sized;
  table = present-declared s c value table_code ∙ o.table;
  within = λ d. rw (present-stored s c value o.sized h d) (chosen Within (eqb d c) (entry_present (entry_of s d) value) (entry_of s d)
      (λ e. rw (eqb-true d c e) (set-within s c value a (o.within c))) (λ e. o.within d));
  timing = rw (present-status s c value) o.timing;
}

pub set-keeps_sound : SetKeepsSound
unfolding set_code
set-keeps_sound s c value h o = go (eqb (set_answer s c value) done && not (member s.momentary c)) refl
  where
    go : (t : Bool) → eqb (set_answer s c value) done && not (member s.momentary c) ≡ t → Sound (set_code s c value).settings
    go true e = rw e (present_sound s c value h (set-accepted s c value (eqb-true _ _ (both _ _ e).0)) o)
    go false e = rw e o

pub save-keeps_sound : SaveKeepsSound
unfolding save_all entry_of
save-keeps_sound s o = record {
  sized = record {
    declared = o.sized.declared;
    readable = o.sized.readable;
    writable = o.sized.writable;
    momentary = o.sized.momentary;
    continuous = o.sized.continuous;
    maximum = o.sized.maximum;
    present = o.sized.present;
    saved = o.sized.present;
  };
  table = o.table;
  within = λ c. record { present = (o.within c).present; saved = (o.within c).present };
  timing = o.timing;
}
