-- Wrong rules, each against one sentence of "The board" on the settings, and that specs/Operations.antt does not hold of them.
use mathlib.Core.Path.{◌≡◌, refl, ap, ◌∙◌}
use mathlib.Core.Bool.{true, cond}
use mathlib.Core.Logic.{inl}
use Prim.Native.Nat.{ℕ, ◌<◌}
use native.Mathlib.Omega.{arith}
use lib.Dec.{ltb}
use Rattle.message_rules.specs.Answer.{done}
use Rattle.settings_rules.specs.Settings.{empty_settings, declare_code, with_present}
use Rattle.settings_rules.specs.Entries.{Entry, entry_of, entry_declared, entry_present, Sized}
use Rattle.settings_rules.specs.Operations.{DeclareRule, DeclaresAsWritten, SetRule, SetsAsWritten}
use Rattle.settings_rules.specs.declared.Settings.{Settings}
use Rattle.settings_rules.specs.declared.Declaration.{Declaration}
use Rattle.settings_rules.proofs.Stores.{present-stored}
use Rattle.settings_rules.proofs.Theorems.{empty_is_sound, starts_with-none, declare-accepts, declares_one, declare-keeps_sound}

-- ---- settings with one continuous code, 10, of which the maximum is 5

abbrev ten : (present : ℕ) → Declaration
ten n = record { code = 0x10; readable = true; writable = true; kind = 0; continuous = true; maximum = 5; present = n }

abbrev one : (present : ℕ) → Settings
one n = (declare_code empty_settings (ten n)).settings

one-accepted : (n : ℕ) → n < 6 → (declare_code empty_settings (ten n)).answer ≡ done
one-accepted n h = declare-accepts empty_settings (ten n) (λ e. omega arith) (starts_with-none _ 0x10) (omega arith) (inl refl) (λ e. omega arith)

one_entry : (n : ℕ) → n < 6 → entry_of (one n) 0x10 ≡ entry_declared (ten n)
one_entry n h = declares_one empty_settings (ten n) empty_is_sound.sized (omega arith) (one-accepted n h) 0x10

one-sized : (n : ℕ) → Sized (one n)
one-sized n = (declare-keeps_sound empty_settings (ten n) (omega arith) empty_is_sound).sized

-- ---- "9 if continuous and above the maximum": a Set to the maximum itself is refused

abbrev refuses_maximum : SetRule
refuses_maximum s c v = record { answer = cond (ltb v (entry_of s c).maximum) 0 9; settings = s }

pub refuses-maximum_refuted : SetsAsWritten refuses_maximum → ⊥
unfolding entry_declared
refuses-maximum_refuted h =
    let e = one_entry 3 (omega arith) in
    let told : (refuses_maximum (one 3) 0x10 5).answer ≡ 0 =
    (h (one 3) 0x10 5 (one-sized 3) (omega arith)).within
    (record { declared = ap (λ (x : Entry). x.declared) e; code = λ z. omega arith; writable = ap (λ (x : Entry). x.writable) e })
    (ap (λ (x : Entry). x.continuous) e)
    (rw e (omega arith)) in
    let given : (refuses_maximum (one 3) 0x10 5).answer ≡ 9 = ap (λ (x : Entry). cond (ltb 5 x.maximum) 0 9) e in
    omega arith

-- ---- "Saved starts equal to present.": it starts at 0

abbrev saved_at_nought : DeclareRule
saved_at_nought s d = record {
  answer = (declare_code s d).answer;
  settings = with_present (declare_code s (record { code = d.code; readable = d.readable; writable = d.writable; kind = d.kind; continuous = d.continuous; maximum = d.maximum; present = 0 })).settings d.code d.present;
}

pub saved-at_nought_refuted : DeclaresAsWritten saved_at_nought → ⊥
unfolding entry_declared entry_present
saved-at_nought_refuted h =
    let told : (entry_of (saved_at_nought empty_settings (ten 3)).settings 0x10).saved ≡ 3 =
    ((h empty_settings (ten 3) empty_is_sound.sized (omega arith)).entry (one-accepted 3 (omega arith))).saved in
    let stored : entry_of (saved_at_nought empty_settings (ten 3)).settings 0x10 ≡ entry_present (entry_of (one 0) 0x10) 3 = present-stored (one 0) 0x10 3 (one-sized 0) (omega arith) 0x10 in
    let kept : (entry_of (saved_at_nought empty_settings (ten 3)).settings 0x10).saved ≡ 0 =
    ap (λ (x : Entry). x.saved) stored ∙ ap (λ (x : Entry). x.saved) (one_entry 0 (omega arith)) in
    omega arith
