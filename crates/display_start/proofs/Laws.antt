-- What an allowed start and an allowed declaration make of the settings.
use mathlib.Core.Path.{◌≡◌, refl}
use mathlib.Core.Bool.{Bool, true, false, cond}
use lib.Dec.{eqb}
use native.Mathlib.Omega.{arith}
use Rattle.message_rules.specs.Answer.{done, not_declarable}
use Rattle.settings_rules.specs.Settings.{Change, reserved_bits, start_with, starting_settings, empty_settings, declare_code, with_declaration}
use Rattle.settings_rules.proofs.Answers.{declare-accepted}
use Rattle.settings_rules.specs.declared.Timing.{Timing}
use Rattle.settings_rules.specs.declared.Settings.{Settings}
use Rattle.settings_rules.specs.declared.Declaration.{Declaration}

pub starts-with : (t : Timing) → (start_with t).answer ≡ done → (start_with t).settings ≡ starting_settings t
starts-with t = go (eqb (reserved_bits t.status) 0)
  where
    go : (b : Bool) → let r : Change = cond b (record { answer = done; settings = starting_settings t }) (record { answer = not_declarable; settings = empty_settings }) in
        r.answer ≡ done → r.settings ≡ starting_settings t
    go true e = refl
    go false e = absurd (omega arith)

pub declares-code : (s : Settings) (d : Declaration) → (declare_code s d).answer ≡ done → (declare_code s d).settings ≡ with_declaration s d
unfolding declare_code
declares-code s d e = rw (declare-accepted s d e)
