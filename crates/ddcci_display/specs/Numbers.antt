-- What the exports return, as numbers.
use Rattle.std.specs.Prelude.{ℕ, Option, Some, None}
use Rattle.display_rules.specs.State.{with_settings}
use Rattle.display_rules.specs.declared.Display.{Display}
use Rattle.profile_rules.specs.Profile.{Loaded}
use Rattle.ddcci_display.specs.declared.DisplayLoaded.{DisplayLoaded}

-- "the next declared code"; 256 where there is none
abbrev pub code_number : Option ℕ → ℕ
code_number (Some c) = c
code_number None = 256

-- loading: the display with the settings that it leaves
abbrev pub loaded_numbers : Display → Loaded → DisplayLoaded
loaded_numbers d l = record { display = with_settings d l.settings; answer = l.answer; position = l.position.0 }
