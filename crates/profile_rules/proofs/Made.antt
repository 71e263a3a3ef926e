-- Settings that calls have made are sound, whatever profiles were loaded in between, and what they write loads back.
-- Assumes nothing.
use mathlib.Core.Path.{refl}
use Rattle.settings_rules.specs.declared.Settings.{Settings}
use Rattle.settings_rules.specs.Entries.{Sound}
use Rattle.settings_rules.proofs.Theorems.{start-is_sound, declare-keeps_sound, set-keeps_sound, save-keeps_sound}
use Rattle.profile_rules.specs.Statements.{Made, started, declared, valued, saved, loaded, MadeIsSound, MadeLoadsBack}
use Rattle.profile_rules.proofs.Theorems.{written_loads, load-keeps_sound}

made : {s : Settings} → Made s → Sound s
made (started t) = start-is_sound t
made (declared {s = s} m d h) = declare-keeps_sound s d h (made m)
made (valued {s = s} m c value h) = set-keeps_sound s c value h (made m)
made (saved {s = s} m) = save-keeps_sound s (made m)
made (loaded {s = s} m bytes) = load-keeps_sound s bytes (made m)

pub made_is_sound : MadeIsSound
made_is_sound s m = made m

pub made_loads_back : MadeLoadsBack
made_loads_back s m = written_loads s s (made m) (λ c. record { declared = refl; readable = refl; writable = refl; momentary = refl; continuous = refl; maximum = refl })
