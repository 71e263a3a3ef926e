-- What the inner functions do.
use Rattle.std.specs.Prelude.{ℕ, zero, suc, List, [], ◌∷◌, get_or, drop}
use Rattle.std.specs.Int.Bits.{bit_and, bit_or, bit_xor}
use Rattle.settings_rules.specs.Values.{with_value}
use Rattle.settings_rules.specs.declared.Settings.{Settings}
use Rattle.profile_form_rules.specs.Records.{record_size, code_in, value_in}

-- word i of the set of those codes that are in the sets d, r and w and not in m: the bits of m are set, and turned over after that
unfoldable pub profile_word : (d r w m : List ℕ) → ℕ → ℕ
profile_word d r w m i = bit_xor (bit_or (bit_and (bit_and (get_or d i 0) (get_or r i 0)) (get_or w i 0)) (get_or m i 0)) (get_or m i 0)

unfoldable pub profile_words : (d r w m : List ℕ) → List ℕ
profile_words d r w m = profile_word d r w m 0 ∷ profile_word d r w m 1 ∷ profile_word d r w m 2 ∷ profile_word d r w m 3 ∷ []

-- the settings with the values of the first n records, each at the code that it names
unfoldable pub stored_records : ℕ → Settings → List ℕ → Settings
stored_records zero s bytes = s
stored_records (suc n) s bytes = stored_records n (with_value s (code_in bytes) (value_in bytes)) (drop record_size bytes)
