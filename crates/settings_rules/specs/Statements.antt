-- What the definitions of Settings.antt come to. proofs/Theorems.antt proves each.
use Rattle.std.specs.Prelude.{ℕ, ◌+◌, ◌≤◌, ◌<◌, ◌≡◌, true, false, cond, ◌⊎◌, eqb}
use Rattle.message_rules.specs.Answer.{done}
use Rattle.codes.specs.Codes.{all_codes, how_many, count_of}
use Rattle.message_rules.specs.Message.{table_code}
use Rattle.settings_rules.specs.Settings.{momentary_type, starting_settings, empty_settings, start_with, declare_code, set_code, save_all, get_code}
use Rattle.settings_rules.specs.Entries.{entry_of, entry_declared, entry_present, entry_saved, Sized, Sound}
use Rattle.settings_rules.specs.declared.Timing.{Timing}
use Rattle.settings_rules.specs.declared.Settings.{Settings}
use Rattle.settings_rules.specs.declared.Declaration.{Declaration}

-- ---- what is accepted

-- every declaration is accepted that none of the refusals names
abbrev pub DeclareAccepts : Type 0
DeclareAccepts = (s : Settings) (d : Declaration) → (d.code ≡ table_code → ⊥) → (entry_of s d.code).declared ≡ false → d.kind ≤ momentary_type
    → (d.writable ≡ true) ⊎ ((d.readable ≡ true) × (d.kind ≡ 0)) → (d.continuous ≡ true → d.present ≤ d.maximum)
    → (declare_code s d).answer ≡ done

-- every Set is accepted of a declared and writable code other than F4, to a value within a continuous maximum
abbrev pub SetAccepts : Type 0
SetAccepts = (s : Settings) (c value : ℕ) → (entry_of s c).declared ≡ true → (c ≡ table_code → ⊥) → (entry_of s c).writable ≡ true
    → ((entry_of s c).continuous ≡ true → value ≤ (entry_of s c).maximum) → (set_code s c value).answer ≡ done

-- ---- a refusal leaves "nothing changed"

abbrev pub RefusedDeclareKeeps : Type 0
RefusedDeclareKeeps = (s : Settings) (d : Declaration) → ((declare_code s d).answer ≡ done → ⊥) → (declare_code s d).settings ≡ s

abbrev pub RefusedSetKeeps : Type 0
RefusedSetKeeps = (s : Settings) (c value : ℕ) → ((set_code s c value).answer ≡ done → ⊥) → (set_code s c value).settings ≡ s

-- ---- what each operation does to what is kept of each code

-- at a start no code is declared
abbrev pub StartsWithNone : Type 0
StartsWithNone = (t : Timing) (c : ℕ) → (entry_of (starting_settings t) c).declared ≡ false

-- declaring makes the entry of its code and keeps all others
abbrev pub DeclaresOne : Type 0
DeclaresOne = (s : Settings) (d : Declaration) → Sized s → d.code < all_codes → (declare_code s d).answer ≡ done → (c : ℕ)
    → entry_of (declare_code s d).settings c ≡ cond (eqb c d.code) (entry_declared d) (entry_of s c)

-- an accepted Set of a kept code changes its present value and nothing else; one of a momentary code changes nothing
abbrev pub SetsOne : Type 0
SetsOne = (s : Settings) (c value : ℕ) → Sized s → c < all_codes → (set_code s c value).answer ≡ done → (entry_of s c).momentary ≡ false → (d : ℕ)
    → entry_of (set_code s c value).settings d ≡ cond (eqb d c) (entry_present (entry_of s d) value) (entry_of s d)

abbrev pub MomentarySetKeeps : Type 0
MomentarySetKeeps = (s : Settings) (c value : ℕ) → (entry_of s c).momentary ≡ true → (set_code s c value).settings ≡ s

-- after Save every saved value is the present one, and all else is as it was
abbrev pub SavesAll : Type 0
SavesAll = (s : Settings) (c : ℕ) → entry_of (save_all s) c ≡ entry_saved (entry_of s c) (entry_of s c).present

-- what Get answers after an accepted Set of a kept code that is readable
abbrev pub GetsWhatWasSet : Type 0
GetsWhatWasSet = (s : Settings) (c value : ℕ) → Sized s → c < all_codes → (set_code s c value).answer ≡ done → (entry_of s c).momentary ≡ false
    → (entry_of s c).readable ≡ true
    → get_code (set_code s c value).settings c ≡ record { result = 0; code = c; kind = 0; maximum = (entry_of s c).maximum; present = value }

-- Get always answers for its code, with a result and a type that a Value reply can carry
abbrev pub GetIsSendable : Type 0
GetIsSendable = (s : Settings) (c : ℕ) → ((get_code s c).code ≡ c) × ((get_code s c).result ≤ 1) × ((get_code s c).kind ≤ 1)

-- ---- the number declared

-- the count of the set is the number of codes that are declared: 0 at a start, and one more for each accepted declaration
abbrev pub CountsTheDeclared : Type 0
CountsTheDeclared = (s : Settings) → count_of s.declared ≡ how_many (λ (c : ℕ). (entry_of s c).declared) all_codes

abbrev pub StartsAtNought : Type 0
StartsAtNought = (t : Timing) → count_of (starting_settings t).declared ≡ 0

abbrev pub DeclaringCountsOne : Type 0
DeclaringCountsOne = (s : Settings) (d : Declaration) → Sized s → d.code < all_codes → (declare_code s d).answer ≡ done
    → count_of (declare_code s d).settings.declared ≡ count_of s.declared + 1

-- ---- the invariant: every start makes sound settings, refused or not, and every operation keeps them so

abbrev pub StartIsSound : Type 0
StartIsSound = (t : Timing) → Sound (start_with t).settings

abbrev pub EmptyIsSound : Type 0
EmptyIsSound = Sound empty_settings

abbrev pub DeclareKeepsSound : Type 0
DeclareKeepsSound = (s : Settings) (d : Declaration) → d.code < all_codes → Sound s → Sound (declare_code s d).settings

abbrev pub SetKeepsSound : Type 0
SetKeepsSound = (s : Settings) (c value : ℕ) → c < all_codes → Sound s → Sound (set_code s c value).settings

abbrev pub SaveKeepsSound : Type 0
SaveKeepsSound = (s : Settings) → Sound s → Sound (save_all s)
