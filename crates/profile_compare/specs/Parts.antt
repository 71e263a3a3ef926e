-- What the inner functions read and leave.
use Rattle.std.specs.Prelude.{ℕ, ◌+◌, ◌<◌, ◌≡◌, Option, Some, None, List, ◌∷◌, map, length}
use Rattle.buffers.specs.Buffers.{put}
use Rattle.profile_form_rules.specs.Form.{settings_of}
use Rattle.profile_form_rules.specs.declared.Setting.{Setting}
use Rattle.profile_compare_rules.specs.Compare.{absent, Difference, differences, Room}
use Rattle.profile_compare.specs.declared.Values.{Values}

-- the list of the differences of two profiles
abbrev pub list_of : (s t : List ℕ) → List Difference
list_of s t = differences (settings_of s) (settings_of t)

-- ---- what comes next in two profiles

-- a value, or what stands for one "where absent"
abbrev pub listed : Option ℕ → ℕ
listed (Some v) = v
listed None = absent

-- the line of a code
abbrev pub line_of : Values → Difference
line_of v = record { code = v.code; first = listed v.first; second = listed v.second }

-- of the differences of s and t those of s′ and t′ are left, behind a code whose values are these
pub record Next (s t : List ℕ) (v : Values) (s′ t′ : List ℕ) : Type 0 where
  pub same : v.first ≡ v.second → list_of s t ≡ list_of s′ t′
  pub differs : (v.first ≡ v.second → ⊥) → list_of s t ≡ line_of v ∷ list_of s′ t′
  pub less : length s′ + length t′ < length s + length t

-- ---- what is left of a profile

-- settings' codes and values in two arrays from entry n on, and absent in the third: the first values where the first profile has
-- them left, the second ones where the second has
abbrev pub rest_in : (n : ℕ) → List Setting → Room → Room
rest_in n es r = record {
  codes = put r.codes n (map (λ (e : Setting). e.code) es);
  first = put r.first n (map (λ (e : Setting). e.value) es);
  second = put r.second n (map (λ (e : Setting). absent) es);
}
