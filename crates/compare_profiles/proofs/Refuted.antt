-- Wrong rules, and that the statement does not hold of them: nothing is written of a profile that is refused, and the place
-- is written with the number.
use mathlib.Core.Path.{◌≡◌, ap}
use mathlib.Core.List.{List, [], ◌∷◌}
use Prim.Native.Nat.{ℕ}
use native.Mathlib.Omega.{arith}
use lib.ListN.{length}
use Rattle.profile_form_rules.specs.Statements.{SomeProfile}
use Rattle.profile_form_rules.proofs.Profiles.{records_size}
use Rattle.compare_profiles.specs.Lines.{WriteRule, WritesDifferences}

-- a byte is no profile
abbrev cut : List ℕ
cut = 0x05 ∷ []

no-profile : SomeProfile cut → ⊥
no-profile p = omega (arith, records_size [] p.settings cut p.is_profile.whole)

abbrev silent : WriteRule
silent s t = []

pub silent_refuted : WritesDifferences silent → ⊥
silent_refuted h = let e : ◌≡◌ {A = ℕ} 0 11 = ap length ((h cut []).refused (λ p q. no-profile p)) in omega arith

-- " at 0" behind the number
abbrev with_place : WriteRule
with_place s t = 0x72 ∷ 0x65 ∷ 0x66 ∷ 0x75 ∷ 0x73 ∷ 0x65 ∷ 0x64 ∷ 0x20 ∷ 0x31 ∷ 0x37 ∷ 0x20 ∷ 0x61 ∷ 0x74 ∷ 0x20 ∷ 0x30 ∷ 0x0A ∷ []

pub with_place_refuted : WritesDifferences with_place → ⊥
with_place_refuted h = let e : ◌≡◌ {A = ℕ} 16 11 = ap length ((h [] cut).refused (λ p q. no-profile q)) in omega arith
