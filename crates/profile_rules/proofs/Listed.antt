-- The codes of a profile by the paper's sentence are those of Profile.antt.
use mathlib.Core.Path.{◌≡◌, refl, sym, ap, ◌∙◌}
use mathlib.Core.Bool.{Bool, true, false, cond, not, ◌&&◌, true≢false}
use mathlib.Core.List.{List, ◌∷◌}
use Prim.Native.Nat.{ℕ, zero, suc, ◌+◌, ◌≤◌}
use native.Mathlib.Omega.{arith}
use borrow.Author.Tests.{not-true}
use Rattle.settings_rules.specs.Entries.{entry_of}
use Rattle.settings_rules.specs.declared.Settings.{Settings}
use Rattle.settings_rules.proofs.Answers.{both}
use Rattle.profile_rules.specs.Profile.{in_profile, profile_code, rising, profile_codes}
use Rattle.profile_rules.specs.Operations.{InProfile, CodesFrom, end, inside, outside, CodesAsWritten}

is-inside : (s : Settings) (c : ℕ) → InProfile (entry_of s c) → profile_code s c ≡ true
unfolding profile_code in_profile
is-inside s c i = rw (i.declared, i.readable, i.writable, i.kept)

pub is-outside : (s : Settings) (c : ℕ) → (InProfile (entry_of s c) → ⊥) → profile_code s c ≡ false
unfolding profile_code in_profile
is-outside s c n = go (entry_of s c).declared (entry_of s c).readable (entry_of s c).writable (entry_of s c).momentary refl refl refl refl
  where
    go : (d r w m : Bool) → (entry_of s c).declared ≡ d → (entry_of s c).readable ≡ r → (entry_of s c).writable ≡ w → (entry_of s c).momentary ≡ m
        → d && (r && (w && not m)) ≡ false
    go true true true false a b e f = absurd (n (record { declared = a; readable = b; writable = e; kept = f }))
    go true true true true a b e f = refl
    go true true false m a b e f = refl
    go true false w m a b e f = refl
    go false r w m a b e f = refl

inside_of : (s : Settings) (c : ℕ) → profile_code s c ≡ true → InProfile (entry_of s c)
unfolding profile_code in_profile
inside_of s c e =
    let a = both (entry_of s c).declared _ e in
    let b = both (entry_of s c).readable _ a.1 in
    let d = both (entry_of s c).writable _ b.1 in
    record { declared = a.0; readable = b.0; writable = d.0; kept = not-true _ d.1 }

codes_up : {s : Settings} {c : ℕ} {cs : List ℕ} → CodesFrom s c cs → c ≤ 256
codes_up end = omega arith
codes_up (inside {c} i r) = omega (arith, codes_up r)
codes_up (outside {c} i r) = omega (arith, codes_up r)

codes_are : {s : Settings} (n : ℕ) {c : ℕ} {cs : List ℕ} → CodesFrom s c cs → c + n ≡ 256 → cs ≡ rising (profile_code s) n c
unfolding rising
codes_are zero end h = refl
codes_are (suc n) end h = absurd (omega arith)
codes_are zero (inside {c} i r) h = absurd (omega (arith, codes_up r))
codes_are {s} (suc n) (inside {c} i r) h =
    rw (is-inside s c i) (ap (λ (l : List ℕ). c ∷ l) (codes_are n r (omega arith)))
codes_are zero (outside {c} i r) h = absurd (omega (arith, codes_up r))
codes_are {s} (suc n) (outside {c} i r) h =
    rw (is-outside s c i) (codes_are n r (omega arith))

pub profile-codes : {s : Settings} {cs : List ℕ} → CodesFrom s 0 cs → cs ≡ profile_codes s
profile-codes f = codes_are 256 f (omega arith)

codes-from : (s : Settings) (n c : ℕ) → c + n ≡ 256 → CodesFrom s c (rising (profile_code s) n c)
unfolding rising
codes-from s zero c h = let e : c ≡ 256 = omega arith in rw e end
codes-from s (suc n) c h = go (profile_code s c) refl (codes-from s n (suc c) (omega arith))
  where
    go : (t : Bool) → profile_code s c ≡ t → CodesFrom s (suc c) (rising (profile_code s) n (suc c))
        → CodesFrom s c (cond t (c ∷ rising (profile_code s) n (suc c)) (rising (profile_code s) n (suc c)))
    go true e r = inside (inside_of s c e) r
    go false e r = outside (λ i. true≢false (sym (is-inside s c i) ∙ e)) r

pub codes_as_written : CodesAsWritten
codes_as_written s = codes-from s 256 0 refl
