-- Records and rising codes: the settings that they say, their size, and the lowest code that may come next.
use mathlib.Core.Path.{◌≡◌, refl, ap, ap₂, subst}
use mathlib.Core.Bool.{Bool, true, false}
use mathlib.Core.List.{List, [], ◌∷◌, ◌++◌}
use Prim.Native.Nat.{ℕ, suc, ◌+◌, ◌*◌, ◌/◌, ◌%◌, ◌≤◌, ◌<◌}
use native.Mathlib.Omega.{arith}
use lib.ListN.{length}
use lib.Dec.{leb}
use borrow.Author.Tests.{leb-true, leb-false}
use Rattle.checksum.specs.Bytes.{Bytes}
use Rattle.checksum.proofs.Bytes.{bytes-at, bytes_drop}
use Rattle.records.proofs.Numbers.{low_first, low-high}
use Rattle.profile_form_rules.specs.Form.{settings_in, bytes_of}
use Rattle.profile_form_rules.specs.declared.Setting.{Setting}
use Rattle.profile_form_rules.specs.Statements.{setting_said, Records, none, one, Rising, codes_of, end, more, Stands, here, later}

-- ---- the records

-- each is 7 bytes
pub records_size : (behind : List ℕ) (es : List Setting) (s : List ℕ) → Records behind es s → length s ≡ 7 * length es + length behind
records_size behind [] s none = omega arith
records_size behind (e ∷ es) s (one {rest = rest} r) = omega (arith, records_size behind es rest r)

-- the settings that they say are read
pub records_read : (behind : List ℕ) (es : List Setting) (s : List ℕ) → Records behind es s → settings_in (length es) s ≡ es
unfolding settings_in
records_read behind [] s none = refl
records_read behind (e ∷ es) s (one {rest = rest} r) = ap (λ (t : List Setting). e ∷ t) (records_read behind es rest r)

-- and written
pub records_written : (behind : List ℕ) (es : List Setting) (s : List ℕ) → Bytes s → Records behind es s → bytes_of es ++ behind ≡ s
unfolding bytes_of
records_written behind [] s b none = refl
records_written behind (e ∷ es) s b (one {code} {low} {high} {rest = rest} r) =
    let value = low_first.two low high (bytes-at b 5) in
    ap₂ (λ (v t : List ℕ). 0x05 ∷ 0x00 ∷ 0x01 ∷ 0x00 ∷ code ∷ (v ++ t)) value (records_written behind es rest (bytes_drop 7 b) r)

-- whatever the settings, what is written of them is their records
pub written_records : (es : List Setting) → Records [] es (bytes_of es)
unfolding bytes_of
written_records [] = none
written_records (e ∷ es) =
    let v = e.value in
    let value : setting_said e.code (v % 256) (v / 256) ≡ e = ap (λ (n : ℕ). record { code = e.code; value = n }) (low-high v) in
    subst (λ (f : Setting). Records [] (f ∷ es) (bytes_of (e ∷ es))) value (one {code = e.code} {low = v % 256} {high = v / 256} (written_records es))

-- ---- the lowest code that may come next

unfoldable pub lowest_after : (lowest : ℕ) → List Setting → ℕ
lowest_after lowest [] = lowest
lowest_after lowest (e ∷ es) = lowest_after (suc e.code) es

pub lowest_up : (lowest : ℕ) (es : List Setting) → Rising lowest (codes_of es) → lowest ≤ lowest_after lowest es
unfolding lowest_after
lowest_up lowest [] end = omega arith
lowest_up lowest (e ∷ es) (more l r) = omega (arith, lowest_up (suc e.code) es r)

-- it is above every code so far ..
pub stands_below : (lowest : ℕ) (es : List Setting) (c : ℕ) → Rising lowest (codes_of es) → Stands c (codes_of es) → c < lowest_after lowest es
unfolding lowest_after
stands_below lowest [] c _ x3 = elim x3 [ ]
stands_below lowest (e ∷ es) c (more l r) here = omega (arith, lowest_up (suc c) es r)
stands_below lowest (e ∷ es) c (more l r) (later s) = stands_below (suc e.code) es c r s

-- .. and a code under it, but not under the first lowest one, is not above one of them
pub record NotAbove (code : ℕ) (codes : List ℕ) : Type 0 where
  pub other : ℕ
  pub stands : Stands other codes
  pub above : code ≤ other

pub below_stands : (lowest : ℕ) (es : List Setting) (code : ℕ) → lowest ≤ code → code < lowest_after lowest es → NotAbove code (codes_of es)
unfolding lowest_after
below_stands lowest [] code l h = absurd (omega arith)
below_stands lowest (e ∷ es) code l h = go (leb code e.code) refl (λ m. below_stands (suc e.code) es code m h)
  where
    go : (t : Bool) → leb code e.code ≡ t → (suc e.code ≤ code → NotAbove code (codes_of es)) → NotAbove code (codes_of (e ∷ es))
    go true q deeper = record { other = e.code; stands = here; above = leb-true _ _ q }
    go false q deeper = let n = deeper (leb-false _ _ q) in record { other = n.other; stands = later n.stands; above = n.above }

-- ---- how many there may be

-- codes that are bytes leave room for one record each
pub rising-fits : (behind : List ℕ) (lowest : ℕ) (es : List Setting) (s : List ℕ) → lowest ≤ 256 → Bytes s → Records behind es s → Rising lowest (codes_of es) → lowest + length es ≤ 256
rising-fits behind lowest [] s h b none end = omega arith
rising-fits behind lowest (e ∷ es) s h b (one {code} {rest = rest} r) (more l i) =
    omega (arith, bytes-at b 4, rising-fits behind (suc code) es rest (omega (arith, bytes-at b 4)) (bytes_drop 7 b) r i)
