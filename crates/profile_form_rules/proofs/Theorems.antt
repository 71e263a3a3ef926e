-- The theorems of specs/Statements.antt.
use mathlib.Core.Path.{◌≡◌, refl, sym, ap, subst, ◌∙◌}
use mathlib.Core.List.{List, [], ◌∷◌, ◌++◌, append-nil}
use Prim.Native.Nat.{ℕ, zero, suc, ◌+◌, ◌-◌, ◌*◌, ◌/◌, ◌<◌}
use native.Mathlib.Omega.{arith}
use lib.ListN.{length, take, drop, take-append-drop}
use lib.Seq.{take_all}
use Rattle.checksum.specs.Bytes.{Bytes}
use Rattle.profile_form_rules.specs.Records.{record_size}
use Rattle.profile_form_rules.specs.Form.{Judged, settings_in, settings_of, bytes_of, judge_records, begun_in, judge_form}
use Rattle.profile_form_rules.specs.declared.Setting.{Setting}
use Rattle.profile_form_rules.specs.Statements.{record_then, Records, none, one, IsProfile, SomeProfile, AcceptsExactly, OnlySettings, ReadAndWritten, Bad, broken, not_above, RefusedAt, FirstRefused, AtMost256, LongCut}
use Rattle.profile_form_rules.proofs.Profiles.{records_size, records_read, records_written, written_records, lowest_after, rising-fits}
use Rattle.profile_form_rules.proofs.Judging.{accepted_at, refused_at, unfit, bad_unfit, unfit_bad, passes, Walked, all, first, walked}

-- ---- what is accepted

-- the walk over a whole profile
profile_walked : (s : List ℕ) → Walked 0 0 s (judge_form s)
unfolding judge_form
profile_walked s = walked (begun_in (length s)) 0 0 s refl

accepted-is : (s : List ℕ) → (judge_form s).answer ≡ 0 → SomeProfile s
accepted-is s h = go (judge_form s) (profile_walked s) h
  where
    go : (j : Judged) → Walked 0 0 s j → j.answer ≡ 0 → SomeProfile s
    go j (all es r i) e = record { settings = es; is_profile = record { whole = r; rising = i } }
    go j (first es bytes r i z u) e = absurd (omega arith)

every-accepted : (es : List Setting) (s : List ℕ) → IsProfile es s → judge_form s ≡ accepted_at (length s)
unfolding judge_form judge_records
every-accepted es s p =
    let size = records_size [] es s p.whole in
    let n : begun_in (length s) ≡ length es + 0 = omega arith in
    let e : 0 + 7 * length es ≡ length s = omega arith in
    ap (λ (k : ℕ). judge_records k 0 0 s) n ∙ passes 0 0 0 [] es s p.whole p.rising ∙ ap (λ (k : ℕ). accepted_at k) e

pub accepts-exactly : AcceptsExactly judge_form
accepts-exactly = record { is_one = accepted-is; every = every-accepted }

-- the settings of a profile are read and written
settings-read : (es : List Setting) (s : List ℕ) → IsProfile es s → settings_of s ≡ es
settings-read es s p =
    let n : length s / record_size ≡ length es = omega (arith, records_size [] es s p.whole) in
    ap (λ (k : ℕ). settings_in k s) n ∙ records_read [] es s p.whole

pub read_and_written : ReadAndWritten settings_of bytes_of
read_and_written = record {
  settings = settings-read;
  bytes = λ es s b p. sym (append-nil (bytes_of es)) ∙ records_written [] es s b p.whole;
  every = λ es r. record { whole = written_records es; rising = r };
}

pub only-settings : OnlySettings
only-settings es fs s p q = sym (settings-read es s p) ∙ settings-read fs s q

-- so an accepted profile is that of the settings read from it
pub accepted_profile : (s : List ℕ) → (judge_form s).answer ≡ 0 → IsProfile (settings_of s) s
accepted_profile s h = let x = accepted-is s h in subst (λ (es : List Setting). IsProfile es s) (sym (settings-read x.settings s x.is_profile)) x.is_profile

-- ---- what is refused

refused-first : (s : List ℕ) → ((judge_form s).answer ≡ 0 → ⊥) → ((judge_form s).answer ≡ 17) × RefusedAt s (judge_form s).position.0
refused-first s h = go (judge_form s) (profile_walked s) h
  where
    go : (j : Judged) → Walked 0 0 s j → (j.answer ≡ 0 → ⊥) → (j.answer ≡ 17) × RefusedAt s j.position.0
    go j (all es r i) e = absurd (e refl)
    go j (first es bytes r i z u) e = (refl, record { earlier = es; bytes = bytes; before = r; rising = i; bad = unfit_bad es bytes z u; start = omega arith })

bad-bytes : (es : List Setting) (bytes : List ℕ) → Bad es bytes → 0 < length bytes
bad-bytes es bytes (broken h n) = h
bad-bytes es bytes (not_above s l) = omega arith

refused-given : (s : List ℕ) (position : ℕ) → RefusedAt s position → judge_form s ≡ refused_at position
unfolding judge_form judge_records
refused-given s position r =
    let es = r.earlier in
    let left = r.bytes in
    let size = records_size left es s r.before in
    let some = bad-bytes es left r.bad in
    let m = begun_in (length left) - 1 in
    let n : begun_in (length s) ≡ length es + suc m = omega arith in
    let e : 0 + 7 * length es ≡ position = omega (arith, r.start) in
    ap (λ (k : ℕ). judge_records k 0 0 s) n
    ∙ passes (suc m) 0 0 left es s r.before r.rising
    ∙ rw (unfit (lowest_after 0 es) left (bad_unfit es left r.rising r.bad)) (ap (λ (k : ℕ). refused_at k) e)

pub first-refused : FirstRefused judge_form
first-refused = record { first = refused-first; given = refused-given }

-- ---- how long a profile is

pub at-most_256 : AtMost256
at-most_256 es s b p =
    let few = rising-fits [] 0 es s (omega arith) b p.whole p.rising in
    (omega arith, omega (arith, records_size [] es s p.whole))

-- the first records and a part of what follows them
records_cut : (m : ℕ) (behind : List ℕ) (es : List Setting) (s : List ℕ) → Records behind es s → Records (take m behind) es (take (7 * length es + m) s)
records_cut m behind [] s none = let e : m ≡ 7 * 0 + m = omega arith in subst (λ (n : ℕ). Records (take m behind) [] (take n behind)) e none
records_cut m behind (x ∷ es) s (one {code} {low} {high} {rest = rest} r) =
    let n = 7 * length es + m in
    let e : suc (suc (suc (suc (suc (suc (suc n)))))) ≡ 7 * suc (length es) + m = omega arith in
    subst (λ (k : ℕ). Records (take m behind) (x ∷ es) (take k (record_then code low high rest))) e (one {code = code} {low = low} {high = high} (records_cut m behind es rest r))

-- a bad continuation that is cut behind whole records and a byte is bad
bad-cut : (k : ℕ) (es : List Setting) (bytes : List ℕ) → Bad es bytes → Bad es (take (7 * k + 1) bytes)
bad-cut k es (b ∷ bytes) (broken h n) =
    let e : suc (7 * k) ≡ 7 * k + 1 = omega arith in
    let back : (b ∷ take (7 * k) bytes) ++ drop (7 * k) bytes ≡ b ∷ bytes = ap (λ (t : List ℕ). b ∷ t) (take-append-drop (7 * k) bytes) in
    subst (λ (m : ℕ). Bad es (take m (b ∷ bytes))) e
    (broken {bytes = b ∷ take (7 * k) bytes} (omega arith) (λ code low high rest z. n code low high (rest ++ drop (7 * k) bytes) (sym back ∙ ap (λ (t : List ℕ). t ++ drop (7 * k) bytes) z)))
bad-cut k es [] (broken h n) = absurd (omega arith)
bad-cut zero es bytes (not_above s l) = broken {bytes = 0x05 ∷ []} (omega arith) (λ code low high rest z. omega (arith, ap length z))
bad-cut (suc k) es bytes (not_above {c} {code} {low} {high} {rest} s l) =
    let n = 7 * k + 1 in
    let q : suc (suc (suc (suc (suc (suc (suc n)))))) ≡ 7 * suc k + 1 = omega arith in
    subst (λ (m : ℕ). Bad es (take m (record_then code low high rest))) q (not_above {c = c} s l)

-- 1,793 is 256 records and a byte
cut-refused : (s : List ℕ) (position : ℕ) → Bytes s → RefusedAt s position → RefusedAt (take 1793 s) position
cut-refused s position b r =
    let es = r.earlier in
    let few = rising-fits r.bytes 0 es s (omega arith) b r.before r.rising in
    let k = 256 - length es in
    let n : 7 * length es + (7 * k + 1) ≡ 1793 = omega arith in
    record {
      earlier = es;
      bytes = take (7 * k + 1) r.bytes;
      before = subst (λ (m : ℕ). Records (take (7 * k + 1) r.bytes) es (take m s)) n (records_cut (7 * k + 1) r.bytes es s r.before);
      rising = r.rising;
      bad = bad-cut k es r.bytes r.bad;
      start = r.start;
    }

pub long-cut : LongCut judge_form
long-cut s b = go (judge_form s) (profile_walked s) refl
  where
    go : (j : Judged) → Walked 0 0 s j → judge_form s ≡ j → judge_form (take 1793 s) ≡ judge_form s
    go j (all es r i) e =
        let few = at-most_256 es s b (record { whole = r; rising = i }) in
        ap judge_form (take_all 1793 s (omega (arith, few.1)))
    go j (first es bytes r i z u) e =
        let at = 0 + 7 * length es in
        let bad : RefusedAt s at = record { earlier = es; bytes = bytes; before = r; rising = i; bad = unfit_bad es bytes z u; start = omega arith } in
        refused-given (take 1793 s) at (cut-refused s at b bad) ∙ sym (refused-given s at bad)
