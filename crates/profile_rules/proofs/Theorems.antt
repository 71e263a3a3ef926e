-- The theorems of specs/Statements.antt.
use mathlib.Core.Path.{◌≡◌, refl, sym, ap, ap₂, ◌∙◌}
use mathlib.Core.Bool.{Bool, true, false, cond}
use mathlib.Core.List.{List, [], ◌∷◌, ◌++◌, append-nil}
use Prim.Native.Nat.{ℕ, zero, suc, ◌+◌, ◌*◌, ◌≤◌}
use native.Mathlib.Omega.{arith}
use lib.ListN.{length, get_or, take, drop, take-append-drop, length-take, length-drop}
use lib.Seq.{take-append-add, length-take-le}
use lib.Dec.{eqb}
use borrow.Author.Tests.{eqb-true, ne_eqb}
use Rattle.message_rules.specs.Answer.{done, broken_record}
use Rattle.codes.specs.Codes.{all_codes}
use Rattle.settings_rules.specs.Settings.{exceeds_maximum}
use Rattle.settings_rules.specs.Entries.{entry_of, Sound}
use Rattle.settings_rules.specs.Values.{entry_value}
use Rattle.settings_rules.specs.declared.Settings.{Settings}
use Rattle.settings_rules.proofs.Answers.{not_exceeding}
use Rattle.profile_form_rules.specs.Records.{value_record, record_size}
use Rattle.profile_rules.specs.Profile.{in_profile, profile_code, profile_codes, records_of, profile_of, judge, judge_profile, stored, load_as, load_profile}
use Rattle.profile_rules.specs.Statements.{OneRecordEach, Alike, WrittenLoads, WrittenComesBack, LoadedWrites, LoadSetsBoth, RefusedLoadKeeps, ExtraBytesRefused, ShortProfileRefused, LoadKeepsSound}
use Rattle.profile_form_rules.specs.Form.{Judged}
use Rattle.profile_rules.proofs.Records.{records_length}
use Rattle.profile_rules.proofs.Rising.{rising_ext, rising_rises, has_rising}
use Rattle.profile_rules.proofs.Judging.{judge_alike, judge-records, judge-cut}
use Rattle.profile_rules.proofs.Storing.{stored_alike, stored-records, stored_both, stored-written, stored_sound}

pub one-record_each : OneRecordEach
one-record_each s = records_length s.saved (profile_codes s)

-- ---- settings declared alike have the same profile codes

code_alike : (s t : Settings) (c : ℕ) → Alike (entry_of s c) (entry_of t c) → profile_code s c ≡ profile_code t c
unfolding profile_code in_profile
code_alike s t c a = rw (a.declared, a.readable, a.writable, a.momentary)

pub codes_alike : (s t : Settings) → ((c : ℕ) → Alike (entry_of s c) (entry_of t c)) → profile_codes s ≡ profile_codes t
codes_alike s t a = rising_ext (profile_code s) (profile_code t) all_codes 0 (λ i l h. code_alike s t i (a i))

-- ---- what was written loads

-- the saved values of sound settings are within the maxima
saved-within : (s : Settings) → Sound s → (c : ℕ) → exceeds_maximum (entry_of s c).continuous (entry_of s c).maximum (get_or s.saved c 0) ≡ false
unfolding entry_of
saved-within s o c = not_exceeding _ _ _ (o.within c).saved

-- the records of sound settings are passed, whatever follows
passed : (s : Settings) → Sound s → (rest : List ℕ) → judge_profile s (profile_of s ++ rest) ≡ judge s [] (record_size * length (profile_codes s)) rest
passed s o rest =
    ap (λ (cs : List ℕ). judge s cs 0 (profile_of s ++ rest)) (sym (append-nil (profile_codes s)))
    ∙ judge-records s s.saved (profile_codes s) [] 0 rest (saved-within s o)
    ∙ ap (λ (n : ℕ). judge s [] n rest) (omega arith)

own_accepted : (s : Settings) → Sound s → (judge_profile s (profile_of s)).answer ≡ done
unfolding judge
own_accepted s o = ap (λ (b : List ℕ). (judge_profile s b).answer) (sym (append-nil (profile_of s))) ∙ ap (λ (j : Judged). j.answer) (passed s o [])

-- loading into settings that were declared alike judges as the settings themselves would
alike_accepted : (s t : Settings) → Sound s → ((c : ℕ) → Alike (entry_of s c) (entry_of t c)) → (judge_profile t (profile_of s)).answer ≡ done
alike_accepted s t o a =
    ap (λ (cs : List ℕ). (judge t cs 0 (profile_of s)).answer) (sym (codes_alike s t a))
    ∙ ap (λ (j : Judged). j.answer) (sym (judge_alike s t (profile_codes s) 0 (profile_of s) a))
    ∙ own_accepted s o

pub written_loads : WrittenLoads
unfolding load_profile load_as
written_loads s t o a = alike_accepted s t o a

-- the settings after a profile that is accepted, and after one that is not
pub accepted_as : (s : Settings) (bytes : List ℕ) → (judge_profile s bytes).answer ≡ done → (load_profile s bytes).settings ≡ stored s (profile_codes s) bytes
unfolding load_profile load_as
accepted_as s bytes e = rw e

pub refused-load-keeps : RefusedLoadKeeps
unfolding load_profile load_as
refused-load-keeps s bytes h = rw (ne_eqb _ _ h)

saved-is : (s : Settings) (c : ℕ) → get_or s.saved c 0 ≡ (entry_of s c).saved
unfolding entry_of
saved-is s c = refl

pub written-comes-back : WrittenComesBack
written-comes-back s t o z a c h =
    ap (λ (n : Settings). entry_of n c) (accepted_as t (profile_of s) (alike_accepted s t o a))
    ∙ ap (λ (b : List ℕ). entry_of (stored t (profile_codes t) b) c) (ap (records_of s.saved) (codes_alike s t a) ∙ sym (append-nil (records_of s.saved (profile_codes t))))
    ∙ stored-records t s.saved [] c (rising_rises (profile_code t) all_codes 0 (omega arith)) z
    ∙ ap₂ (λ (b : Bool) (v : ℕ). cond b (entry_value (entry_of t c) v) (entry_of t c)) (has_rising (profile_code t) all_codes 0 c (omega arith) (omega arith) (omega arith)) (saved-is s c)

-- ---- what loads was written

pub loaded_writes : LoadedWrites
unfolding load_profile load_as
loaded_writes s bytes z b a =
    let n = stored s (profile_codes s) bytes in
    ap profile_of (accepted_as s bytes a)
    ∙ ap (records_of n.saved) (sym (codes_alike s n (stored_alike s (profile_codes s) bytes)))
    ∙ stored-written s 0 bytes (rising_rises (profile_code s) all_codes 0 (omega arith)) z b a

pub load_sets_both : LoadSetsBoth
unfolding load_profile load_as
load_sets_both s bytes z a c h =
    let e = accepted_as s bytes a in
    ap (λ (m : Settings). entry_of m c) e
    ∙ stored_both s bytes c (rising_rises (profile_code s) all_codes 0 (omega arith)) z
    ∙ ap₂ (λ (b : Bool) (m : Settings). cond b (entry_value (entry_of s c) (entry_of m c).saved) (entry_of s c))
    (has_rising (profile_code s) all_codes 0 c (omega arith) (omega arith) (omega arith)) (sym e)

-- ---- where a profile is refused

pub extra-bytes-refused : ExtraBytesRefused
unfolding judge
extra-bytes-refused s o b more = passed s o (b ∷ more) ∙ rw (ne_eqb (length (b ∷ more)) 0 (λ e. omega arith))

-- the first bytes of records: whole records, and a part of the next
records_taken : (values cs : List ℕ) (k r : ℕ) → k ≤ length cs
    → take (record_size * k + r) (records_of values cs) ≡ records_of values (take k cs) ++ take r (records_of values (drop k cs))
unfolding records_of
records_taken values cs zero r h = let e : record_size * 0 + r ≡ r = omega arith in ap (λ (n : ℕ). take n (records_of values cs)) e
records_taken values [] (suc k) r h = absurd (omega arith)
records_taken values (c ∷ cs) (suc k) r h =
    let v = value_record c (get_or values c 0) in
    let e : record_size * suc k + r ≡ 7 + (record_size * k + r) = omega arith in
    ap (λ (n : ℕ). take n (v ++ records_of values cs)) e
    ∙ take-append-add v (records_of values cs) (record_size * k + r)
    ∙ ap (λ (t : List ℕ). v ++ t) (records_taken values cs k r (omega arith))

-- 17 at a position
unfoldable broken_at : ℕ → Judged
broken_at n = record { answer = broken_record; position = record { 0 = n } }

pub short_profile_refused : ShortProfileRefused
unfolding broken_at
short_profile_refused s o k r h l =
    let cs = profile_codes s in
    let rest = take r (records_of s.saved (drop k cs)) in
    ap (judge s cs 0) (records_taken s.saved cs k r (omega arith))
    ∙ ap (λ (ds : List ℕ). judge s ds 0 (records_of s.saved (take k cs) ++ rest)) (sym (take-append-drop k cs))
    ∙ judge-records s s.saved (take k cs) (drop k cs) 0 rest (saved-within s o)
    ∙ judge-cut s (drop k cs) (0 + record_size * length (take k cs)) rest (omega (arith, length-drop k cs)) (omega (arith, length-take r (records_of s.saved (drop k cs))))
    ∙ ap (λ (n : ℕ). broken_at n) (omega (arith, length-take-le k cs (omega arith)))

-- ---- the invariant

pub load-keeps_sound : LoadKeepsSound
unfolding load_profile load_as
load-keeps_sound s bytes o = go (eqb (judge_profile s bytes).answer done) refl
  where
    go : (t : Bool) → eqb (judge_profile s bytes).answer done ≡ t → Sound (cond t (stored s (profile_codes s) bytes) s)
    go true e = stored_sound s 0 bytes (rising_rises (profile_code s) all_codes 0 (omega arith)) (eqb-true _ _ e) o
    go false e = o
