-- Writing and loading follow the paper's sentences: the theorems of specs/Operations.antt on them.
use mathlib.Core.Path.{◌≡◌, refl, ap, ap₂, ◌∙◌}
use mathlib.Core.Bool.{Bool, true, false, cond}
use mathlib.Core.List.{List, [], ◌∷◌, ◌++◌}
use Prim.Native.Nat.{ℕ, zero, suc, ◌+◌, ◌*◌, ◌/◌, ◌%◌, ◌≤◌, ◌<◌}
use native.Mathlib.Omega.{arith}
use lib.ListN.{length, get_or, drop}
use lib.Seq.{take_at, drop_at, get_or-drop}
use lib.Dec.{eqb, leb}
use borrow.Author.Tests.{eqb-true, eqb-false, le-leb, lt-leb, leb-true, leb-false}
use Rattle.settings_rules.specs.Entries.{Entry, entry_of, Sized}
use Rattle.settings_rules.specs.Operations.{SameTiming}
use Rattle.settings_rules.specs.Values.{with_value, entry_value}
use Rattle.settings_rules.specs.declared.Settings.{Settings}
use Rattle.settings_rules.proofs.Values.{value-sized}
use Rattle.profile_form_rules.specs.Records.{value_in}
use Rattle.profile_rules.specs.Profile.{profile_code, profile_codes, records_of, profile_of, write_profile, judge_profile, stored, load_as, load_profile}
use Rattle.profile_form_rules.specs.Statements.{record_then}
use Rattle.profile_rules.specs.Operations.{InProfile, saved_records, WriteNumbers, Judges, LoadNumbers}
use Rattle.profile_rules.proofs.Records.{records_length}
use Rattle.profile_rules.proofs.Rising.{RisingFrom, none, more, rising_rises}
use Rattle.profile_rules.proofs.Storing.{value-here, value_away, stored-below}
use Rattle.profile_rules.proofs.Theorems.{accepted_as, refused-load-keeps, load_sets_both}
use Rattle.profile_rules.proofs.Listed.{is-outside, profile-codes}
use Rattle.profile_rules.proofs.Sentences.{judged_so}

-- ---- storing

above : {c : ℕ} {cs : List ℕ} → RisingFrom c cs → (i : ℕ) → i < length cs → c ≤ get_or cs i 0
above none i h = absurd (omega arith)
above (more {k} a b r) zero h = a
above (more {k} a b r) (suc i) h = omega (arith, above r i (omega arith))

-- byte j of record i + 1 is byte j of record i behind the first one
next-record : (bytes : List ℕ) (i j : ℕ) → get_or (drop 7 bytes) (7 * i + j) 0 ≡ get_or bytes (7 * suc i + j) 0
next-record bytes i j = let e : 7 + (7 * i + j) ≡ 7 * suc i + j = omega arith in get_or-drop 7 bytes (7 * i + j) 0 ∙ ap (λ (n : ℕ). get_or bytes n 0) e

stored-value : (s : Settings) {c : ℕ} {cs : List ℕ} (bytes : List ℕ) (i : ℕ) → RisingFrom c cs → Sized s → i < length cs
    → entry_of (stored s cs bytes) (get_or cs i 0) ≡ entry_value (entry_of s (get_or cs i 0)) (get_or bytes (7 * i + 5) 0 + get_or bytes (7 * i + 6) 0 * 256)
unfolding stored
stored-value s bytes i none z h = absurd (omega arith)
stored-value s bytes zero (more {k} {c} {cs} a b r) z h =
    stored-below (with_value s k (value_in bytes)) (drop 7 bytes) k r (value-sized s k (value_in bytes) z) (omega arith) ∙ value-here s k (value_in bytes) z b
stored-value s bytes (suc i) (more {k} {c} {cs} a b r) z h =
    let v = value_in bytes in
    let other : get_or cs i 0 ≡ k → ⊥ = λ e. omega (arith, above r i (omega arith)) in
    stored-value (with_value s k v) (drop 7 bytes) i r (value-sized s k v z) (omega arith)
    ∙ ap₂ (λ (e : Entry) (w : ℕ). entry_value e w) (value_away s k v (get_or cs i 0) z b other)
    (ap₂ (λ (x y : ℕ). x + y * 256) (next-record bytes i 5) (next-record bytes i 6))

same-timing : (s : Settings) (cs bytes : List ℕ) → SameTiming s (stored s cs bytes)
unfolding stored with_value
same-timing s [] bytes = record { status = refl; horizontal = refl; vertical = refl }
same-timing s (c ∷ cs) bytes =
    let r = same-timing (with_value s c (value_in bytes)) cs (drop 7 bytes) in
    record { status = r.status; horizontal = r.horizontal; vertical = r.vertical }

-- ---- loading

module _ (s : Settings) (bytes : List ℕ) where
  load-others : Sized s → (c : ℕ) → c < 256 → (InProfile (entry_of s c) → ⊥) → entry_of (load_profile s bytes).settings c ≡ entry_of s c
  load-others z c h n = go (eqb (load_profile s bytes).answer 0) refl
    where
      go : (t : Bool) → eqb (load_profile s bytes).answer 0 ≡ t → entry_of (load_profile s bytes).settings c ≡ entry_of s c
      go true e = load_sets_both s bytes z (eqb-true _ _ e) c h ∙ rw (is-outside s c n)
      go false e = ap (λ (m : Settings). entry_of m c) (refused-load-keeps s bytes (eqb-false _ _ e))

  load-timing : SameTiming s (load_profile s bytes).settings
  unfolding load_profile load_as
  load-timing = go (eqb (judge_profile s bytes).answer 0)
    where
      go : (t : Bool) → SameTiming s (cond t (stored s (profile_codes s) bytes) s)
      go true = same-timing s (profile_codes s) bytes
      go false = record { status = refl; horizontal = refl; vertical = refl }

  load_stored : Sized s → (load_profile s bytes).answer ≡ 0 → (i : ℕ) → i < length (profile_codes s)
      → entry_of (load_profile s bytes).settings (get_or (profile_codes s) i 0)
      ≡ entry_value (entry_of s (get_or (profile_codes s) i 0)) (get_or bytes (7 * i + 5) 0 + get_or bytes (7 * i + 6) 0 * 256)
  unfolding load_profile load_as
  load_stored z a i h = ap (λ (m : Settings). entry_of m (get_or (profile_codes s) i 0)) (accepted_as s bytes a) ∙ stored-value s bytes i (rising_rises (profile_code s) 256 0 (omega arith)) z h

  pub load-judged : Judges s (profile_codes s) 0 bytes (load_profile s bytes).answer (load_profile s bytes).position.0
  unfolding load_profile load_as
  load-judged = judged_so s (profile_codes s) 0 bytes

pub load-numbers : LoadNumbers load_profile
load-numbers s cs bytes z f =
    rw (profile-codes f)
    (record {
      judged = load-judged s bytes;
      stored = load_stored s bytes z;
      others = load-others s bytes z;
      timing = load-timing s bytes;
      refused = refused-load-keeps s bytes;
    })

-- ---- writing

records_are : (s : Settings) (cs : List ℕ) → records_of s.saved cs ≡ saved_records s cs
unfolding records_of entry_of
records_are s [] = refl
records_are s (c ∷ cs) = ap (record_then c (get_or s.saved c 0 % 256) (get_or s.saved c 0 / 256)) (records_are s cs)

module _ (s : Settings) (out : List ℕ) where
  profile_length : length (profile_of s) ≡ 7 * length (profile_codes s)
  profile_length = records_length s.saved (profile_codes s)

  write_short : length out < 7 * length (profile_codes s) → write_profile s out ≡ record { result = record { answer = 1; len = 0 }; output = out }
  unfolding write_profile
  write_short h = rw (lt-leb (length (profile_of s)) (length out) (omega (arith, profile_length)))

  write_done : 7 * length (profile_codes s) ≤ length out
      → write_profile s out ≡ record { result = record { answer = 0; len = length (profile_of s) }; output = profile_of s ++ drop (length (profile_of s)) out }
  unfolding write_profile
  write_done h = rw (le-leb (length (profile_of s)) (length out) (omega (arith, profile_length)))

  write_rest : drop (7 * length (profile_codes s)) (write_profile s out).output ≡ drop (7 * length (profile_codes s)) out
  write_rest = go (leb (7 * length (profile_codes s)) (length out)) refl
    where
      go : (t : Bool) → leb (7 * length (profile_codes s)) (length out) ≡ t → drop (7 * length (profile_codes s)) (write_profile s out).output ≡ drop (7 * length (profile_codes s)) out
      go true e = rw (write_done (leb-true _ _ e)) (drop_at (profile_of s) (drop (length (profile_of s)) out) (7 * length (profile_codes s)) profile_length ∙ ap (λ (n : ℕ). drop n out) profile_length)
      go false e = rw (write_short (leb-false _ _ e))

pub write_numbers : WriteNumbers write_profile
write_numbers s cs out f =
    rw (profile-codes f)
    (record {
      short = λ h. rw (write_short s out h) (refl, refl, refl);
      otherwise = λ h. rw (write_done s out h) (refl, profile_length s out);
      written = λ h. rw (write_done s out h) (take_at (profile_of s) (drop (length (profile_of s)) out) (7 * length (profile_codes s)) (profile_length s out) ∙ records_are s (profile_codes s));
      rest = write_rest s out;
    })
