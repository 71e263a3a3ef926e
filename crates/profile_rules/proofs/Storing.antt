-- Storing a profile's values: which entries change and to what, what is written afterwards, and that sound settings stay so.
use mathlib.Core.Path.{◌≡◌, refl, sym, ap, ap₂, ◌∙◌}
use mathlib.Core.Bool.{cond}
use mathlib.Core.Logic.{⊎_elim}
use mathlib.Core.List.{List, [], ◌∷◌, ◌++◌}
use Prim.Native.Nat.{ℕ, ◌+◌, ◌<◌}
use native.Mathlib.Omega.{arith}
use lib.ListN.{length, get_or, drop}
use borrow.Author.Tests.{eq-eqb, ne_eqb}
use Rattle.checksum.specs.Bytes.{Bytes}
use Rattle.checksum.proofs.Bytes.{bytes_drop}
use Rattle.message_rules.specs.Answer.{done}
use Rattle.codes.specs.Codes.{all_codes}
use Rattle.codes.proofs.Cases.{eq_or_ne}
use Rattle.settings_rules.specs.Entries.{Entry, entry_of, Sized, Sound}
use Rattle.settings_rules.specs.Values.{with_value, entry_value}
use Rattle.settings_rules.specs.declared.Settings.{Settings}
use Rattle.settings_rules.proofs.Answers.{at_most}
use Rattle.settings_rules.proofs.Values.{value-stored, value-sized, value_sound}
use Rattle.profile_form_rules.specs.Records.{value_record, record_size, value_in}
use Rattle.profile_rules.specs.Profile.{records_of, judge, stored}
use Rattle.profile_rules.specs.Statements.{Alike}
use Rattle.profile_form_rules.proofs.Records.{whole, record-read}
use Rattle.records.proofs.Numbers.{low-high}
use Rattle.profile_rules.proofs.Judging.{judge_alike, judge-step, judged-length}
use Rattle.profile_rules.proofs.Rising.{RisingFrom, none, more, has}

-- ---- alike

pub alike_trans : (e f g : Entry) → Alike e f → Alike f g → Alike e g
alike_trans e f g a b = record {
  declared = a.declared ∙ b.declared;
  readable = a.readable ∙ b.readable;
  writable = a.writable ∙ b.writable;
  momentary = a.momentary ∙ b.momentary;
  continuous = a.continuous ∙ b.continuous;
  maximum = a.maximum ∙ b.maximum;
}

-- another value leaves what was declared
value_alike : (s : Settings) (c value d : ℕ) → Alike (entry_of s d) (entry_of (with_value s c value) d)
unfolding entry_of with_value
value_alike s c value d = record { declared = refl; readable = refl; writable = refl; momentary = refl; continuous = refl; maximum = refl }

pub stored_alike : (s : Settings) (cs bytes : List ℕ) (d : ℕ) → Alike (entry_of s d) (entry_of (stored s cs bytes) d)
unfolding stored
stored_alike s [] bytes d = record { declared = refl; readable = refl; writable = refl; momentary = refl; continuous = refl; maximum = refl }
stored_alike s (c ∷ cs) bytes d =
    alike_trans _ _ _ (value_alike s c (value_in bytes) d) (stored_alike (with_value s c (value_in bytes)) cs (drop record_size bytes) d)

-- ---- the entries

-- the entry of a code with another value, and of another code
pub value-here : (s : Settings) (c value : ℕ) → Sized s → c < all_codes → entry_of (with_value s c value) c ≡ entry_value (entry_of s c) value
value-here s c value z h = value-stored s c value z h c ∙ rw (eq-eqb c c refl)

pub value_away : (s : Settings) (c value d : ℕ) → Sized s → c < all_codes → (d ≡ c → ⊥) → entry_of (with_value s c value) d ≡ entry_of s d
value_away s c value d z h q = value-stored s c value z h d ∙ rw (ne_eqb d c q)

-- a code below all those that are stored keeps its entry
pub stored-below : (s : Settings) {c : ℕ} {cs : List ℕ} (bytes : List ℕ) (d : ℕ) → RisingFrom c cs → Sized s → d < c
    → entry_of (stored s cs bytes) d ≡ entry_of s d
unfolding stored
stored-below s bytes d none z l = refl
stored-below s bytes d (more {k} {c} {cs} a b r) z l =
    stored-below (with_value s k (value_in bytes)) (drop record_size bytes) d r (value-sized s k (value_in bytes) z) (omega arith)
    ∙ value_away s k (value_in bytes) d z b (λ e. omega arith)

-- records of these values give each code its value, and leave all others
pub stored-records : (s : Settings) (values : List ℕ) {c : ℕ} {cs : List ℕ} (rest : List ℕ) (d : ℕ) → RisingFrom c cs → Sized s
    → entry_of (stored s cs (records_of values cs ++ rest)) d ≡ cond (has cs d) (entry_value (entry_of s d) (get_or values d 0)) (entry_of s d)
unfolding stored records_of has
stored-records s values rest d none z = refl
stored-records s values rest d (more {k} {c} {cs} a b r) z =
    let left = records_of values cs ++ rest in
    let v = value_in (value_record k (get_or values k 0) ++ left) in
    let next = with_value s k v in
    let sized = value-sized s k v z in
    ⊎_elim
    (λ e. rw (eq-eqb d k e) (stored-below next left d r sized (omega arith) ∙ value-stored s k v z b d ∙ rw (eq-eqb d k e)
    (ap (entry_value (entry_of s d)) (low-high (get_or values k 0) ∙ ap (λ (n : ℕ). get_or values n 0) (sym e)))))
    (λ q. rw (ne_eqb d k q) (stored-records next values rest d r sized
    ∙ ap (λ (e : Entry). cond (has cs d) (entry_value e (get_or values d 0)) e) (value_away s k v d z b q)))
    (eq_or_ne d k)

-- ---- what is written afterwards

empty_is : (s : List ℕ) → length s ≡ 0 → s ≡ []
empty_is [] h = refl
empty_is (b ∷ s) h = absurd (omega arith)

-- the saved value of an entry
saved-is : (s : Settings) (c : ℕ) → get_or s.saved c 0 ≡ (entry_of s c).saved
unfolding entry_of
saved-is s c = refl

value-saved : (e : Entry) (v : ℕ) → (entry_value e v).saved ≡ v
unfolding entry_value
value-saved e v = refl

-- whatever the bytes, present and saved of each code are set alike, and nothing else changes
pub stored_both : (s : Settings) {c : ℕ} {cs : List ℕ} (bytes : List ℕ) (d : ℕ) → RisingFrom c cs → Sized s
    → entry_of (stored s cs bytes) d ≡ cond (has cs d) (entry_value (entry_of s d) (entry_of (stored s cs bytes) d).saved) (entry_of s d)
unfolding stored has
stored_both s bytes d none z = refl
stored_both s bytes d (more {k} {c} {cs} a b r) z =
    let v = value_in bytes in
    let next = with_value s k v in
    let left = drop record_size bytes in
    let sized = value-sized s k v z in
    ⊎_elim
    (λ e. let here : entry_of (stored next cs left) d ≡ entry_value (entry_of s d) v =
    stored-below next left d r sized (omega arith) ∙ value-stored s k v z b d ∙ rw (eq-eqb d k e) in
    rw (eq-eqb d k e) (here ∙ ap (entry_value (entry_of s d)) (sym (ap (λ (x : Entry). x.saved) here ∙ value-saved (entry_of s d) v))))
    (λ q. rw (ne_eqb d k q) (stored_both next left d r sized
    ∙ ap (λ (x : Entry). cond (has cs d) (entry_value x (entry_of (stored next cs left) d).saved) x) (value_away s k v d z b q)))
    (eq_or_ne d k)

-- an accepted profile is the records of the saved values that it leaves
pub stored-written : (s : Settings) {c : ℕ} {cs : List ℕ} (at : ℕ) (bytes : List ℕ) → RisingFrom c cs → Sized s → Bytes bytes → (judge s cs at bytes).answer ≡ done
    → records_of (stored s cs bytes).saved cs ≡ bytes
unfolding stored records_of
stored-written s at bytes none z y a = sym (empty_is bytes (judged-length s [] at bytes a))
stored-written s at bytes (more {k} {c} {cs} l h r) z y a =
    let step = judge-step s k cs at bytes a in
    let v = value_in bytes in
    let left = drop record_size bytes in
    let next = with_value s k v in
    let sized = value-sized s k v z in
    let value : get_or (stored next cs left).saved k 0 ≡ v =
    saved-is (stored next cs left) k ∙ ap (λ (e : Entry). e.saved) (stored-below next left k r sized (omega arith) ∙ value-here s k v z h) ∙ value-saved (entry_of s k) v in
    let rest : records_of (stored next cs left).saved cs ≡ left =
    stored-written next (at + record_size) left r sized (bytes_drop record_size y)
    (rw (← judge_alike s next cs (at + record_size) left (value_alike s k v)) step.next) in
    ap₂ (λ (w : ℕ) (t : List ℕ). value_record k w ++ t) value rest
    ∙ ap (λ (c : ℕ). value_record c v ++ left) (sym step.fits.code)
    ∙ sym (record-read bytes (whole bytes step.fits.form) y)

-- ---- sound settings

pub stored_sound : (s : Settings) {c : ℕ} {cs : List ℕ} (at : ℕ) (bytes : List ℕ) → RisingFrom c cs → (judge s cs at bytes).answer ≡ done → Sound s
    → Sound (stored s cs bytes)
unfolding stored
stored_sound s at bytes none a o = o
stored_sound s at bytes (more {k} {c} {cs} l h r) a o =
    let step = judge-step s k cs at bytes a in
    let next = with_value s k (value_in bytes) in
    stored_sound next (at + record_size) (drop record_size bytes) r
    (rw (← judge_alike s next cs (at + record_size) (drop record_size bytes) (value_alike s k (value_in bytes))) step.next)
    (value_sound s k (value_in bytes) h (at_most _ _ _ step.fits.within) o)
