-- Judging the record that bytes begin with, and storing those of a profile that is accepted.
use mathlib.Core.Path.{◌≡◌, refl, sym, ap, ap₂, ◌∙◌}
use mathlib.Core.Bool.{Bool, true, false, cond}
use mathlib.Core.List.{List, [], ◌∷◌}
use Prim.Native.Nat.{ℕ, suc, ◌+◌, ◌-◌, ◌/◌, ◌≤◌, ◌<◌}
use native.Mathlib.Omega.{arith}
use lib.ListN.{length, get_or, drop, length-drop}
use lib.Dec.{eqb}
use borrow.Author.Tests.{eqb-true, eq-eqb, ne_eqb}
use Rattle.message_rules.specs.Answer.{done, code_not_allowed, value_too_large, broken_record}
use Rattle.codes.specs.Codes.{all_codes, member}
use Rattle.settings_rules.specs.Settings.{exceeds_maximum}
use Rattle.settings_rules.specs.Entries.{entry_of}
use Rattle.settings_rules.specs.Values.{with_value}
use Rattle.settings_rules.specs.declared.Settings.{Settings}
use Rattle.message_rules.specs.Refusal.{number_of}
use Rattle.message_rules.specs.declared.refusal.Refusal.{Refusal}
use Rattle.message_rules.specs.declared.refusal.RefusedAt.{RefusedAt}
use Rattle.profile_form_rules.specs.Records.{record_size, code_in, value_in, begins_with_record}
use Rattle.profile_form_rules.specs.declared.Setting.{Setting}
use Rattle.profile_form_rules.proofs.Records.{whole}
use Rattle.profile_form_rules.proofs.Judging.{refusal-is-none}
use Rattle.profile_rules.specs.Profile.{codes_from, profile_codes, record_answer, answer_to, judge, judge_profile, stored, load_as, load_profile}
use Rattle.profile_form_rules.specs.Form.{First, Judged, refused_as}
use Rattle.profile_rules.proofs.Records.{accepted-fits}
use Rattle.profile_rules.proofs.Rising.{Found}
use Rattle.profile_rules.proofs.Judging.{judge-next, judge_stops, judge-step, judged-length}
use Rattle.profile.specs.Parts.{stored_records}

-- ---- one record

-- the answers to what bytes begin with
module _ (bytes : List ℕ) (c m : ℕ) (k : Bool) where
  pub answer_broken : begins_with_record bytes ≡ false → record_answer c k m bytes ≡ broken_record
  unfolding record_answer
  answer_broken e = rw e

  module _ (e : Setting) (behind : List ℕ) (f : First bytes e behind) where
    pub answer_code : (e.code ≡ c → ⊥) → record_answer c k m bytes ≡ code_not_allowed
    unfolding record_answer
    answer_code q = rw (f.is_record, ne_eqb (code_in bytes) c (λ z. q (ap (λ (x : Setting). x.code) f.says ∙ z)))

    pub answer_value : (t : Bool) → e.code ≡ c → t ≡ exceeds_maximum k m e.value → record_answer c k m bytes ≡ cond t value_too_large done
    unfolding record_answer
    answer_value t q h =
        rw (f.is_record, eq-eqb (code_in bytes) c (sym (ap (λ (x : Setting). x.code) f.says) ∙ q))
        (ap (λ (b : Bool). cond b value_too_large done) (ap (exceeds_maximum k m) (sym (ap (λ (x : Setting). x.value) f.says)) ∙ sym h))

-- the answer to a record, from what is kept of its code
pub answer_from : (s : Settings) (bytes : List ℕ) (k i a : ℕ) (b : Bool) → record_answer k b (get_or s.maximum i 0) bytes ≡ a → b ≡ member s.continuous k → i ≡ k
    → answer_to s k bytes ≡ a
unfolding answer_to entry_of
answer_from s bytes k i a b e q r = sym (ap₂ (λ (t : Bool) (n : ℕ). record_answer k t (get_or s.maximum n 0) bytes) q r) ∙ e

-- ---- storing

-- the records of an accepted profile name its codes, so they are stored as those are
pub stored_as : (s t : Settings) (cs : List ℕ) (at : ℕ) (bytes : List ℕ) → (judge s cs at bytes).answer ≡ done
    → stored_records (length cs) t bytes ≡ stored t cs bytes
unfolding stored_records stored
stored_as s t [] at bytes a = refl
stored_as s t (c ∷ cs) at bytes a =
    let step = judge-step s c cs at bytes a in
    ap (λ (k : ℕ). stored_records (length cs) (with_value t k (value_in bytes)) (drop record_size bytes)) step.fits.code
    ∙ stored_as s (with_value t c (value_in bytes)) cs (at + record_size) (drop record_size bytes) step.next

-- all whole records
pub all_stored : (s t : Settings) (cs : List ℕ) (at : ℕ) (bytes : List ℕ) → (judge s cs at bytes).answer ≡ done
    → stored_records (length bytes / record_size) t bytes ≡ stored t cs bytes
all_stored s t cs at bytes a =
    let e : length bytes / record_size ≡ length cs = omega (arith, judged-length s cs at bytes a) in
    ap (λ (n : ℕ). stored_records n t bytes) e ∙ stored_as s t cs at bytes a

-- one more record, and none
pub store_next : (s : Settings) (left : List ℕ) → record_size ≤ length left
    → stored_records (length left / record_size) s left ≡ stored_records (length (drop record_size left) / record_size) (with_value s (code_in left) (value_in left)) (drop record_size left)
unfolding stored_records
store_next s left h =
    let e : length left / record_size ≡ suc (length (drop record_size left) / record_size) = omega (arith, length-drop record_size left) in
    ap (λ (n : ℕ). stored_records n s left) e

pub store_none : (s : Settings) (left : List ℕ) → length left < record_size → stored_records (length left / record_size) s left ≡ s
unfolding stored_records
store_none s left h = let e : length left / record_size ≡ 0 = omega arith in rw e

-- ---- the loop of `judge_profile`: what is still to be judged, from the next code on

pub record Left (s : Settings) (ws p : List ℕ) (from : ℕ) (left : List ℕ) : Type 0 where
  pub low : from ≤ all_codes
  pub inside : length left ≤ length p
  pub same : judge s (codes_from (member ws) from) (length p - length left) left ≡ judge_profile s p

pub left_starts : (s : Settings) (ws p : List ℕ) → codes_from (member ws) 0 ≡ profile_codes s → Left s ws p 0 p
left_starts s ws p e = record {
  low = omega arith;
  inside = omega arith;
  same = let z : length p - length p ≡ 0 = omega arith in ap₂ (λ (cs : List ℕ) (at : ℕ). judge s cs at p) e z;
}

-- no code is left: the profile ends here, or it is too long
judged-end : (s : Settings) (at : ℕ) (bytes : List ℕ) (t : Bool) → eqb (length bytes) 0 ≡ t → judge s [] at bytes ≡ record { answer = cond t done broken_record; position = record { 0 = at } }
unfolding judge
judged-end s at bytes t e = ap (λ (b : Bool). record { answer = cond b done broken_record; position = record { 0 = at } }) e

module _ (s : Settings) (ws p : List ℕ) (from : ℕ) (left : List ℕ) (l : Left s ws p from left) where
  abbrev at : ℕ
  at = length p - length left

  module _ (k : ℕ) (f : Found (member ws) from k) where
    next : judge s (k ∷ codes_from (member ws) (k + 1)) at left ≡ judge_profile s p
    next = ap (λ (cs : List ℕ). judge s cs at left) (sym f.codes) ∙ l.same

    -- an accepted record
    pub left_turn : answer_to s k left ≡ done → Left s ws p (k + 1) (drop record_size left)
    unfolding answer_to
    left_turn a =
        let fits = accepted-fits k _ _ left a in
        let size = (whole left fits.form).size in
        let inside = l.inside in
        let less = length-drop record_size left in
        record {
          low = omega (arith, f.high);
          inside = omega arith;
          same = let z : length p - length (drop record_size left) ≡ at + record_size = omega arith in
              ap (λ (n : ℕ). judge s (codes_from (member ws) (k + 1)) n (drop record_size left)) z
              ∙ sym (judge-next s k (codes_from (member ws) (k + 1)) at left a)
              ∙ next;
        }

    -- a refused one
    pub left_refused : (r : Refusal) → answer_to s k left ≡ number_of r → record { answer = number_of r; position = record { 0 = at } } ≡ judge_profile s p
    left_refused r a =
        ap (λ (x : ℕ). record { answer = x; position = record { 0 = at } }) (sym a)
        ∙ sym (judge_stops s k (codes_from (member ws) (k + 1)) at left (λ z. refusal-is-none r (sym a ∙ z)))
        ∙ next

  -- no code is left
  module _ (f : codes_from (member ws) from ≡ []) where
    ends : (t : Bool) → eqb (length left) 0 ≡ t → record { answer = cond t done broken_record; position = record { 0 = at } } ≡ judge_profile s p
    ends t e = sym (judged-end s at left t e) ∙ ap (λ (cs : List ℕ). judge s cs at left) (sym f) ∙ l.same

    pub left_end : true ≡ eqb (length left) 0 → record { answer = done; position = record { 0 = length p } } ≡ judge_profile s p
    left_end e =
        let none = eqb-true (length left) 0 (sym e) in
        let z : length p ≡ at = omega arith in
        ap (λ (n : ℕ). record { answer = done; position = record { 0 = n } }) z ∙ ends true (sym e)

    pub left_more : false ≡ eqb (length left) 0 → record { answer = broken_record; position = record { 0 = at } } ≡ judge_profile s p
    left_more e = ends false (sym e)

-- ---- what `load` comes to

module _ (s : Settings) (p : List ℕ) where
  judged : (j : Judged) → j ≡ judge_profile s p → load_as s j p ≡ load_profile s p
  unfolding load_profile
  judged j e = ap (λ (i : Judged). load_as s i p) e

  pub load_stored : (n : Settings) (size : ℕ) → record { answer = done; position = record { 0 = size } } ≡ judge_profile s p → n ≡ stored_records (length p / record_size) s p
      → record { settings = n; answer = done; position = record { 0 = size } } ≡ load_profile s p
  unfolding load_as
  load_stored n size e f =
      ap (λ (m : Settings). record { settings = m; answer = done; position = record { 0 = size } }) (f ∙ all_stored s s (profile_codes s) 0 p (ap (λ (i : Judged). i.answer) (sym e)))
      ∙ judged (record { answer = done; position = record { 0 = size } }) e

  pub load_kept : (e : RefusedAt) → refused_as e ≡ judge_profile s p → record { settings = s; answer = number_of e.refusal; position = e.position } ≡ load_profile s p
  unfolding load_as
  load_kept e q =
      ap (λ (t : Bool). record { settings = cond t (stored s (profile_codes s) p) s; answer = number_of e.refusal; position = e.position }) (sym (ne_eqb (number_of e.refusal) done (refusal-is-none e.refusal)))
      ∙ judged (refused_as e) q
