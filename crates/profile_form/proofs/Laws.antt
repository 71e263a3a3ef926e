-- The records of a profile: the one that bytes begin with, and the loop over all of them.
use mathlib.Core.Path.{◌≡◌, refl, sym, ap, ◌∙◌}
use mathlib.Core.Bool.{Bool, true, false, ◌&&◌}
use mathlib.Core.List.{List}
use Prim.Native.Nat.{ℕ, suc, ◌+◌, ◌-◌, ◌*◌, ◌≤◌, ◌<◌}
use native.Mathlib.Omega.{arith}
use lib.ListN.{length, get_or, take, length-drop}
use lib.Dec.{leb, eqb}
use borrow.Author.Tests.{le-leb, lt-leb}
use Rattle.std.proofs.lemmas.List.{get_or-take}
use Rattle.records.specs.Numbers.{word_at}
use Rattle.records.specs.Records.{begins_with}
use Rattle.profile_form_rules.proofs.Records.{whole}
use Rattle.profile_form_rules.specs.Records.{record_length, value_kind, record_size, code_in, begins_with_record}
use Rattle.profile_form_rules.specs.declared.Setting.{Setting}
use Rattle.profile_form_rules.specs.Form.{setting_in, First, record_fits, judge_records, begun_in, judge_form}
use Rattle.profile_form_rules.proofs.Judging.{accepted_at, refused_at}

-- ---- the first record

module _ (s r : List ℕ) (e : r ≡ take record_size s) where
  same : (k : ℕ) → k < record_size → get_or r k 0 ≡ get_or s k 0
  same k h = ap (λ (t : List ℕ). get_or t k 0) e ∙ get_or-take record_size s k 0 h

  pub same_setting : setting_in r ≡ setting_in s
  same_setting = let c = same 4 (omega arith) in let l = same 5 (omega arith) in let h = same 6 (omega arith) in cc (c, l, h)

  -- by the two numbers of its head it is one, or not
  pub head : record_size ≤ length s → (len kind : ℕ) → len ≡ get_or r 0 0 + get_or r 1 0 * 256 → kind ≡ get_or r 2 0 + get_or r 3 0 * 256
      → begins_with_record s ≡ eqb len record_length && eqb kind value_kind
  unfolding begins_with
  head h len kind p q =
      let l : word_at s 0 ≡ len = omega (arith, same 0 (omega arith), same 1 (omega arith)) in
      let k : word_at s 2 ≡ kind = omega (arith, same 2 (omega arith), same 3 (omega arith)) in
      rw (le-leb (2 + record_length) (length s) h, l, k)

-- ---- the records left

-- what the records left come to is what the profile comes to
pub record FormLeft (s : List ℕ) (lowest : ℕ) (left : List ℕ) : Type 0 where
  pub inside : length left ≤ length s
  pub same : judge_records (begun_in (length left)) lowest (length s - length left) left ≡ judge_form s

pub form_starts : (s : List ℕ) → FormLeft s 0 s
unfolding judge_form
form_starts s = let e : length s - length s ≡ 0 = omega arith in record { inside = omega arith; same = ap (λ (n : ℕ). judge_records (begun_in (length s)) 0 n s) e }

module _ (s : List ℕ) (lowest : ℕ) (left : List ℕ) (f : FormLeft s lowest left) where
  abbrev at : ℕ
  at = length s - length left

  next : 0 < length left → judge_records (suc (begun_in (length left) - 1)) lowest at left ≡ judge_form s
  next l = let e : suc (begun_in (length left) - 1) ≡ begun_in (length left) = omega arith in ap (λ (n : ℕ). judge_records n lowest at left) e ∙ f.same

  unfit : 0 < length left → record_fits lowest left ≡ false → refused_at at ≡ judge_form s
  unfolding judge_records
  unfit l e = sym (rw e) ∙ next l

  -- no record is there, or one whose code is too low
  pub form_none : 0 < length left → begins_with_record left ≡ false → refused_at at ≡ judge_form s
  unfolding record_fits
  form_none l e = unfit l (rw e)

  pub form_low : 0 < length left → code_in left < lowest → refused_at at ≡ judge_form s
  unfolding record_fits
  form_low l h = unfit l (go (begins_with_record left))
    where
      go : (t : Bool) → t && leb lowest (code_in left) ≡ false
      go true = lt-leb lowest (code_in left) h
      go false = refl

  -- one that fits is whole, and those behind it are left
  pub form_on : (e : Setting) (behind : List ℕ) → First left e behind → lowest ≤ e.code → FormLeft s (e.code + 1) behind × (length behind < length left)
  unfolding judge_records record_fits
  form_on e behind g h =
      let is = g.is_record in
      let size = (whole left is).size in
      let rest = ap length g.rest ∙ length-drop record_size left in
      let code = ap (λ (x : Setting). x.code) g.says in
      let n : begun_in (length behind) ≡ begun_in (length left) - 1 = omega arith in
      let m : length s - length behind ≡ at + record_size = omega (arith, f.inside) in
      let low : e.code + 1 ≡ suc (code_in left) = omega arith in
      let fits : lowest ≤ code_in left = omega arith in (
        record {
          inside = omega (arith, f.inside);
          same = rw (n, m, low, g.rest) (sym (rw (is, le-leb lowest (code_in left) fits)) ∙ next (omega arith));
        },
        omega arith,
      )

  -- none is left
  pub form_ends : length left ≡ 0 → accepted_at (length s) ≡ judge_form s
  unfolding judge_records
  form_ends l =
      let n : 0 ≡ begun_in (length left) = omega arith in
      let m : length s ≡ at = omega arith in
      ap accepted_at m ∙ ap (λ (k : ℕ). judge_records k lowest at left) n ∙ f.same
