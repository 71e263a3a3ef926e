-- A profile that is accepted: its settings rise, and behind its first record another is left.
use mathlib.Core.Path.{◌≡◌, refl, sym, ap, ap₂, subst, ◌∙◌}
use mathlib.Core.Logic.{◌⊎◌, inl, inr, ⊎_elim}
use mathlib.Core.List.{List, [], ◌∷◌, ◌++◌, map}
use Prim.Native.Nat.{ℕ, suc, ◌+◌, ◌*◌, ◌/◌, ◌≤◌, ◌<◌}
use native.Mathlib.Omega.{arith}
use lib.ListN.{length, get_or, drop, length-append, length-map}
use Rattle.std.specs.Option.{MatchOption}
use Rattle.std.proofs.Common.{Option, Some, None}
use Rattle.checksum.proofs.Bytes.{bytes_of}
use Rattle.codes.specs.Codes.{all_codes}
use Rattle.message_rules.specs.Answer.{done}
use Rattle.profile_form_rules.specs.Records.{record_size}
use Rattle.profile_form_rules.specs.declared.Setting.{Setting}
use Rattle.profile_form_rules.specs.Form.{setting_in, settings_in, settings_of, Judged, judge_form}
use Rattle.profile_form_rules.specs.Statements.{Records, none, one, codes_of, Rising, end, more}
use Rattle.profile_form_rules.proofs.Theorems.{accepted_profile, accepts-exactly}
use Rattle.profile_form_rules.proofs.Profiles.{records_size, records_read}
use Rattle.profile_compare_rules.specs.Compare.{absent, value_of}
use Rattle.profile_compare_rules.specs.Statements.{difference}
use Rattle.profile_compare_rules.proofs.Values.{value-here, value-below, records_small}
use Rattle.profile_compare_rules.proofs.Differences.{rising_lower, lines-few}
use Rattle.profile_compare.specs.Parts.{list_of, listed, Next}
use Rattle.profile_compare.specs.declared.Values.{Values}
use Rattle.profile_compare.proofs.Merging.{Behind, behind-first, behind-none, merged_same, merged_differs, first_only, second_only, rest_lines}

abbrev pub Accepted : List ℕ → Type 0
Accepted s = (judge_form s).answer ≡ done

-- ---- the records

settings_read : (es : List Setting) (s : List ℕ) → Records [] es s → settings_of s ≡ es
settings_read es s r =
    let n : length s / record_size ≡ length es = omega (arith, records_size [] es s r) in
    ap (λ (k : ℕ). settings_in k s) n ∙ records_read [] es s r

pub settings_size : (s : List ℕ) → Accepted s → length s ≡ 7 * length (settings_of s)
settings_size s a = omega (arith, records_size [] (settings_of s) s (accepted_profile s a).whole)

-- none is left, or one
pub none_left : (s : List ℕ) → Accepted s → length s < 7 → s ≡ []
none_left [] a h = refl
none_left (b ∷ s) a h = absurd (omega (arith, settings_size (b ∷ s) a))

pub record Split (s : List ℕ) : Type 0 where
  pub settings : settings_of s ≡ setting_in s ∷ settings_of (drop record_size s)
  pub size : length s ≡ length (drop record_size s) + 7
  pub behind : Accepted (drop record_size s)

pub split : (s : List ℕ) → Accepted s → 7 ≤ length s → Split s
split s a h = let p = accepted_profile s a in go (settings_of s) s p.whole p.rising h
  where
    go : (es : List Setting) (s : List ℕ) → Records [] es s → Rising 0 (codes_of es) → 7 ≤ length s → Split s
    go [] s none end h = absurd (omega arith)
    go (e ∷ es) s (one {rest = rest} r) (more l i) h = record {
      settings = settings_read (e ∷ es) s (one r) ∙ ap (λ (fs : List Setting). e ∷ fs) (sym (settings_read es rest r));
      size = omega arith;
      behind = ap (λ (j : Judged). j.answer) (accepts-exactly.every es rest (record { whole = r; rising = rising_lower (omega arith) i }));
    }

-- ---- the code of the next record, and lower ones

module _ (s : List ℕ) (e : Setting) (es : List Setting) (a : Accepted s) (q : settings_of s ≡ e ∷ es) where
  rising_there : Rising 0 (codes_of (e ∷ es))
  rising_there = subst (λ (fs : List Setting). Rising 0 (codes_of fs)) q (accepted_profile s a).rising

  rising-behind : (fs : List Setting) → Rising 0 (codes_of (e ∷ fs)) → Rising (suc e.code) (codes_of fs)
  rising-behind fs (more l r) = r

  -- it has its value, and what is behind it is left
  pub behind_there : Behind (settings_of s) es e.code
  behind_there = rw q (behind-first e es (rising-behind es rising_there))

  pub value_there : value_of (settings_of s) e.code ≡ e.value
  value_there = rw q (value-here e es e.code refl)

  -- a lower one has none, and all is left
  rising_above : (c : ℕ) → c < e.code → Rising (suc c) (codes_of (e ∷ es))
  rising_above c h = more (omega arith) (rising-behind es rising_there)

  pub behind_lower : (c : ℕ) → c < e.code → Behind (settings_of s) (settings_of s) c
  behind_lower c h = rw q (behind-none (e ∷ es) c (rising_above c h))

  pub value_lower : (c : ℕ) → c < e.code → value_of (settings_of s) c ≡ absent
  value_lower c h = rw q (value-below (suc c) (e ∷ es) c (rising_above c h) (omega arith))

-- ---- a step

-- a value fits into two bytes
abbrev pub Fits : Option ℕ → Type 0
Fits v = MatchOption v (Unit {0}) (λ x. x < 65536)

listed-once : (u v : Option ℕ) → Fits u → Fits v → listed u ≡ listed v → u ≡ v
listed-once (Some u) (Some v) f g e = ap Some e
listed-once (Some u) None f g e = absurd (omega arith)
listed-once None (Some v) f g e = absurd (omega arith)
listed-once None None f g e = refl

pub steps : (s t s′ t′ : List ℕ) (v : Values) → v.code < 256 → Fits v.first → Fits v.second → Behind (settings_of s) (settings_of s′) v.code → Behind (settings_of t) (settings_of t′) v.code
    → value_of (settings_of s) v.code ≡ listed v.first → value_of (settings_of t) v.code ≡ listed v.second → length s′ + length t′ < length s + length t → Next s t v s′ t′
steps s t s′ t′ v small f g p q x y less = record {
  same = λ e. merged_same (settings_of s) (settings_of t) (settings_of s′) (settings_of t′) v.code small p q (x ∙ ap listed e ∙ sym y);
  differs = λ n. merged_differs (settings_of s) (settings_of t) (settings_of s′) (settings_of t′) v.code small p q (λ z. n (listed-once v.first v.second f g (sym x ∙ z ∙ y)))
      ∙ ap₂ (λ (u w : ℕ). difference v.code u w ∷ list_of s′ t′) x y;
  less = less;
}

-- ---- the end of one

pub empty : (s : List ℕ) → s ≡ [] → settings_of s ≡ []
unfolding settings_in
empty s e = ap settings_of e

module _ (s t : List ℕ) (a : Accepted s) (d : Accepted t) (f : (k : ℕ) → get_or s k 0 < 256) (g : (k : ℕ) → get_or t k 0 < 256) (e : (s ≡ []) ⊎ (t ≡ [])) where
  -- the list is what is left of both
  pub rest_left : list_of s t ≡ map first_only (settings_of s) ++ map second_only (settings_of t)
  rest_left =
      let p = accepted_profile s a in
      let q = accepted_profile t d in
      rest_lines (settings_of s) (settings_of t) (⊎_elim (λ z. inl (empty s z)) (λ z. inr (empty t z)) e)
      p.rising (records_small [] (settings_of s) s (bytes_of s f) p.whole) q.rising (records_small [] (settings_of t) t (bytes_of t g) q.whole)

  pub rest_count : length (settings_of s) + length (settings_of t) ≡ length (list_of s t)
  rest_count =
      let l = map first_only (settings_of s) in
      let m = map second_only (settings_of t) in
      omega (arith, ap length rest_left, length-append l m, length-map (settings_of s) first_only, length-map (settings_of t) second_only)

-- there are at most 256
pub list_few : (s t : List ℕ) → length (list_of s t) ≤ 256
list_few s t = lines-few (settings_of s) (settings_of t) all_codes 0
