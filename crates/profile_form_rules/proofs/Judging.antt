-- The judgement of a profile: records that fit are passed, and the first one that does not decides.
use mathlib.Core.Path.{◌≡◌, refl, sym, ap, subst, ◌∙◌}
use mathlib.Core.Bool.{Bool, true, false, cond, ◌&&◌}
use mathlib.Core.List.{List, [], ◌∷◌}
use Prim.Native.Nat.{ℕ, zero, suc, ◌+◌, ◌*◌, ◌≤◌, ◌<◌}
use native.Mathlib.Omega.{arith}
use lib.ListN.{length, get_or, drop}
use lib.Dec.{leb}
use borrow.Author.Tests.{leb-true, leb-false, le-leb, lt-leb}
use Rattle.message_rules.specs.Answer.{done, broken_record}
use Rattle.message_rules.specs.Refusal.{number_of}
use Rattle.message_rules.specs.declared.refusal.Refusal.{Refusal}
use Rattle.message_rules.specs.declared.refusal.Refusal.TheVariants as refusal
use Rattle.profile_form_rules.specs.Records.{record_size, code_in, begins_with_record}
use Rattle.profile_form_rules.specs.Form.{Judged, record_fits, judge_records, begun_in}
use Rattle.profile_form_rules.specs.declared.Setting.{Setting}
use Rattle.profile_form_rules.specs.Statements.{record_then, setting_said, Records, none, one, Rising, codes_of, end, more, Bad, broken, not_above}
use Rattle.profile_form_rules.proofs.Records.{begun, begins-with, begins-none}
use Rattle.profile_form_rules.proofs.Profiles.{lowest_after, stands_below, below_stands}

abbrev pub accepted_at : ℕ → Judged
accepted_at at = record { answer = done; position = record { 0 = at } }

abbrev pub refused_at : ℕ → Judged
refused_at at = record { answer = broken_record; position = record { 0 = at } }

-- no refusal has the answer number 0
pub refusal-is-none : (r : Refusal) → number_of r ≡ done → ⊥
refusal-is-none refusal.WrongSize e = omega arith
refusal-is-none refusal.TooShort e = omega arith
refusal-is-none refusal.WrongFirstByte e = omega arith
refusal-is-none refusal.WrongLength e = omega arith
refusal-is-none refusal.WrongChecksum e = omega arith
refusal-is-none refusal.UnknownCommand e = omega arith
refusal-is-none refusal.WrongField e = omega arith
refusal-is-none refusal.CodeNotAllowed e = omega arith
refusal-is-none refusal.ValueTooLarge e = omega arith
refusal-is-none refusal.NotWanted e = omega arith
refusal-is-none refusal.TextTooLong e = omega arith
refusal-is-none refusal.NullMessage e = omega arith
refusal-is-none refusal.WrongGrammar e = omega arith
refusal-is-none refusal.NoNodeRoom e = omega arith
refusal-is-none refusal.TooDeep e = omega arith
refusal-is-none refusal.TransferClosed e = omega arith
refusal-is-none refusal.BrokenRecord e = omega arith
refusal-is-none refusal.NotDeclarable e = omega arith
refusal-is-none refusal.RepeatedToken e = omega arith
refusal-is-none refusal.RepeatedHousehold e = omega arith

-- ---- one record

-- a record that fits
pub fits_then : (lowest code low high : ℕ) (rest : List ℕ) → lowest ≤ code → record_fits lowest (record_then code low high rest) ≡ true
unfolding record_fits
fits_then lowest code low high rest l = rw (begins-with code low high rest, le-leb lowest code l)

-- one that does not: there is none, or its code is too low
pub data Unfit (lowest : ℕ) (bytes : List ℕ) : Type 0 where
  no_record : ((code low high : ℕ) (rest : List ℕ) → bytes ≡ record_then code low high rest → ⊥) → Unfit lowest bytes
  too_low : (code low high : ℕ) (rest : List ℕ) → bytes ≡ record_then code low high rest → code < lowest → Unfit lowest bytes

pub unfit : (lowest : ℕ) (bytes : List ℕ) → Unfit lowest bytes → record_fits lowest bytes ≡ false
unfolding record_fits
unfit lowest bytes (no_record n) = rw (begins-none bytes n)
unfit lowest bytes (too_low code low high rest e l) = rw (e, begins-with code low high rest, lt-leb lowest code l)

-- each record is the one or the other
pub data Fitness (lowest : ℕ) (bytes : List ℕ) : Bool → Type 0 where
  good : (code low high : ℕ) (rest : List ℕ) → bytes ≡ record_then code low high rest → lowest ≤ code → Fitness lowest bytes true
  bad : Unfit lowest bytes → Fitness lowest bytes false

pub fitness : (lowest : ℕ) (bytes : List ℕ) → Fitness lowest bytes (record_fits lowest bytes)
unfolding record_fits
fitness lowest bytes = go (begins_with_record bytes) (leb lowest (code_in bytes)) refl refl
  where
    go : (p q : Bool) → begins_with_record bytes ≡ p → leb lowest (code_in bytes) ≡ q → Fitness lowest bytes (p && q)
    go true true e f = good (code_in bytes) (get_or bytes 5 0) (get_or bytes 6 0) (drop 7 bytes) (begun bytes e) (leb-true _ _ f)
    go true false e f = bad (too_low (code_in bytes) (get_or bytes 5 0) (get_or bytes 6 0) (drop 7 bytes) (begun bytes e) (leb-false _ _ f))
    go false q e f = bad (no_record (λ code low high rest z. let y : ◌≡◌ {A = Bool} false true = sym e ∙ ap begins_with_record z ∙ begins-with code low high rest in let x : ◌≡◌ {A = ℕ} 0 1 = cc in omega arith))

-- ---- behind records that fit

-- the bad continuations of rising records are those whose record does not fit
pub bad_unfit : (es : List Setting) (bytes : List ℕ) → Rising 0 (codes_of es) → Bad es bytes → Unfit (lowest_after 0 es) bytes
bad_unfit es bytes r (broken h n) = no_record n
bad_unfit es bytes r (not_above {c} {code} {low} {high} {rest} s le) = too_low code low high rest refl (omega (arith, stands_below 0 es c r s))

pub unfit_bad : (es : List Setting) (bytes : List ℕ) → 0 < length bytes → Unfit (lowest_after 0 es) bytes → Bad es bytes
unfit_bad es bytes h (no_record n) = broken h n
unfit_bad es bytes h (too_low code l g rest e m) = let n = below_stands 0 es code (omega arith) m in subst (Bad es) (sym e) (not_above {c = n.other} n.stands n.above)

-- ---- the walk

-- what is left decides
pub passes : (m lowest at : ℕ) (behind : List ℕ) (es : List Setting) (s : List ℕ) → Records behind es s → Rising lowest (codes_of es)
    → judge_records (length es + m) lowest at s ≡ judge_records m (lowest_after lowest es) (at + 7 * length es) behind
unfolding judge_records lowest_after
passes m lowest at behind [] s none end =
    let e : 0 + m ≡ m = omega arith in
    let f : at ≡ at + 7 * 0 = omega arith in
    ap (λ (n : ℕ). judge_records n lowest at behind) e ∙ ap (λ (n : ℕ). judge_records m lowest n behind) f
passes m lowest at behind (e ∷ es) s (one {code} {low} {high} {rest = rest} r) (more le i) =
    let n : suc (length es) + m ≡ suc (length es + m) = omega arith in
    let f : at + 7 + 7 * length es ≡ at + 7 * suc (length es) = omega arith in
    ap (λ (k : ℕ). judge_records k lowest at s) n
    ∙ rw (fits_then lowest code low high rest le) (passes m (suc code) (at + 7) behind es rest r i)
    ∙ ap (λ (k : ℕ). judge_records m (lowest_after (suc code) es) k behind) f

-- all records fit, or those before the first that does not
pub data Walked (lowest at : ℕ) (s : List ℕ) : Judged → Type 0 where
  all : (es : List Setting) → Records [] es s → Rising lowest (codes_of es) → Walked lowest at s (accepted_at (at + 7 * length es))
  first : (es : List Setting) (bytes : List ℕ) → Records bytes es s → Rising lowest (codes_of es) → 0 < length bytes → Unfit (lowest_after lowest es) bytes
      → Walked lowest at s (refused_at (at + 7 * length es))

-- one more record in front
walk_more : (lowest at code l h : ℕ) (rest : List ℕ) (j : Judged) → lowest ≤ code → Walked (suc code) (at + 7) rest j → Walked lowest at (record_then code l h rest) j
unfolding lowest_after
walk_more lowest at code l h rest j le (all es r i) =
    let f : at + 7 + 7 * length es ≡ at + 7 * suc (length es) = omega arith in
    subst (λ (n : ℕ). Walked lowest at (record_then code l h rest) (accepted_at n)) (sym f) (all (setting_said code l h ∷ es) (one r) (more le i))
walk_more lowest at code l h rest j le (first es bytes r i z u) =
    let f : at + 7 + 7 * length es ≡ at + 7 * suc (length es) = omega arith in
    subst (λ (n : ℕ). Walked lowest at (record_then code l h rest) (refused_at n)) (sym f) (first (setting_said code l h ∷ es) bytes (one r) (more le i) z u)

pub walked : (n lowest at : ℕ) (s : List ℕ) → n ≡ begun_in (length s) → Walked lowest at s (judge_records n lowest at s)
unfolding judge_records lowest_after
walked zero lowest at s e =
    let f : at + 7 * 0 ≡ at = omega arith in
    subst (λ (n : ℕ). Walked lowest at s (accepted_at n)) f (all [] (nothing s (omega arith)) end)
  where
    nothing : (t : List ℕ) → length t ≡ 0 → Records [] [] t
    nothing [] h = none
    nothing (b ∷ t) h = absurd (omega arith)
walked (suc n) lowest at s e = go (record_fits lowest s) (fitness lowest s) (λ code rest m. walked n (suc code) (at + 7) rest m)
  where
    go : (t : Bool) → Fitness lowest s t → ((code : ℕ) (rest : List ℕ) → n ≡ begun_in (length rest) → Walked (suc code) (at + 7) rest (judge_records n (suc code) (at + 7) rest))
        → Walked lowest at s (cond t (judge_records n (suc (code_in s)) (at + record_size) (drop record_size s)) (refused_at at))
    go true (good code l h rest q le) next =
        let m : n ≡ begun_in (length rest) = omega (arith, ap length q) in
        rw q (walk_more lowest at code l h rest _ le (next code rest m))
    go false (bad u) next =
        let f : at + 7 * 0 ≡ at = omega arith in
        subst (λ (k : ℕ). Walked lowest at s (refused_at k)) f (first [] s none end (omega arith) u)
