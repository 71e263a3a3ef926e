-- The checker of a group, a word at a time: what holds at each turn of its loop, and what each branch makes of it.
use Prim.Native.Nat.{ℕ, suc, ◌+◌, ◌≤◌, ◌<◌}
use mathlib.Core.Path.{◌≡◌, refl, sym, ap, ◌∙◌, subst}
use mathlib.Core.Bool.{true, false}
use mathlib.Core.List.{List}
use native.Mathlib.Omega.{arith}
use lib.Dec.{eqb}
use lib.ListN.{length, get_or, drop}
use borrow.Author.Tests.{eqb-false}
use Rattle.message_rules.specs.declared.refusal.Refusal.{Refusal}
use Rattle.message_rules.specs.declared.refusal.Refusal.TheVariants as refusal
use Rattle.message_rules.specs.declared.refusal.RefusedAt.{RefusedAt}
use Rattle.capabilities_rules.specs.Limits.{deepest}
use Rattle.capabilities_rules.specs.Machine.{kind_of, is_letter, inside, act_of}
use Rattle.capabilities_rules.specs.Outcome.{judge}
use Rattle.capabilities_rules.specs.Kinds.{ByteKind}
use Rattle.capabilities_rules.specs.Kinds.{Open, Close, Space, Letter, Zero, Other}
use Rattle.capabilities_rules.specs.Kinds.{Free, Word}
use Rattle.capabilities_rules.specs.Kinds.{Refuse}
use Rattle.capabilities_rules.proofs.Laws.{judge-end, stop_deep, go_in, go_out, stop_full, go_word, stop_bad}
use Rattle.capabilities_rules.proofs.Bytes.{KindIs, kind-is}
use Rattle.capabilities_scan.specs.Scan.{spaces}
use Rattle.std.specs.Prelude.{Ok, Err}
use Rattle.capabilities_scan.specs.declared.Past.{Past}
use Rattle.capabilities_checker.specs.Checker.{Group, resumed, Checked, Within}
use Rattle.capabilities_scan.proofs.Runs.{Passed, begins-free, begins, no_spaces, passed, settled, enters, behind, within, free-spaces, none_here, counts-leading, tight_after, spaces-within, passed_within, closes}

-- what the checker returns where the string is refused at `at`
abbrev pub stops : Refusal → ℕ → Group
stops k at = Err (record { refusal = k; position = record { 0 = at } })

-- it began at `start` with `count` nodes, and stands at `at` with n, where no space is
pub record Going (room d start count at n : ℕ) (s : List ℕ) : Type 0 where
  pub same : judge room start count (inside d Free) (drop start s) ≡ judge room at n (inside d Free) (drop at s)
  pub begun : start ≤ at
  pub ends : at ≤ length s
  pub grows : count ≤ n
  pub fits : n ≤ room
  pub tight : spaces (drop at s) ≡ 0

-- past the spaces at the front of its list it has only begun ..
pub began : (room d start count at : ℕ) (s : List ℕ) → at ≡ start + spaces (drop start s) → start ≤ length s → count ≤ room → Going room d at count at count s
began room d start count at s e h fits = record { same = refl; begun = omega arith; ends = spaces-within s start at e h; grows = omega arith; fits = fits; tight = tight_after s start at e }

-- .. and what it finds from there it finds from the list's start
earlier : (room start at count : ℕ) (s : List ℕ) (r : Group) → start ≤ at → Within room at count s r → Within room start count s r
earlier room start at count s (Ok q) h w = (omega (arith, w.0), w.1, w.2, w.3)
earlier room start at count s (Err e) h w = tt

pub from_start : (room d start count at : ℕ) (s : List ℕ) (r r' : Group) → at ≡ start + spaces (drop start s) → r' ≡ r → Checked room at count d s r → Checked room start count d s r'
from_start room d start count at s r r' e same c =
    subst (Checked room start count d s) (sym same) (record { answer = (free-spaces d s start at e).judged room count ∙ c.answer; within = earlier room start at count s r (omega arith) c.within })

-- where no word could take a group, a byte that is no ")", no space and no letter cannot stand
pub unfit : (b : ℕ) (κ : ByteKind) → KindIs b κ → (b ≡ 0x29 → ⊥) → (b ≡ 0x20 → ⊥) → is_letter κ ≡ false → Refuse ≡ act_of Free κ
unfit b Open k nc ns nl = refl
unfit b Close k nc ns nl = absurd (nc k)
unfit b Space k nc ns nl = absurd (ns k)
unfit b Letter k nc ns nl = let z : ◌≡◌ {A = ℕ} 0 1 = cc in absurd (omega arith)
unfit b Zero k nc ns nl = refl
unfit b Other k nc ns nl = refl

module _ (room d start count at n : ℕ) (s : List ℕ) (g : Going room d start count at n s) where
  pub not_space : at < length s → get_or s at 0 ≡ 0x20 → ⊥
  not_space h = eqb-false (get_or s at 0) 0x20 (none_here spaces (λ b. eqb b 0x20) (counts-leading 0x20) s at h g.tight)

  pub at_close : at < length s → get_or s at 0 ≡ 0x29 → Checked room start count d s (Ok (record { next = record { 0 = at + 1 }; nodes = n }))
  at_close h e = record {
    answer = g.same ∙ go_out room at n d Free s h (closes (get_or s at 0) e);
    within = (omega (arith, g.begun), omega arith, g.grows, g.fits);
  }

  pub at_other : at < length s → (get_or s at 0 ≡ 0x29 → ⊥) → is_letter (kind_of (get_or s at 0)) ≡ false → Checked room start count d s (stops refusal.WrongGrammar at)
  at_other h nc nl = record {
    answer = g.same ∙ stop_bad room at n d Free s h (unfit (get_or s at 0) (kind_of (get_or s at 0)) (kind-is (get_or s at 0)) nc (not_space h) nl);
    within = tt;
  }

  pub at_full : at < length s → is_letter (kind_of (get_or s at 0)) ≡ true → room ≤ n → Checked room start count d s (stops refusal.NoNodeRoom at)
  at_full h l full = record { answer = g.same ∙ stop_full room at n d Free s h (begins-free (kind_of (get_or s at 0)) l) full; within = tt }

  pub at-end : length s ≤ at → Checked room start count d s (stops refusal.WrongGrammar at)
  at-end h = record { answer = g.same ∙ judge-end room at n d Free s h; within = tt }

  module _ (end next : ℕ) (w : Passed s at end next) (more : n < room) where
    -- the word's first byte
    word : judge room start count (inside d Free) (drop start s) ≡ judge room (at + 1) (n + 1) (inside d Word) (drop (at + 1) s)
    word = g.same ∙ go_word room at n d Free s w.inside (begins s at end next w) more

    up_to : judge room start count (inside d Free) (drop start s) ≡ judge room next (n + 1) (inside d (behind s at end next w)) (drop next s)
    up_to = word ∙ (passed s at end next w d).judged room (n + 1)

    pub at-deep : get_or s next 0 ≡ 0x28 → deepest ≤ suc d → Checked room start count d s (stops refusal.TooDeep next)
    at-deep e deep = record { answer = up_to ∙ stop_deep room next (n + 1) d (behind s at end next w) s (within s next e) (enters s at end next w e) (omega arith); within = tt }

    pub past_word : (get_or s next 0 ≡ 0x28 → ⊥) → Going room d start count next (n + 1) s
    past_word shut = record {
      same = word ∙ (settled s at end next w d shut).judged room (n + 1);
      begun = omega (arith, g.begun, w.ends, w.rests);
      ends = passed_within s at end next w;
      grows = omega (arith, g.grows);
      fits = omega arith;
      tight = no_spaces s at end next w;
    }

    -- what the call for the inner group ensures
    module _ (e : get_or s next 0 ≡ 0x28) (d' : ℕ) (deeper : d' ≡ suc d) (low : suc d < deepest) (r : Group) (inner : Checked room (next + 1) (n + 1) d' s r) where
      found : (r' : Group) → r ≡ r' → judge room start count (inside d Free) (drop start s) ≡ resumed room (suc d) s r'
      found r' same =
          up_to ∙ go_in room next (n + 1) d (behind s at end next w) s (within s next e) (enters s at end next w e) (omega arith)
          ∙ subst (λ (j : ℕ). judge room (next + 1) (n + 1) (inside j Free) (drop (next + 1) s) ≡ resumed room j s r) deeper inner.answer
          ∙ ap (resumed room (suc d) s) same

      pub inner-stops : (k : RefusedAt) → r ≡ Err k → Checked room start count d s (Err k)
      inner-stops k same = record { answer = found (Err k) same; within = tt }

      inner-bounds : (q : Past) → r ≡ Ok q → Within room (next + 1) (n + 1) s (Ok q)
      inner-bounds q same = subst (Within room (next + 1) (n + 1) s) same inner.within

      pub past-group : (q : Past) (at' : ℕ) → r ≡ Ok q → at' ≡ q.next.0 + spaces (drop q.next.0 s) → Going room d start count at' q.nodes s
      past-group q at' same skip =
          let b = inner-bounds q same in
          record {
            same = found (Ok q) same ∙ (free-spaces d s q.next.0 at' skip).judged room q.nodes;
            begun = omega (arith, g.begun, w.ends, w.rests);
            ends = spaces-within s q.next.0 at' skip b.1;
            grows = omega (arith, g.grows);
            fits = b.3;
            tight = tight_after s q.next.0 at' skip;
          }
