-- The filler of a group, a word at a time: what holds at each turn of its loop, and what each branch makes of it.
use Prim.Native.Nat.{ℕ, zero, suc, ◌+◌, ◌-◌, ◌≤◌, ◌<◌}
use mathlib.Core.Path.{◌≡◌, refl, sym, ap, ap₂, ◌∙◌, subst}
use mathlib.Core.Bool.{Bool, true, false, cond}
use mathlib.Core.List.{List, ◌∷◌}
use native.Mathlib.Numerals.{add-one}
use native.Mathlib.Omega.{arith}
use lib.Dec.{eqb, leb}
use lib.ListN.{length, get_or, drop}
use lib.Seq.{drop-drop}
use borrow.Author.Tests.{eqb-true, eqb-false, leb-true, leb-false}
use Rattle.capabilities_rules.specs.Limits.{deepest}
use Rattle.capabilities_rules.specs.Machine.{kind_of, is_letter, inside, act_of, leaving}
use Rattle.capabilities_rules.specs.Outcome.{judge, is_accepted}
use Rattle.capabilities_rules.specs.Nodes.{nodes, node_at, letters, opens, opened, latest}
use Rattle.capabilities_rules.specs.Buffers.{Buffers, buffer_room}
use Rattle.capabilities_rules.specs.Kinds.{ByteKind}
use Rattle.capabilities_rules.specs.Kinds.{Open, Close, Space, Letter, Zero, Other}
use Rattle.capabilities_rules.specs.Kinds.{Free, Word}
use Rattle.capabilities_rules.specs.Kinds.{Enter, Leave, Begin, Refuse}
use Rattle.capabilities_rules.proofs.Laws.{nodes-at, taken, not_deep, not_full, letters-at, opens_at, opens-end, not_ended}
use Rattle.capabilities_rules.proofs.Bytes.{KindIs, kind-is}
use Rattle.capabilities_scan.specs.Scan.{spaces, around}
use Rattle.capabilities_reader.specs.Filler.{node, put, stored, Filled}
use Rattle.capabilities_scan.proofs.Runs.{Passed, begins, no_spaces, passed, settled, enters, behind, within, free-spaces, first_of, none_here, counts-leading, tight_after, spaces-within, passed_within, closes}

-- the buffers are as long as they were
pub record SameSize (t₀ t : Buffers) : Type 0 where
  pub starts : length t.starts ≡ length t₀.starts
  pub lengths : length t.lengths ≡ length t₀.lengths
  pub parents : length t.parents ≡ length t₀.parents
  pub groups : length t.groups ≡ length t₀.groups

pub room-same : (t₀ t : Buffers) → SameSize t₀ t → buffer_room t ≡ buffer_room t₀
room-same t₀ t e = rw (e.starts, e.lengths, e.parents, e.groups)

-- ---- the node of a word

opens-past : (s : List ℕ) (k at : ℕ) → spaces (drop at s) ≡ k → opens (drop at s) ≡ opens (drop (at + k) s)
unfolding kind_of
opens-past s zero at e = let same : at ≡ at + 0 = omega arith in ap (λ (i : ℕ). opens (drop i s)) same
opens-past s (suc k) at e =
    let f = first_of spaces (λ b. eqb b 0x20) (counts-leading 0x20) s at k e in
    let same : at + 1 + k ≡ at + suc k = omega arith in
    opens_at s at Space f.inside (sym (ap kind_of (eqb-true (get_or s at 0) 0x20 f.is))) ∙ opens-past s k (at + 1) f.rest ∙ ap (λ (i : ℕ). opens (drop i s)) same

opens-here : (s : List ℕ) (at : ℕ) → get_or s at 0 ≡ 0x28 → opens (drop at s) ≡ 1
unfolding kind_of
opens-here s at e = opens_at s at Open (within s at e) (sym (ap kind_of e))

opened_not : (b : ℕ) (κ : ByteKind) (rest : ℕ) → KindIs b κ → (b ≡ 0x28 → ⊥) → (b ≡ 0x20 → ⊥) → opened κ rest ≡ 0
opened_not b Open rest k shut ns = absurd (shut k)
opened_not b Close rest k shut ns = refl
opened_not b Space rest k shut ns = absurd (ns k)
opened_not b Letter rest k shut ns = refl
opened_not b Zero rest k shut ns = refl
opened_not b Other rest k shut ns = refl

opens_not : (s : List ℕ) (at : ℕ) → (get_or s at 0 ≡ 0x28 → ⊥) → spaces (drop at s) ≡ 0 → opens (drop at s) ≡ 0
opens_not s at shut ns = go (leb (length s) at) refl
  where
    go : (t : Bool) → leb (length s) at ≡ t → opens (drop at s) ≡ 0
    go true f = opens-end s at (leb-true (length s) at f)
    go false f =
        let h : at < length s = leb-false (length s) at f in
        opens_at s at (kind_of (get_or s at 0)) h refl
        ∙ opened_not (get_or s at 0) (kind_of (get_or s at 0)) (opens (drop (at + 1) s)) (kind-is (get_or s at 0)) shut (eqb-false (get_or s at 0) 0x20 (none_here spaces (λ b. eqb b 0x20) (counts-leading 0x20) s at h ns))

opens-is : (s : List ℕ) (at : ℕ) → spaces (drop at s) ≡ 0 → opens (drop at s) ≡ cond (eqb (get_or s at 0) 0x28) 1 0
opens-is s at ns = go (eqb (get_or s at 0) 0x28) refl
  where
    go : (b : Bool) → eqb (get_or s at 0) 0x28 ≡ b → opens (drop at s) ≡ cond b 1 0
    go true f = opens-here s at (eqb-true (get_or s at 0) 0x28 f)
    go false f = opens_not s at (eqb-false (get_or s at 0) 0x28 f) ns

-- the node that a word has, from where it ends and whether a "(" stands behind its spaces
pub node-is : (s : List ℕ) (at end next p : ℕ) → Passed s at end next → node_at at p (drop at s) ≡ node at (end - at) p (cond (eqb (get_or s next 0) 0x28) 1 0)
node-is s at end next p w =
    let size : letters (drop at s) ≡ end - at = omega (arith, letters-at s at true w.inside (sym w.letter), w.ends) in
    let to_end : at + letters (drop at s) ≡ end = omega (arith, w.ends) in
    let ahead : opens (drop (letters (drop at s)) (drop at s)) ≡ cond (eqb (get_or s next 0) 0x28) 1 0 =
    ap opens (drop-drop (letters (drop at s)) at s) ∙ ap (λ (i : ℕ). opens (drop i s)) to_end ∙ opens-past s (spaces (drop end s)) end refl
    ∙ ap (λ (i : ℕ). opens (drop i s)) (sym w.rests) ∙ opens-is s next (no_spaces s at end next w) in
    ap₂ (λ (k o : ℕ). node at k p o) size ahead

-- ---- the loop

-- it began at `start` with `count` nodes, and stands at `at` with n: what was to be stored then is what is still to be stored
pub record Filling (room d start count parent at n : ℕ) (s : List ℕ) (t₀ t : Buffers) : Type 0 where
  pub read : is_accepted (judge room at n (inside d Free) (drop at s)) ≡ true
  pub same : (ps : List ℕ) → stored t₀ count (nodes start count (parent ∷ ps) (inside d Free) (drop start s)) ≡ stored t n (nodes at n (parent ∷ ps) (inside d Free) (drop at s))
  pub begun : start ≤ at
  pub ends : at ≤ length s
  pub fits : n ≤ room
  pub sizes : SameSize t₀ t
  pub tight : spaces (drop at s) ≡ 0

-- past the spaces at the front of its list it has only begun ..
pub began : (room d start count parent at : ℕ) (s : List ℕ) (t : Buffers) → at ≡ start + spaces (drop start s) → start ≤ length s → count ≤ room
    → is_accepted (judge room start count (inside d Free) (drop start s)) ≡ true → Filling room d at count parent at count s t t
began room d start count parent at s t e h fits read = record {
  read = sym (ap is_accepted ((free-spaces d s start at e).judged room count)) ∙ read;
  same = λ ps. refl;
  begun = omega arith;
  ends = spaces-within s start at e h;
  fits = fits;
  sizes = record { starts = refl; lengths = refl; parents = refl; groups = refl };
  tight = tight_after s start at e;
}

-- .. and what it stores from there it stores from the list's start
pub from_start : (left start count parent at : ℕ) (s : List ℕ) (t t' : Buffers) (next n : ℕ) → at ≡ start + spaces (drop start s)
    → Filled at left count parent s t t' next n → Filled start left count parent s t t' next n
from_start left start count parent at s t t' next n e f = record {
  past = omega (arith, f.past);
  ends = f.ends;
  fits = f.fits;
  read = f.read;
  same = λ ps. ap (stored t count) ((free-spaces (around left) s start at e).noded count (parent ∷ ps)) ∙ f.same ps;
}

-- where no word could take a group, an accepted byte that is no ")" and no space is a letter
fit : (b : ℕ) (κ : ByteKind) → KindIs b κ → (b ≡ 0x29 → ⊥) → (b ≡ 0x20 → ⊥) → (Refuse ≡ act_of Free κ → ⊥) → is_letter κ ≡ true
fit b Open k nc ns ok = absurd (ok refl)
fit b Close k nc ns ok = absurd (nc k)
fit b Space k nc ns ok = absurd (ns k)
fit b Letter k nc ns ok = refl
fit b Zero k nc ns ok = absurd (ok refl)
fit b Other k nc ns ok = absurd (ok refl)

module _ (room d start count parent at n : ℕ) (s : List ℕ) (t₀ t : Buffers) (f : Filling room d start count parent at n s t₀ t) where
  -- the string does not end within the group
  pub goes_on : at < length s
  goes_on = go (leb (length s) at) refl
    where
      go : (b : Bool) → leb (length s) at ≡ b → at < length s
      go true e = not_ended room at n d Free s (leb-true (length s) at e) f.read
      go false e = leb-false (length s) at e

  pub letter_there : (get_or s at 0 ≡ 0x29 → ⊥) → is_letter (kind_of (get_or s at 0)) ≡ true
  letter_there nc =
      fit (get_or s at 0) (kind_of (get_or s at 0)) (kind-is (get_or s at 0)) nc (eqb-false (get_or s at 0) 0x20 (none_here spaces (λ b. eqb b 0x20) (counts-leading 0x20) s at goes_on f.tight))
      (λ e. let z = (taken room at n (inside d Free) s Refuse goes_on e f.read).0 in omega arith)

  module _ (end next : ℕ) (w : Passed s at end next) where
    pub roomy : n < room
    roomy = not_full room n (taken room at n (inside d Free) s Begin w.inside (begins s at end next w) f.read).0

    read-on : is_accepted (judge room (at + 1) (n + 1) (inside d Word) (drop (at + 1) s)) ≡ true
    read-on = (taken room at n (inside d Free) s Begin w.inside (begins s at end next w) f.read).1

    -- once its node is stored
    module _ (t' : Buffers) (g : ℕ) (is : g ≡ cond (eqb (get_or s next 0) 0x28) 1 0) (store : t' ≡ put t n (node at (end - at) parent g)) (sizes : SameSize t₀ t') where
      stored_on : (ps : List ℕ) → stored t₀ count (nodes start count (parent ∷ ps) (inside d Free) (drop start s))
          ≡ stored t' (n + 1) (nodes (at + 1) (n + 1) (parent ∷ ps) (inside d Word) (drop (at + 1) s))
      unfolding stored
      stored_on ps =
          f.same ps ∙ ap (stored t n) (nodes-at at n (parent ∷ ps) (inside d Free) s Begin w.inside (begins s at end next w))
          ∙ ap (λ (u : Buffers). stored u (n + 1) (nodes (at + 1) (n + 1) (parent ∷ ps) (inside d Word) (drop (at + 1) s))) (ap (put t n) (node-is s at end next parent w ∙ ap (node at (end - at) parent) (sym is)) ∙ sym store)

      pub past_word : (get_or s next 0 ≡ 0x28 → ⊥) → Filling room d start count parent next (n + 1) s t₀ t'
      past_word shut =
          let p = settled s at end next w d shut in
          record {
            read = sym (ap is_accepted (p.judged room (n + 1))) ∙ read-on;
            same = λ ps. stored_on ps ∙ ap (stored t' (n + 1)) (p.noded (n + 1) (parent ∷ ps));
            begun = omega (arith, f.begun, w.ends, w.rests);
            ends = passed_within s at end next w;
            fits = omega (arith, roomy);
            sizes = sizes;
            tight = no_spaces s at end next w;
          }

      -- past the inner group
      pub past-group : (e : get_or s next 0 ≡ 0x28) (left past k at' : ℕ) (t'' : Buffers) → buffer_room t' ≡ room → around left ≡ suc d → Filled (next + 1) left (n + 1) n s t' t'' past k
          → SameSize t₀ t'' → at' ≡ past + spaces (drop past s) → Filling room d start count parent at' k s t₀ t''
      past-group e left past k at' t'' same-room deeper i sizes'' skip =
          let p = free-spaces d s past at' skip in
          let inner-same : (ps : List ℕ) → stored t' (n + 1) (nodes (next + 1) (n + 1) (latest (n + 1) ∷ ps) (inside (suc d) Free) (drop (next + 1) s)) ≡ stored t'' k (nodes past k ps (inside d Free) (drop past s)) =
          λ ps. ap (λ (i : ℕ). stored t' (n + 1) (nodes (next + 1) (n + 1) (latest i ∷ ps) (inside (suc d) Free) (drop (next + 1) s))) (add-one n)
          ∙ subst (λ (j : ℕ). stored t' (n + 1) (nodes (next + 1) (n + 1) (n ∷ ps) (inside j Free) (drop (next + 1) s)) ≡ stored t'' k (nodes past k ps (leaving j) (drop past s))) deeper (i.same ps) in
          record {
            read = sym (ap is_accepted (p.judged room k))
                ∙ subst (λ (j : ℕ). is_accepted (judge room past k (leaving j) (drop past s)) ≡ true) deeper (subst (λ (j : ℕ). is_accepted (judge j past k (leaving (around left)) (drop past s)) ≡ true) same-room i.read);
            same = λ ps. stored_on ps ∙ ap (stored t' (n + 1)) ((passed s at end next w d).noded (n + 1) (parent ∷ ps) ∙ nodes-at next (n + 1) (parent ∷ ps) (inside d (behind s at end next w)) s Enter (within s next e) (enters s at end next w e))
                ∙ inner-same (parent ∷ ps) ∙ ap (stored t'' k) (p.noded k (parent ∷ ps));
            begun = omega (arith, f.begun, w.ends, w.rests, i.past);
            ends = spaces-within s past at' skip i.ends;
            fits = subst (λ (j : ℕ). k ≤ j) same-room i.fits;
            sizes = sizes'';
            tight = tight_after s past at' skip;
          }

    -- the inner group
    module _ (e : get_or s next 0 ≡ 0x28) where
      entering : (suc d < deepest) × (is_accepted (judge room (next + 1) (n + 1) (inside (suc d) Free) (drop (next + 1) s)) ≡ true)
      entering =
          let r = taken room next (n + 1) (inside d (behind s at end next w)) s Enter (within s next e) (enters s at end next w e)
          (sym (ap is_accepted ((passed s at end next w d).judged room (n + 1))) ∙ read-on) in
          (omega (arith, not_deep (suc d) r.0), r.1)

      pub low : suc d < deepest
      low = entering.0

      pub inner-read : (room' d' : ℕ) → room' ≡ room → d' ≡ suc d → is_accepted (judge room' (next + 1) (n + 1) (inside d' Free) (drop (next + 1) s)) ≡ true
      inner-read room' d' same deeper =
          subst (λ (j : ℕ). is_accepted (judge j (next + 1) (n + 1) (inside d' Free) (drop (next + 1) s)) ≡ true) (sym same)
          (subst (λ (j : ℕ). is_accepted (judge room (next + 1) (n + 1) (inside j Free) (drop (next + 1) s)) ≡ true) (sym deeper) entering.1)

-- at the group's ")"
pub at_close : (left start count parent at n : ℕ) (s : List ℕ) (t₀ t : Buffers) → Filling (buffer_room t₀) (around left) start count parent at n s t₀ t → at < length s
    → get_or s at 0 ≡ 0x29 → Filled start left count parent s t₀ t (at + 1) n
at_close left start count parent at n s t₀ t f h e = record {
  past = omega (arith, f.begun);
  ends = omega arith;
  fits = f.fits;
  read = (taken (buffer_room t₀) at n (inside (around left) Free) s Leave h (closes (get_or s at 0) e) f.read).1;
  same = λ ps. f.same ps ∙ ap (stored t n) (nodes-at at n (parent ∷ ps) (inside (around left) Free) s Leave h (closes (get_or s at 0) e));
}
