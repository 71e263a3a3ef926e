-- The display's step conforms: the sentences of `Reads` are those of the faithful board, case by case.
use Prim.Native.Nat.{ℕ, ◌+◌, ◌-◌, ◌≤◌, ◌<◌}
use mathlib.Core.Path.{◌≡◌, refl, ap, ◌∙◌}
use mathlib.Core.Bool.{Bool, true, false, cond}
use mathlib.Core.List.{List}
use mathlib.Core.Option.{some, none}
use native.Mathlib.Omega.{arith}
use lib.ListN.{length}
use lib.Dec.{eqb, ltb}
use borrow.Author.Tests.{eqb-true, eqb-false, ltb-true, ltb-false}
use Rattle.message_rules.specs.Limits.{most_fragment}
use Rattle.message_rules.specs.Message.{requests, encode, to_display}
use Rattle.settings_rules.specs.declared.Declaration.{Declaration}
use Rattle.display_rules.specs.State.{cursor_of, declare}
use Rattle.display_rules.specs.Turn.{bytes_of}
use Rattle.display_rules.specs.Fragments.{fragment_at, fragment_reply}
use Rattle.display_rules.specs.Step.{Outcome}
use Rattle.display_rules.specs.Kept.{Kept, step_kept, kept_declared, kept_loaded}
use Rattle.display_rules.specs.Statements.{Sound, whole, asks_for, Reads, Untouched}
use Rattle.message_rules.specs.declared.TextKind.{TextKind}
use Rattle.message_rules.specs.declared.TextKind.TheVariants.{Capabilities, Table}
use Rattle.display_rules.specs.declared.FragmentCursor.{FragmentCursor}
use Rattle.display_rules.proofs.Sound.{made_is_sound}
use Rattle.display_rules.proofs.Reading.{reads_follow}
use Rattle.display_rules.proofs.Tables.{others_keep}
use Rattle.transfer_rules.specs.Conforming.{offset_set, SizeAllowed, MovesTo, reply_from}
use Rattle.transfer_rules.specs.Fragment.{request_message, fragment_message}
use Rattle.conformance.specs.Conformance.{held, Acts, Conforms}

-- "1 to 32 and at most the bytes left from o, but 0 when none are left": the lesser of the fragment size and what is
-- left is one
size-allowed : (p left s : ℕ) → 1 ≤ p → p ≤ most_fragment → s ≡ cond (ltb p left) p left → SizeAllowed left s
size-allowed p left s low high e = go (ltb p left) refl e
  where
    go : (t : Bool) → ltb p left ≡ t → s ≡ cond t p left → SizeAllowed left s
    go true h f =
        let l : p < left = ltb-true p left h in
        record { at_end = λ z. absurd (omega arith); least = λ z. omega arith; most = omega arith; within = omega arith }
    go false h f =
        let l : left ≤ p = ltb-false p left h in
        record { at_end = λ z. omega arith; least = λ z. omega arith; most = omega arith; within = omega arith }

module _ (k : TextKind) (now : Kept) (out : List ℕ) (q : ℕ) (o : Outcome) (z : Sound now.display) (r : Reads k now out q o) where
  -- the offset was set
  set_to : (n : ℕ) → (cursor_of k o.display).offset.0 ≡ n → MovesTo (length (whole k now)) (held (cursor_of k now.display)) (some n) (held (cursor_of k o.display))
  set_to n e = (e, size-allowed now.display.size (length (whole k now) - n) (cursor_of k o.display).len z.low z.high (rw e at r.size))

  moves : MovesTo (length (whole k now)) (held (cursor_of k now.display)) (offset_set (held (cursor_of k now.display)) q) (held (cursor_of k o.display))
  moves = go (eqb q 0) (eqb q (cursor_of k now.display).offset.0) (eqb q ((cursor_of k now.display).offset.0 + (cursor_of k now.display).len)) refl refl refl
    where
      go : (a b c : Bool) → eqb q 0 ≡ a → eqb q (cursor_of k now.display).offset.0 ≡ b → eqb q ((cursor_of k now.display).offset.0 + (cursor_of k now.display).len) ≡ c
          → MovesTo (length (whole k now)) (held (cursor_of k now.display)) (cond a (some 0) (cond b none (cond c (some q) (some 0)))) (held (cursor_of k o.display))
      go true b c x y w = set_to 0 (r.zero (eqb-true _ _ x))
      go false true c x y w = ap held (r.again (eqb-false _ _ x) (eqb-true _ _ y))
      go false false true x y w = set_to q (r.next (eqb-true _ _ w))
      go false false false x y w = set_to 0 (r.other (eqb-false _ _ y) (eqb-false _ _ w))

reply-is : (k : TextKind) (text : List ℕ) (c : FragmentCursor) → bytes_of (fragment_reply k c (fragment_at text c)) ≡ reply_from k text (held c)
unfolding fragment_message
reply-is Capabilities text c = refl
reply-is Table text c = refl

pub request-is : (k : TextKind) (q : ℕ) → request_message k q ≡ encode requests to_display (asks_for k q)
unfolding request_message
request-is Capabilities q = refl
request-is Table q = refl

acts_of : (k : TextKind) (now : Kept) (out : List ℕ) (q : ℕ) (o : Outcome) → Sound now.display → Reads k now out q o → Acts k now q o
acts_of k now out q o z r =
    record {
      answer = r.answer;
      conforms = record { moves = moves k now out q o z r; replies = r.sent ∙ reply-is k (whole k now) (cursor_of k o.display) };
      keeps = r.kept;
    }

pub display-conforms : Conforms step_kept
unfolding declare
display-conforms = record {
  acts = λ k now out q m w h. rw (request-is k q) (acts_of k now out q _ (made_is_sound now.display m) (reads_follow k now out q m w h));
  others = others_keep;
  declaring = declared;
  loading = loaded;
}
  where
    declared : (k : TextKind) (now : Kept) (e : Declaration) → Untouched k now (kept_declared now e)
    declared Capabilities now e = (refl, refl)
    declared Table now e = (refl, refl)

    loaded : (k : TextKind) (now : Kept) (profile : List ℕ) → Untouched k now (kept_loaded now profile)
    loaded Capabilities now profile = (refl, refl)
    loaded Table now profile = (refl, refl)
