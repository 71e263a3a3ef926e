-- No fragment that a read finds is too long to be sent; so a read goes to it.
-- Assumes nothing.
use mathlib.Core.Path.{◌≡◌}
use mathlib.Core.Bool.{true}
use mathlib.Core.List.{List}
use Prim.Native.Nat.{ℕ, ◌-◌, ◌≤◌}
use native.Mathlib.Omega.{arith}
use lib.ListN.{length, length-take}
use lib.Dec.{leb}
use borrow.Author.Tests.{le-leb}
use Rattle.message_rules.specs.Limits.{most_fragment}
use Rattle.message_rules.specs.declared.TextKind.{TextKind}
use Rattle.display_rules.specs.Fragments.{fragment_of, next_cursor, found_bytes}
use Rattle.display_rules.specs.declared.FragmentCursor.{FragmentCursor}
use Rattle.display_rules.specs.declared.TextState.{TextState}
use Rattle.std.specs.Prelude.{Some, min}
use Rattle.std.proofs.Math.Nat.{min-le_left, min-le_right}
use Rattle.display_pending.specs.Send.{Sent}
use Rattle.display_pending.specs.declared.Pending.TheVariants.{Moved}
use Rattle.display_texts.specs.Answers.{reply_from, Reads}

fragment-fits : (k : TextKind) (text table : List ℕ) (p : ℕ) (t : TextState) (q : ℕ) → length (found_bytes text table (Some (fragment_of k (next_cursor (min p most_fragment) t q)))) ≤ most_fragment
unfolding next_cursor
fragment-fits k text table p t q =
    simp length-take (omega (arith, min-le_right p most_fragment, min-le_left (min p most_fragment) (t.len - (next_cursor (min p most_fragment) t q).offset.0)))

fragment-allowed : (k : TextKind) (text table : List ℕ) (p : ℕ) (t : TextState) (q : ℕ)
    → leb (length (found_bytes text table (Some (fragment_of k (next_cursor (min p most_fragment) t q))))) most_fragment ≡ true
fragment-allowed k text table p t q = le-leb (length (found_bytes text table (Some (fragment_of k (next_cursor (min p most_fragment) t q))))) most_fragment (fragment-fits k text table p t q)

-- the cursor c that was found, and the fragment at it that was sent
pub reads_of : (k : TextKind) (text table : List ℕ) (p : ℕ) (t : TextState) (q : ℕ) {c : FragmentCursor} {n : ℕ} {before after : List ℕ}
    → c ≡ next_cursor (min p most_fragment) t q → Sent (leb (length (found_bytes text table (Some (fragment_of k c)))) most_fragment) (reply_from k c text table) before after n
    → Reads k (next_cursor (min p most_fragment) t q) text table before after (Moved (fragment_of k c) n)
reads_of k text table p t q {c} e sent =
    let allowed : leb (length (found_bytes text table (Some (fragment_of k c)))) most_fragment ≡ true = rw e (fragment-allowed k text table p t q) in
    record { pending = rw (← e, sent.counted, allowed); leaves = rw (← e, sent.leaves, allowed) }
