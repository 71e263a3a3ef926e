-- The conforming display (document 01, "The board", last paragraph: the *faithful* board): one that follows the fragment rules with lengths of its own choice.
use Rattle.std.specs.Prelude.{ℕ, ◌+◌, ◌-◌, ◌≤◌, ◌<◌, ◌≡◌, List, cond, length, take, drop, eqb}
use Rattle.std.proofs.Math.Option.{Option, some, none}
use Rattle.message_rules.specs.Limits.{most_fragment}
use Rattle.message_rules.specs.declared.TextKind.{TextKind}
use Rattle.transfer_rules.specs.Fragment.{fragment_message}

-- "holds the text, an offset o and a length s, any two numbers before the first exchange": the fragment cursor
pub record Cursor : Type 0 where
  pub offset : ℕ
  pub size : ℕ

-- "if q is 0, o becomes 0; else if q is o, it keeps both; else if q is o + s, o becomes q; else o becomes 0": the offset that is set, none where both are kept
abbrev pub offset_set : Cursor → ℕ → Option ℕ
offset_set b q = cond (eqb q 0) (some 0) (cond (eqb q b.offset) none (cond (eqb q (b.offset + b.size)) (some q) (some 0)))

-- "1 to 32 and at most the bytes left from o, but 0 when none are left"
pub record SizeAllowed (left s : ℕ) : Type 0 where
  pub at_end : left ≡ 0 → s ≡ 0
  pub least : 0 < left → 1 ≤ s
  pub most : s ≤ most_fragment
  pub within : s ≤ left

-- "Where o was set, s is chosen anew"
abbrev pub MovesTo : ℕ → Cursor → Option ℕ → Cursor → Type 0
MovesTo total before none after = after ≡ before
MovesTo total before (some o) after = (after.offset ≡ o) × SizeAllowed (total - o) after.size

-- "The reply is the piece message with o and the s bytes from o."
abbrev pub reply_from : TextKind → List ℕ → Cursor → List ℕ
reply_from k text b = fragment_message k b.offset (take b.size (drop b.offset text))

-- a conforming display that acts on the offset q of a request for its text: its cursor before and after, and its whole reply
pub record ConformingAct (k : TextKind) (text : List ℕ) (before : Cursor) (q : ℕ) (after : Cursor) (reply : List ℕ) : Type 0 where
  pub moves : MovesTo (length text) before (offset_set before q) after
  pub replies : reply ≡ reply_from k text after
