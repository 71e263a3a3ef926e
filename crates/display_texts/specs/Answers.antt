-- What answering a read of a text or a write of the table comes to: what is left to be done, and every lent byte.
use Rattle.std.specs.Prelude.{ℕ, Some, ◌≡◌, true, cond, List, length, eqb}
use Rattle.message_rules.specs.Answer.{done, code_not_allowed}
use Rattle.message_rules.specs.Message.{table_code, null, to_host}
use Rattle.message_rules.specs.declared.TextKind.{TextKind}
use Rattle.message_rules.specs.declared.TextKind.TheVariants.{Table}
use Rattle.message_output.specs.Output.{built_length, built_answer, built_output}
use Rattle.display_rules.specs.Turn.{bytes_of}
use Rattle.display_rules.specs.Fragments.{fragment_of, found_bytes, fragment_reply}
use Rattle.display_rules.specs.Table.{length_after, written}
use Rattle.display_rules.specs.declared.FragmentCursor.{FragmentCursor}
use Rattle.display_pending.specs.declared.Pending.{Pending}
use Rattle.display_pending.specs.declared.Pending.TheVariants.{Moved, Written, Refused}
use Rattle.display_texts.specs.Writes.{answer_in}

-- the reply from a cursor: "The reply carries the place's new offset", and the fragment that is handed back
abbrev pub reply_from : TextKind → FragmentCursor → (text table : List ℕ) → List ℕ
reply_from k c text table = bytes_of (fragment_reply k c (found_bytes text table (Some (fragment_of k c))))

-- the length of a reply in this output, and the output with it
abbrev pub length_in : List ℕ → List ℕ → ℕ
length_in s out = built_length (built_answer true s out)

abbrev pub sent_into : List ℕ → List ℕ → List ℕ
sent_into s out = built_output true s out

-- a read that goes to the cursor c
pub record Reads (k : TextKind) (c : FragmentCursor) (text table before after : List ℕ) (r : Pending) : Type 0 where
  pub pending : r ≡ Moved (fragment_of k c) (length_in (reply_from k c text table) before)
  pub leaves : after ≡ sent_into (reply_from k c text table) before

-- "Table read (8 unless F4)"; "Table read: null message, length 3"
pub record ReadsTable (code : ℕ) (c : FragmentCursor) (text table before after : List ℕ) (r : Pending) : Type 0 where
  pub pending : r ≡ cond (eqb code table_code) (Moved (fragment_of Table c) (length_in (reply_from Table c text table) before)) (Refused code_not_allowed (length_in (null to_host) before))
  pub leaves : after ≡ cond (eqb code table_code) (sent_into (reply_from Table c text table) before) (sent_into (null to_host) before)

-- a write of the bytes s at an offset of a table of `old` bytes
pub record WritesTable (old code at : ℕ) (s before after : List ℕ) (r : Pending) : Type 0 where
  pub pending : let k = answer_in (length before) old code at (length s) in r ≡ cond (eqb k done) (Written (length_after old at (length s))) (Refused k 0)
  pub leaves : let k = answer_in (length before) old code at (length s) in after ≡ cond (eqb k done) (written before at s) before
