-- The tests of a message behind its head, but those of its fields, by the row of its command number.
use Rattle.std.specs.Prelude.{ℕ, ◌&&◌, cond, List, eqb, ltb, Result, Ok, Err}
use Rattle.message_rules.specs.Read.{Read, ok, refused, after}
use Rattle.message_rules.specs.Body.{empty_answer}
use Rattle.message_rules.specs.Frame.{body_length}
use Rattle.message_rules.specs.Refusal.{number_of}
use Rattle.message_rules.specs.declared.Address.{Address}
use Rattle.message_rules.specs.declared.Direction.{Direction}
use Rattle.message_rules.specs.declared.refusal.Refusal.{Refusal}
use Rattle.message_frame.specs.declared.row.SizedRow.{SizedRow}
use Rattle.message_frame.specs.Parts.{tail_answer}

-- what a result of the code comes to, as reading does
abbrev pub read_of : {K : Type 0} → Result K Refusal → Read K
read_of (Ok k) = ok k
read_of (Err r) = refused (number_of r)

-- the frame's rest, in the form that the row has; 12 or 6 for no body; then what the row says
unfoldable pub verdict_by : {K : Type 0} → Direction → Address → SizedRow K → List ℕ → Read K
verdict_by d a row s = after (tail_answer a (row.plain && ltb 0 (body_length s)) s) (cond (eqb (body_length s) 0) (refused (empty_answer d)) (read_of row.verdict))
