-- What a write to the table comes to, and what it leaves in the table's buffer.
use Rattle.std.specs.Prelude.{ℕ, ◌≡◌, cond, List, Result, Ok, Err, length, eqb, leb}
use Rattle.message_rules.specs.Answer.{done, wrong_size}
use Rattle.message_rules.specs.Read.{unless}
use Rattle.message_rules.specs.Refusal.{answer_number}
use Rattle.message_rules.specs.declared.refusal.Refusal.{Refusal}
use Rattle.display_rules.specs.Limits.{table_room}
use Rattle.display_rules.specs.Table.{write_answer, length_after, written}

-- 1 for a buffer that is too small, which no step passes on; then the answer of the rules
abbrev pub answer_in : (room old code at n : ℕ) → ℕ
answer_in room old code at n = unless (leb table_room room) wrong_size (write_answer code old at n)

-- the table's length afterwards: a refusal leaves the old one
abbrev pub length_left : (old : ℕ) → Result ℕ Refusal → ℕ
length_left old (Ok n) = n
length_left old (Err r) = old

-- length and bytes change where the answer is 0
pub record Writes (old code at : ℕ) (s before after : List ℕ) (w : Result ℕ Refusal) : Type 0 where
  pub answers : answer_number w ≡ answer_in (length before) old code at (length s)
  pub lengthens : length_left old w ≡ cond (eqb (answer_number w) done) (length_after old at (length s)) old
  pub leaves : after ≡ cond (eqb (answer_number w) done) (written before at s) before
