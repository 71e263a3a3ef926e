-- `display_texts::table::write` meets its contract. Bytes and length change where the answer is 0.
use Rattle.std.proofs.Common.{rules, Result, Err}
use mathlib.Core.Path.{◌≡◌, refl, sym, ap, ◌∙◌}
use mathlib.Core.List.{List}
use Prim.Native.Nat.{ℕ, ◌+◌, ◌≤◌}
use native.Mathlib.Omega.{arith}
use lib.ListN.{length}
use borrow.Author.Tests.{le-leb, lt-leb}
use Rattle.message_rules.specs.Refusal.{number_of}
use Rattle.message_rules.specs.declared.refusal.Refusal.{Refusal}
use Rattle.message_rules.proofs.Refusals.{refused-by_number}
use Rattle.display_rules.specs.Limits.{table_room}
use Rattle.display_rules.specs.Table.{write_answer, written}
use Rattle.buffers.specs.Buffers.{put_whole}
use Rattle.buffers.proofs.Puts.{put-fits}
use Rattle.display_texts.specs.Writes.{answer_in, Writes}
use Rattle.display_rules.proofs.Sound.{write_accepted}
use Rattle.display_texts.proofs.table.write.Goals as goal

-- a buffer that is large enough leaves the answer to the rules
roomy : (room old code at n k : ℕ) → table_room ≤ room → k ≡ write_answer code old at n → k ≡ answer_in room old code at n
roomy room old code at n k h e = rw (le-leb table_room room h) e

-- a refusal leaves the table's length and every byte
refuses : (old code at : ℕ) (s before : List ℕ) (r : Refusal) (w : Result ℕ Refusal) → w ≡ Err r → number_of r ≡ answer_in (length before) old code at (length s)
    → Writes old code at s before before w
refuses old code at s before r w e h =
    rw e (record { answers = h; lengthens = rw (refused-by_number r); leaves = rw (refused-by_number r) })

-- what is put at the offset fits into the buffer
put-there : (table s after : List ℕ) (at i : ℕ) → i ≡ at → at + length s ≤ table_room → table_room ≤ length table → after ≡ put_whole table i s → after ≡ written table at s
put-there table s after at i e h room f = f ∙ ap (λ (j : ℕ). put_whole table j s) e ∙ put-fits table at s (omega arith)

pub overflow_cast-data : goal.overflow_cast-data
overflow_cast-data c = omega (arith, (write_accepted _ _ _ _ (sym c.in_ok-write_answer.ensures)).2)

pub length_after-requires : goal.length_after-requires
length_after-requires c = (write_accepted _ _ _ _ (sym c.in_ok-write_answer.ensures)).2

pub returns-then-short : goal.returns-then-short
returns-then-short c = let a = c.args in refuses a.old a.code a.at.0 a.«data».now a.table.now _ _ refl (rw (lt-leb table_room (length a.table.now) c.if-short.true))

pub returns-in_err-write_answer : goal.returns-in_err-write_answer
returns-in_err-write_answer c =
    let a = c.args in
    refuses a.old a.code a.at.0 a.«data».now a.table.now c.in_err-write_answer.field-0.0 _ (search rules) (roomy _ _ _ _ _ _ c.if-short.false c.in_err-write_answer.ensures)

pub returns : goal.returns
returns c =
    let a = c.args in
    let accepted = (write_accepted _ _ _ _ (sym c.in_ok-write_answer.ensures)).2 in
    let there = put-there a.table.now a.«data».now c.put.new.out a.at.0 _ c.from.ensures accepted c.if-short.false c.put.ensures in
    record { answers = roomy _ _ _ _ _ _ c.if-short.false c.in_ok-write_answer.ensures; lengthens = c.length_after.ensures; leaves = there }
