-- What the parts that judge a message answer is what is to be done by the rules, where the buffers are lent well.
use mathlib.Core.Path.{◌≡◌, refl}
use mathlib.Core.Bool.{Bool, true, false}
use mathlib.Core.List.{List}
use Prim.Native.Nat.{ℕ, ◌≤◌}
use native.Mathlib.Omega.{arith}
use Rattle.std.specs.Prelude.{min}
use lib.ListN.{length}
use lib.Dec.{eqb, leb}
use borrow.Author.Tests.{le-leb}
use Rattle.message_rules.specs.Answer.{done}
use Rattle.message_rules.specs.Limits.{output_room, most_fragment}
use Rattle.message_rules.specs.Message.{get_feature, timing, table_read, table_write, table_code, to_host}
use Rattle.message_rules.specs.declared.TextKind.{TextKind}
use Rattle.settings_rules.specs.Settings.{get_code, reserved_bits}
use Rattle.display_rules.specs.Limits.{table_room}
use Rattle.display_rules.specs.State.{text_state}
use Rattle.display_rules.specs.Turn.{bytes_of, feature_reply, get_turn, timing_turn}
use Rattle.display_rules.specs.Fragments.{next_cursor, read_turn, table_read_turn}
use Rattle.display_rules.specs.Table.{write_answer, table_write_turn}
use Rattle.display_rules.specs.Step.{outcome}
use Rattle.display_rules.specs.declared.Display.{Display}
use Rattle.display_pending.specs.Send.{Sent}
use Rattle.display_pending.specs.Pending.{replied, pending_by, Prepares}
use Rattle.display_pending.specs.declared.Pending.{Pending}
use Rattle.display_pending.specs.declared.Pending.TheVariants.{Replied}
use Rattle.display_pending.proofs.Laws.{sent-whole}
use Rattle.display_device.specs.Timing.{SendsTiming}
use Rattle.display_texts.specs.Answers.{Reads, ReadsTable, WritesTable}
use Rattle.display_texts.specs.Writes.{answer_in}

pub get_prepares : (d : Display) (table before after : List ℕ) (c n : ℕ) → output_room ≤ length before → Sent true (bytes_of (feature_reply (get_code d.settings c))) before after n
    → Prepares d (pending_by d (get_feature c) (get_turn d table c)) (outcome (get_turn d table c) before) (Replied n) table after
unfolding get_turn
get_prepares d table before after c n h r = let s = sent-whole r refl h in record { pending = rw s.0; comes = rw (s.0, s.1) }

pub timing_prepares : (d : Display) (table before after : List ℕ) (p : Pending) → output_room ≤ length before → SendsTiming to_host d.settings before after p
    → Prepares d (pending_by d timing (timing_turn d table)) (outcome (timing_turn d table) before) p table after
unfolding timing_turn
timing_prepares d table before after p h r = go (eqb (reserved_bits d.settings.status) 0) refl
  where
    room : leb output_room (length before) ≡ true
    room = le-leb output_room (length before) h

    go : (t : Bool) → eqb (reserved_bits d.settings.status) 0 ≡ t → Prepares d (pending_by d timing (timing_turn d table)) (outcome (timing_turn d table) before) p table after
    go true e = record { pending = rw (r.pending, room, e); comes = rw (r.pending, r.leaves, room, e) }
    go false e = record { pending = rw (r.pending, room, e); comes = rw (r.pending, r.leaves, room, e) }

pub read_prepares : (k : TextKind) (d : Display) (lent table before after : List ℕ) (q : ℕ) (p : Pending) → output_room ≤ length before
    → Reads k (next_cursor (min d.size most_fragment) (text_state k d) q) lent table before after p
    → Prepares d (replied (read_turn k d lent table q).found (length (read_turn k d lent table q).reply)) (outcome (read_turn k d lent table q) before) p table after
unfolding read_turn
read_prepares k d lent table before after q p h r =
    let room = le-leb output_room (length before) h in record { pending = rw (r.pending, room); comes = rw (r.pending, r.leaves, room) }

pub table-read_prepares : (d : Display) (lent table before after : List ℕ) (c q : ℕ) (p : Pending) → output_room ≤ length before
    → ReadsTable c (next_cursor (min d.size most_fragment) d.table q) lent table before after p
    → Prepares d (pending_by d (table_read c q) (table_read_turn d lent table c q)) (outcome (table_read_turn d lent table c q) before) p table after
unfolding table_read_turn read_turn
table-read_prepares d lent table before after c q p h r = go (eqb c table_code) refl
  where
    room : leb output_room (length before) ≡ true
    room = le-leb output_room (length before) h

    go : (t : Bool) → eqb c table_code ≡ t → Prepares d (pending_by d (table_read c q) (table_read_turn d lent table c q)) (outcome (table_read_turn d lent table c q) before) p table after
    go true e = record { pending = rw (r.pending, room, e); comes = rw (r.pending, r.leaves, room, e) }
    go false e = record { pending = rw (r.pending, room, e); comes = rw (r.pending, r.leaves, room, e) }

-- the table's own buffer is large enough
full : (room old code at n : ℕ) → room ≡ table_room → answer_in room old code at n ≡ write_answer code old at n
full room old code at n e = rw (le-leb table_room room (omega arith))

pub write_prepares : (d : Display) (before after out : List ℕ) (c at : ℕ) (s : List ℕ) (p : Pending) → length before ≡ table_room
    → WritesTable d.table.len c at s before after p
    → Prepares d (pending_by d (table_write c at s) (table_write_turn d before c at s)) (outcome (table_write_turn d before c at s) out) p after out
unfolding table_write_turn
write_prepares d before after out c at s p h r = go (eqb (write_answer c d.table.len at (length s)) done) refl
  where
    roomy : answer_in (length before) d.table.len c at (length s) ≡ write_answer c d.table.len at (length s)
    roomy = full (length before) d.table.len c at (length s) h

    go : (t : Bool) → eqb (write_answer c d.table.len at (length s)) done ≡ t
        → Prepares d (pending_by d (table_write c at s) (table_write_turn d before c at s)) (outcome (table_write_turn d before c at s) out) p after out
    go true e = record { pending = rw (r.pending, roomy, e); comes = rw (r.pending, r.leaves, roomy, e) }
    go false e = record { pending = rw (r.pending, roomy, e, e); comes = rw (r.pending, r.leaves, roomy, e) }
