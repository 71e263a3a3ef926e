-- `message_output::build` meets its contract: 1, then 7 for more than the room, else the message.
-- Assumes nothing.
use mathlib.Core.Path.{◌≡◌, refl, ap, ◌∙◌}
use lib.ListN.{length}
use mathlib.Core.Bool.{true}
use mathlib.Core.List.{◌++◌}
use Prim.Native.Nat.{ℕ}
use native.Mathlib.Omega.{arith}
use borrow.Author.Tests.{le-leb}
use Rattle.checksum.specs.Xor.{xor_all}
use Rattle.std.specs.Prelude.{Err}
use Rattle.message_rules.specs.Limits.{output_room}
use Rattle.message_rules.specs.Frame.{closed}
use Rattle.message_rules.specs.declared.refusal.Refusal.TheVariants.{WrongField}
use Rattle.message_output.proofs.Outputs.{builds-none, builds-refused, builds-done, too_long, short-enough, built}
use borrow.Author.Rules.{rules}
use Rattle.message_output.proofs.build.Goals as goal

pub returns-then-out-lt-OUTPUT_ROOM : goal.returns-then-out-lt-OUTPUT_ROOM
returns-then-out-lt-OUTPUT_ROOM c = let a = c.args in builds-none _ (closed a.seed (a.head.now ++ a.«data».now)) a.out.now c.if-out-lt-OUTPUT_ROOM.true

pub returns-then-head-data-ge-OUTPUT_ROOM : goal.returns-then-head-data-ge-OUTPUT_ROOM
returns-then-head-data-ge-OUTPUT_ROOM c =
    let a = c.args in
    builds-refused _ (closed a.seed (a.head.now ++ a.«data».now)) a.out.now (too_long a.seed a.head.now a.«data».now true c.if-head-data-ge-OUTPUT_ROOM.true)
    (Err WrongField) (rw (le-leb output_room (length a.out.now) c.if-out-lt-OUTPUT_ROOM.false))

pub returns : goal.returns
returns c =
    let a = c.args in
    let sum : c.checksum-sum.result ≡ xor_all (xor_all a.seed a.head.now) a.«data».now = c.checksum-sum.ensures ∙ ap (λ (s : ℕ). xor_all s a.«data».now) c.singly.ensures in
    let first = c.copy-at.ensures.whole (omega arith) in
    let second = c.copy-more.ensures.whole (search rules) in
    let e = built a.seed c.checksum-sum.result c.copy-at.result c.copy-more.result (length c.copy-at.new.out) c.close.result a.head.now a.«data».now a.out.now c.copy-at.new.out c.copy-more.new.out c.close.new.out
    (omega arith) sum first.0 first.1 refl second.0 second.1 c.close.ensures.0 c.close.ensures.1 in
    builds-done _ (closed a.seed (a.head.now ++ a.«data».now)) a.out.now (omega arith) (short-enough a.seed a.head.now a.«data».now true (omega arith)) c.close.result c.close.new.out e.0 e.1
