-- `display_prepare::obey` meets its contract. Each arm of the match is the definition's case of what was read.
use Rattle.message_rules.specs.declared.TextKind.TheVariants.{Capabilities}
use Rattle.display_rules.specs.Turn.{save_turn}
use Rattle.display_rules.specs.Fragments.{read_turn}
use Rattle.display_prepare.proofs.Laws.{get_prepares, timing_prepares, read_prepares, table-read_prepares, write_prepares}
use Rattle.display_pending.proofs.Laws.{set_prepares}
use Rattle.display_prepare.proofs.obey.Goals as goal

pub returns-in-Get : goal.returns-in-Get
returns-in-Get c =
    rw c.in-Get.is (get_prepares c.args.d c.args.table.now c.args.out.now _ _ _ c.requires.0 c.get-length.ensures)

pub returns-in-Set : goal.returns-in-Set
returns-in-Set c =
    rw (c.in-Set.is, c.set.ensures) (set_prepares c.args.d c.args.table.now c.args.out.now _ _)

pub returns-in-Timing : goal.returns-in-Timing
returns-in-Timing c =
    rw c.in-Timing.is (timing_prepares c.args.d c.args.table.now c.args.out.now _ _ c.requires.0 c.timing.ensures)

pub returns-in-Save : goal.returns-in-Save
unfolding save_turn
returns-in-Save c = record { pending = rw c.in-Save.is; comes = rw c.in-Save.is }

pub returns-in-Text : goal.returns-in-Text
unfolding read_turn
returns-in-Text c =
    rw c.in-Text.is (read_prepares Capabilities c.args.d c.args.text.now c.args.table.now c.args.out.now _ _ _ c.requires.0 c.read.ensures)

pub returns-in-TableRead : goal.returns-in-TableRead
returns-in-TableRead c =
    rw c.in-TableRead.is (table-read_prepares c.args.d c.args.text.now c.args.table.now c.args.out.now _ _ _ _ c.requires.0 c.table_read.ensures)

pub returns-in-TableWrite : goal.returns-in-TableWrite
returns-in-TableWrite c =
    rw c.in-TableWrite.is (write_prepares c.args.d c.args.table.now _ c.args.out.now _ _ _ _ c.requires.1 c.write.ensures)
