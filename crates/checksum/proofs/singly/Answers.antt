-- `checksum::singly` meets its contract: `fold` takes in one byte after the other.
use Rattle.std.proofs.Common.{rules, sym, ◌∙◌}
use lib.Bits.{bit_xor}
use Rattle.checksum.proofs.Folds.{fold_is}
use Rattle.checksum.proofs.Laws.{xor_all-fold}
use Rattle.checksum.proofs.singly.Goals as goal

pub returns : goal.returns
returns c =
    fold_is bit_xor (λ sum b next f call. search rules) c.iter.result c.args.s.now _ _ (cc) c.fold.ensures.ran ∙ sym (xor_all-fold c.args.seed c.args.s.now)
