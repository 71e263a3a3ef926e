-- `capabilities_reader::filler::fill` meets its contract: an accepted string's outer group can be filled, and then all its nodes
-- are stored.
use Rattle.capabilities_reader.specs.Lent.{held}
use Rattle.capabilities_reader.proofs.Stored.{fillable, filled}
use Rattle.capabilities_reader.proofs.filler.fill.Goals as goal

pub fill_group-requires : goal.fill_group-requires
fill_group-requires c =
    let x = c.args in
    fillable x.text.now (held x.nodes.now) c.requires

pub returns-clause-filled : goal.returns-clause-filled
returns-clause-filled c =
    let x = c.args in
    let r = c.fill_group in
    filled x.text.now (held x.nodes.now) c.requires (held r.new.nodes) r.result.next.0 r.result.nodes r.ensures.filled
