-- `display_prepare::prepare` meets its contract. The sizes are judged first, then the message is read.
use mathlib.Core.Path.{sym, ◌∙◌}
use Rattle.display_rules.specs.Step.{turn, step}
use Rattle.display_pending.specs.Pending.{pending_of}
use Rattle.display_prepare.proofs.prepare.Goals as goal

pub returns-in-Ok : goal.returns-in-Ok
unfolding step turn pending_of
returns-in-Ok c =
    let read = rw c.in-Ok.is at c.read_request.ensures.means in
    rw (sym c.lent_well.ensures ∙ c.if-lent_well.true, ← read) c.obey.ensures

pub returns-in-Err : goal.returns-in-Err
unfolding step turn pending_of
returns-in-Err c =
    let a = c.args in
    let read = rw c.in-Err.is at c.read_request.ensures.means in
    rw (sym c.lent_well.ensures ∙ c.if-lent_well.true, ← read) (c.refuse.ensures a.d a.text.now a.table.now)

pub returns : goal.returns
unfolding step turn pending_of
returns c = let wrong = sym c.lent_well.ensures ∙ c.if-lent_well.false in record { pending = rw wrong; comes = rw wrong }
