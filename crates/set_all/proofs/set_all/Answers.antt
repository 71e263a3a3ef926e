-- `set_all` tries the settings where its own answer is 0.
use mathlib.Core.Path.{sym}
use lib.ListN.{length}
use Rattle.message_rules.proofs.Refusals.{refused-not_done}
use Rattle.set_all_rules.proofs.Calls.{Fits, answered_0, tried_as, refused_as}
use Rattle.set_all.proofs.set_all.Goals as goal

pub try_all-present-requires : goal.try_all-present-requires
try_all-present-requires c =
    let fits : Fits (length c.args.codes.now) (length c.args.values.now) (length c.args.answers.now) = answered_0 _ _ _ (sym c.in-Ok.ensures) in
    (fits.room, fits.paired)

pub returns-in-Ok : goal.returns-in-Ok
returns-in-Ok c =
    let a = c.args in
    rw (tried_as a.s a.codes.now a.values.now a.answers.now (sym c.in-Ok.ensures)) c.try_all-present.ensures

pub returns-in-Err : goal.returns-in-Err
returns-in-Err c =
    let a = c.args in
    rw (c.from.ensures, refused_as a.s a.codes.now a.values.now a.answers.now _ (sym c.in-Err.ensures) (refused-not_done c.in-Err.refusal))
