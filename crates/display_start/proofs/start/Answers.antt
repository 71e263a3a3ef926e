-- An accepted start has a text whose length fits, and the settings that the timing begins with.
use Rattle.std.proofs.Common.{sym, arith}
use Rattle.display_rules.specs.State.{start}
use Rattle.display_rules.proofs.Sound.{start-accepted}
use Rattle.display_start.proofs.Laws.{starts-with}
use Rattle.display_start.proofs.start.Goals as goal

pub overflow_cast-text : goal.overflow_cast-text
overflow_cast-text c = omega (arith, (start-accepted _ _ _ (sym c.in-Ok.ensures)).1)

pub returns-in-Ok : goal.returns-in-Ok
unfolding start
returns-in-Ok c =
    rw (← c.in-Ok.ensures, starts-with c.args.timing (start-accepted _ _ _ (sym c.in-Ok.ensures)).0, c.fresh.ensures, c.starting.ensures)
