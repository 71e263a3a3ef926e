-- `try_all` goes from setting to setting. The invariant: what is left to be tried, with the answers so far, leaves what
-- all leave, for all settings that have the parts which were taken out.
use Rattle.set_all.proofs.Laws.{Standing}
use Rattle.set_all.proofs.try_all.Given as goal

abbrev pub invariant-loop-k : goal.invariant-loop-k
invariant-loop-k l =
    Standing l.settable l.momentary l.continuous l.maximum l.initial.present l.codes l.values l.initial.answers l.present l.answers l.k
