-- `capabilities_scan::word_end` passes the test on to `run_end`.
use Rattle.capabilities_rules.specs.Machine.{kind_of, is_letter}
use Rattle.capabilities_scan.proofs.word_end.Given as goal

abbrev pub ghost-run_end : goal.ghost-run_end
ghost-run_end a = λ b. is_letter (kind_of b)
