-- `capabilities_scan::skip_spaces` passes the test on to `run_end`.
use Rattle.std.specs.Prelude.{eqb}
use Rattle.capabilities_scan.proofs.skip_spaces.Given as goal

abbrev pub ghost-run_end : goal.ghost-run_end
ghost-run_end a = λ b. eqb b 0x20
