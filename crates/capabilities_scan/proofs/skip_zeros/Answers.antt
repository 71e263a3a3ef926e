use Rattle.std.proofs.Common.{ap, ◌∙◌, ◌+◌}
use Rattle.capabilities_scan.proofs.Prefix.{prefix_len-leading}
use Rattle.capabilities_scan.proofs.skip_zeros.Goals as goal

pub returns : goal.returns
returns c = c.run_end.ensures ∙ ap (λ n. c.args.start.0 + n) (prefix_len-leading 0 _)
