use Rattle.std.proofs.Common.{ap, ◌∙◌, ◌+◌}
use Rattle.capabilities_scan.proofs.Prefix.{prefix_len-letters}
use Rattle.capabilities_scan.proofs.word_end.Goals as goal

pub returns : goal.returns
returns c = c.run_end.ensures ∙ ap (λ n. c.args.start.0 + n) (prefix_len-letters _)
