-- `put_refused` puts the line.
use mathlib.Core.Path.{refl, ◌∙◌}
use native.Mathlib.Omega.{arith}
use Rattle.buffers.proofs.Puts.{put-fits}
use Rattle.compare_profiles.specs.Lines.{refused_line}
use Rattle.compare_profiles.proofs.lines.put_refused.Goals as goal

pub returns : goal.returns
returns c =
    (c.put.ensures ∙ put-fits c.args.text.now 0 refused_line (omega (arith, c.requires)), refl)
