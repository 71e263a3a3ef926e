-- `message_output::close` meets its contract.
-- Assumes nothing.
use mathlib.Core.Path.{refl}
use Rattle.message_output.proofs.close.Goals as goal

pub returns : goal.returns
returns c = (refl, refl)
