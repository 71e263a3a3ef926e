-- The worked examples hold: antt computes both directions of each.
-- Assumes nothing.
use mathlib.Core.Path.{refl}
use Rattle.checksum.specs.Xor.{xor_all}
use Rattle.message_rules.specs.Body.{by_row, decode_body}
use Rattle.message_rules.specs.Frame.{plain, frame, agrees, frame_answer}
use Rattle.message_rules.specs.Message.{body_read, decode}
use Rattle.capabilities_rules.specs.Machine.{kind_of}
use Rattle.capabilities_rules.specs.Nodes.{letters, opens, nodes, nodes_of}
use Rattle.capabilities_rules.specs.Outcome.{judge, outcome}
use Rattle.profile_rules.proofs.Example.{profile_10}
use Rattle.examples.specs.Examples.{All, examples}

pub examples_hold : All examples
unfolding xor_all by_row decode_body plain frame agrees frame_answer body_read decode kind_of judge outcome letters opens nodes nodes_of
examples_hold = ((refl, refl), ((refl, refl), ((refl, refl), ((refl, refl), ((refl, refl), ((refl, refl), ((refl, refl), ((refl, refl), ((refl, refl, refl, refl), ((refl, refl, refl, refl), (refl, (profile_10, tt))))))))))))
