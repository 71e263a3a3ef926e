-- Buffers that stay the same ones, over several steps.
use mathlib.Core.Path.{refl, ◌∙◌}
use Rattle.capabilities_reader.specs.Lent.{held, SameLent}
use Rattle.capabilities_reader.specs.declared.filler.NodeBuffers.{NodeBuffers}
use Rattle.capabilities_reader.proofs.Filling.{SameSize}

pub stay : (b : NodeBuffers) → SameLent b b
stay b = record { starts = refl; lengths = refl; parents = refl; groups = refl; starts-size = refl; lengths-size = refl; parents-size = refl; groups-size = refl }

pub then : (a b c : NodeBuffers) → SameLent a b → SameLent b c → SameLent a c
then a b c p q = record {
  starts = q.starts ∙ p.starts;
  lengths = q.lengths ∙ p.lengths;
  parents = q.parents ∙ p.parents;
  groups = q.groups ∙ p.groups;
  starts-size = q.starts-size ∙ p.starts-size;
  lengths-size = q.lengths-size ∙ p.lengths-size;
  parents-size = q.parents-size ∙ p.parents-size;
  groups-size = q.groups-size ∙ p.groups-size;
}

pub sizes : (a b : NodeBuffers) → SameLent a b → SameSize (held a) (held b)
sizes a b p = record { starts = p.starts-size; lengths = p.lengths-size; parents = p.parents-size; groups = p.groups-size }
