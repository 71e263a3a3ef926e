-- The four lent buffers, as the reader's functions pass them on together.
use Rattle.std.specs.Prelude.{◌≡◌, length}
use Rattle.capabilities_rules.specs.Buffers.{Buffers, buffers}
use Rattle.capabilities_reader.specs.declared.filler.NodeBuffers.{NodeBuffers}

-- what they hold
abbrev pub held : NodeBuffers → Buffers
held b = buffers b.starts.now b.lengths.now b.parents.now b.groups.now

-- they are the same buffers, and as long as they were
pub record SameLent (b b' : NodeBuffers) : Type 0 where
  pub starts : b'.starts.ghost_name ≡ b.starts.ghost_name
  pub lengths : b'.lengths.ghost_name ≡ b.lengths.ghost_name
  pub parents : b'.parents.ghost_name ≡ b.parents.ghost_name
  pub groups : b'.groups.ghost_name ≡ b.groups.ghost_name
  pub starts-size : length b'.starts.now ≡ length b.starts.now
  pub lengths-size : length b'.lengths.now ≡ length b.lengths.now
  pub parents-size : length b'.parents.now ≡ length b.parents.now
  pub groups-size : length b'.groups.now ≡ length b.groups.now
