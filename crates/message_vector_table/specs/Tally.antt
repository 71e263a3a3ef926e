-- Counting, in 32 bits.
use Rattle.std.specs.Prelude.{◌+◌, ◌%◌, ◌^◌, Bool, cond}
use Rattle.message_vector_table.specs.declared.tally.Tally.{Tally}

abbrev pub counted : Tally → Bool → Tally
counted t holds = record { held = cond holds ((t.held + 1) % 2 ^ 32) t.held; tried = (t.tried + 1) % 2 ^ 32 }

abbrev pub joined : Tally → Tally → Tally
joined t u = record { held = (t.held + u.held) % 2 ^ 32; tried = (t.tried + u.tried) % 2 ^ 32 }
