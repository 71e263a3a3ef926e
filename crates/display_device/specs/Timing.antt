-- What answering a Timing comes to, over the address pair of the device's replies.
use Rattle.std.specs.Prelude.{◌≡◌, Bool, List, ℕ, eqb}
use Rattle.message_rules.specs.Message.{replies, encode}
use Rattle.message_rules.specs.declared.Address.{Address}
use Rattle.message_output.specs.Output.{built_answer, built_output}
use Rattle.settings_rules.specs.Settings.{reserved_bits, timing_in}
use Rattle.settings_rules.specs.declared.Settings.{Settings}
use Rattle.display_rules.specs.Turn.{timing_of}
use Rattle.display_pending.specs.Pending.{pending_built}
use Rattle.display_pending.specs.declared.Pending.{Pending}

-- "Timing: the Timing reply", which has no reserved bit set
abbrev pub timing_bytes : Address → Settings → List ℕ
timing_bytes a s = encode replies a (timing_of (timing_in s))

abbrev pub timing_allowed : Settings → Bool
timing_allowed s = eqb (reserved_bits s.status) 0

pub record SendsTiming (a : Address) (s : Settings) (before after : List ℕ) (r : Pending) : Type 0 where
  pub pending : r ≡ pending_built (built_answer (timing_allowed s) (timing_bytes a s) before)
  pub leaves : after ≡ built_output (timing_allowed s) (timing_bytes a s) before
