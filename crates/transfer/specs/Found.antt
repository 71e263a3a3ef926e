-- What the results inside a transfer say of the slice that was read.
use Rattle.std.specs.Prelude.{ℕ, ◌+◌, ◌≤◌, List, length, Result, Ok, Err}
use Rattle.message_rules.specs.Read.{Read}
use Rattle.message_rules.specs.declared.TextKind.{TextKind}
use Rattle.message_rules.specs.declared.TextKind.TheVariants.{Capabilities, Table}
use Rattle.message_rules.specs.declared.refusal.Refusal.{Refusal}
use Rattle.message_rules.specs.declared.refusal.Refusal.TheVariants.{NotWanted}
use Rattle.message_frame.specs.declared.Carried.{Carried}
use Rattle.message_frame.specs.Meaning.{Meaning, carried_in}
use Rattle.message_reply_reader.specs.declared.ReplyRead.{ReplyRead}
use Rattle.message_reply_reader.specs.declared.ReplyRead.TheVariants as reply
use Rattle.transfer_rules.specs.Fragment.{Fragment}

-- the fragment that its data in a slice stand for
abbrev pub fragment_found : List ℕ → Carried → Fragment
fragment_found s d = record { offset = d.offset.0; bytes = carried_in s d }

-- the data lie in the slice
abbrev pub FragmentInside : List ℕ → Carried → Type 0
FragmentInside s d = d.at.0 + d.len ≤ length s

abbrev pub FragmentMeans : List ℕ → Result Carried Refusal → Read Fragment → Type 0
FragmentMeans = Meaning fragment_found FragmentInside

-- the data of the fragment of this kind that a reply is
abbrev pub of_kind : TextKind → ReplyRead → Result Carried Refusal
of_kind k (reply.Value r c t m p) = Err NotWanted
of_kind k (reply.Timing s h v) = Err NotWanted
of_kind Capabilities (reply.Fragment Capabilities d) = Ok d
of_kind Capabilities (reply.Fragment Table d) = Err NotWanted
of_kind Table (reply.Fragment Capabilities d) = Err NotWanted
of_kind Table (reply.Fragment Table d) = Ok d
