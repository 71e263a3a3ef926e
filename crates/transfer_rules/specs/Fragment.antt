-- The messages of a transfer, by the kind of its text (document 01's table of messages).
use Rattle.std.specs.Prelude.{ℕ, List, []}
use Rattle.message_rules.specs.Answer.{not_wanted}
use Rattle.message_rules.specs.Read.{Read, ok, refused, and_then}
use Rattle.message_rules.specs.Message.{table_code, Request, text, table_read, Reply, value, timing_reply, text_fragment, table_fragment, requests, replies, encode, decode, to_display, to_host}
use Rattle.message_rules.specs.declared.TextKind.{TextKind}
use Rattle.message_rules.specs.declared.TextKind.TheVariants.{Capabilities, Table}

-- the request for the fragment at an offset: Text F3, or Table read E2
abbrev pub request_for : TextKind → ℕ → Request
request_for Capabilities q = text q
request_for Table q = table_read table_code q

unfoldable pub request_message : TextKind → ℕ → List ℕ
request_message k q = encode requests to_display (request_for k q)

-- the fragment (the papers' piece) at an offset: E3, "or E4 for a list"
abbrev pub fragment_for : TextKind → ℕ → List ℕ → Reply
fragment_for Capabilities o d = text_fragment o d
fragment_for Table o d = table_fragment o d

unfoldable pub fragment_message : TextKind → ℕ → List ℕ → List ℕ
fragment_message k o d = encode replies to_host (fragment_for k o d)

-- what the host reads in the bytes that came back
abbrev pub read_reply : List ℕ → Read Reply
read_reply came = decode replies to_host came

-- the offset and the data of a fragment
pub record Fragment : Type 0 where
  pub offset : ℕ
  pub bytes : List ℕ

-- the fragment of this kind that a reply is: "A reply of another kind .. is 10."
abbrev pub fragment_in : TextKind → Reply → Read Fragment
fragment_in k (value r c t m p) = refused not_wanted
fragment_in k (timing_reply s h v) = refused not_wanted
fragment_in Capabilities (text_fragment o d) = ok (record { offset = o; bytes = d })
fragment_in Table (text_fragment o d) = refused not_wanted
fragment_in Capabilities (table_fragment o d) = refused not_wanted
fragment_in Table (table_fragment o d) = ok (record { offset = o; bytes = d })

-- the fragment of this kind that a reading gives; the reader's refusals go first
abbrev pub fragment_of : TextKind → Read Reply → Read Fragment
fragment_of k r = and_then r (fragment_in k)

-- the data of a fragment of either kind; no data in anything else
abbrev pub data_in : Read Reply → List ℕ
data_in (refused n) = []
data_in (ok (value r c t m p)) = []
data_in (ok (timing_reply s h v)) = []
data_in (ok (text_fragment o d)) = d
data_in (ok (table_fragment o d)) = d
