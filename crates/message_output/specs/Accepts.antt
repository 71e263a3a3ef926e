-- Demand 2 of the builders: "reading what was built gives the same message". A builder accepts exactly the valid messages, and what it answers done with reads back as that message.
use Rattle.std.specs.Prelude.{ℕ, ◌≡◌, Bool, true, List, length, take, Ok}
use Rattle.checksum.specs.Bytes.{Bytes}
use Rattle.message_rules.specs.Layout.{layout_of}
use Rattle.message_rules.specs.Read.{ok}
use Rattle.message_rules.specs.Body.{Body, Words, ValidBody}
use Rattle.message_rules.specs.Message.{Reading, decode}
use Rattle.message_rules.specs.declared.Address.{Address}
use Rattle.message_output.specs.Output.{BuildsMessage}

-- what the types of a builder's arguments give: the fields of its row, each a byte or a 16-bit number
pub record Typed (b : Body) : Type 0 where
  pub bytes_count : length b.bytes ≡ (layout_of b.kind).bytes
  pub words_count : length b.words ≡ (layout_of b.kind).words
  pub bytes_fit : Bytes b.bytes
  pub words_fit : Words b.words
  pub rest_fit : Bytes b.rest

-- 7: "a field wrong for the command; builder given such a field". The test of a builder's fields lets exactly the valid bodies through
pub record AcceptsExactly (test : Body → Bool) : Type 0 where
  pub there : (b : Body) → Typed b → test b ≡ true → ValidBody b
  pub back : (b : Body) → ValidBody b → test b ≡ true

-- "reading what was built gives the same message"
abbrev pub ReadsBack : {M : Type 0} → Reading M → Type 0
ReadsBack {M} t = (a : Address) (m : M) (before after : List ℕ) (n : ℕ) → Typed (t.body_for m) → BuildsMessage t a m before after (Ok n) → decode t a (take n after) ≡ ok m
