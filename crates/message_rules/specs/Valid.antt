-- Which messages are valid, field by field and with document 01's own numbers: what judges the table's limits and rules.
use Rattle.std.specs.Prelude.{◌/◌, ◌%◌, ◌≤◌, ◌<◌, ◌≡◌, length}
use Rattle.checksum.specs.Bytes.{Bytes}
use Rattle.message_rules.specs.Message.{Request, get_feature, set_feature, timing, save, text, table_read, table_write, Reply, value, timing_reply, text_fragment, table_fragment, Reading, Valid}

-- "to board": a code is a byte, H L a 16-bit number; a Table write has "0 to 31 data"
abbrev pub RequestFields : Request → Type 0
RequestFields (get_feature c) = c < 256
RequestFields (set_feature c v) = (c < 256) × (v < 65536)
RequestFields timing = Unit {0}
RequestFields save = Unit {0}
RequestFields (text o) = o < 65536
RequestFields (table_read c o) = (c < 256) × (o < 65536)
RequestFields (table_write c o s) = (c < 256) × (o < 65536) × Bytes s × (length s ≤ 31)

-- "to post": "Result and type are 0 or 1; status bits 5 to 2 are 0"; a piece has "0 to 32 data"
abbrev pub ReplyFields : Reply → Type 0
ReplyFields (value r c t m p) = (r < 2) × (c < 256) × (t < 2) × (m < 65536) × (p < 65536)
ReplyFields (timing_reply s h v) = (s < 256) × (s / 4 % 16 ≡ 0) × (h < 65536) × (v < 65536)
ReplyFields (text_fragment o s) = (o < 65536) × Bytes s × (length s ≤ 32)
ReplyFields (table_fragment o s) = (o < 65536) × Bytes s × (length s ≤ 32)

-- a message is valid exactly when its fields are these
pub record ValidExactly {M : Type 0} (t : Reading M) (Fields : M → Type 0) : Type 0 where
  pub there : (m : M) → Valid t m → Fields m
  pub back : (m : M) → Fields m → Valid t m
