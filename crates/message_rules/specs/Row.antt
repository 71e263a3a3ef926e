-- A row of document 01's table of messages, and what the table says of a command number.
use Rattle.std.specs.Prelude.{ℕ, Bool}
use Rattle.message_rules.specs.declared.ReplyKind.{ReplyKind}
use Rattle.message_rules.specs.declared.RequestKind.{RequestKind}

pub data Kind : Type 0 where
  Request : RequestKind → Kind
  Reply : ReplyKind → Kind

-- what stands behind the command number, in this order: single bytes, 16-bit words, at most so much data; and whether the length byte is plain
pub record Layout : Type 0 where
  pub bytes : ℕ
  pub words : ℕ
  pub most : ℕ
  pub plain : Bool

pub data Row : Type 0 where
  Known : Kind → Layout → Row
  Unknown : Row
