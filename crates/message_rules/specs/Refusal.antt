-- The refusals as the code names them, and the answer numbers that they stand for.
use Rattle.std.specs.Prelude.{ℕ, Result, Ok, Err}
use Rattle.message_rules.specs.Answer as answer
use Rattle.message_rules.specs.declared.refusal.Refusal.{Refusal}
use Rattle.message_rules.specs.declared.refusal.Refusal.TheVariants as refusal

-- the answer number of each
abbrev pub number_of : Refusal → ℕ
number_of refusal.WrongSize = answer.wrong_size
number_of refusal.TooShort = answer.too_short
number_of refusal.WrongFirstByte = answer.wrong_first_byte
number_of refusal.WrongLength = answer.wrong_length
number_of refusal.WrongChecksum = answer.wrong_checksum
number_of refusal.UnknownCommand = answer.unknown_command
number_of refusal.WrongField = answer.wrong_field
number_of refusal.CodeNotAllowed = answer.code_not_allowed
number_of refusal.ValueTooLarge = answer.value_too_large
number_of refusal.NotWanted = answer.not_wanted
number_of refusal.TextTooLong = answer.text_too_long
number_of refusal.NullMessage = answer.null_message
number_of refusal.WrongGrammar = answer.wrong_grammar
number_of refusal.NoNodeRoom = answer.no_node_room
number_of refusal.TooDeep = answer.too_deep
number_of refusal.TransferClosed = answer.transfer_closed
number_of refusal.BrokenRecord = answer.broken_record
number_of refusal.NotDeclarable = answer.not_declarable
number_of refusal.RepeatedToken = answer.repeated_token
number_of refusal.RepeatedHousehold = answer.repeated_household

-- the answer number of a call: 0, "done", or that of its refusal
abbrev pub answer_number : {V : Type 0} → Result V Refusal → ℕ
answer_number (Ok v) = answer.done
answer_number (Err r) = number_of r
