-- Document 01, "Answer numbers": the numbers of its table, in its order; behind them those of document 02.
use Rattle.std.specs.Prelude.{ℕ}

-- done
abbrev pub done : ℕ
done = 0

-- lent output under 38 bytes; transfer buffer, table buffer or capabilities string of a wrong size; profile output too short;
-- fewer answers lent than codes to set (document 02, K1); fewer entries lent than differences (K4)
abbrev pub wrong_size : ℕ
wrong_size = 1

-- under 3 bytes
abbrev pub too_short : ℕ
too_short = 2

-- first byte wrong
abbrev pub wrong_first_byte : ℕ
wrong_first_byte = 3

-- length byte wrong, or slice does not agree with it
abbrev pub wrong_length : ℕ
wrong_length = 4

-- checksum wrong
abbrev pub wrong_checksum : ℕ
wrong_checksum = 5

-- command not in the table, or n = 0 to the display
abbrev pub unknown_command : ℕ
unknown_command = 6

-- n or a field wrong for the command; builder given such a field; over 64 settings in one call, or unequally many codes and
-- values (document 02, K1)
abbrev pub wrong_field : ℕ
wrong_field = 7

-- code not allowed
abbrev pub code_not_allowed : ℕ
code_not_allowed = 8

-- value above the maximum
abbrev pub value_too_large : ℕ
value_too_large = 9

-- offset or fragment not the one wanted
abbrev pub not_wanted : ℕ
not_wanted = 10

-- text too long for its room; call list over 1,024 bytes (document 02, K9)
abbrev pub text_too_long : ℕ
text_too_long = 11

-- null message read by the host
abbrev pub null_message : ℕ
null_message = 12

-- capabilities string: grammar, node room, depth
abbrev pub wrong_grammar : ℕ
wrong_grammar = 13

abbrev pub no_node_room : ℕ
no_node_room = 14

abbrev pub too_deep : ℕ
too_deep = 15

-- transfer already closed
abbrev pub transfer_closed : ℕ
transfer_closed = 16

-- profile broken, or its codes not rising where it is judged by its form (K4); record of a call list broken (K9)
abbrev pub broken_record : ℕ
broken_record = 17

-- declaration, fragment size or budget not allowed
abbrev pub not_declarable : ℕ
not_declarable = 18

-- document 02, K9: a record of a call list repeats a token of an earlier one, or a household
abbrev pub repeated_token : ℕ
repeated_token = 19

abbrev pub repeated_household : ℕ
repeated_household = 20
