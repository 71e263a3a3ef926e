-- Document 01's limits on messages, each named once.
use Rattle.std.specs.Prelude.{ℕ}

-- "n is 0 to 35", either way
abbrev pub longest_request : ℕ
longest_request = 35

abbrev pub longest_reply : ℕ
longest_reply = 35

-- Table write: "0 to 31 data"
abbrev pub most_written : ℕ
most_written = 31

-- Text piece and Table piece: "0 to 32 data"
abbrev pub most_fragment : ℕ
most_fragment = 32

-- "The capability text is at most 4,096 bytes"; "room: the lesser of its length and 4,096"
abbrev pub longest_text : ℕ
longest_text = 4096

-- "Every builder needs 38 bytes of output."
abbrev pub output_room : ℕ
output_room = 38
