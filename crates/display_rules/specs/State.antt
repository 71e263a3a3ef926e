-- Document 01, "The board": a display's state, how it starts, and declaring.
use Rattle.std.specs.Prelude.{ℕ, Bool, cond, not, ◌||◌, eqb, leb, ltb}
use Rattle.message_rules.specs.Answer.{done, text_too_long, not_declarable}
use Rattle.message_rules.specs.Limits.{most_fragment}
use Rattle.message_rules.specs.Read.{unless}
use Rattle.settings_rules.specs.Settings.{empty_settings, start_with, declare_code}
use Rattle.settings_rules.specs.declared.Declaration.{Declaration}
use Rattle.settings_rules.specs.declared.Settings.{Settings}
use Rattle.settings_rules.specs.declared.Timing.{Timing}
use Rattle.message_rules.specs.Limits.{longest_text}
use Rattle.message_rules.specs.declared.TextKind.{TextKind}
use Rattle.message_rules.specs.declared.TextKind.TheVariants.{Capabilities, Table}
use Rattle.display_rules.specs.declared.FragmentCursor.{FragmentCursor}
use Rattle.display_rules.specs.declared.TextState.{TextState}
use Rattle.display_rules.specs.declared.Display.{Display}
use Rattle.display_rules.specs.declared.Changed.{Changed}

-- ---- the state and its parts

abbrev pub cursor_at : (offset length : ℕ) → FragmentCursor
cursor_at o n = record { offset = record { 0 = o }; len = n }

-- "an offset and the length of the last piece, both 0 at first"
abbrev pub starting_cursor : FragmentCursor
starting_cursor = cursor_at 0 0

-- a text of so many bytes of which nothing was sent
abbrev pub unsent : ℕ → TextState
unsent n = record { len = n; cursor = starting_cursor }

abbrev pub text_state : TextKind → Display → TextState
text_state Capabilities d = d.capabilities
text_state Table d = d.table

abbrev pub cursor_of : TextKind → Display → FragmentCursor
cursor_of k d = (text_state k d).cursor

-- a display with one part replaced
abbrev pub with_settings : Display → Settings → Display
with_settings d s = record { settings = s; capabilities = d.capabilities; table = d.table; size = d.size }

abbrev pub with_table : Display → TextState → Display
with_table d t = record { settings = d.settings; capabilities = d.capabilities; table = t; size = d.size }

abbrev pub with_capabilities : Display → TextState → Display
with_capabilities d t = record { settings = d.settings; capabilities = t; table = d.table; size = d.size }

abbrev pub with_cursor : TextKind → Display → FragmentCursor → Display
with_cursor Capabilities d c = with_capabilities d (record { len = d.capabilities.len; cursor = c })
with_cursor Table d c = with_table d (record { len = d.table.len; cursor = c })

-- ---- the start

-- settings, a capabilities string and a fragment size, with nothing sent; the table is "empty at first"
abbrev pub fresh : Settings → (text size : ℕ) → Display
fresh s n p = record { settings = s; capabilities = unsent n; table = unsent 0; size = p }

-- "A refused start gives an empty board (no code, no text, timing 0, piece size 1)"
abbrev pub empty_display : Display
empty_display = fresh empty_settings 0 1

-- "A piece size 1 to 32 is fixed at the start"
abbrev pub size_refused : ℕ → Bool
size_refused p = eqb p 0 || ltb most_fragment p

-- The settings judge the timing first, with the answer k. "The capability text is at most 4,096 bytes (else 11) .. A piece size 1 to 32 (else 18)."
unfoldable pub start_answer : (timing text size : ℕ) → ℕ
start_answer k n p =
    unless (eqb k done) k
    (unless (leb n longest_text) text_too_long
    (unless (not (size_refused p)) not_declarable done))

unfoldable pub start : Timing → (text size : ℕ) → Changed
start t n p = record {
  display = cond (eqb (start_answer (start_with t).answer n p) done) (fresh (start_with t).settings n p) empty_display;
  answer = start_answer (start_with t).answer n p;
}

-- ---- declaring is the settings' matter

unfoldable pub declare : Display → Declaration → Changed
declare d e = record { display = with_settings d (declare_code d.settings e).settings; answer = (declare_code d.settings e).answer }
