-- What a message comes to, before the reply stands in the output; and Get, Set, Save and Timing (document 01, "The board").
use Rattle.std.specs.Prelude.{ℕ, cond, List, [], Option, None, eqb}
use Rattle.message_rules.specs.Answer.{done, wrong_field}
use Rattle.message_rules.specs.Message.{Reply, value, timing_reply, replies, encode, to_host}
use Rattle.settings_rules.specs.Settings.{reserved_bits, get_code, set_code, save_all, timing_in}
use Rattle.settings_rules.specs.Settings.{Feature}
use Rattle.settings_rules.specs.declared.Timing.{Timing}
use Rattle.display_rules.specs.State.{with_settings}
use Rattle.display_rules.specs.declared.Display.{Display}
use Rattle.display_rules.specs.declared.Fragment.{Fragment}

-- the answer, what is left of the display and the table's buffer, the bytes of the reply, and the fragment found
pub record Turn : Type 0 where
  pub answer : ℕ
  pub display : Display
  pub table : List ℕ
  pub reply : List ℕ
  pub found : Option Fragment

abbrev pub no_reply : List ℕ
no_reply = []

abbrev pub bytes_of : Reply → List ℕ
bytes_of m = encode replies to_host m

-- a refusal leaves display and table as they were
abbrev pub refusal : ℕ → Display → (table reply : List ℕ) → Turn
refusal k d table reply = record { answer = k; display = d; table = table; reply = reply; found = None }

-- answer 0 without a fragment
abbrev pub accepted : Display → (table reply : List ℕ) → Turn
accepted d table reply = record { answer = done; display = d; table = table; reply = reply; found = None }

abbrev pub feature_reply : Feature → Reply
feature_reply v = value v.result v.code v.kind v.maximum v.present

abbrev pub timing_of : Timing → Reply
timing_of t = timing_reply t.status t.horizontal t.vertical

-- "Get: always answer 0 with a Value reply."
unfoldable pub get_turn : Display → List ℕ → (code : ℕ) → Turn
get_turn d table c = accepted d table (bytes_of (feature_reply (get_code d.settings c)))

-- "Set: 8 .. 9 .. Momentary: accepted, nothing stored. Else present is the value. No reply."
unfoldable pub set_turn : Display → List ℕ → (code value : ℕ) → Turn
set_turn d table c v = record {
  answer = (set_code d.settings c v).answer;
  display = with_settings d (set_code d.settings c v).settings;
  table = table;
  reply = no_reply;
  found = None;
}

-- "Save: every saved value is the present one. No reply."
unfoldable pub save_turn : Display → List ℕ → Turn
save_turn d table = accepted (with_settings d (save_all d.settings)) table no_reply

-- "Timing: the Timing reply." No start makes a display whose timing has a reserved bit set; the builder refuses such a one (7).
unfoldable pub timing_turn : Display → List ℕ → Turn
timing_turn d table =
    cond (eqb (reserved_bits d.settings.status) 0)
    (accepted d table (bytes_of (timing_of (timing_in d.settings))))
    (refusal wrong_field d table no_reply)
