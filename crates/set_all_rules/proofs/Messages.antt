-- Set messages stepped one after the other leave what trying the settings leaves.
use mathlib.Core.Path.{◌≡◌, refl}
use mathlib.Core.List.{List, [], ◌∷◌}
use Prim.Native.Nat.{ℕ, ◌<◌}
use native.Mathlib.Omega.{arith}
use lib.ListN.{replicate, length-replicate}
use Rattle.checksum.specs.Bytes.{Bytes}
use Rattle.checksum.specs.Bytes as bytes
use Rattle.message_rules.specs.Body.{Words}
use Rattle.message_rules.specs.Body as body
use Rattle.message_rules.specs.Message.{set_feature, requests, encode, decode, Valid, to_display}
use Rattle.message_rules.specs.Read.{ok}
use Rattle.message_rules.proofs.RoundTrip.{requests_round}
use Rattle.settings_rules.specs.Settings.{set_code}
use Rattle.settings_rules.specs.declared.Settings.{Settings}
use Rattle.profile_rules.specs.Statements as profile
use Rattle.display_rules.specs.State.{with_settings}
use Rattle.display_rules.specs.Turn.{set_turn}
use Rattle.display_rules.specs.Kept.{Kept, keeping, step_kept, with_display}
use Rattle.display_rules.specs.Operations.{LentRight}
use Rattle.display_rules.specs.Statements.{Made, stepped}
use Rattle.display_rules.specs.declared.Display.{Display}
use Rattle.std.specs.Prelude.{None}
use Rattle.display_rules.proofs.Reading.{read_back}
use Rattle.display_rules.proofs.Operations.{obeys}
use Rattle.set_all_rules.specs.SetAll.{try_all}
use Rattle.set_all_rules.specs.Statements.{set_messages, step_all}

abbrev pub set_message : (code value : ℕ) → List ℕ
set_message c v = encode requests to_display (set_feature c v)

-- the display after a Set, and after settings
abbrev pub display_set : Display → (code value : ℕ) → Display
display_set d c v = with_settings d (set_code d.settings c v).settings

abbrev pub display_tried : Display → (codes values : List ℕ) → Display
display_tried d codes values = with_settings d (try_all d.settings codes values).settings

module _ (c v : ℕ) (h : c < 256) (g : v < 65536) where
  set-valid : Valid requests (set_feature c v)
  set-valid = record {
    bytes_count = refl;
    words_count = refl;
    rest_count = omega arith;
    bytes_fit = bytes.more h bytes.none;
    words_fit = body.more g body.none;
    rest_fit = bytes.none;
    ruled = refl;
  }

  pub set_said : decode requests to_display (set_message c v) ≡ ok (set_feature c v)
  set_said = read_back (set_feature c v) set-valid

  pub set-bytes : Bytes (set_message c v)
  set-bytes = requests_round.bytes to_display (set_feature c v) (omega arith) (omega arith) set-valid

  -- one message: the settings are set, the answer is the Set's, and all else stays
  pub set_steps : (now : Kept) (out : List ℕ) → LentRight now out
      → step_kept now (set_message c v) out ≡ record {
        display = display_set now.display c v;
        answer = (set_code now.display.settings c v).answer;
        len = 0;
        found = None;
        table = now.table;
        out = out;
      }
  unfolding set_turn
  set_steps now out w = obeys now (set_message c v) out (set_feature c v) w set_said

-- what is lent fits a display with other settings as well
pub lent_still : (now : Kept) (out : List ℕ) (s : Settings) → LentRight now out → LentRight (with_display now (with_settings now.display s)) out
lent_still now out s w = record { text = w.text; table = w.table; output = w.output }

pub messages_try : (now : Kept) (codes values out : List ℕ) → LentRight now out → Bytes codes → Words values
    → step_all step_kept now out (set_messages codes values)
    ≡ record { kept = with_display now (display_tried now.display codes values); out = out; answers = (try_all now.display.settings codes values).answers }
messages_try now [] values out w b g = refl
messages_try now (c ∷ codes) [] out w b g = refl
messages_try now (c ∷ codes) (v ∷ values) out w (bytes.more h b) (body.more l g) =
    let s = (set_code now.display.settings c v).settings in
    rw (set_steps c v h l now out w, messages_try (with_display now (display_set now.display c v)) codes values out (lent_still now out s w) b g) refl

-- ---- displays that calls have made

-- what is lent to a display in the right sizes, for any display
abbrev pub lent_to : Display → Kept
lent_to d = keeping d (replicate d.capabilities.len 0) (replicate 1024 0)

pub lent-to : (d : Display) → LentRight (lent_to d) (replicate 38 0)
lent-to d = record { text = length-replicate {A = ℕ} d.capabilities.len 0; table = length-replicate {A = ℕ} 1024 0; output = omega (arith, length-replicate {A = ℕ} 38 0) }

made_set : (d : Display) (c v : ℕ) → c < 256 → v < 65536 → Made step_kept d → Made step_kept (display_set d c v)
made_set d c v h g m = rw (set_steps c v h g (lent_to d) (replicate 38 0) (lent-to d)) at (stepped (lent_to d) m (set_message c v) (replicate 38 0) (set-bytes c v h g))

pub made_tried : (d : Display) (codes values : List ℕ) → Bytes codes → Words values → Made step_kept d → Made step_kept (display_tried d codes values)
made_tried d [] values b g m = m
made_tried d (c ∷ codes) [] b g m = m
made_tried d (c ∷ codes) (v ∷ values) (bytes.more h b) (body.more l g) m = made_tried (display_set d c v) codes values b g (made_set d c v h l m)

pub made_settings : (s : Settings) (codes values : List ℕ) → Bytes codes → profile.Made s → profile.Made (try_all s codes values).settings
made_settings s [] values b m = m
made_settings s (c ∷ codes) [] b m = m
made_settings s (c ∷ codes) (v ∷ values) (bytes.more h b) m = made_settings (set_code s c v).settings codes values b (profile.valued m c v h)
