-- Wrong rules, each against one sentence of "The board", and that the theorems of specs/Operations.antt, Texts.antt
-- and Starts.antt do not hold of them.
use mathlib.Core.Path.{◌≡◌, refl, sym, ap, ◌∙◌}
use mathlib.Core.List.{List, [], ◌∷◌}
use mathlib.Core.Bool.{true, false, cond}
use Prim.Native.Nat.{ℕ, ◌%◌, ◌≤◌, ◌<◌}
use native.Mathlib.Omega.{arith}
use lib.Dec.{eqb}
use lib.ListN.{length, get_or, replicate, set, length-replicate}
use lib.Seq.{get_or-set_same}
use Rattle.checksum.specs.Bytes.{Bytes}
use Rattle.checksum.specs.Bytes as bytes
use Rattle.message_rules.specs.Body as body
use Rattle.message_rules.specs.Frame.{frame}
use Rattle.message_rules.specs.Limits.{output_room}
use Rattle.message_rules.specs.Message.{Request, get_feature, set_feature, timing, save, table_write, value, timing_reply, requests, replies, encode, Valid, to_display, to_host}
use Rattle.message_rules.proofs.RoundTrip.{requests_round}
use Rattle.settings_rules.specs.Settings.{starting_settings, with_present, save_all}
use Rattle.settings_rules.specs.Entries.{Entry, entry_of, entry_present, entry_saved, Sized}
use Rattle.settings_rules.specs.Operations.{Declarable, DeclaredAs, Declares}
use Rattle.settings_rules.specs.declared.Declaration.{Declaration}
use Rattle.settings_rules.specs.declared.Settings.{Settings}
use Rattle.settings_rules.specs.declared.Timing.{Timing}
use Rattle.settings_rules.proofs.Stores.{present-stored, present-sized}
use Rattle.display_rules.specs.Limits.{table_room}
use Rattle.display_rules.specs.State.{unsent, with_table, with_settings, empty_display, start_answer, start, declare}
use Rattle.display_rules.specs.Turn.{save_turn}
use Rattle.display_rules.specs.Step.{Outcome}
use Rattle.display_rules.specs.Kept.{Kept, keeping, StepRule, step_kept, with_display}
use Rattle.display_rules.specs.Statements.{started, declared}
use Rattle.display_rules.specs.Operations.{LentRight, Says, SameTexts, SizeNumbers, GetsFollow, SetsFollow, SavesFollow, TimingSent}
use Rattle.display_rules.specs.Texts.{WriteNumbers}
use Rattle.display_rules.specs.Starts.{StartRule, Fresh, StartNumbers, DeclareRule, DeclareRefuses}
use Rattle.display_rules.specs.declared.TextState.{TextState}
use Rattle.display_rules.specs.declared.Display.{Display}
use Rattle.display_rules.proofs.Sound.{made_is_sound}
use Rattle.display_rules.proofs.Reading.{read_back}
use Rattle.display_rules.proofs.Operations.{obeys, gets_follow, sets_follow, timing-sent}
use Rattle.display_rules.proofs.Sizes.{size-numbers}
use Rattle.display_rules.proofs.Texts.{write_numbers}
use Rattle.display_rules.proofs.Starts.{start-numbers, declare-refuses}

-- ---- a display with a capabilities string of two bytes and no code

abbrev timed : (horizontal vertical : ℕ) → Timing
timed h v = record { status = 0; horizontal = h; vertical = v }

abbrev two : Display
two = (start (timed 0 0) 2 1).display

abbrev text2 : List ℕ
text2 = 1 ∷ 2 ∷ []

abbrev table0 : List ℕ
table0 = replicate table_room 0

abbrev out0 : List ℕ
out0 = replicate output_room 0

-- a display with what is lent beside it
abbrev lending : Display → Kept
lending d = keeping d text2 table0

fresh_of : (h v : ℕ) → Fresh (timed h v) 2 1 (start (timed h v) 2 1).display
fresh_of h v = let s = start-numbers (timed h v) 2 1 in s.started (s.otherwise refl (omega arith) (omega arith) (omega arith))

two-fresh : Fresh (timed 0 0) 2 1 two
two-fresh = fresh_of 0 0

two_sized : Sized two.settings
two_sized = (made_is_sound two (started (timed 0 0) 2 1)).settings.sized

-- what is lent fits any display with that string
lent2 : (d : Display) → d.capabilities.len ≡ 2 → LentRight (lending d) out0
lent2 d e = record { text = sym e; table = length-replicate {A = ℕ} table_room 0; output = omega (arith, length-replicate {A = ℕ} output_room 0) }

-- code 10, of this type and at 0
abbrev of_type : ℕ → Declaration
of_type k = record { code = 0x10; readable = true; writable = true; kind = k; continuous = false; maximum = 0; present = 0 }

-- it may be declared where the type is 0 or 1
may_declare : (k : ℕ) → k ≤ 1 → Declarable two.settings (of_type k)
may_declare k h = record {
  code = λ e. omega arith;
  first = ap (λ (e : Entry). e.declared) (two-fresh.settings.entries 0x10);
  kind = h;
  access = λ e. refl;
  momentary = λ e. refl;
  within = λ e. omega arith;
}

-- ---- the messages

abbrev sends : Request → List ℕ
sends m = encode requests to_display m

-- a request of these bytes and words
module _ (m : Request) (v : Valid requests m) where
  said : Says (sends m) m
  said = read_back m v

  as_bytes : Bytes (sends m)
  as_bytes = requests_round.bytes to_display m (omega arith) (omega arith) v

get_valid : (c : ℕ) → c < 256 → Valid requests (get_feature c)
get_valid c h = record { bytes_count = refl; words_count = refl; rest_count = omega arith; bytes_fit = bytes.more h bytes.none; words_fit = body.none; rest_fit = bytes.none; ruled = refl }

set-valid : Valid requests (set_feature 0x10 5)
set-valid = record {
  bytes_count = refl;
  words_count = refl;
  rest_count = omega arith;
  bytes_fit = bytes.more {b = 0x10} (omega arith) bytes.none;
  words_fit = body.more {w = 5} (omega arith) body.none;
  rest_fit = bytes.none;
  ruled = refl;
}

timing-valid : Valid requests timing
timing-valid = record { bytes_count = refl; words_count = refl; rest_count = omega arith; bytes_fit = bytes.none; words_fit = body.none; rest_fit = bytes.none; ruled = refl }

save-valid : Valid requests save
save-valid = record { bytes_count = refl; words_count = refl; rest_count = omega arith; bytes_fit = bytes.none; words_fit = body.none; rest_fit = bytes.none; ruled = refl }

-- a write of nothing at offset 1, above the length of an empty table
gap : Request
gap = table_write 0xF4 1 []

gap-valid : Valid requests gap
unfolding gap
gap-valid = record {
  bytes_count = refl;
  words_count = refl;
  rest_count = omega arith;
  bytes_fit = bytes.more {b = 0xF4} (omega arith) bytes.none;
  words_fit = body.more {w = 1} (omega arith) body.none;
  rest_fit = bytes.none;
  ruled = refl;
}

-- ---- 1: wrong sizes give 4

abbrev sizes4 : StepRule
sizes4 now message out =
    let o = step_kept now message out in
    record { display = o.display; answer = cond (eqb o.answer 1) 4 o.answer; len = o.len; found = o.found; table = o.table; out = o.out }

pub sizes_4_refuted : SizeNumbers sizes4 → ⊥
sizes_4_refuted h =
    let right : (step_kept (keeping two [] []) [] []).answer ≡ 1 = (size-numbers (keeping two [] []) [] []).output (omega arith) in
    let wrong : ◌≡◌ {A = ℕ} 4 1 = rw right at ((h (keeping two [] []) [] []).output (omega arith)) in
    omega arith

-- ---- Get: every one is answered for code 10

abbrev gets10 : StepRule
gets10 now message out = step_kept now (sends (get_feature 0x10)) out

-- the code in a Value reply
code_in : (r c t m p : ℕ) → get_or (encode replies to_host (value r c t m p)) 4 0 ≡ c
unfolding frame
code_in r c t m p = refl

pub gets_10_refuted : GetsFollow gets10 → ⊥
gets_10_refuted h =
    let ten = get_valid 0x10 (omega arith) in
    let right = ((gets_follow (lending two) (sends (get_feature 0x10)) out0 0x10 (lent2 two two-fresh.capabilities.whole) (said (get_feature 0x10) ten)).undeclared (none 0x10)).sent in
    let eleven = get_valid 0x11 (omega arith) in
    let wrong = ((h (lending two) (sends (get_feature 0x11)) out0 0x11 (lent2 two two-fresh.capabilities.whole) (said (get_feature 0x11) eleven)).undeclared (none 0x11)).sent in
    let e : ◌≡◌ {A = ℕ} 0x10 0x11 = sym (code_in 1 0x10 0 0 0) ∙ ap (λ (s : List ℕ). get_or s 4 0) (sym right ∙ wrong) ∙ code_in 1 0x11 0 0 0 in
    omega arith
  where
    none : (c : ℕ) → (entry_of two.settings c).declared ≡ false
    none c = ap (λ (e : Entry). e.declared) (two-fresh.settings.entries c)

-- ---- Set: 8 and 9 are swapped

abbrev swapped : StepRule
swapped now message out =
    let o = step_kept now message out in
    record { display = o.display; answer = cond (eqb o.answer 8) 9 (cond (eqb o.answer 9) 8 o.answer); len = o.len; found = o.found; table = o.table; out = o.out }

pub swapped_refuted : SetsFollow swapped → ⊥
swapped_refuted h =
    let lent = lent2 two two-fresh.capabilities.whole in
    let none : (entry_of two.settings 0x10).declared ≡ false = ap (λ (e : Entry). e.declared) (two-fresh.settings.entries 0x10) in
    let message = as_bytes (set_feature 0x10 5) set-valid in
    let says = said (set_feature 0x10 5) set-valid in
    let right = (sets_follow (lending two) (sends (set_feature 0x10 5)) out0 0x10 5 two_sized lent message says).0.undeclared none in
    let wrong : ◌≡◌ {A = ℕ} 9 8 = rw right at ((h (lending two) (sends (set_feature 0x10 5)) out0 0x10 5 two_sized lent message says).0.undeclared none) in
    omega arith

-- ---- Set: a momentary value is stored

abbrev stores : StepRule
stores now message out =
    let o = step_kept now message out in
    record { display = with_settings o.display (with_present o.display.settings 0x10 5); answer = o.answer; len = o.len; found = o.found; table = o.table; out = o.out }

abbrev button : Display
button = (declare two (of_type 1)).display

button_declares : Declares two.settings (of_type 1) (declare two (of_type 1)).answer button.settings × SameTexts two button
button_declares = declare-refuses two (of_type 1) two_sized (omega arith)

button_accepted : (declare two (of_type 1)).answer ≡ 0
button_accepted = button_declares.0.otherwise (may_declare 1 (omega arith))

button_sized : Sized button.settings
button_sized = (made_is_sound button (declared (started (timed 0 0) 2 1) (of_type 1) (omega arith))).settings.sized

present-is : (e : Entry) (v : ℕ) → (entry_present e v).present ≡ v
unfolding entry_present
present-is e v = refl

pub stores_refuted : SetsFollow stores → ⊥
stores_refuted h =
    let entry : DeclaredAs (of_type 1) (entry_of button.settings 0x10) = button_declares.0.entry button_accepted in
    let lent = lent2 button (ap (λ (t : TextState). t.len) button_declares.1.capabilities ∙ two-fresh.capabilities.whole) in
    let message = as_bytes (set_feature 0x10 5) set-valid in
    let says = said (set_feature 0x10 5) set-valid in
    let right = (sets_follow (lending button) (sends (set_feature 0x10 5)) out0 0x10 5 button_sized lent message says).0.momentary (entry.momentary refl) in
    let wrong = (h (lending button) (sends (set_feature 0x10 5)) out0 0x10 5 button_sized lent message says).0.momentary (entry.momentary refl) in
    let same : with_present button.settings 0x10 5 ≡ button.settings = ap (λ (s : Settings). with_present s 0x10 5) (sym right) ∙ wrong in
    let five : (entry_of (with_present button.settings 0x10 5) 0x10).present ≡ 5 = ap (λ (e : Entry). e.present) (present-stored button.settings 0x10 5 button_sized (omega arith) 0x10) ∙ present-is _ 5 in
    let e : ◌≡◌ {A = ℕ} 5 0 = sym five ∙ ap (λ (s : Settings). (entry_of s 0x10).present) same ∙ entry.present in
    omega arith

-- ---- Save: the old value of one code is kept

-- settings with the saved value that code 10 had before
abbrev old_saved : (after before : Settings) → Settings
old_saved s before = record {
  declared = s.declared;
  readable = s.readable;
  writable = s.writable;
  momentary = s.momentary;
  continuous = s.continuous;
  maximum = s.maximum;
  present = s.present;
  saved = set s.saved 0x10 (get_or before.saved 0x10 0);
  status = s.status;
  horizontal = s.horizontal;
  vertical = s.vertical;
}

abbrev keeps_saved : StepRule
keeps_saved now message out =
    let o = step_kept now message out in
    record { display = with_settings o.display (old_saved o.display.settings now.display.settings); answer = o.answer; len = o.len; found = o.found; table = o.table; out = o.out }

-- a display whose code 10 is at 7 and was saved at 0
abbrev changed : Display
changed = with_settings two (with_present two.settings 0x10 7)

changed-entry : entry_of changed.settings 0x10 ≡ entry_present (entry_of two.settings 0x10) 7
changed-entry = present-stored two.settings 0x10 7 two_sized (omega arith) 0x10

-- what the step saves
saved-is : (step_kept (lending changed) (sends save) out0).display.settings.saved ≡ changed.settings.present
unfolding save_turn save_all
saved-is = ap (λ (o : Outcome). o.display.settings.saved) (obeys (lending changed) (sends save) out0 save (lent2 changed two-fresh.capabilities.whole) (said save save-valid))

pub keeps-saved_refuted : SavesFollow keeps_saved → ⊥
unfolding entry_of entry_present entry_saved
keeps-saved_refuted h =
    let wrong = ap (λ (e : Entry). e.saved) ((h (lending changed) (sends save) out0 (lent2 changed two-fresh.capabilities.whole) (said save save-valid)).1.saved 0x10) in
    let room : 0x10 < length (step_kept (lending changed) (sends save) out0).display.settings.saved = rw saved-is (omega (arith, (present-sized two.settings 0x10 7 two_sized).present)) in
    let same = get_or-set_same (step_kept (lending changed) (sends save) out0).display.settings.saved 0x10 (get_or changed.settings.saved 0x10 0) 0 room in
    let old : get_or changed.settings.saved 0x10 0 ≡ 0 = ap (λ (e : Entry). e.saved) (changed-entry) ∙ ap (λ (e : Entry). e.saved) (two-fresh.settings.entries 0x10) in
    let new : get_or changed.settings.present 0x10 0 ≡ 7 = ap (λ (e : Entry). e.present) changed-entry in
    let e : ◌≡◌ {A = ℕ} 0 7 = sym old ∙ sym same ∙ wrong ∙ new in
    omega arith

-- ---- Timing: horizontal and vertical are crossed

abbrev crossed : Settings → Settings
crossed s = record {
  declared = s.declared;
  readable = s.readable;
  writable = s.writable;
  momentary = s.momentary;
  continuous = s.continuous;
  maximum = s.maximum;
  present = s.present;
  saved = s.saved;
  status = s.status;
  horizontal = s.vertical;
  vertical = s.horizontal;
}

abbrev crosses : StepRule
crosses now message out = step_kept (with_display now (with_settings now.display (crossed now.display.settings))) message out

crossed_is : with_settings (start (timed 1 2) 2 1).display (crossed (start (timed 1 2) 2 1).display.settings) ≡ (start (timed 2 1) 2 1).display
unfolding start start_answer starting_settings
crossed_is = refl

-- the low byte of the horizontal frequency in a Timing reply
horizontal_in : (s h v : ℕ) → get_or (encode replies to_host (timing_reply s h v)) 5 0 ≡ h % 256
unfolding frame
horizontal_in s h v = refl

pub crosses_refuted : TimingSent crosses → ⊥
crosses_refuted h =
    let says = said timing timing-valid in
    let a : Settings = (start (timed 2 1) 2 1).display.settings in
    let b : Settings = (start (timed 1 2) 2 1).display.settings in
    let right = (timing-sent (lending (start (timed 2 1) 2 1).display) (sends timing) out0 (started (timed 2 1) 2 1) (lent2 _ (fresh_of 2 1).capabilities.whole) says).1.sent in
    let wrong = (h (lending (start (timed 1 2) 2 1).display) (sends timing) out0 (started (timed 1 2) 2 1) (lent2 _ (fresh_of 1 2).capabilities.whole) says).1.sent in
    let e = ap (λ (s : List ℕ). get_or s 5 0) (sym right ∙ (rw crossed_is at wrong)) in
    omega (
      arith,
      e,
      horizontal_in a.status a.horizontal a.vertical,
      horizontal_in b.status b.horizontal b.vertical,
      (fresh_of 2 1).settings.horizontal,
      (fresh_of 1 2).settings.horizontal,
    )

-- ---- Table write: one above the length is accepted

abbrev fills_gaps : StepRule
fills_gaps now message out = step_kept (with_display now (with_table now.display (unsent table_room))) message out

pub fills_gaps_refuted : WriteNumbers fills_gaps → ⊥
unfolding gap
fills_gaps_refuted h =
    let full : Display = with_table two (unsent table_room) in
    let lent = two-fresh.capabilities.whole in
    let right = (write_numbers (lending full) (sends gap) out0 0xF4 1 [] (lent2 full lent) (said gap gap-valid)).otherwise refl (omega arith) (omega arith) in
    let wrong = (h (lending two) (sends gap) out0 0xF4 1 [] (lent2 two lent) (said gap gap-valid)).gap refl (omega (arith, two-fresh.table.whole)) in
    omega arith

-- ---- the start: a fragment size of 32 is refused

abbrev refuses32 : StartRule
refuses32 t n p = cond (eqb p 32) (record { display = empty_display; answer = 18 }) (start t n p)

pub refuses_32_refuted : StartNumbers refuses32 → ⊥
refuses_32_refuted h = let wrong : ◌≡◌ {A = ℕ} 18 0 = (h (timed 0 0) 0 32).otherwise refl (omega arith) (omega arith) (omega arith) in omega arith

-- ---- declaring: a type 2 is taken as 0

abbrev declares_type2 : DeclareRule
declares_type2 d e =
    declare d (record {
      code = e.code;
      readable = e.readable;
      writable = e.writable;
      kind = cond (eqb e.kind 2) 0 e.kind;
      continuous = e.continuous;
      maximum = e.maximum;
      present = e.present;
    })

pub declares_type_2_refuted : DeclareRefuses declares_type2 → ⊥
declares_type_2_refuted h =
    let right = (declare-refuses two (of_type 0) two_sized (omega arith)).0.otherwise (may_declare 0 (omega arith)) in
    let wrong = (h two (of_type 2) two_sized (omega arith)).0.kind (omega arith) in
    omega arith
