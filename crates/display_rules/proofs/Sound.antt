-- Every display that a start, declaring, steps and loading profiles have made is sound.
use mathlib.Core.Path.{◌≡◌, refl}
use mathlib.Core.Logic.{inl, inr}
use mathlib.Core.Bool.{Bool, true, false, cond, not, ◌||◌, false≢true}
use mathlib.Core.List.{List, ◌∷◌}
use Prim.Native.Nat.{ℕ, ◌+◌, ◌≤◌, ◌<◌}
use native.Mathlib.Omega.{arith}
use lib.ListN.{length}
use lib.Dec.{eqb, leb, ltb}
use borrow.Author.Tests.{eqb-true, eqb-false, ltb-false, leb-true}
use Rattle.checksum.specs.Bytes.{Bytes, more}
use Rattle.codes.specs.Codes.{all_codes}
use Rattle.message_rules.specs.Answer.{done, wrong_size, wrong_field, code_not_allowed, not_wanted, text_too_long, not_declarable}
use Rattle.message_rules.specs.Limits.{most_fragment}
use Rattle.message_rules.specs.Message.{Request, get_feature, set_feature, timing, save, text, table_read, table_write, requests, decode, Valid, null, to_display, to_host}
use Rattle.message_rules.specs.Read.{Read, ok, refused, unless}
use Rattle.message_rules.proofs.RoundTrip.{requests_round}
use Rattle.message_rules.proofs.Tests.{cond_zero}
use Rattle.settings_rules.specs.Entries as entries
use Rattle.message_rules.specs.Message.{table_code}
use Rattle.settings_rules.specs.Settings.{reserved_bits, start_with, timing_in}
use Rattle.settings_rules.proofs.Theorems.{start-is_sound, empty_is_sound, declare-keeps_sound, set-keeps_sound, save-keeps_sound}
use Rattle.profile_rules.proofs.Theorems.{load-keeps_sound}
use Rattle.settings_rules.specs.declared.Settings.{Settings}
use Rattle.settings_rules.specs.declared.Timing.{Timing}
use Rattle.message_rules.specs.Limits.{longest_text}
use Rattle.display_rules.specs.Limits.{table_room}
use Rattle.display_rules.specs.State.{fresh, empty_display, size_refused, start_answer, start, declare, with_settings}
use Rattle.display_rules.specs.Turn.{refusal, accepted, no_reply, bytes_of, timing_of, get_turn, set_turn, save_turn, timing_turn}
use Rattle.display_rules.specs.Fragments.{fragment_size, next_cursor, read_turn, table_read_turn}
use Rattle.display_rules.specs.Table.{write_answer, length_after, table_write_turn}
use Rattle.display_rules.specs.Step.{turn_of, lent_well, turn, step}
use Rattle.display_rules.specs.Kept.{step_kept}
use Rattle.display_rules.specs.Statements.{Made, started, declared, stepped, loaded, Sound, MadeIsSound}
use Rattle.message_rules.specs.declared.TextKind.{TextKind}
use Rattle.message_rules.specs.declared.TextKind.TheVariants.{Capabilities, Table}
use Rattle.display_rules.specs.declared.Display.{Display}
use Rattle.std.proofs.Math.Nat.{min-eq_left}

-- ---- the start

fresh_sound : (s : Settings) (n p : ℕ) → entries.Sound s → n ≤ longest_text → 1 ≤ p → p ≤ most_fragment → Sound (fresh s n p)
fresh_sound s n p z h l m = record { settings = z; low = l; high = m; text = h; room = omega arith; capabilities = inl refl; table = inl refl }

empty_sound : Sound empty_display
empty_sound = fresh_sound _ 0 1 empty_is_sound (omega arith) (omega arith) (omega arith)

size-allowed : (p : ℕ) → not (size_refused p) ≡ true → (1 ≤ p) × (p ≤ most_fragment)
size-allowed p = go (eqb p 0) (ltb most_fragment p) refl refl
  where
    go : (a b : Bool) → eqb p 0 ≡ a → ltb most_fragment p ≡ b → not (a || b) ≡ true → (1 ≤ p) × (p ≤ most_fragment)
    go true b x y h = absurd (false≢true h)
    go false true x y h = absurd (false≢true h)
    go false false x y h = (omega (arith, eqb-false p 0 x), ltb-false most_fragment p y)

-- what an accepted start has shown
pub start-accepted : (k n p : ℕ) → start_answer k n p ≡ done → (k ≡ done) × (n ≤ longest_text) × (not (size_refused p) ≡ true)
unfolding start_answer
start-accepted k n p = go (eqb k done) refl
  where
    go : (t : Bool) → eqb k done ≡ t → unless t k (unless (leb n longest_text) text_too_long (unless (not (size_refused p)) not_declarable done)) ≡ done
        → (k ≡ done) × (n ≤ longest_text) × (not (size_refused p) ≡ true)
    go false x h = absurd (eqb-false k done x h)
    go true x h =
        let a = cond_zero (leb n longest_text) _ text_too_long (λ (z : text_too_long ≡ 0). omega arith) h in
        let b = cond_zero (not (size_refused p)) done not_declarable (λ (z : not_declarable ≡ 0). omega arith) a.1 in
        (eqb-true k done x, leb-true _ _ a.0, b.0)

start_sound : (t : Timing) (n p : ℕ) → Sound (start t n p).display
unfolding start
start_sound t n p = go (eqb (start_answer (start_with t).answer n p) done) refl
  where
    go : (b : Bool) → eqb (start_answer (start_with t).answer n p) done ≡ b → Sound (cond b (fresh (start_with t).settings n p) empty_display)
    go false h = empty_sound
    go true h =
        let a = start-accepted (start_with t).answer n p (eqb-true _ _ h) in
        let f = size-allowed p a.2 in
        fresh_sound (start_with t).settings n p (start-is_sound t) a.1 f.0 f.1

-- ---- declaring and the operations

with-settings : (d : Display) (s : Settings) → Sound d → entries.Sound s → Sound (with_settings d s)
with-settings d s z h = record { settings = h; low = z.low; high = z.high; text = z.text; room = z.room; capabilities = z.capabilities; table = z.table }

-- the size that fragments have
pub size_is : (d : Display) → Sound d → fragment_size d ≡ d.size
size_is d z = min-eq_left z.high

after_read : (k : TextKind) (d : Display) (lent table : List ℕ) (q : ℕ) → Sound d → Sound (read_turn k d lent table q).display
unfolding read_turn next_cursor
after_read Capabilities d lent table q z =
    record { settings = z.settings; low = z.low; high = z.high; text = z.text; room = z.room; capabilities = inr (rw (size_is d z)); table = z.table }
after_read Table d lent table q z =
    record { settings = z.settings; low = z.low; high = z.high; text = z.text; room = z.room; capabilities = z.capabilities; table = inr (rw (size_is d z)) }

after-table-read : (d : Display) (lent table : List ℕ) (c q : ℕ) → Sound d → Sound (table_read_turn d lent table c q).display
unfolding table_read_turn
after-table-read d lent table c q z = go (eqb c table_code)
  where
    go : (t : Bool) → Sound (cond t (read_turn Table d lent table q) (refusal code_not_allowed d table (null to_host))).display
    go true = after_read Table d lent table q z
    go false = z

-- what an accepted write has shown
pub write_accepted : (c old at n : ℕ) → write_answer c old at n ≡ done → (c ≡ table_code) × (at ≤ old) × (at + n ≤ table_room)
unfolding write_answer
write_accepted c old at n h =
    let a = cond_zero (eqb c table_code) _ code_not_allowed (λ (z : code_not_allowed ≡ 0). omega arith) h in
    let b = cond_zero (leb at old) _ not_wanted (λ (z : not_wanted ≡ 0). omega arith) a.1 in
    let e = cond_zero (leb (at + n) table_room) done text_too_long (λ (z : text_too_long ≡ 0). omega arith) b.1 in
    (eqb-true _ _ a.0, leb-true _ _ b.0, leb-true _ _ e.0)

length_in-room : (old at n : ℕ) → old ≤ table_room → at + n ≤ table_room → length_after old at n ≤ table_room
unfolding length_after
length_in-room old at n h l = go (eqb at 0) (ltb old (at + n))
  where
    go : (f g : Bool) → cond f n (cond g (at + n) old) ≤ table_room
    go true g = omega arith
    go false true = l
    go false false = h

after_write : (d : Display) (table : List ℕ) (c at : ℕ) (s : List ℕ) → Sound d → Sound (table_write_turn d table c at s).display
unfolding table_write_turn
after_write d table c at s z = go (eqb (write_answer c d.table.len at (length s)) done) refl
  where
    go : (t : Bool) → eqb (write_answer c d.table.len at (length s)) done ≡ t → Sound (table_write_turn d table c at s).display
    go false h = rw h z
    go true h =
        let fits = (write_accepted c d.table.len at (length s) (eqb-true _ _ h)).2 in
        rw h
        (record {
          settings = z.settings;
          low = z.low;
          high = z.high;
          text = z.text;
          room = length_in-room d.table.len at (length s) z.room fits;
          capabilities = z.capabilities;
          table = inl refl;
        })

after-timing : (d : Display) (table : List ℕ) → Sound d → Sound (timing_turn d table).display
unfolding timing_turn
after-timing d table z = go (eqb (reserved_bits d.settings.status) 0)
  where
    go : (t : Bool) → Sound (cond t (accepted d table (bytes_of (timing_of (timing_in d.settings)))) (refusal wrong_field d table no_reply)).display
    go true = z
    go false = z

-- ---- the step

code_fits : {c : ℕ} {s : List ℕ} → Bytes (c ∷ s) → c < all_codes
code_fits (more h b) = h

after_turn : (d : Display) (lent table message : List ℕ) → Bytes message → Sound d → (w : Bool) (r : Read Request) → decode requests to_display message ≡ r
    → Sound (cond w (turn_of d lent table r) (refusal wrong_size d table no_reply)).display
unfolding get_turn set_turn save_turn
after_turn d lent table message b z false r e = z
after_turn d lent table message b z true (refused k) e = z
after_turn d lent table message b z true (ok (get_feature c)) e = z
after_turn d lent table message b z true (ok (set_feature c v)) e =
    let v' : Valid requests (set_feature c v) = requests_round.valid to_display message (set_feature c v) b e in
    with-settings d _ z (set-keeps_sound d.settings c v (code_fits v'.bytes_fit) z.settings)
after_turn d lent table message b z true (ok timing) e = after-timing d table z
after_turn d lent table message b z true (ok save) e = with-settings d _ z (save-keeps_sound d.settings z.settings)
after_turn d lent table message b z true (ok (text q)) e = after_read Capabilities d lent table q z
after_turn d lent table message b z true (ok (table_read c q)) e = after-table-read d lent table c q z
after_turn d lent table message b z true (ok (table_write c at s)) e = after_write d table c at s z

step_sound : (d : Display) (lent table message out : List ℕ) → Bytes message → Sound d → Sound (step d lent table message out).display
unfolding step turn
step_sound d lent table message out b z = after_turn d lent table message b z (lent_well d (length lent) (length table) (length out)) (decode requests to_display message) refl

sound : {d : Display} → Made step_kept d → Sound d
unfolding declare
sound (started t n p) = start_sound t n p
sound (declared {d} m e h) = with-settings d _ (sound m) (declare-keeps_sound d.settings e h (sound m).settings)
sound (stepped now m message out b) = step_sound now.display now.text now.table message out b (sound m)
sound (loaded {d} m profile) = with-settings d _ (sound m) (load-keeps_sound d.settings profile (sound m).settings)

pub made_is_sound : MadeIsSound step_kept
made_is_sound d m = sound m
