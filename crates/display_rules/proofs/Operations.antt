-- The step follows the paper's sentences on the reader's refusals, Get, Set, Save and Timing: theorems of
-- specs/Operations.antt.
use mathlib.Core.Path.{◌≡◌, refl, ◌∙◌}
use mathlib.Core.Bool.{Bool, true, false, ◌&&◌}
use mathlib.Core.List.{List, ◌∷◌}
use Prim.Native.Nat.{ℕ, ◌<◌}
use lib.ListN.{length, drop}
use lib.Seq.{take_at, drop_at}
use borrow.Author.Tests.{eq-eqb, ne_eqb, le-leb}
use Rattle.checksum.specs.Bytes.{Bytes, more}
use Rattle.message_rules.specs.Body.{encode_body}
use Rattle.message_rules.specs.Limits.{output_room}
use Rattle.message_rules.specs.Message.{Request, get_feature, set_feature, timing, save, value, timing_reply, reply_body, replies, requests, encode, Valid, null, to_display, to_host}
use Rattle.message_rules.specs.declared.Direction.TheVariants as way
use Rattle.message_rules.proofs.Order.{null-read}
use Rattle.message_rules.proofs.Frames.{length-frame}
use Rattle.message_rules.proofs.RoundTrip.{requests_round}
use Rattle.settings_rules.specs.Settings.{get_code}
use Rattle.settings_rules.specs.Entries.{Entry, entry_of}
use Rattle.settings_rules.specs.declared.Settings.{Settings}
use Rattle.settings_rules.proofs.Operations.{sets_as_written, saves_as_written}
use Rattle.display_rules.specs.Limits.{table_room}
use Rattle.display_rules.specs.Turn.{Turn, refusal, accepted, bytes_of, get_turn, set_turn, save_turn, timing_turn}
use Rattle.display_rules.specs.Step.{obey, turn, outcome, step}
use Rattle.display_rules.specs.Kept.{Kept, RightSizes, step_kept}
use Rattle.display_rules.specs.Operations.{LentRight, Says, ReaderRefuses, Replies, Sends, Gets, GetsFollow, SetsFollow, SavesFollow, TimingSent}
use Rattle.std.specs.Prelude.{None}
use Rattle.display_rules.proofs.Sound.{made_is_sound}

-- ---- what a step that is lent right comes to

pub lent-well : (now : Kept) (out : List ℕ) → LentRight now out → RightSizes now out
lent-well now out w = rw (le-leb output_room (length out) w.output, eq-eqb (length now.table) table_room w.table, eq-eqb (length now.text) now.display.capabilities.len w.text)

pub obeys : (now : Kept) (message out : List ℕ) (m : Request) → LentRight now out → Says message m
    → step_kept now message out ≡ outcome (obey now.display now.text now.table m) out
unfolding step turn
obeys now message out m w r = rw (lent-well now out w, r)

pub replies_with : (n : ℕ) (bytes out : List ℕ) (t : Turn) → t.reply ≡ bytes → length bytes ≡ n → t.found ≡ None → Replies n bytes out (outcome t out)
replies_with n bytes out t e l f = rw e (record {
  len = l;
  sent = take_at bytes (drop (length bytes) out) n l;
  rest = drop_at bytes (drop (length bytes) out) n l ∙ rw l;
  found = f;
})

-- ---- what the reader refuses

pub reader_refuses : ReaderRefuses step_kept
unfolding step turn
reader_refuses now message out k w r = rw (lent-well now out w, r)
    (record {
      answer = refl;
      null = λ e. rw (eq-eqb k 6 e) (replies_with 3 _ out (refusal k now.display now.table (null to_host)) null-read.fixed refl refl);
      silent = λ n. rw (ne_eqb k 6 n) (record { len = refl; bytes = refl; found = refl });
      stays = record { display = refl; table = refl };
    })

-- ---- Get

value-length : (r c t m p : ℕ) → length (encode replies to_host (value r c t m p)) ≡ 11
value-length r c t m p = length-frame way.Reply to_host (encode_body (reply_body (value r c t m p)))

shown : (now : Kept) (out : List ℕ) (c r k m p : ℕ) → get_code now.display.settings c ≡ record { result = r; code = c; kind = k; maximum = m; present = p }
    → Sends 11 (value r c k m p) out (outcome (get_turn now.display now.table c) out)
unfolding get_turn
shown now out c r k m p e = replies_with 11 (bytes_of (value r c k m p)) out (get_turn now.display now.table c) (rw e) (value-length r c k m p) refl

pub and_false : (p : Bool) → p && false ≡ false
and_false true = refl
and_false false = refl

get_is : (now : Kept) (out : List ℕ) (c : ℕ) → Gets now out c (outcome (get_turn now.display now.table c) out)
unfolding get_turn get_code entry_of
get_is now out c =
    let e : Entry = entry_of now.display.settings c in
    record {
      answer = refl;
      kept = λ x y z. shown now out c 0 0 e.maximum e.present (rw (x, y, z));
      momentary = λ x y z. shown now out c 0 1 e.maximum e.present (rw (x, y, z));
      undeclared = λ x. shown now out c 1 0 0 0 (rw x);
      write_only = λ y. shown now out c 1 0 0 0 (rw (y, and_false));
      stays = record { display = refl; table = refl };
    }

pub gets_follow : GetsFollow step_kept
gets_follow now message out c w r = rw (obeys now message out (get_feature c) w r) (get_is now out c)

-- ---- Set and Save

code_fits : {c : ℕ} {s : List ℕ} → Bytes (c ∷ s) → c < 256
code_fits (more h b) = h

pub sets_follow : SetsFollow step_kept
unfolding set_turn
sets_follow now message out c v z w b r =
    let valid : Valid requests (set_feature c v) = requests_round.valid to_display message (set_feature c v) b r in
    rw (obeys now message out (set_feature c v) w r) (
      sets_as_written now.display.settings c v z (code_fits valid.bytes_fit),
      record { display = record { capabilities = refl; table = refl; size = refl }; table = refl },
      record { len = refl; bytes = refl; found = refl },
    )

pub saves_follow : SavesFollow step_kept
unfolding save_turn
saves_follow now message out w r =
    rw (obeys now message out save w r) (
      refl,
      saves_as_written now.display.settings,
      record { display = record { capabilities = refl; table = refl; size = refl }; table = refl },
      record { len = refl; bytes = refl; found = refl },
    )

-- ---- Timing

timing-length : (s h v : ℕ) → length (encode replies to_host (timing_reply s h v)) ≡ 9
timing-length s h v = length-frame way.Reply to_host (encode_body (reply_body (timing_reply s h v)))

pub timing-sent : TimingSent step_kept
unfolding timing_turn
timing-sent now message out m w r =
    rw (obeys now message out timing w r, (made_is_sound now.display m).settings.timing) (
      refl,
      replies_with 9 sends out (accepted now.display now.table sends) refl (timing-length s.status s.horizontal s.vertical) refl,
      record { display = refl; table = refl },
    )
  where
    s : Settings
    s = now.display.settings

    sends : List ℕ
    sends = encode replies to_host (timing_reply s.status s.horizontal s.vertical)
