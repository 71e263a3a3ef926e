-- A list of exchanges between a host and a display that conforms is a course (`is_course`), so demand 3 holds of the
-- two ends of this build (`both_ends`).
-- Assumes nothing.
use Prim.Native.Nat.{ℕ, ◌≤◌, ◌<◌}
use mathlib.Core.Path.{◌≡◌, refl, ap, sym, ◌∙◌, subst, subst₂}
use mathlib.Core.Bool.{Bool, true, false, cond, ◌&&◌}
use mathlib.Core.List.{List}
use native.Mathlib.Omega.{arith}
use mathlib.Core.Option.{some, none}
use lib.ListN.{length, get_or, length-take}
use lib.Dec.{leb}
use Rattle.checksum.specs.Bytes.{Bytes}
use Rattle.message_rules.specs.Frame.{plain, frame}
use Rattle.message_rules.specs.Limits.{longest_text, output_room}
use Rattle.message_rules.specs.Message.{to_display}
use Rattle.message_rules.specs.declared.TextKind.{TextKind}
use Rattle.message_rules.specs.declared.TextKind.TheVariants.{Capabilities, Table}
use Rattle.message_rules.proofs.RoundTrip.{requests_round}
use Rattle.display_rules.specs.State.{cursor_of}
use Rattle.display_rules.specs.Kept.{Kept, RightSizes, StepRule, step_kept, kept_after, kept_declared, kept_loaded}
use Rattle.display_rules.specs.Statements as made
use Rattle.display_rules.specs.Statements.{Made, whole, asks_for, Untouched}
use Rattle.display_rules.proofs.Tests.{lent-sizes}
use Rattle.display_rules.proofs.Sound.{made_is_sound}
use Rattle.display_rules.proofs.Reading.{valid}
use Rattle.transfer_rules.specs.Fragment.{request_message}
use Rattle.transfer_rules.specs.Conforming.{Cursor, ConformingAct}
use Rattle.transfer_rules.specs.Exchange as over
use Rattle.transfer_rules.specs.Exchange.{Calls, rules, Turn, World, Exchange, cursor_after, sent_by, Lawful, Course, after}
use Rattle.transfer_rules.specs.declared.Transfer.{Transfer}
use Rattle.transfer_rules.specs.Transfer.{is_open}
use Rattle.transfer_rules.specs.Demand3.{Supposed, start_of}
use Rattle.transfer_rules.proofs.Messages.{request_injective}
use Rattle.transfer_rules.proofs.Steps.{sent_is}
use Rattle.transfer_rules.proofs.Kept.{first_le}
use Rattle.transfer_rules.proofs.Demand3.{demand3}
use Rattle.conformance.specs.Conformance.{held, Conforms}
use Rattle.conformance.specs.BothEnds.{DisplayTurn, missed, stepped, Between, ended, answered, corrupted, closed, others, declares, loads, IsCourse, Ready, setup_of, BothEnds, OffsetsFit}
use Rattle.conformance.proofs.Conformance.{request-is, display-conforms}

-- a request is bytes
request-bytes : (k : TextKind) (q : ℕ) → q < 65536 → Bytes (request_message k q)
request-bytes k q h = rw (request-is k q) (requests_round.bytes to_display (asks_for k q) (omega arith) (omega arith) (valid k q h))

module _ (step : StepRule) (f : Conforms step) (c : Calls) (k : TextKind) where
  -- the display before an exchange: calls have made it, its cursor is the world's, and it holds the text
  pub record Stands (text : List ℕ) (cursor : Cursor) (now : Kept) : Type 0 where
    pub is_made : Made step now.display
    pub cursor_is : cursor ≡ held (cursor_of k now.display)
    pub text_is : whole k now ≡ text

  same-act : {text text' : List ℕ} {before before' after' : Cursor} {reply : List ℕ} (q : ℕ) → text ≡ text' → before ≡ before' →
      ConformingAct k text before q after' reply → ConformingAct k text' before' q after' reply
  same-act {after' = a} {reply = r} q h g z = subst₂ (λ (x : List ℕ) (y : Cursor). ConformingAct k x y q a r) h g z

  -- its turn is a conforming display's, and leaves it so
  pub turn_follows : (text : List ℕ) (w : World) (e : Exchange) (now next : Kept) → Stands text w.cursor now →
      DisplayTurn c step k w e now next → Lawful c k text w e e.turn × Stands text (cursor_after w.cursor e.turn) next
  turn_follows text w e now next s (missed h) =
      subst (λ (t : Turn). Lawful c k text w e t × Stands text (cursor_after w.cursor t) now) (sym h) (tt, s)
  turn_follows text w e now next s (stepped q out a b l h) =
      let z = f.acts k now out q s.is_made l b in
      subst (λ (t : Turn). Lawful c k text w e t × Stands text (cursor_after w.cursor t) next) (sym h) (
        (a, same-act q s.text_is (sym s.cursor_is) z.conforms),
        record { is_made = made.stepped now s.is_made (request_message k q) out (request-bytes k q b); cursor_is = refl; text_is = z.keeps ∙ s.text_is },
      )

  -- what leaves the text and its cursor alone leaves it so
  untouched_stands : (text : List ℕ) (cursor : Cursor) (now next : Kept) → Stands text cursor now → Made step next.display → Untouched k now next → Stands text cursor next
  untouched_stands text cursor now next s m z = record { is_made = m; cursor_is = s.cursor_is ∙ ap held (sym z.0); text_is = z.1 ∙ s.text_is }

  course : (text : List ℕ) (now : Kept) (w : World) (es : List Exchange) (n : ℕ) → Stands text w.cursor now → Between c step k now w es n → Course c k text w es n
  unfolding after
  course text now w es n s ended = over.ended
  course text now w es n s (answered {next = next} {e = e} {es = rest} b t o r x) =
      let z = turn_follows text w e now next s t in
      over.answered (record { bytes = b; lawful = z.0 }) o r (course text next (after c w e) rest n z.1 x)
  course text now w es n s (corrupted {next = next} {e = e} {es = rest} {n = i} b t o x) =
      let z = turn_follows text w e now next s t in
      over.corrupted (record { bytes = b; lawful = z.0 }) o (course text next (after c w e) rest i z.1 x)
  course text now w es n s (closed {next = next} {e = e} {es = rest} b t o x) =
      let z = turn_follows text w e now next s t in
      over.closed (record { bytes = b; lawful = z.0 }) o (course text next (after c w e) rest n z.1 x)
  course text now w es n s (others message out b h x) =
      let next : Kept = kept_after now (step now message out) in
      course text next w es n (untouched_stands text w.cursor now next s (made.stepped now s.is_made message out b) (f.others k now message out h)) x
  course text now w es n s (declares y b x) =
      let next : Kept = kept_declared now y in
      course text next w es n (untouched_stands text w.cursor now next s (made.declared s.is_made y b) (f.declaring k now y)) x
  course text now w es n s (loads profile x) =
      let next : Kept = kept_loaded now profile in
      course text next w es n (untouched_stands text w.cursor now next s (made.loaded s.is_made profile) (f.loading k now profile)) x

-- the display's text is at most 4,096 bytes
text-small : (k : TextKind) (now : Kept) (out : List ℕ) → Made step_kept now.display → RightSizes now out → length (whole k now) ≤ longest_text
text-small Capabilities now out m w =
    omega (arith, (lent-sizes now.display (length now.text) (length now.table) (length out) w).text, (made_is_sound now.display m).text)
text-small Table now out m w = omega (arith, length-take now.display.table.len now.table, (made_is_sound now.display m).room)

pub is_course : IsCourse step_kept
is_course c k now w es n m h x = course step_kept display-conforms c k (whole k now) now w es n (record { is_made = m; cursor_is = h; text_is = refl }) x

-- what demand 3 supposes
pub supposed_of : (k : TextKind) (now : Kept) (out buffer : List ℕ) (budget : ℕ) → Ready step_kept k now out buffer budget → Supposed (setup_of k now buffer budget)
supposed_of k now out buffer budget r = record { bytes = r.bytes; small = text-small k now out r.is_made r.sizes; fits = r.fits; allowed = r.allowed }

pub both_ends : BothEnds rules step_kept
both_ends k now out buffer budget r es n x =
    demand3 (setup_of k now buffer budget) (supposed_of k now out buffer budget r) es n (is_course rules k now _ es n r.is_made refl x)

-- ---- the offsets of requests

-- requests that are alike are for the same offset
same-offset : (a k : TextKind) (p q : ℕ) → request_message a p ≡ request_message k q → p ≡ q
unfolding request_message frame plain
same-offset Capabilities Capabilities p q h = request_injective Capabilities p q h
same-offset Table Table p q h = request_injective Table p q h
same-offset Capabilities Table p q h = absurd (omega (arith, ap (λ (s : List ℕ). get_or s 2 0) h))
same-offset Table Capabilities p q h = absurd (omega (arith, ap (λ (s : List ℕ). get_or s 2 0) h))

-- a request that is sent is for the offset reached
sent-reached : (t : Transfer) (output : List ℕ) (k : TextKind) (q : ℕ) → sent_by (rules.request t output) ≡ some (request_message k q) → t.reached.0 ≡ q
sent-reached t output k q h = go (is_open t && leb output_room (length output)) (sym (sent_is t output) ∙ h)
  where
    go : (b : Bool) → cond b (some (request_message t.kind t.reached.0)) none ≡ some (request_message k q) → t.reached.0 ≡ q
    go true e =
        let i : request_message t.kind t.reached.0 ≡ request_message k q = cc in
        same-offset t.kind k t.reached.0 q i
    go false e = cc

pub offsets_fit : OffsetsFit rules step_kept
offsets_fit k now out buffer budget r es n x e q h =
    let w : World = over.after_all rules (start_of rules (setup_of k now buffer budget)) es in
    let c = (both_ends k now out buffer budget r es n x).2 in
    omega (
      arith,
      sent-reached w.transfer e.output k q h,
      c.reached,
      first_le w.accepted (whole k now) c.first,
      text-small k now out r.is_made r.sizes,
    )
