-- A wire that loses and changes nothing: the list of exchanges is made one at a time, each with the display's own
-- step and its own reply, by transfer_rules' invariant `Kept`.
-- Assumes nothing.
use Prim.Native.Nat.{ℕ, zero, suc, ◌≤◌, ◌<◌}
use mathlib.Core.Path.{◌≡◌, refl, ap, ap₂, sym, ◌∙◌, subst}
use mathlib.Core.Bool.{Bool, true, false, cond, ◌&&◌}
use mathlib.Core.List.{List, [], ◌∷◌, append-nil}
use mathlib.Core.Option.{some, none}
use native.Mathlib.Omega.{arith}
use lib.ListN.{length, take, drop, length-take}
use borrow.Author.Tests.{le-leb}
use Rattle.checksum.specs.Bytes as bytes
use Rattle.checksum.specs.Bytes.{Bytes}
use Rattle.checksum.proofs.Bytes.{bytes_take, bytes_drop}
use Rattle.message_rules.specs.Limits.{output_room}
use Rattle.message_rules.specs.Message.{to_host}
use Rattle.message_rules.specs.declared.TextKind.{TextKind}
use Rattle.message_rules.specs.declared.TextKind.TheVariants.{Capabilities, Table}
use Rattle.message_rules.proofs.RoundTrip.{replies_round}
use Rattle.display_rules.specs.State.{cursor_of}
use Rattle.display_rules.specs.Fragments.{read_turn, table_read_turn}
use Rattle.display_rules.specs.Step.{Outcome, step, turn}
use Rattle.display_rules.specs.Kept.{Kept, RightSizes, step_kept, kept_after}
use Rattle.display_rules.specs.Statements.{asks_for}
use Rattle.display_rules.proofs.Reading.{valid, read_back}
use Rattle.transfer_rules.specs.Fragment.{request_message, fragment_for, fragment_message}
use Rattle.transfer_rules.specs.Transfer.{is_open}
use Rattle.transfer_rules.specs.Conforming.{Cursor, reply_from}
use Rattle.transfer_rules.specs.Exchange.{rules, Turn, ignores, World, Exchange, Begins, sent, after}
use Rattle.transfer_rules.specs.Demand3.{Setup, Supposed, enough, start_of}
use Rattle.transfer_rules.proofs.Messages.{fragment-valid}
use Rattle.transfer_rules.proofs.Steps.{sent_is, Lands}
use Rattle.transfer_rules.proofs.Kept as course
use Rattle.transfer_rules.proofs.Kept.{reached-le, reply-read, answered-kept, closed-kept}
use Rattle.transfer_rules.proofs.Demand3.{begun_kept}
use Rattle.conformance.specs.Conformance.{held}
use Rattle.conformance.specs.BothEnds.{turn_of, setup_of, DisplayTurn, missed, stepped, Between, ended, answered, closed}
use Rattle.conformance.specs.Undisturbed.{Undisturbed}
use Rattle.conformance.proofs.Conformance.{request-is, display-conforms}
use Rattle.conformance.proofs.BothEnds.{Stands, turn_follows, supposed_of, both_ends}

-- a step on the request for a text leaves the sizes right
sizes-kept : (k : TextKind) (now : Kept) (out : List ℕ) (q : ℕ) → RightSizes now out → q < 65536 → RightSizes (kept_after now (step_kept now (request_message k q) out)) out
unfolding step turn read_turn table_read_turn
sizes-kept Capabilities now out q w h = rw (request-is Capabilities q, w, read_back (asks_for Capabilities q) (valid Capabilities q h)) w
sizes-kept Table now out q w h = rw (request-is Table q, w, read_back (asks_for Table q) (valid Table q h)) w

-- the reply from a cursor that is in range is bytes
reply-bytes : (k : TextKind) (text : List ℕ) (p : ℕ) (b : Cursor) → Bytes text → p < 65536 → Lands (length text) p b → Bytes (reply_from k text b)
unfolding fragment_message
reply-bytes k text p b z h l =
    replies_round.bytes to_host (fragment_for k b.offset (take b.size (drop b.offset text))) (omega arith) (omega arith)
    (fragment-valid k b.offset _ (omega (arith, l.at)) (omega (arith, length-take b.size (drop b.offset text), l.sized.most)) (bytes_take b.size (bytes_drop b.offset z)))

-- an exchange in which nothing arrives, and one in which the request and the whole reply do
abbrev lost : List ℕ → Exchange
lost output = record { output = output; turn = ignores; came = [] }

abbrev whole-reply : TextKind → List ℕ → ℕ → Outcome → Exchange
whole-reply k output q o = record { output = output; turn = turn_of k q o; came = take o.len o.out }

module _ (s : Setup) (h : Supposed s) (out output : List ℕ) (room : output_room ≤ length output) where
  abbrev k : TextKind
  k = s.kind

  -- an open transfer sends the request for the offset reached
  sends : (w : World) (i : ℕ) → course.Kept s w i 0 → is_open w.transfer ≡ true → (t : Turn) (came : List ℕ) →
      sent rules w (record { output = output; turn = t; came = came }) ≡ some (request_message k w.transfer.reached.0)
  sends w i v o t came =
      sent_is w.transfer output
      ∙ ap₂ (λ (x y : Bool). cond (x && y) (some (request_message w.transfer.kind w.transfer.reached.0)) none) o (le-leb output_room (length output) room)
      ∙ ap (λ (x : TextKind). some (request_message x w.transfer.reached.0)) v.kind_is

  -- lists of m exchanges from there, none corrupted
  abbrev Lists : ℕ → World → Kept → Type 0
  Lists m w now = (es : List Exchange) × (length es ≡ m) × Between rules step_kept k now w es 0

  -- from wherever i exchanges have led
  abbrev Runs : (m i : ℕ) → Type 0
  Runs m i = (w : World) (now : Kept) → course.Kept s w i 0 → Stands step_kept display-conforms rules k s.text w.cursor now → RightSizes now out → Lists m w now

  one_more : (m i : ℕ) → Runs m (suc i) → Runs (suc m) i
  unfolding after
  one_more m i next w now v x l = go (is_open w.transfer) refl
    where
      go : (b : Bool) → is_open w.transfer ≡ b → Lists (suc m) w now
      go false e =
          let idle : Exchange = lost output in
          let rest = next (after rules w idle) now (closed-kept s h w idle i 0 v e) x l in
          (idle ∷ rest.0, ap suc rest.1, closed bytes.none (missed refl) e rest.2)
      go true e =
          let q : ℕ = w.transfer.reached.0 in
          let o : Outcome = step_kept now (request_message k q) out in
          let full : Exchange = whole-reply k output q o in
          let low : q < 65536 = omega (arith, reached-le s h w full i 0 v) in
          let t : DisplayTurn rules step_kept k w full now (kept_after now o) = stepped q out (sends w i v e full.turn full.came) low l refl in
          let f = turn_follows step_kept display-conforms rules k s.text w full now (kept_after now o) x t in
          let r : Begins full.came full.came = ([], sym (append-nil full.came)) in
          let lands = (reply-read s h w full i 0 v e full.turn f.0 r).0 in
          let came : Bytes full.came = subst Bytes (sym f.0.1.replies) (reply-bytes k s.text q (held (cursor_of k o.display)) h.bytes low lands) in
          let kept = answered-kept s h w full i 0 v e (record { bytes = came; lawful = f.0 }) r in
          let rest = next (after rules w full) (kept_after now o) kept f.1 (sizes-kept k now out q l low) in
          (full ∷ rest.0, ap suc rest.1, answered came t e r rest.2)

  run : (m i : ℕ) → Runs m i
  run zero i w now v x l = ([], refl, ended)
  run (suc m) i w now v x l = one_more m i (run m (suc i)) w now v x l

pub undisturbed : Undisturbed rules step_kept
undisturbed k now out output buffer budget y room least =
    let s : Setup = setup_of k now buffer budget in
    let h : Supposed s = supposed_of k now out buffer budget y in
    let r = run s h out output room (enough (length s.text) 0) 0 (start_of rules s) now (begun_kept s h)
    (record { is_made = y.is_made; cursor_is = refl; text_is = refl }) y.sizes in
    let c = (both_ends k now out buffer budget y r.0 0 r.2).2 in
    let e = (c.finished 0 (omega arith) (omega (arith, r.1)) least).0 in
    record { exchanges = r.0; between = r.2; number = r.1; is_done = e; holds = (c.done e).2 }
