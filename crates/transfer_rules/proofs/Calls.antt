-- The calls of Transfer.antt follow document 01's sentences, case by case.
-- Assumes nothing.
use Prim.Native.Nat.{ℕ, ◌+◌, ◌≤◌, ◌<◌}
use mathlib.Core.Path.{◌≡◌, refl, ap, ◌∙◌}
use mathlib.Core.List.{List, []}
use native.Mathlib.Omega.{arith}
use native.Mathlib.Nat.{add-zero}
use lib.ListN.{length, take-append-drop}
use borrow.Author.Tests.{le-leb, lt-leb, eq-eqb, ne_eqb}
use Rattle.message_rules.specs.Limits.{output_room}
use Rattle.message_rules.specs.Read.{Read, ok}
use Rattle.message_rules.specs.Message.{Reply, value, timing_reply, text_fragment, table_fragment}
use Rattle.message_rules.specs.declared.TextKind.{TextKind}
use Rattle.message_rules.specs.declared.TextKind.TheVariants.{Capabilities, Table}
use Rattle.transfer_rules.specs.declared.State.TheVariants.{Done, Overflowed}
use Rattle.transfer_rules.specs.declared.Transfer.{Transfer}
use Rattle.transfer_rules.specs.Limits.{most_budget}
use Rattle.transfer_rules.specs.Fragment.{fragment_for, read_reply, fragment_in, fragment_of}
use Rattle.transfer_rules.specs.Transfer.{room, judge, receive}
use Rattle.transfer_rules.specs.Exchange.{rules}
use Rattle.transfer_rules.specs.Calls.{offered, runs_on, Ready, CallsFollow}
use Rattle.transfer_rules.proofs.Steps.{receive_open, judge-fragment}
use Rattle.transfer_rules.proofs.Messages.{fragment-in}

module _ (t : Transfer) (buffer came : List ℕ) (r : Ready t buffer) where
  -- the judgement of what was read
  judged : (x : Read Reply) → read_reply came ≡ x → receive t buffer came ≡ judge t buffer (fragment_of t.kind x)
  judged x h = receive_open t buffer came r.is_open r.sized ∙ ap (λ (y : Read Reply). judge t buffer (fragment_of t.kind y)) h

  -- a fragment of this kind at another offset
  elsewhere : (k : TextKind) (o : ℕ) (d : List ℕ) → ((e : List ℕ) → fragment_for k o d ≡ fragment_for k t.reached.0 e → ⊥) →
      judge t buffer (ok (record { offset = o; bytes = d })) ≡ offered 10 t (runs_on t) t.reached.0 buffer
  elsewhere k o d n = rw (ne_eqb o t.reached.0 (λ e. n d (ap (λ (x : ℕ). fragment_for k x d) e)))

  other-kind : (k : TextKind) (m : Reply) → ((d : List ℕ) → m ≡ fragment_for k t.reached.0 d → ⊥) →
      judge t buffer (fragment_in k m) ≡ offered 10 t (runs_on t) t.reached.0 buffer
  other-kind k (value a b y m p) n = refl
  other-kind k (timing_reply a b v) n = refl
  other-kind Capabilities (text_fragment o d) n = elsewhere Capabilities o d n
  other-kind Table (text_fragment o d) n = refl
  other-kind Capabilities (table_fragment o d) n = refl
  other-kind Table (table_fragment o d) n = elsewhere Table o d n

  past_room : (d : List ℕ) → read_reply came ≡ ok (fragment_for t.kind t.reached.0 d) → room t < t.reached.0 + length d →
      receive t buffer came ≡ offered 11 t Overflowed t.reached.0 buffer
  past_room d h l =
      judged _ h
      ∙ ap (judge t buffer) (fragment-in t.kind t.reached.0 d)
      ∙ rw (eq-eqb t.reached.0 t.reached.0 refl, lt-leb (t.reached.0 + length d) (room t) l)

  at-end : read_reply came ≡ ok (fragment_for t.kind t.reached.0 []) → t.reached.0 ≤ room t → receive t buffer came ≡ offered 0 t Done t.reached.0 buffer
  at-end h l =
      judged _ h
      ∙ judge-fragment t buffer [] (omega arith)
      ∙ rw (add-zero t.reached.0) (ap (offered 0 t Done t.reached.0) (take-append-drop t.reached.0 buffer))

pub calls_follow : CallsFollow rules
calls_follow =
    record {
      begins = λ k size budget h. rw (le-leb budget most_budget h);
      refuses_begin = λ k size budget h. rw (lt-leb budget most_budget h);
      asks = λ t output o h. rw (o, le-leb output_room (length output) h);
      refuses_output = λ t output o h. rw (o, lt-leb output_room (length output) h);
      refuses_asking = λ t output o. rw o;
      refuses_offer = λ t buffer came o. rw o;
      refuses_buffer = λ t buffer came o h. rw (o, ne_eqb (length buffer) t.capacity h);
      unread = λ t buffer came n r h. judged t buffer came r _ h;
      unwanted = λ t buffer came m r h n. judged t buffer came r _ h ∙ other-kind t buffer came r t.kind m n;
      past = λ t buffer came d r h l. past_room t buffer came r d h l;
      accepts = λ t buffer came d r h l n. judged t buffer came r _ h ∙ judge-fragment t buffer d l ∙ rw (ne_eqb (length d) 0 n);
      ends = λ t buffer came r h l. at-end t buffer came r h l;
    }
