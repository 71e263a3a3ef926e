-- What every list of exchanges keeps, `Kept`, and that each of the three kinds of exchange (answered, corrupted, closed) keeps it.
-- Open: every exchange was counted, the count is below the budget and at most the offset reached plus the corrupted ones, and the display's cursor is near.
-- Assumes nothing.
use Prim.Native.Nat.{ℕ, suc, ◌+◌, ◌-◌, ◌≤◌, ◌<◌}
use mathlib.Core.Path.{◌≡◌, refl, ap, ap₂, sym, ◌∙◌}
use mathlib.Core.List.{List, ◌++◌, append_assoc, append-nil}
use mathlib.Core.Bool.{Bool, true, false, cond, true≢false}
use native.Mathlib.Omega.{arith}
use native.Mathlib.Nat.{add-zero}
use lib.ListN.{length, take, drop, length-append, length-take, length-drop}
use lib.Seq.{take-append_seam, drop-append-add, drop-drop, take-add}
use lib.Dec.{eqb}
use borrow.Author.Tests.{eqb-true, eqb-false}
use Rattle.checksum.proofs.Bytes.{bytes_take, bytes_drop}
use Rattle.message_rules.specs.Read.{Read, ok, refused}
use Rattle.message_rules.specs.Message.{Reply, Valid, replies}
use Rattle.message_rules.specs.declared.TextKind.{TextKind}
use Rattle.transfer_rules.specs.declared.State.{State}
use Rattle.transfer_rules.specs.declared.State.TheVariants.{Running, Done, Exhausted, Overflowed}
use Rattle.transfer_rules.specs.Fragment.{Fragment, fragment_for, fragment_message, read_reply, fragment_in, fragment_of, data_in}
use Rattle.buffers.specs.Buffers.{put}
use Rattle.transfer_rules.specs.Transfer.{is_open, room, ReceiveOutcome, exhausted_at, counted, state_after, refuse, judge}
use Rattle.transfer_rules.specs.Conforming.{Cursor}
use Rattle.transfer_rules.specs.Exchange.{rules, World, Exchange, Turn, ignores, acts, cursor_after, counted_by, advance, RepliedBy, Replied, Corrupted}
use Rattle.transfer_rules.specs.Exchange.{received as received·, after as after·, Lawful as Lawful·, Follows as Follows·}
use Rattle.transfer_rules.specs.Demand3.{Setup, Supposed}
use Rattle.transfer_rules.proofs.Messages.{fragment-valid, read-fragment, read-valid, read-begins, fragment-in, data-in, same-fragment, never_read, fragment-of, OwnNumber, read-refuses, not_wanted_own, kind-refuses}
use Rattle.transfer_rules.proofs.Steps.{open_runs, runs_open, receive-closed, receive_open, judge-fragment, sent_for, CursorNear, Lands, moves_land, lands_near, size-end}

-- the calls of Transfer.antt
abbrev pub received : World → Exchange → ReceiveOutcome
received = received· rules

abbrev pub after : World → Exchange → World
after = after· rules

abbrev pub Lawful : TextKind → List ℕ → World → Exchange → Turn → Type 0
Lawful = Lawful· rules

abbrev pub Follows : TextKind → List ℕ → World → Exchange → Type 0
Follows = Follows· rules

-- by the state, after m exchanges of which n were corrupted
abbrev pub StateKept : (total budget count reached : ℕ) (cursor : Cursor) (m n : ℕ) → State → Type 0
StateKept total budget count reached cursor m n Running = (count ≡ m) × (count < budget) × (count ≤ reached + n) × CursorNear total reached cursor
StateKept total budget count reached cursor m n Done = (reached ≡ total) × (count ≤ total + 1 + n)
StateKept total budget count reached cursor m n Exhausted = (count ≡ budget) × (count ≤ total + n)
StateKept total budget count reached cursor m n Overflowed = ⊥

pub record Kept (s : Setup) (w : World) (m n : ℕ) : Type 0 where
  pub kind_is : w.transfer.kind ≡ s.kind
  pub size_is : w.transfer.capacity ≡ length s.buffer
  pub budget_is : w.transfer.budget ≡ s.budget
  pub reached_is : w.transfer.reached.0 ≡ length w.accepted
  pub first : w.accepted ≡ take (length w.accepted) s.text
  pub holds : w.buffer ≡ w.accepted ++ drop (length w.accepted) s.buffer
  pub count_is : w.transfer.count ≡ w.calls
  pub state_is : StateKept (length s.text) s.budget w.transfer.count w.transfer.reached.0 w.cursor m n w.transfer.state

-- ---- lists

pub first_le : (acc text : List ℕ) → acc ≡ take (length acc) text → length acc ≤ length text
first_le acc text h = omega (arith, ap length h ∙ length-take (length acc) text)

length-held : (acc buffer : List ℕ) → length acc ≤ length buffer → length (acc ++ drop (length acc) buffer) ≡ length buffer
length-held acc buffer h = simp (length-append, length-drop) (omega arith)

first_more : (acc text : List ℕ) (s : ℕ) → acc ≡ take (length acc) text → s ≤ length text - length acc →
    acc ++ take s (drop (length acc) text) ≡ take (length (acc ++ take s (drop (length acc) text))) text
first_more acc text s h le =
    let l : length (acc ++ take s (drop (length acc) text)) ≡ length acc + s = simp (length-append, length-take, length-drop) (omega arith) in
    ap (λ (x : List ℕ). x ++ take s (drop (length acc) text)) h ∙ sym (take-add (length acc) s text) ∙ ap (λ (x : ℕ). take x text) (sym l)

put-held : (acc buffer d : List ℕ) → put (acc ++ drop (length acc) buffer) (length acc) d ≡ (acc ++ d) ++ drop (length (acc ++ d)) buffer
put-held acc buffer d = simp (take-append_seam, drop-append-add, drop-drop, length-append, append_assoc)

-- ---- refusals

-- the reply is refused, with a number that is neither 0 nor 1 nor 16
pub record Refused (w : World) (e : Exchange) : Type 0 where
  pub number : ℕ
  pub is : judge w.transfer w.buffer (fragment_of w.transfer.kind (read_reply e.came)) ≡ refuse w.transfer w.buffer number
  pub own : OwnNumber number

-- a reply that is the fragment of this kind at the offset reached, or is refused
pub data Judged (k : TextKind) (w : World) (e : Exchange) : Type 0 where
  wanted : (d : List ℕ) → read_reply e.came ≡ ok (fragment_for k w.transfer.reached.0 d) → Judged k w e
  other : Refused w e → ((d : List ℕ) → read_reply e.came ≡ ok (fragment_for k w.transfer.reached.0 d) → ⊥) → Judged k w e

module _ (setup : Setup) (supposed : Supposed setup) where
  abbrev k : TextKind
  k = setup.kind

  abbrev text : List ℕ
  text = setup.text

  abbrev buffer : List ℕ
  buffer = setup.buffer

  abbrev budget : ℕ
  budget = setup.budget

  module _ (w : World) (e : Exchange) (m n : ℕ) (v : Kept setup w m n) where
    pub reached-le : w.transfer.reached.0 ≤ length text
    reached-le = omega (arith, first_le w.accepted text v.first, v.reached_is)

    -- of an open transfer, the state's part
    open_kept : is_open w.transfer ≡ true → StateKept (length text) budget w.transfer.count w.transfer.reached.0 w.cursor m n Running
    open_kept o = (rw (open_runs w.transfer o).0 at v).state_is

    -- a conforming act lands at the offset that the transfer has reached
    act-lands : is_open w.transfer ≡ true → (q : ℕ) (a : Cursor) (reply : List ℕ) → Lawful k text w e (acts q a reply) → Lands (length text) w.transfer.reached.0 a
    act-lands o q a reply l =
        let p : q ≡ w.transfer.reached.0 = sent_for k w.transfer e.output q v.kind_is l.0 in
        moves_land (length text) w.transfer.reached.0 w.cursor a (open_kept o).3 (rw p at l).1.moves

    turn_near : is_open w.transfer ≡ true → (t : Turn) → Lawful k text w e t → CursorNear (length text) w.transfer.reached.0 (cursor_after w.cursor t)
    turn_near o ignores l = (open_kept o).3
    turn_near o (acts q a reply) l = lands_near _ _ _ (act-lands o q a reply l)

    -- the data of the display's reply
    pub fragment-at : Cursor → List ℕ
    fragment-at b = take b.size (drop w.transfer.reached.0 text)

    fragment-length : (b : Cursor) → Lands (length text) w.transfer.reached.0 b → length (fragment-at b) ≡ b.size
    unfolding fragment-at
    fragment-length b l = simp (length-take, length-drop) (omega (arith, l.sized.within))

    -- it is a fragment at the offset reached
    at-valid : (b : Cursor) → Lands (length text) w.transfer.reached.0 b → Valid replies (fragment_for k w.transfer.reached.0 (fragment-at b))
    unfolding fragment-at
    at-valid b l = fragment-valid k _ _ (omega (arith, reached-le)) (omega (arith, fragment-length b l, l.sized.most)) (bytes_take b.size (bytes_drop w.transfer.reached.0 supposed.bytes))

    -- and is read as such
    pub reply-read : is_open w.transfer ≡ true → (t : Turn) → Lawful k text w e t → RepliedBy e.came t →
        Lands (length text) w.transfer.reached.0 (cursor_after w.cursor t)
        × (read_reply e.came ≡ ok (fragment_for k w.transfer.reached.0 (fragment-at (cursor_after w.cursor t))))
    unfolding fragment-at
    reply-read o ignores l r = absurd r
    reply-read o (acts q a reply) l r =
        let h : Lands (length text) w.transfer.reached.0 a = act-lands o q a reply l in (
          h,
          ap read_reply r.1
              ∙ ap (λ (x : List ℕ). read_reply (x ++ r.0)) l.1.replies
              ∙ ap (λ (p : ℕ). read_reply (fragment_message k p (take a.size (drop p text)) ++ r.0)) h.at
              ∙ read-fragment k w.transfer.reached.0 _ r.0 (at-valid a h),
        )

    -- the buffer has its starting length
    buffer-length : length w.buffer ≡ w.transfer.capacity
    buffer-length =
        ap length v.holds ∙ length-held w.accepted buffer (omega (arith, first_le w.accepted text v.first)) ∙ sym v.size_is

    -- ---- an exchange in which the display's reply is offered
    module _ (o : is_open w.transfer ≡ true) (f : Follows k text w e) (r : Replied e) where
      b : Cursor
      b = cursor_after w.cursor e.turn

      d : List ℕ
      unfolding b
      d = fragment-at b

      answered-world : World
      unfolding b d
      answered-world =
          record {
            transfer = counted w.transfer (state_after (length d)) (w.transfer.reached.0 + length d);
            buffer = put w.buffer w.transfer.reached.0 d;
            cursor = b;
            accepted = w.accepted ++ d;
            calls = w.calls + 1;
          }

      lands : Lands (length text) w.transfer.reached.0 b
      unfolding b
      lands = (reply-read o e.turn f.lawful r).0

      reads : read_reply e.came ≡ ok (fragment_for k w.transfer.reached.0 d)
      unfolding b d
      reads = (reply-read o e.turn f.lawful r).1

      d-length : length d ≡ b.size
      unfolding d
      d-length = fragment-length b lands

      d-fits : w.transfer.reached.0 + length d ≤ room w.transfer
      d-fits = omega (arith, reached-le, d-length, lands.sized.within, v.size_is)

      answered-is : received w e
          ≡ record { answer = 0; transfer = counted w.transfer (state_after (length d)) (w.transfer.reached.0 + length d); buffer = put w.buffer w.transfer.reached.0 d }
      answered-is =
          receive_open w.transfer w.buffer e.came o buffer-length
          ∙ ap (λ (x : Read Reply). judge w.transfer w.buffer (fragment_of w.transfer.kind x)) (reads ∙ ap (λ (x : TextKind). ok (fragment_for x w.transfer.reached.0 d)) (sym v.kind_is))
          ∙ judge-fragment w.transfer w.buffer d d-fits

      pub answered-done : (received w e).answer ≡ 0
      answered-done = ap (λ (x : ReceiveOutcome). x.answer) answered-is

      pub answered-counted : counted_by (received w e).answer ≡ 1
      answered-counted = ap (λ (x : ReceiveOutcome). counted_by x.answer) answered-is

      answered-after : after w e ≡ answered-world
      unfolding after· answered-world b
      answered-after =
          ap (advance w e) answered-is
          ∙ ap (λ (x : List ℕ). advance-with x) (ap data_in reads ∙ data-in k w.transfer.reached.0 d)
        where
          advance-with : List ℕ → World
          advance-with x =
              record {
                transfer = counted w.transfer (state_after (length d)) (w.transfer.reached.0 + length d);
                buffer = put w.buffer w.transfer.reached.0 d;
                cursor = b;
                accepted = w.accepted ++ x;
                calls = w.calls + 1;
              }

      accepted-data : w.accepted ++ d ≡ w.accepted ++ take b.size (drop (length w.accepted) text)
      unfolding d fragment-at
      accepted-data = ap (λ (x : ℕ). w.accepted ++ take b.size (drop x text)) v.reached_is

      answered-state : (x : Bool) → eqb (length d) 0 ≡ x → (y : Bool) → eqb (w.transfer.count + 1) w.transfer.budget ≡ y →
          StateKept (length text) budget (w.transfer.count + 1) (w.transfer.reached.0 + length d) b (suc m) n
          (exhausted_at (w.transfer.count + 1) w.transfer.budget (cond x Done Running))
      answered-state true e₀ y e₁ =
          let z : length text - w.transfer.reached.0 ≡ 0 = size-end _ b.size lands.sized (omega (arith, eqb-true (length d) 0 e₀, d-length)) in
          (omega (arith, eqb-true (length d) 0 e₀, reached-le), omega (arith, (open_kept o).2, reached-le))
      answered-state false e₀ true e₁ =
          rw e₁ (
            omega (arith, eqb-true (w.transfer.count + 1) w.transfer.budget e₁, v.budget_is),
            omega (arith, (open_kept o).2, eqb-false (length d) 0 e₀, d-length, lands.sized.within, reached-le),
          )
      answered-state false e₀ false e₁ =
          rw e₁ (
            omega (arith, (open_kept o).0),
            omega (arith, eqb-false (w.transfer.count + 1) w.transfer.budget e₁, v.budget_is, (open_kept o).1),
            omega (arith, eqb-false (length d) 0 e₀, (open_kept o).2),
            record { sized = λ _. rw lands.at lands.sized; near = λ _ _. omega (arith, lands.at, d-length) },
          )

      answered-world-kept : Kept setup answered-world (suc m) n
      unfolding answered-world
      answered-world-kept =
          record {
            kind_is = v.kind_is;
            size_is = v.size_is;
            budget_is = v.budget_is;
            reached_is = simp length-append (omega (arith, v.reached_is));
            first = rw accepted-data (first_more w.accepted text b.size v.first (omega (arith, lands.sized.within, v.reached_is)));
            holds = ap₂ (λ (x : List ℕ) (y : ℕ). put x y d) v.holds v.reached_is ∙ put-held w.accepted buffer d;
            count_is = omega (arith, v.count_is);
            state_is = answered-state (eqb (length d) 0) refl (eqb (w.transfer.count + 1) w.transfer.budget) refl;
          }

      pub answered-kept : Kept setup (after w e) (suc m) n
      answered-kept = rw answered-after answered-world-kept

    -- ---- a reply is the fragment wanted, or refused

    -- of the fragment wanted
    wanted-in : (m : Reply) (d : List ℕ) → ok m ≡ ok (fragment_for k w.transfer.reached.0 d) → fragment_in w.transfer.kind m ≡ ok (record { offset = w.transfer.reached.0; bytes = d })
    wanted-in m d z =
        let y : m ≡ fragment_for k w.transfer.reached.0 d = cc in
        ap₂ fragment_in v.kind_is y ∙ fragment-in k w.transfer.reached.0 d

    in-reply : (m : Reply) → read_reply e.came ≡ ok m → Judged k w e
    in-reply m h = go (fragment_in w.transfer.kind m) refl
      where
        go : (y : Read Fragment) → fragment_in w.transfer.kind m ≡ y → Judged k w e
        go (refused a) p =
            other
            (record { number = a; is = ap (judge w.transfer w.buffer) (ap (fragment_of w.transfer.kind) h ∙ p); own = kind-refuses w.transfer.kind m a p })
            (λ d z. never_read (sym p ∙ wanted-in m d (sym h ∙ z)))
        go (ok f) p = at (eqb f.offset w.transfer.reached.0) refl
          where
            at : (x : Bool) → eqb f.offset w.transfer.reached.0 ≡ x → Judged k w e
            at true x =
                wanted f.bytes
                (h ∙ ap ok (fragment-of w.transfer.kind m f p ∙ ap₂ (λ (a : TextKind) (o : ℕ). fragment_for a o f.bytes) v.kind_is (eqb-true f.offset w.transfer.reached.0 x)))
            at false x =
                other
                (record { number = 10; is = ap (judge w.transfer w.buffer) (ap (fragment_of w.transfer.kind) h ∙ p) ∙ rw x; own = not_wanted_own })
                (λ d z. eqb-false f.offset w.transfer.reached.0 x (sym (same-fragment f w.transfer.reached.0 d (sym (wanted-in m d (sym h ∙ z)) ∙ p)).0))

    pub judged : Judged k w e
    judged = go (read_reply e.came) refl
      where
        go : (x : Read Reply) → read_reply e.came ≡ x → Judged k w e
        go (refused a) h =
            other
            (record { number = a; is = ap (λ (y : Read Reply). judge w.transfer w.buffer (fragment_of w.transfer.kind y)) h; own = read-refuses e.came a h })
            (λ d z. never_read (sym h ∙ z))
        go (ok m) h = in-reply m h

    -- ---- a corrupted exchange
    module _ (f : Follows k text w e) (s : Corrupted k w e) where
      refusal : Refused w e
      refusal = go judged
        where
          go : Judged k w e → Refused w e
          go (wanted d h) =
              absurd (s.no_fragment d (read-valid k w.transfer.reached.0 d e.came f.bytes h) (read-begins k w.transfer.reached.0 d e.came f.bytes h))
          go (other r h) = r

      refused-is : received w e ≡ refuse w.transfer w.buffer refusal.number
      refused-is = receive_open w.transfer w.buffer e.came s.running buffer-length ∙ refusal.is

      pub refused-not-done : (received w e).answer ≡ 0 → ⊥
      refused-not-done z = eqb-false refusal.number 0 refusal.own.not_done (sym (ap (λ (x : ReceiveOutcome). x.answer) refused-is) ∙ z)

      pub refused-counted : counted_by (received w e).answer ≡ 1
      refused-counted = ap (λ (x : ReceiveOutcome). counted_by x.answer) refused-is ∙ rw (refusal.own.not_closed, refusal.own.not_size)

      refused-world : World
      refused-world =
          record {
            transfer = counted w.transfer Running w.transfer.reached.0;
            buffer = w.buffer;
            cursor = cursor_after w.cursor e.turn;
            accepted = w.accepted;
            calls = w.calls + 1;
          }

      refused-after : after w e ≡ refused-world
      unfolding after· refused-world
      refused-after = ap (advance w e) refused-is ∙ rw (refusal.own.not_done, refusal.own.not_size, refusal.own.not_closed, append-nil w.accepted)

      refused-state : (y : Bool) → eqb (w.transfer.count + 1) w.transfer.budget ≡ y →
          StateKept (length text) budget (w.transfer.count + 1) w.transfer.reached.0 (cursor_after w.cursor e.turn) (suc m) (suc n)
          (exhausted_at (w.transfer.count + 1) w.transfer.budget Running)
      refused-state true e₁ =
          rw e₁
          (omega (arith, eqb-true (w.transfer.count + 1) w.transfer.budget e₁, v.budget_is), omega (arith, (open_kept s.running).2, reached-le))
      refused-state false e₁ =
          rw e₁ (
            omega (arith, (open_kept s.running).0),
            omega (arith, eqb-false (w.transfer.count + 1) w.transfer.budget e₁, v.budget_is, (open_kept s.running).1),
            omega (arith, (open_kept s.running).2),
            turn_near s.running e.turn f.lawful,
          )

      refused-world-kept : Kept setup refused-world (suc m) (suc n)
      unfolding refused-world
      refused-world-kept =
          record {
            kind_is = v.kind_is;
            size_is = v.size_is;
            budget_is = v.budget_is;
            reached_is = v.reached_is;
            first = v.first;
            holds = v.holds;
            count_is = omega (arith, v.count_is);
            state_is = refused-state (eqb (w.transfer.count + 1) w.transfer.budget) refl;
          }

      pub corrupted-kept : Kept setup (after w e) (suc m) (suc n)
      corrupted-kept = rw refused-after refused-world-kept

    -- ---- an exchange of a closed transfer
    module _ (c : is_open w.transfer ≡ false) where
      closed-world : World
      closed-world = record { transfer = w.transfer; buffer = w.buffer; cursor = cursor_after w.cursor e.turn; accepted = w.accepted; calls = w.calls }

      closed_after : after w e ≡ closed-world
      unfolding after· closed-world
      closed_after = ap (advance w e) (receive-closed w.transfer w.buffer e.came c) ∙ rw (append-nil w.accepted, add-zero w.calls)

      closed-state : (p : State) → w.transfer.state ≡ p →
          StateKept (length text) budget w.transfer.count w.transfer.reached.0 w.cursor m n p →
          StateKept (length text) budget w.transfer.count w.transfer.reached.0 (cursor_after w.cursor e.turn) (suc m) n p
      closed-state Running q i = absurd (true≢false (sym (runs_open w.transfer q (rw v.budget_is i.1)) ∙ c))
      closed-state Done q i = i
      closed-state Exhausted q i = i
      closed-state Overflowed q i = i

      closed-world-kept : Kept setup closed-world (suc m) n
      unfolding closed-world
      closed-world-kept =
          record {
            kind_is = v.kind_is;
            size_is = v.size_is;
            budget_is = v.budget_is;
            reached_is = v.reached_is;
            first = v.first;
            holds = v.holds;
            count_is = v.count_is;
            state_is = closed-state w.transfer.state refl v.state_is;
          }

      pub closed-kept : Kept setup (after w e) (suc m) n
      closed-kept = rw closed_after closed-world-kept
