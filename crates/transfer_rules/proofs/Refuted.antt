-- What demand 3 rejects: transfers with one wrong call each, refuted by a list of one to five exchanges, most of them Example.antt's.
-- Assumes nothing.
use Prim.Native.Nat.{ℕ, ◌+◌, ◌-◌, ◌*◌, ◌/◌}
use mathlib.Core.Path.{◌≡◌, refl, ap}
use mathlib.Core.List.{List, [], ◌∷◌, ◌++◌}
use mathlib.Core.Option.{some, none}
use mathlib.Core.Bool.{Bool, true, cond, ◌&&◌}
use native.Mathlib.Omega.{arith}
use lib.ListN.{length, replicate, take, get_or}
use lib.Dec.{ltb, leb, eqb}
use borrow.Author.Tests.{leb-true}
use Rattle.checksum.specs.Bytes as bytes
use Rattle.checksum.specs.Bytes.{Bytes}
use Rattle.checksum.specs.Xor.{xor_all}
use Rattle.message_rules.specs.Read.{Read, ok, refused}
use Rattle.message_rules.specs.Body.{by_row, decode_body}
use Rattle.message_rules.specs.Frame.{plain, frame, agrees, frame_answer}
use Rattle.message_rules.specs.Message.{body_read, decode}
use Rattle.message_rules.specs.declared.TextKind.{TextKind}
use Rattle.message_rules.specs.declared.TextKind.TheVariants.{Capabilities, Table}
use Rattle.transfer_rules.specs.declared.State.{State}
use Rattle.transfer_rules.specs.declared.State.TheVariants.{Running, Done, Exhausted}
use Rattle.transfer_rules.specs.declared.Transfer.{Transfer}
use Rattle.transfer_rules.specs.Fragment.{Fragment, request_message, fragment_message, read_reply, fragment_of, data_in}
use Rattle.buffers.specs.Buffers.{put}
use Rattle.transfer_rules.specs.Transfer.{BeginOutcome, is_open, begin, RequestOutcome, request, ReceiveOutcome, refuse, accept, receive}
use Rattle.transfer_rules.specs.Exchange.{Calls, World, Exchange, ignores, acts, start, after, Corrupted, Follows, Course, ended, answered, corrupted, closed}
use Rattle.transfer_rules.specs.Demand3.{Setup, CourseOf, Claims, Demand3}
use Rattle.transfer_rules.proofs.Messages.{request_injective}
use Rattle.transfer_rules.proofs.Example.{other_none, elsewhere-none, all_bytes, text, buffer, cursor, at, first_two, the_last, silence, first, repeated, again, fragment_0, fragment_1, single}

-- ---- what demand 3 says of the example's text

abbrev of : ℕ → Setup
of budget = record { kind = Capabilities; text = text; buffer = buffer; budget = budget; cursor = cursor }

says : (c : Calls) (budget : ℕ) (es : List Exchange) (n : ℕ) → leb budget 65535 ≡ true → Demand3 c → CourseOf c (of budget) es n → Claims c (of budget) es n
says c budget es n le h course =
    h (of budget) (record { bytes = all_bytes _ refl; small = omega arith; fits = omega arith; allowed = leb-true budget 65535 le }) es n course

-- bytes that come though the display ignores the request
abbrev offered : List ℕ → Exchange
offered s = record { output = replicate 38 0; turn = ignores; came = s }

-- they are corrupted if they are refused, or are a fragment of the other kind
lost : (w : World) (s : List ℕ) (n : ℕ) → is_open w.transfer ≡ true → fragment_of Capabilities (read_reply s) ≡ refused n → Corrupted Capabilities w (offered s)
lost w s n o h = record { running = o; no_reply = λ r. r; no_fragment = other_none s Capabilities w.transfer.reached.0 n h }

idle : (c : Calls) (w : World) (s : List ℕ) → Bytes s → Follows c Capabilities text w (offered s)
idle c w s b = record { bytes = b; lawful = tt }

abbrev null-message : List ℕ
null-message = 0x6E ∷ 0x80 ∷ 0xBE ∷ []

-- ---- a wrong receive

abbrev receiving : (Transfer → List ℕ → List ℕ → ReceiveOutcome) → Calls
receiving f = record { begin = begin; request = request; receive = f }

module _ (f : Transfer → List ℕ → List ℕ → ReceiveOutcome) (h : Demand3 (receiving f)) where
  -- the display's two bytes come, and then what may come
  first_then : (es : List Exchange) (n : ℕ) → Course (receiving f) Capabilities text (after (receiving f) (start (receiving f) Capabilities buffer 9 cursor) first) es n →
      Claims (receiving f) (of 9) (first ∷ es) n
  unfolding plain xor_all request_message fragment_message frame
  first_then es n rest =
      says (receiving f) 9 (first ∷ es) n refl h
      (answered {w = start (receiving f) Capabilities buffer 9 cursor} {e = first} (record { bytes = all_bytes _ refl; lawful = (refl, record { moves = (refl, omega arith); replies = refl }) }) refl ([], refl) rest)

  first_says : Claims (receiving f) (of 9) (first ∷ []) 0
  first_says = first_then [] 0 ended

  -- bytes that are refused come first
  lost_says : (s : List ℕ) (n : ℕ) → Bytes s → fragment_of Capabilities (read_reply s) ≡ refused n → Claims (receiving f) (of 9) (offered s ∷ []) 1
  lost_says s n b r =
      says (receiving f) 9 (offered s ∷ []) 1 refl h
      (corrupted {w = start (receiving f) Capabilities buffer 9 cursor} {e = offered s} (idle (receiving f) _ s b) (lost _ s n refl r) ended)

  null_says : Claims (receiving f) (of 9) (offered null-message ∷ []) 1
  unfolding decode body_read frame_answer agrees plain xor_all decode_body by_row
  null_says = lost_says null-message 12 (all_bytes _ refl) refl

abbrev with_state : Transfer → State → Transfer
with_state t s = record { kind = t.kind; state = s; reached = t.reached; capacity = t.capacity; budget = t.budget; count = t.count }

abbrev with_count : Transfer → ℕ → Transfer
with_count t n = record { kind = t.kind; state = t.state; reached = t.reached; capacity = t.capacity; budget = t.budget; count = n }

abbrev with_reached : Transfer → ℕ → Transfer
with_reached t o = record { kind = t.kind; state = t.state; reached = record { 0 = o }; capacity = t.capacity; budget = t.budget; count = t.count }

abbrev outcome : ℕ → Transfer → List ℕ → ReceiveOutcome
outcome n t buf = record { answer = n; transfer = t; buffer = buf }

-- the outcome in another state, if the test holds
abbrev state_if : Bool → State → ReceiveOutcome → ReceiveOutcome
state_if b s o = cond b (outcome o.answer (with_state o.transfer s) o.buffer) o

-- a reader that refuses everything
abbrev refuse_all : Transfer → List ℕ → List ℕ → ReceiveOutcome
refuse_all t buf came = cond (is_open t) (refuse t buf 5) (receive t buf came)

rejects_refuse_all : Demand3 (receiving refuse_all) → ⊥
rejects_refuse_all h = let e : ◌≡◌ {A = ℕ} 5 0 = (first_says refuse_all h).1.0.answers refl ([], refl) in omega arith

-- one that joins the first fragment and then only says done
abbrev done-at-first : Transfer → List ℕ → List ℕ → ReceiveOutcome
done-at-first t buf came = let o = receive t buf came in state_if (eqb o.answer 0) Done o

rejects_done_at_first : Demand3 (receiving done-at-first) → ⊥
unfolding after decode body_read frame_answer agrees plain xor_all decode_body by_row
rejects_done_at_first h = let e : ◌≡◌ {A = ℕ} 2 3 = ((first_says done-at-first h).2.done refl).0 in omega arith

-- one that takes a fragment shorter than 32 for the end
abbrev done-at-short : Transfer → List ℕ → List ℕ → ReceiveOutcome
done-at-short t buf came = let o = receive t buf came in state_if (eqb o.answer 0 && ltb o.transfer.reached.0 (t.reached.0 + 32)) Done o

rejects_done_at_short : Demand3 (receiving done-at-short) → ⊥
unfolding after decode body_read frame_answer agrees plain xor_all decode_body by_row
rejects_done_at_short h = let e : ◌≡◌ {A = ℕ} 2 3 = ((first_says done-at-short h).2.done refl).0 in omega arith

-- one that takes the null message for the end
abbrev done-at-null : Transfer → List ℕ → List ℕ → ReceiveOutcome
done-at-null t buf came = let o = receive t buf came in state_if (eqb o.answer 12) Done o

rejects_done_at_null : Demand3 (receiving done-at-null) → ⊥
unfolding after decode body_read frame_answer agrees plain xor_all decode_body by_row
rejects_done_at_null h = let e : ◌≡◌ {A = ℕ} 0 3 = ((null_says done-at-null h).2.done refl).0 in omega arith

-- a count that stands still
abbrev count_none : Transfer → List ℕ → List ℕ → ReceiveOutcome
count_none t buf came = let o = receive t buf came in outcome o.answer (with_count o.transfer t.count) o.buffer

rejects_count_none : Demand3 (receiving count_none) → ⊥
unfolding after decode body_read frame_answer agrees plain xor_all decode_body by_row
rejects_count_none h = let e : ◌≡◌ {A = ℕ} 0 1 = (first_says count_none h).2.count in omega arith

-- a count of the accepted calls alone
abbrev count-accepted : Transfer → List ℕ → List ℕ → ReceiveOutcome
count-accepted t buf came = let o = receive t buf came in cond (eqb o.answer 0) o (outcome o.answer (with_count o.transfer t.count) o.buffer)

rejects_count_accepted : Demand3 (receiving count-accepted) → ⊥
unfolding after decode body_read frame_answer agrees plain xor_all decode_body by_row
rejects_count_accepted h = let e : ◌≡◌ {A = ℕ} 0 1 = (null_says count-accepted h).2.count in omega arith

-- one that joins a repeated fragment again: it does not look at the offset
abbrev joined : Transfer → List ℕ → Read Fragment → ReceiveOutcome
joined t buf (refused n) = refuse t buf n
joined t buf (ok f) = accept t buf f.bytes

abbrev join_again : Transfer → List ℕ → List ℕ → ReceiveOutcome
join_again t buf came = cond (is_open t) (joined t buf (fragment_of t.kind (read_reply came))) (receive t buf came)

-- what is said where the first fragment comes once more, and the transfer stands at offset 2
module _ (f : Transfer → List ℕ → List ℕ → ReceiveOutcome) (h : Demand3 (receiving f)) (o : is_open (after (receiving f) (start (receiving f) Capabilities buffer 9 cursor) first).transfer ≡ true)
    (r : (after (receiving f) (start (receiving f) Capabilities buffer 9 cursor) first).transfer.reached.0 ≡ 2) where
  repeated_says : Claims (receiving f) (of 9) (first ∷ repeated ∷ []) 1
  unfolding after decode body_read frame_answer agrees plain xor_all decode_body by_row
  repeated_says =
      first_then f h (repeated ∷ []) 1
      (corrupted {w = after (receiving f) (start (receiving f) Capabilities buffer 9 cursor) first} {e = repeated} (idle (receiving f) _ first_two (all_bytes _ refl))
      (record { running = o; no_reply = λ z. z; no_fragment = elsewhere-none _ Capabilities 0 _ (0x28 ∷ 0x61 ∷ []) refl (λ e. omega (arith, e, r)) }) ended)

rejects_join_again : Demand3 (receiving join_again) → ⊥
unfolding after decode body_read frame_answer agrees plain xor_all decode_body by_row request_message fragment_message frame
rejects_join_again h = let e : ◌≡◌ {A = ℕ} 4 3 = ap length (repeated_says join_again h refl refl).2.first in omega arith

-- one that answers 0 to a repeated fragment and drops it
abbrev drop_repeated : Transfer → List ℕ → List ℕ → ReceiveOutcome
drop_repeated t buf came = let o = receive t buf came in cond (eqb o.answer 10) (outcome 0 o.transfer o.buffer) o

rejects_drop_repeated : Demand3 (receiving drop_repeated) → ⊥
unfolding after decode body_read frame_answer agrees plain xor_all decode_body by_row request_message fragment_message frame
rejects_drop_repeated h = let e : ◌≡◌ {A = ℕ} 2 4 = (repeated_says drop_repeated h refl refl).2.reached in omega arith

-- one that does not look at the checksum
abbrev mended : List ℕ → List ℕ
mended s = take (length s - 1) s ++ (xor_all 0x50 (take (length s - 1) s) ∷ [])

abbrev unchecked : Transfer → List ℕ → List ℕ → ReceiveOutcome
unchecked t buf came = receive t buf (mended came)

rejects_unchecked : Demand3 (receiving unchecked) → ⊥
unfolding after decode body_read frame_answer agrees plain xor_all decode_body by_row
rejects_unchecked h =
    let s : List ℕ = 0x6E ∷ 0x85 ∷ 0xE3 ∷ 0x00 ∷ 0x00 ∷ 0x28 ∷ 0x61 ∷ 0x12 ∷ [] in
    (lost_says unchecked h s 5 (all_bytes _ refl) refl).1.0.refuses (lost _ s 5 refl refl) refl

-- one that takes a fragment of the table for one of the capabilities string
abbrev either : Transfer → List ℕ → Read Fragment → Read Fragment → ReceiveOutcome
either t buf (ok f) other = cond (eqb f.offset t.reached.0) (accept t buf f.bytes) (refuse t buf 10)
either t buf (refused n) (ok f) = cond (eqb f.offset t.reached.0) (accept t buf f.bytes) (refuse t buf 10)
either t buf (refused n) (refused m) = refuse t buf n

abbrev any-kind : Transfer → List ℕ → List ℕ → ReceiveOutcome
any-kind t buf came = cond (is_open t) (either t buf (fragment_of Capabilities (read_reply came)) (fragment_of Table (read_reply came))) (receive t buf came)

rejects_any_kind : Demand3 (receiving any-kind) → ⊥
unfolding after decode body_read frame_answer agrees plain xor_all decode_body by_row
rejects_any_kind h =
    let s : List ℕ = 0x6E ∷ 0x85 ∷ 0xE4 ∷ 0x00 ∷ 0x00 ∷ 0x28 ∷ 0x61 ∷ 0x16 ∷ [] in
    (lost_says any-kind h s 10 (all_bytes _ refl) refl).1.0.refuses (lost _ s 10 refl refl) refl

-- one that answers 16 to a corrupted reply and does not count it
abbrev corrupted_16 : Transfer → List ℕ → List ℕ → ReceiveOutcome
corrupted_16 t buf came = let o = receive t buf came in cond (eqb o.answer 0) o (outcome 16 t buf)

rejects_corrupted_16 : Demand3 (receiving corrupted_16) → ⊥
unfolding after decode body_read frame_answer agrees plain xor_all decode_body by_row
rejects_corrupted_16 h = let e : ◌≡◌ {A = ℕ} 0 1 = (null_says corrupted_16 h).1.0.counts refl in omega arith

-- one that refuses bytes behind the message
abbrev exact : Transfer → List ℕ → List ℕ → ReceiveOutcome
exact t buf came = cond (eqb (length came) (get_or came 1 0 - 0x80 + 3)) (receive t buf came) (refuse t buf 4)

-- the display's two bytes, with a byte behind them
abbrev first_longer : Exchange
first_longer = record { output = replicate 38 0; turn = acts 0 (at 0 2) first_two; came = first_two ++ (0xFF ∷ []) }

rejects_exact : Demand3 (receiving exact) → ⊥
unfolding after decode body_read frame_answer agrees plain xor_all decode_body by_row request_message fragment_message frame
rejects_exact h =
    let z = says (receiving exact) 9 (first_longer ∷ []) 0 refl h
    (answered {w = start (receiving exact) Capabilities buffer 9 cursor} {e = first_longer}
    (record { bytes = all_bytes _ refl; lawful = (refl, record { moves = (refl, omega arith); replies = refl }) }) refl (0xFF ∷ [], refl) ended) in
    let e : ◌≡◌ {A = ℕ} 4 0 = z.1.0.answers refl (0xFF ∷ [], refl) in
    omega arith

-- one that refuses a fragment of 32 bytes
abbrev no_32 : Transfer → List ℕ → List ℕ → ReceiveOutcome
no_32 t buf came = cond (leb 0xA3 (get_or came 1 0)) (refuse t buf 7) (receive t buf came)

abbrev letters : List ℕ
letters = replicate 32 0x61

abbrev longest : Exchange
longest = record { output = replicate 38 0; turn = acts 0 (at 0 32) (fragment_message Capabilities 0 letters); came = fragment_message Capabilities 0 letters }

rejects_no_32 : Demand3 (receiving no_32) → ⊥
unfolding after decode body_read frame_answer agrees plain xor_all decode_body by_row request_message fragment_message frame
rejects_no_32 h =
    let z = h (record { kind = Capabilities; text = letters; buffer = letters; budget = 9; cursor = cursor })
    (record { bytes = all_bytes _ refl; small = omega arith; fits = omega arith; allowed = omega arith }) (longest ∷ []) 0
    (answered {w = start (receiving no_32) Capabilities letters 9 cursor} {e = longest}
    (record { bytes = all_bytes _ refl; lawful = (refl, record { moves = (refl, omega arith); replies = refl }) }) refl ([], refl) ended) in
    let e : ◌≡◌ {A = ℕ} 7 0 = z.1.0.answers refl ([], refl) in
    omega arith

-- one that wipes what stands behind the bytes accepted
abbrev wipe_rest : Transfer → List ℕ → List ℕ → ReceiveOutcome
wipe_rest t buf came =
    let o = receive t buf came in
    outcome o.answer o.transfer (take o.transfer.reached.0 o.buffer ++ replicate (length o.buffer - o.transfer.reached.0) 0)

rejects_wipe_rest : Demand3 (receiving wipe_rest) → ⊥
unfolding after decode body_read frame_answer agrees plain xor_all decode_body by_row
rejects_wipe_rest h = let e : ◌≡◌ {A = ℕ} 0 3 = ap (λ (s : List ℕ). get_or s 2 0) (first_says wipe_rest h).2.holds in omega arith

-- one that puts each fragment at the start of the buffer
abbrev put-at-start : Transfer → List ℕ → List ℕ → ReceiveOutcome
put-at-start t buf came = let o = receive t buf came in cond (eqb o.answer 0) (outcome 0 o.transfer (put buf 0 (data_in (read_reply came)))) o

rejects_put_at_start : Demand3 (receiving put-at-start) → ⊥
unfolding after decode body_read frame_answer agrees plain xor_all decode_body by_row request_message fragment_message frame
rejects_put_at_start h =
    let z = first_then put-at-start h (again ∷ []) 0
    (answered {w = after (receiving put-at-start) (start (receiving put-at-start) Capabilities buffer 9 cursor) first} {e = again}
    (record { bytes = all_bytes _ refl; lawful = (refl, record { moves = (refl, omega arith); replies = refl }) }) refl ([], refl) ended) in
    let e : ◌≡◌ {A = ℕ} 0x29 0x28 = ap (λ (s : List ℕ). get_or s 0 0) z.2.holds in
    omega arith

-- one that starts anew at a refusal
abbrev restart : Transfer → List ℕ → List ℕ → ReceiveOutcome
restart t buf came = let o = receive t buf came in cond (eqb o.answer 0) o (outcome o.answer (with_reached o.transfer 0) o.buffer)

rejects_restart : Demand3 (receiving restart) → ⊥
unfolding after decode body_read frame_answer agrees plain xor_all decode_body by_row request_message fragment_message frame
rejects_restart h =
    let z = first_then restart h (silence ∷ []) 1
    (corrupted {w = after (receiving restart) (start (receiving restart) Capabilities buffer 9 cursor) first} {e = silence} (idle (receiving restart) _ [] bytes.none) (lost _ [] 2 refl refl) ended) in
    let e : ◌≡◌ {A = ℕ} 0 2 = z.2.reached in
    omega arith

-- one that gives up at a null message
abbrev give_up : Transfer → List ℕ → List ℕ → ReceiveOutcome
give_up t buf came = let o = receive t buf came in state_if (eqb o.answer 12) Exhausted o

rejects_give_up : Demand3 (receiving give_up) → ⊥
unfolding after decode body_read frame_answer agrees plain xor_all decode_body by_row request_message fragment_message frame
rejects_give_up h =
    let c : Calls = receiving give_up in
    let w : World = start c Capabilities buffer 9 cursor in
    let w₁ : World = after c w (offered null-message) in
    let z = says c 9 (offered null-message ∷ silence ∷ silence ∷ silence ∷ silence ∷ []) 1 refl h
    (corrupted {w = w} {e = offered null-message} (idle c _ null-message (all_bytes _ refl)) (lost _ null-message 12 refl refl)
    (closed {w = w₁} {e = silence} (idle c _ [] bytes.none) refl
    (closed {w = after c w₁ silence} {e = silence} (idle c _ [] bytes.none) refl
    (closed {w = after c (after c w₁ silence) silence} {e = silence} (idle c _ [] bytes.none) refl
    (closed {w = after c (after c (after c w₁ silence) silence) silence} {e = silence} (idle c _ [] bytes.none) refl ended))))) in
    let e : Exhausted ≡ Done = (z.2.finished 1 (omega arith) (omega arith) (omega arith)).0 in
    let i : ◌≡◌ {A = ℕ} 0 1 = cc in
    omega arith

-- one that closes as exhausted one exchange before its budget
abbrev early : Transfer → List ℕ → List ℕ → ReceiveOutcome
early t buf came = let o = receive t buf came in state_if (eqb (o.transfer.count + 1) o.transfer.budget) Exhausted o

rejects_early : Demand3 (receiving early) → ⊥
unfolding after decode body_read frame_answer agrees plain xor_all decode_body by_row request_message fragment_message frame
rejects_early h =
    let c : Calls = receiving early in
    let w : World = start c Capabilities buffer 4 cursor in
    let w₁ : World = after c w (single 0 fragment_0) in
    let w₂ : World = after c w₁ (single 1 fragment_1) in
    let z = says c 4 (single 0 fragment_0 ∷ single 1 fragment_1 ∷ single 2 the_last ∷ silence ∷ []) 0 refl h
    (answered {w = w} {e = single 0 fragment_0} (record { bytes = all_bytes _ refl; lawful = (refl, record { moves = (refl, omega arith); replies = refl }) }) refl ([], refl)
    (answered {w = w₁} {e = single 1 fragment_1} (record { bytes = all_bytes _ refl; lawful = (refl, record { moves = (refl, omega arith); replies = refl }) }) refl ([], refl)
    (answered {w = w₂} {e = single 2 the_last} (record { bytes = all_bytes _ refl; lawful = (refl, record { moves = (refl, omega arith); replies = refl }) }) refl ([], refl)
    (closed {w = after c w₂ (single 2 the_last)} {e = silence} (idle c _ [] bytes.none) refl ended)))) in
    let e : Exhausted ≡ Done = (z.2.finished 0 (omega arith) (omega arith) (omega arith)).0 in
    let i : ◌≡◌ {A = ℕ} 0 1 = cc in
    omega arith

-- one that runs again when more comes after its end
abbrev reopen : Transfer → List ℕ → List ℕ → ReceiveOutcome
reopen t buf came = cond (is_open t) (receive t buf came) (outcome 16 (with_state t Running) buf)

rejects_reopen : Demand3 (receiving reopen) → ⊥
unfolding after
rejects_reopen h =
    let z = says (receiving reopen) 0 (silence ∷ []) 0 refl h
    (closed {w = start (receiving reopen) Capabilities buffer 0 cursor} {e = silence} (idle (receiving reopen) _ [] bytes.none) refl ended) in
    omega (arith, z.2.within refl)

-- ---- a wrong request

abbrev requesting : (Transfer → List ℕ → RequestOutcome) → Calls
requesting f = record { begin = begin; request = f; receive = receive }

-- what is said where nothing comes back, with this output
module _ (f : Transfer → List ℕ → RequestOutcome) (h : Demand3 (requesting f)) where
  silence_says : (out : List ℕ) → Claims (requesting f) (of 9) (record { output = out; turn = ignores; came = [] } ∷ []) 1
  unfolding decode body_read frame_answer
  silence_says out =
      says (requesting f) 9 (record { output = out; turn = ignores; came = [] } ∷ []) 1 refl h
      (corrupted {w = start (requesting f) Capabilities buffer 9 cursor} {e = record { output = out; turn = ignores; came = [] }} (record { bytes = bytes.none; lawful = tt })
      (record { running = refl; no_reply = λ r. r; no_fragment = other_none [] Capabilities 0 2 refl }) ended)

-- one that sends none
abbrev ask_none : Transfer → List ℕ → RequestOutcome
ask_none t output = record { answer = 16; len = 0; output = output }

rejects_ask_none : Demand3 (requesting ask_none) → ⊥
rejects_ask_none h =
    let e : none ≡ some (request_message Capabilities 0) = (silence_says ask_none h (replicate 38 0)).1.0.requests in
    let i : ◌≡◌ {A = ℕ} 0 1 = cc in
    omega arith

-- one that takes an output of 37 bytes
abbrev ask_in_37 : Transfer → List ℕ → RequestOutcome
ask_in_37 t output = request t (output ++ (0 ∷ []))

rejects_ask_in_37 : Demand3 (requesting ask_in_37) → ⊥
unfolding request_message frame plain xor_all
rejects_ask_in_37 h =
    let e : some (request_message Capabilities 0) ≡ none = (silence_says ask_in_37 h (replicate 37 0)).1.0.requests in
    let i : ◌≡◌ {A = ℕ} 0 1 = cc in
    omega arith

-- one that looks at the output before the transfer's end: 1 where 16 is due
abbrev ask_size_first : Transfer → List ℕ → RequestOutcome
ask_size_first t output = cond (leb 38 (length output)) (request t output) (record { answer = 1; len = 0; output = output })

rejects_ask_size_first : Demand3 (requesting ask_size_first) → ⊥
rejects_ask_size_first h =
    let c : Calls = requesting ask_size_first in
    let short : Exchange = record { output = replicate 37 0; turn = ignores; came = [] } in
    let z = says c 0 (short ∷ []) 0 refl h (closed {w = start c Capabilities buffer 0 cursor} {e = short} (record { bytes = bytes.none; lawful = tt }) refl ended) in
    let e : ◌≡◌ {A = ℕ} 1 16 = z.1.0.asks in
    omega arith

-- one that begins each request at a multiple of 32: the next one behind the bytes accepted
abbrev ask_at_32 : Transfer → List ℕ → RequestOutcome
ask_at_32 t output = request (with_reached t ((t.reached.0 + 31) / 32 * 32)) output

rejects_ask_at_32 : Demand3 (requesting ask_at_32) → ⊥
unfolding after decode body_read frame_answer agrees plain xor_all decode_body by_row request_message fragment_message frame
rejects_ask_at_32 h =
    let c : Calls = requesting ask_at_32 in
    let w : World = start c Capabilities buffer 9 cursor in
    let z = says c 9 (first ∷ silence ∷ []) 1 refl h
    (answered {w = w} {e = first} (record { bytes = all_bytes _ refl; lawful = (refl, record { moves = (refl, omega arith); replies = refl }) }) refl ([], refl)
    (corrupted {w = after c w first} {e = silence} (record { bytes = bytes.none; lawful = tt })
    (record { running = refl; no_reply = λ r. r; no_fragment = other_none [] Capabilities 2 2 refl }) ended)) in
    let e : some (request_message Capabilities 32) ≡ some (request_message Capabilities 2) = z.1.1.0.requests in
    let i : request_message Capabilities 32 ≡ request_message Capabilities 2 = cc in
    omega (arith, request_injective Capabilities 32 2 i)

-- ---- a wrong begin

abbrev beginning : (TextKind → ℕ → ℕ → BeginOutcome) → Calls
beginning f = record { begin = f; request = request; receive = receive }

-- one that always refuses
abbrev begin-none : TextKind → ℕ → ℕ → BeginOutcome
begin-none k size budget = begin k size 65536

rejects_begin_none : Demand3 (beginning begin-none) → ⊥
rejects_begin_none h = let e : ◌≡◌ {A = ℕ} 18 0 = (says (beginning begin-none) 9 [] 0 refl h ended).0 in omega arith

-- one that grants an exchange more than the budget
abbrev begin_generous : TextKind → ℕ → ℕ → BeginOutcome
begin_generous k size budget = record { answer = 0; transfer = record { kind = k; state = Running; reached = record { 0 = 0 }; capacity = size; budget = budget + 1; count = 0 } }

rejects_begin_generous : Demand3 (beginning begin_generous) → ⊥
rejects_begin_generous h = omega (arith, (says (beginning begin_generous) 0 [] 0 refl h ended).2.within refl)

-- one that begins at offset 1
abbrev begin-at_1 : TextKind → ℕ → ℕ → BeginOutcome
begin-at_1 k size budget = record { answer = 0; transfer = with_reached (begin k size budget).transfer 1 }

rejects_begin_at_1 : Demand3 (beginning begin-at_1) → ⊥
rejects_begin_at_1 h = let e : ◌≡◌ {A = ℕ} 1 0 = (says (beginning begin-at_1) 9 [] 0 refl h ended).2.reached in omega arith

-- one that begins the other text
abbrev other : TextKind → TextKind
other Capabilities = Table
other Table = Capabilities

abbrev begin-other : TextKind → ℕ → ℕ → BeginOutcome
begin-other k size budget = begin (other k) size budget

rejects_begin_other : Demand3 (beginning begin-other) → ⊥
unfolding decode body_read frame_answer request_message plain frame
rejects_begin_other h =
    let c : Calls = beginning begin-other in
    let z = says c 9 (silence ∷ []) 1 refl h (corrupted {w = start c Capabilities buffer 9 cursor} {e = silence} (idle c _ [] bytes.none) (lost _ [] 2 refl refl) ended) in
    let e : some (request_message Table 0) ≡ some (request_message Capabilities 0) = z.1.0.requests in
    let i : request_message Table 0 ≡ request_message Capabilities 0 = cc in
    let j : ◌≡◌ {A = ℕ} 0x84 0x83 = ap (λ (s : List ℕ). get_or s 1 0) i in
    omega arith
