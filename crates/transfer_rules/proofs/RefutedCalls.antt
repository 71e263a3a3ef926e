-- What `CallsFollow` rejects: calls with a wrong number or a wrong state, each refuted by one call.
-- Assumes nothing.
use Prim.Native.Nat.{ℕ}
use mathlib.Core.Path.{◌≡◌, refl, ap}
use mathlib.Core.List.{List, [], ◌∷◌}
use mathlib.Core.Bool.{cond}
use native.Mathlib.Omega.{arith}
use lib.ListN.{length}
use lib.Dec.{leb, eqb}
use Rattle.checksum.specs.Xor.{xor_all}
use Rattle.message_rules.specs.Body.{by_row, decode_body}
use Rattle.message_rules.specs.Frame.{plain, agrees, frame_answer}
use Rattle.message_rules.specs.Message.{body_read, decode, text_fragment}
use Rattle.message_rules.specs.declared.TextKind.{TextKind}
use Rattle.message_rules.specs.declared.TextKind.TheVariants.{Capabilities}
use Rattle.transfer_rules.specs.declared.State.{State}
use Rattle.transfer_rules.specs.declared.State.TheVariants.{Running, Done, Overflowed}
use Rattle.transfer_rules.specs.declared.Transfer.{Transfer}
use Rattle.transfer_rules.specs.Transfer.{BeginOutcome, begin, request, ReceiveOutcome, receive}
use Rattle.transfer_rules.specs.Exchange.{Calls}
use Rattle.transfer_rules.specs.Calls.{started, not_offered, CallsFollow}
use Rattle.transfer_rules.proofs.Example.{buffer, first_two}

abbrev receiving : (Transfer → List ℕ → List ℕ → ReceiveOutcome) → Calls
receiving f = record { begin = begin; request = request; receive = f }

-- a transfer that has reached an offset, with a buffer of this size
abbrev at : State → ℕ → ℕ → Transfer
at s o size = record { kind = Capabilities; state = s; reached = record { 0 = o }; capacity = size; budget = 9; count = 1 }

-- 10 and 11 swapped
abbrev swapped : ℕ → ℕ
swapped n = cond (eqb n 10) 11 (cond (eqb n 11) 10 n)

abbrev swap_10_11 : Transfer → List ℕ → List ℕ → ReceiveOutcome
swap_10_11 t buf came = let o = receive t buf came in record { answer = swapped o.answer; transfer = o.transfer; buffer = o.buffer }

rejects_swap_10_11 : CallsFollow (receiving swap_10_11) → ⊥
unfolding decode body_read frame_answer agrees plain xor_all decode_body by_row
rejects_swap_10_11 h =
    let n : (d : List ℕ) → text_fragment 0 (0x28 ∷ 0x61 ∷ []) ≡ text_fragment 2 d → ⊥ = λ d e. let z : ◌≡◌ {A = ℕ} 0 2 = cc in omega arith in
    let z = h.unwanted (at Running 2 5) buffer first_two (text_fragment 0 (0x28 ∷ 0x61 ∷ [])) (record { is_open = refl; sized = refl }) refl n in
    let e : ◌≡◌ {A = ℕ} 11 10 = ap (λ (o : ReceiveOutcome). o.answer) z in
    omega arith

-- data past the room do not close the transfer
abbrev past-runs_on : Transfer → List ℕ → List ℕ → ReceiveOutcome
past-runs_on t buf came =
    let o = receive t buf came in
    cond (eqb o.answer 11)
    (record { answer = 11; transfer = record { kind = t.kind; state = Running; reached = t.reached; capacity = t.capacity; budget = t.budget; count = o.transfer.count }; buffer = o.buffer }) o

rejects_past_runs_on : CallsFollow (receiving past-runs_on) → ⊥
unfolding decode body_read frame_answer agrees plain xor_all decode_body by_row
rejects_past_runs_on h =
    let z = h.past (at Running 0 1) (7 ∷ []) first_two (0x28 ∷ 0x61 ∷ []) (record { is_open = refl; sized = refl }) refl (omega arith) in
    let e : Running ≡ Overflowed = ap (λ (o : ReceiveOutcome). o.transfer.state) z in
    let i : ◌≡◌ {A = ℕ} 0 1 = cc in
    omega arith

-- the buffer is looked at before the transfer's end: 1 where 16 is due
abbrev size-first : Transfer → List ℕ → List ℕ → ReceiveOutcome
size-first t buf came = cond (eqb (length buf) t.capacity) (receive t buf came) (not_offered 1 t buf)

rejects_size_first : CallsFollow (receiving size-first) → ⊥
rejects_size_first h =
    let e : ◌≡◌ {A = ℕ} 1 16 = ap (λ (o : ReceiveOutcome). o.answer) (h.refuses_offer (at Done 3 5) [] [] refl) in
    omega arith

-- a begin that takes a budget of 65,536
abbrev begin_65536 : TextKind → ℕ → ℕ → BeginOutcome
begin_65536 k size budget = cond (leb budget 65536) (started 0 k Running size budget) (begin k size budget)

rejects_begin_65536 : CallsFollow (record { begin = begin_65536; request = request; receive = receive }) → ⊥
rejects_begin_65536 h =
    let e : ◌≡◌ {A = ℕ} 0 18 = ap (λ (b : BeginOutcome). b.answer) (h.refuses_begin Capabilities 5 65536 (omega arith)) in
    omega arith
