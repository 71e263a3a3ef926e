-- What the statements of specs/Follow.antt reject: numbers of a refused start that do not read as a closed transfer, and fields and states that are not the header's.
-- Assumes nothing.
use Prim.Native.Nat.{ℕ, ◌+◌}
use mathlib.Core.Path.{◌≡◌}
use native.Mathlib.Omega.{arith}
use Rattle.message_rules.specs.declared.TextKind.TheVariants.{Capabilities}
use Rattle.transfer_rules.specs.Transfer as rules
use Rattle.transfer_rules.specs.declared.State.{State}
use Rattle.transfer_rules.specs.declared.State.TheVariants.{Running, Done, Exhausted, Overflowed}
use Rattle.transfer_rules.specs.declared.Transfer.{Transfer}
use Rattle.ddcci.specs.declared.transfers.TransferNumbers.{TransferNumbers}
use Rattle.ddcci.specs.Transfers.{state_number, text_of, by_text, first_phase, phase_number, began_numbers}
use Rattle.ddcci.specs.Follow.{HeaderFields, HeaderNumbers, RefusedIsClosed}

-- ---- a wrong begin

-- refused with the number n, in this phase and with this room
abbrev refused : ℕ → ℕ → ℕ → TransferNumbers
refused n phase size = record { capacity = size; offset = 0; budget = 0; count = 0; phase = phase; answer = n }

-- an unknown text that reads as running: a program's loop on it never ends
abbrev begin-runs : ℕ → ℕ → ℕ → TransferNumbers
begin-runs kind size budget = by_text (text_of kind) (λ t. began_numbers (rules.begin t size budget)) (refused 6 9 0)

rejects_begin_runs : RefusedIsClosed begin-runs → ⊥
rejects_begin_runs h = let e : ◌≡◌ {A = ℕ} 1 0 = (h 2 5 9 (λ x. omega (arith, x))).state in omega arith

-- one that keeps the room of the buffer
abbrev begin-keeps-room : ℕ → ℕ → ℕ → TransferNumbers
begin-keeps-room kind size budget = by_text (text_of kind) (λ t. began_numbers (rules.begin t size budget)) (refused 6 8 size)

rejects_begin_keeps_room : RefusedIsClosed begin-keeps-room → ⊥
rejects_begin_keeps_room h = let e : ◌≡◌ {A = ℕ} 5 0 = (h 2 5 9 (λ x. omega (arith, x))).capacity in omega arith

-- ---- wrong numbers

-- running as 0, and so on in the order of a transfer's life
abbrev running-first : State → ℕ
running-first Running = 0
running-first Done = 1
running-first Exhausted = 2
running-first Overflowed = 3

rejects_running_first : HeaderNumbers (λ k s. first_phase k + running-first s) → ⊥
rejects_running_first h = let e : ◌≡◌ {A = ℕ} 2 0 = h.capabilities.0 in omega arith

-- done and overflowed swapped
abbrev swapped : State → ℕ
swapped Exhausted = 0
swapped Running = 1
swapped Done = 3
swapped Overflowed = 2

rejects_swapped : HeaderNumbers (λ k s. first_phase k + swapped s) → ⊥
rejects_swapped h = let e : ◌≡◌ {A = ℕ} 3 2 = h.capabilities.2 in omega arith

-- both texts in the same phases
rejects_one_text : HeaderNumbers (λ k s. first_phase Capabilities + state_number s) → ⊥
rejects_one_text h = let e : ◌≡◌ {A = ℕ} 0 4 = h.table.0 in omega arith

-- the offset and the count exchanged
abbrev crossed : Transfer → ℕ → TransferNumbers
crossed t a = record { capacity = t.capacity; offset = t.count; budget = t.budget; count = t.reached.0; phase = phase_number t.kind t.state; answer = a }

rejects_crossed : HeaderFields crossed → ⊥
rejects_crossed h =
    let e : ◌≡◌ {A = ℕ} 1 3 = h.offset (record { kind = Capabilities; state = Running; reached = record { 0 = 3 }; capacity = 5; budget = 9; count = 1 }) 0 in
    omega arith
