-- A computed list of exchanges in which each kind of exchange occurs: what demand 3 supposes can be met; that it is needed; and that no fewer exchanges than it says are enough.
-- Refuted.antt uses the exchanges.
-- Assumes nothing.
use Prim.Native.Nat.{ℕ}
use mathlib.Core.Path.{◌≡◌, refl, ap, sym, ◌∙◌}
use mathlib.Core.List.{List, [], ◌∷◌, ◌++◌}
use mathlib.Core.Bool.{Bool, true, ◌&&◌}
use native.Mathlib.Omega.{arith}
use lib.Dec.{ltb}
use lib.ListN.{get_or, replicate}
use borrow.Author.Tests.{ltb-true}
use Rattle.checksum.specs.Bytes.{Bytes, none, more}
use Rattle.checksum.specs.Xor.{xor_all}
use Rattle.message_rules.specs.Read.{ok, refused}
use Rattle.message_rules.specs.Body.{by_row, decode_body}
use Rattle.message_rules.specs.Frame.{plain, frame, agrees, frame_answer}
use Rattle.message_rules.specs.Message.{Valid, replies, body_read, decode}
use Rattle.message_rules.proofs.Tests.{and_true}
use Rattle.message_rules.specs.declared.TextKind.{TextKind}
use Rattle.message_rules.specs.declared.TextKind.TheVariants.{Capabilities, Table}
use Rattle.transfer_rules.specs.declared.State.TheVariants.{Done}
use Rattle.transfer_rules.specs.Fragment.{request_message, fragment_for, fragment_message, read_reply, fragment_in, fragment_of}
use Rattle.transfer_rules.specs.Conforming.{Cursor}
use Rattle.transfer_rules.specs.Exchange.{rules, World, Exchange, ignores, acts, Begins, start, after, after_all, Course, ended, answered, corrupted, closed}
use Rattle.transfer_rules.specs.Coverage.{Needed, Tight}
use Rattle.transfer_rules.proofs.Messages.{read-fragment, fragment-in, same-fragment, never_read}

-- ---- bytes that begin with no fragment wanted

-- of bytes that are refused, or are no fragment of this kind
pub other_none : (came : List ℕ) (k : TextKind) (p n : ℕ) → fragment_of k (read_reply came) ≡ refused n → (d : List ℕ) → Valid replies (fragment_for k p d) → Begins came (fragment_message k p d) → ⊥
other_none came k p n h d v b =
    never_read (sym h ∙ ap (fragment_of k) (ap read_reply b.1 ∙ read-fragment k p d b.0 v) ∙ fragment-in k p d)

-- of a fragment at another offset
pub elsewhere-none : (came : List ℕ) (k : TextKind) (o p : ℕ) (f : List ℕ) → read_reply came ≡ ok (fragment_for k o f) → (o ≡ p → ⊥) →
    (d : List ℕ) → Valid replies (fragment_for k p d) → Begins came (fragment_message k p d) → ⊥
elsewhere-none came k o p f h n d v b =
    let e : ok (fragment_for k o f) ≡ ok (fragment_for k p d) = sym h ∙ ap read_reply b.1 ∙ read-fragment k p d b.0 v in
    let g : fragment_for k o f ≡ fragment_for k p d = cc in
    n (same-fragment (record { offset = p; bytes = d }) o f (sym (fragment-in k o f) ∙ ap (fragment_in k) g ∙ fragment-in k p d)).0

-- a test for bytes that computes
abbrev small : List ℕ → Bool
small [] = true
small (b ∷ s) = ltb b 256 && small s

pub all_bytes : (s : List ℕ) → small s ≡ true → Bytes s
all_bytes [] h = none
all_bytes (b ∷ s) h = let a = and_true (ltb b 256) (small s) h in more (ltb-true b 256 a.0) (all_bytes s a.1)

-- ---- the list: the text is "(a)", and the cursor stands anywhere

abbrev pub text : List ℕ
text = 0x28 ∷ 0x61 ∷ 0x29 ∷ []

abbrev pub buffer : List ℕ
buffer = 1 ∷ 2 ∷ 3 ∷ 4 ∷ 5 ∷ []

abbrev pub cursor : Cursor
cursor = record { offset = 7; size = 9 }

abbrev pub at : ℕ → ℕ → Cursor
at o s = record { offset = o; size = s }

abbrev pub first_two : List ℕ
first_two = 0x6E ∷ 0x85 ∷ 0xE3 ∷ 0x00 ∷ 0x00 ∷ 0x28 ∷ 0x61 ∷ 0x11 ∷ []

abbrev pub the_last : List ℕ
the_last = 0x6E ∷ 0x84 ∷ 0xE3 ∷ 0x00 ∷ 0x02 ∷ 0x29 ∷ 0x72 ∷ []

abbrev the_end : List ℕ
the_end = 0x6E ∷ 0x83 ∷ 0xE3 ∷ 0x00 ∷ 0x03 ∷ 0x5D ∷ []

-- the display ignores the request, and nothing comes back
abbrev pub silence : Exchange
silence = record { output = replicate 38 0; turn = ignores; came = [] }

-- it sends two bytes
abbrev pub first : Exchange
first = record { output = replicate 38 0; turn = acts 0 (at 0 2) first_two; came = first_two }

-- it moves on, and its reply is lost: a null message is read
abbrev lost : Exchange
lost = record { output = replicate 38 0; turn = acts 2 (at 2 1) the_last; came = 0x6E ∷ 0x80 ∷ 0xBE ∷ [] }

-- the first fragment comes once more
abbrev pub repeated : Exchange
repeated = record { output = replicate 38 0; turn = ignores; came = first_two }

-- the output is too short for a request, and a damaged reply comes
abbrev damaged : Exchange
damaged = record { output = replicate 37 0; turn = ignores; came = 0x6E ∷ 0x84 ∷ 0xE3 ∷ 0x00 ∷ 0x02 ∷ 0x29 ∷ 0x73 ∷ [] }

-- the display sends its last fragment again
abbrev pub again : Exchange
again = record { output = replicate 38 0; turn = acts 2 (at 2 1) the_last; came = the_last }

-- it sends the empty fragment, with a byte behind it
abbrev final : Exchange
final = record { output = replicate 38 0; turn = acts 3 (at 3 0) the_end; came = the_end ++ (0xFF ∷ []) }

-- the transfer is closed by then
abbrev pub exchanges : List Exchange
exchanges = silence ∷ first ∷ lost ∷ repeated ∷ damaged ∷ again ∷ final ∷ silence ∷ []

ended_as : after_all rules (start rules Capabilities buffer 9 cursor) exchanges
    ≡ record {
      transfer = record { kind = Capabilities; state = Done; reached = record { 0 = 3 }; capacity = 5; budget = 9; count = 7 };
      buffer = 0x28 ∷ 0x61 ∷ 0x29 ∷ 4 ∷ 5 ∷ [];
      cursor = record { offset = 3; size = 0 };
      accepted = text;
      calls = 7;
    }
unfolding after decode body_read frame_answer agrees plain xor_all decode_body by_row
ended_as = refl

abbrev w₀ : World
w₀ = start rules Capabilities buffer 9 cursor

abbrev w₁ : World
w₁ = after rules w₀ silence

abbrev w₂ : World
w₂ = after rules w₁ first

abbrev w₃ : World
w₃ = after rules w₂ lost

abbrev w₄ : World
w₄ = after rules w₃ repeated

abbrev w₅ : World
w₅ = after rules w₄ damaged

abbrev w₆ : World
w₆ = after rules w₅ again

abbrev w₇ : World
w₇ = after rules w₆ final

-- four of the eight are corrupted
course : Course rules Capabilities text w₀ exchanges 4
unfolding after decode body_read frame_answer agrees plain xor_all decode_body by_row request_message fragment_message frame
course =
    corrupted {e = silence} (record { bytes = none; lawful = tt }) (record { running = refl; no_reply = λ z. z; no_fragment = other_none [] Capabilities 0 2 refl })
    (answered {w = w₁} {e = first} (record { bytes = all_bytes _ refl; lawful = (refl, record { moves = (refl, omega arith); replies = refl }) }) refl ([], refl)
    (corrupted {w = w₂} {e = lost} (record { bytes = all_bytes _ refl; lawful = (refl, record { moves = (refl, omega arith); replies = refl }) })
    (record { running = refl; no_reply = λ z. let e : ◌≡◌ {A = ℕ} 0x80 0x84 = ap (λ (s : List ℕ). get_or s 1 0) z.1 in omega arith; no_fragment = other_none _ Capabilities 2 12 refl })
    (corrupted {w = w₃} {e = repeated} (record { bytes = all_bytes _ refl; lawful = tt })
    (record { running = refl; no_reply = λ z. z; no_fragment = elsewhere-none _ Capabilities 0 2 (0x28 ∷ 0x61 ∷ []) refl (λ e. omega (arith, e)) })
    (corrupted {w = w₄} {e = damaged} (record { bytes = all_bytes _ refl; lawful = tt })
    (record { running = refl; no_reply = λ z. z; no_fragment = other_none _ Capabilities 2 5 refl })
    (answered {w = w₅} {e = again} (record { bytes = all_bytes _ refl; lawful = (refl, record { moves = refl; replies = refl }) }) refl ([], refl)
    (answered {w = w₆} {e = final} (record { bytes = all_bytes _ refl; lawful = (refl, record { moves = (refl, omega arith); replies = refl }) }) refl (0xFF ∷ [], refl)
    (closed {w = w₇} {e = silence} (record { bytes = none; lawful = tt }) refl ended)))))))

-- ---- a table: a fragment of the other text at the very offset is corrupted too, and refused

abbrev table-whole : List ℕ
table-whole = 0x6E ∷ 0x86 ∷ 0xE4 ∷ 0x00 ∷ 0x00 ∷ 0x28 ∷ 0x61 ∷ 0x29 ∷ 0x3C ∷ []

abbrev table-end : List ℕ
table-end = 0x6E ∷ 0x83 ∷ 0xE4 ∷ 0x00 ∷ 0x03 ∷ 0x5A ∷ []

abbrev foreign : Exchange
foreign = record { output = replicate 38 0; turn = acts 0 (at 0 3) table-whole; came = 0x6E ∷ 0x86 ∷ 0xE3 ∷ 0x00 ∷ 0x00 ∷ 0x28 ∷ 0x61 ∷ 0x29 ∷ 0x3B ∷ [] }

abbrev whole : Exchange
whole = record { output = replicate 38 0; turn = acts 0 (at 0 3) table-whole; came = table-whole }

abbrev table_final : Exchange
table_final = record { output = replicate 38 0; turn = acts 3 (at 3 0) table-end; came = table-end }

abbrev u₀ : World
u₀ = start rules Table buffer 9 cursor

abbrev u₁ : World
u₁ = after rules u₀ foreign

abbrev u₂ : World
u₂ = after rules u₁ whole

table_course : Course rules Table text u₀ (foreign ∷ whole ∷ table_final ∷ []) 1
unfolding after decode body_read frame_answer agrees plain xor_all decode_body by_row request_message fragment_message frame
table_course =
    corrupted {w = u₀} {e = foreign} (record { bytes = all_bytes _ refl; lawful = (refl, record { moves = (refl, omega arith); replies = refl }) })
    (record {
      running = refl;
      no_reply = λ z. let e : ◌≡◌ {A = ℕ} 0xE3 0xE4 = ap (λ (s : List ℕ). get_or s 2 0) z.1 in omega arith;
      no_fragment = other_none _ Table 0 10 refl;
    })
    (answered {w = u₁} {e = whole} (record { bytes = all_bytes _ refl; lawful = (refl, record { moves = (refl, omega arith); replies = refl }) }) refl ([], refl)
    (answered {w = u₂} {e = table_final} (record { bytes = all_bytes _ refl; lawful = (refl, record { moves = (refl, omega arith); replies = refl }) }) refl ([], refl) ended))

table-ends : (after_all rules u₀ (foreign ∷ whole ∷ table_final ∷ [])).transfer ≡ record { kind = Table; state = Done; reached = record { 0 = 3 }; capacity = 5; budget = 9; count = 3 }
unfolding after decode body_read frame_answer agrees plain xor_all decode_body by_row
table-ends = refl

-- ---- what is supposed is needed: the display sends "(10)", and the line turns over bit 0 of two bytes, which leaves their exclusive or as it was: "(01)" is read

abbrev ten : List ℕ
ten = 0x28 ∷ 0x31 ∷ 0x30 ∷ 0x29 ∷ []

abbrev ten_sent : List ℕ
ten_sent = 0x6E ∷ 0x87 ∷ 0xE3 ∷ 0x00 ∷ 0x00 ∷ 0x28 ∷ 0x31 ∷ 0x30 ∷ 0x29 ∷ 0x5A ∷ []

abbrev ten_end : List ℕ
ten_end = 0x6E ∷ 0x83 ∷ 0xE3 ∷ 0x00 ∷ 0x04 ∷ 0x5A ∷ []

abbrev two-flips : Exchange
two-flips =
    record { output = replicate 38 0; turn = acts 0 (at 0 4) ten_sent; came = 0x6E ∷ 0x87 ∷ 0xE3 ∷ 0x00 ∷ 0x00 ∷ 0x28 ∷ 0x30 ∷ 0x31 ∷ 0x29 ∷ 0x5A ∷ [] }

abbrev ten_final : Exchange
ten_final = record { output = replicate 38 0; turn = acts 4 (at 4 0) ten_end; came = ten_end }

pub needed : Needed rules
unfolding after decode body_read frame_answer agrees plain xor_all decode_body by_row request_message fragment_message frame
needed =
    record {
      setup = record { kind = Capabilities; text = ten; buffer = buffer; budget = 9; cursor = cursor };
      supposed = record { bytes = all_bytes _ refl; small = omega arith; fits = omega arith; allowed = omega arith };
      exchanges = two-flips ∷ ten_final ∷ [];
      follows = (
        record { bytes = all_bytes _ refl; lawful = (refl, record { moves = (refl, omega arith); replies = refl }) },
        (record { bytes = all_bytes _ refl; lawful = (refl, record { moves = (refl, omega arith); replies = refl }) }, tt),
      );
      ends = refl;
      another = λ e. let b : ◌≡◌ {A = ℕ} 0x30 0x31 = ap (λ (s : List ℕ). get_or s 1 0) e in omega arith;
    }

-- ---- no fewer than L + 1 + k exchanges are enough: the display sends one byte at a time, and the empty fragment is not asked for

abbrev pub fragment_0 : List ℕ
fragment_0 = 0x6E ∷ 0x84 ∷ 0xE3 ∷ 0x00 ∷ 0x00 ∷ 0x28 ∷ 0x71 ∷ []

abbrev pub fragment_1 : List ℕ
fragment_1 = 0x6E ∷ 0x84 ∷ 0xE3 ∷ 0x00 ∷ 0x01 ∷ 0x61 ∷ 0x39 ∷ []

-- a fragment of one byte at an offset
abbrev pub single : ℕ → List ℕ → Exchange
single o message = record { output = replicate 38 0; turn = acts o (at o 1) message; came = message }

abbrev singles : List Exchange
singles = single 0 fragment_0 ∷ single 1 fragment_1 ∷ single 2 the_last ∷ []

abbrev v₀ : World
v₀ = start rules Capabilities buffer 3 cursor

abbrev v₁ : World
v₁ = after rules v₀ (single 0 fragment_0)

abbrev v₂ : World
v₂ = after rules v₁ (single 1 fragment_1)

pub tight : Tight rules
unfolding after decode body_read frame_answer agrees plain xor_all decode_body by_row request_message fragment_message frame
tight =
    record {
      setup = record { kind = Capabilities; text = text; buffer = buffer; budget = 3; cursor = cursor };
      supposed = record { bytes = all_bytes _ refl; small = omega arith; fits = omega arith; allowed = omega arith };
      exchanges = singles;
      course =
          answered {w = v₀} {e = single 0 fragment_0} (record { bytes = all_bytes _ refl; lawful = (refl, record { moves = (refl, omega arith); replies = refl }) }) refl ([], refl)
          (answered {w = v₁} {e = single 1 fragment_1} (record { bytes = all_bytes _ refl; lawful = (refl, record { moves = (refl, omega arith); replies = refl }) }) refl ([], refl)
          (answered {w = v₂} {e = single 2 the_last} (record { bytes = all_bytes _ refl; lawful = (refl, record { moves = (refl, omega arith); replies = refl }) }) refl ([], refl) ended));
      one_less = refl;
      budget_less = refl;
      ends = refl;
    }
