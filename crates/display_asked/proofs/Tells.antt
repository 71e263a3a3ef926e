-- What the export tells of a message is what the message says.
-- Assumes nothing.
use Prim.Native.Nat.{ℕ, ◌+◌, ◌*◌, ◌/◌, ◌%◌}
use mathlib.Core.Path.{◌≡◌, refl, sym, ap, ◌∙◌}
use mathlib.Core.List.{List}
use native.Mathlib.Omega.{arith}
use lib.ListN.{length}
use borrow.Author.Tests.{le-leb, ne_eqb}
use Rattle.checksum.specs.Bytes.{Bytes}
use Rattle.message_rules.specs.Read.{ok}
use Rattle.message_rules.specs.Frame.{frame, plain}
use Rattle.message_rules.specs.Message.{Request, get_feature, set_feature, timing, save, text, table_read, table_write, requests, encode, decode, to_display}
use Rattle.message_rules.proofs.RoundTrip.{requests_round}
use Rattle.display_asked.specs.Asked.{asked, asked_of, request_asked, TellsAsked}

-- of what is built
built_asked : (m : Request) → asked_of 0 (encode requests to_display m) ≡ request_asked m
unfolding asked_of frame plain
built_asked (get_feature c) = refl
built_asked (set_feature c v) = let e : v / 256 * 256 + v % 256 ≡ v = omega arith in ap (asked 0x03 c) e
built_asked timing = refl
built_asked save = refl
built_asked (text o) = refl
built_asked (table_read c o) = refl
built_asked (table_write c o d) = simp (le-leb 6 (length (encode requests to_display (table_write c o d))) (omega arith), le-leb 3 (length (encode requests to_display (table_write c o d))) (omega arith))

-- and so of what is read: it is what is built of its message
accepted : (s : List ℕ) (m : Request) → Bytes s → decode requests to_display s ≡ ok m → asked_of 0 s ≡ request_asked m
accepted s m y e = ap (asked_of 0) (sym (requests_round.back to_display s m y e)) ∙ built_asked m

refused : (answer : ℕ) (s : List ℕ) → (answer ≡ 0 → ⊥) → asked_of answer s ≡ asked 0 0 0
unfolding asked_of
refused answer s h = rw (ne_eqb answer 0 h)

pub tells_asked : TellsAsked asked_of
tells_asked = record { accepted = accepted; refused = refused }
