-- A wrong rule, and that the theorem does not hold of it.
-- Assumes nothing.
use Prim.Native.Nat.{ℕ, ◌+◌, ◌*◌}
use mathlib.Core.Path.{◌≡◌, refl, ap}
use mathlib.Core.List.{List, [], append-nil}
use native.Mathlib.Omega.{arith}
use lib.ListN.{get_or}
use Rattle.checksum.specs.Bytes as bytes
use Rattle.message_rules.specs.Body as body
use Rattle.message_rules.specs.Frame.{frame, plain}
use Rattle.message_rules.specs.Message.{set_feature, requests, encode, Valid, to_display}
use Rattle.message_rules.proofs.RoundTrip.{requests_round}
use Rattle.display_asked.specs.Asked.{asked, asked_of, TellsAsked}
use Rattle.display_asked.specs.declared.DisplayAsked.{DisplayAsked}

-- the value of a Set with its low byte first
low_first : ℕ → List ℕ → DisplayAsked
low_first answer s = asked (asked_of answer s).command (asked_of answer s).code (get_or s 5 0 * 256 + get_or s 4 0)

set-valid : Valid requests (set_feature 0x10 1)
set-valid = record {
  bytes_count = refl;
  words_count = refl;
  rest_count = omega arith;
  bytes_fit = bytes.more {b = 0x10} (omega arith) bytes.none;
  words_fit = body.more {w = 1} (omega arith) body.none;
  rest_fit = bytes.none;
  ruled = refl;
}

-- a Set to 1 would be told as one to 256
low-first_refuted : TellsAsked low_first → ⊥
unfolding frame plain low_first
low-first_refuted h =
    let s : List ℕ = encode requests to_display (set_feature 0x10 1) in
    let told = h.accepted s (set_feature 0x10 1) (requests_round.bytes to_display (set_feature 0x10 1) (omega arith) (omega arith) set-valid) (rw append-nil at (requests_round.there to_display (set_feature 0x10 1) [] refl set-valid)) in
    let e : ◌≡◌ {A = ℕ} 256 1 = ap (λ (a : DisplayAsked). a.value) told in
    omega arith
