-- What is encoded is bytes.
-- Assumes nothing.
use mathlib.Core.Path.{sym, subst}
use mathlib.Core.Bool.{Bool, true, false}
use mathlib.Core.List.{List, ◌++◌}
use Prim.Native.Nat.{ℕ, ◌/◌, ◌%◌, ◌<◌}
use native.Mathlib.Omega.{arith}
use lib.ListN.{length}
use lib.Bits.{bit_xor, xor_lt}
use Rattle.checksum.specs.Bytes.{Bytes, none, more}
use Rattle.checksum.specs.Xor.{xor_all}
use Rattle.checksum.proofs.Laws.{xor_all_nil, xor_all_cons}
use Rattle.message_rules.specs.declared.Address.{Address}
use Rattle.message_rules.specs.declared.Direction.{Direction}
use Rattle.message_rules.specs.Layout.{direction_of}
use Rattle.message_rules.specs.Body as body
use Rattle.message_rules.specs.Body.{Body, fields, encode_body, Words, ValidBody}
use Rattle.message_rules.specs.Frame.{length_byte, plain, frame}
use Rattle.message_rules.proofs.Rows.{right}
use Rattle.message_rules.proofs.Bodies.{body-short}
use Rattle.message_rules.proofs.Frames.{longest_lt}

xor_all_lt : (seed : ℕ) {s : List ℕ} → seed < 256 → Bytes s → xor_all seed s < 256
xor_all_lt seed h none = subst (λ (x : ℕ). x < 256) (sym (xor_all_nil seed)) h
xor_all_lt seed h (more {b = b} {s = s} p r) = subst (λ (x : ℕ). x < 256) (sym (xor_all_cons seed b s)) (xor_all_lt (bit_xor seed b) (xor_lt 8 seed b h p) r)

bytes-append : {s t : List ℕ} → Bytes s → Bytes t → Bytes (s ++ t)
bytes-append none u = u
bytes-append (more h r) u = more h (bytes-append r u)

fields-bytes : {ws : List ℕ} → Words ws → Bytes (fields ws)
fields-bytes body.none = none
fields-bytes (body.more {w = w} h r) = more {b = w / 256} (omega arith) (more {b = w % 256} (omega arith) (fields-bytes r))

body_bytes : (b : Body) → ValidBody b → Bytes (encode_body b)
body_bytes b v = more (right b.kind).is_byte (bytes-append v.bytes_fit (bytes-append (fields-bytes v.words_fit) v.rest_fit))

length_byte_lt : (p : Bool) (n : ℕ) → n < 0x80 → length_byte p n < 256
length_byte_lt true n h = omega arith
length_byte_lt false n h = omega arith

pub encoded_bytes : (a : Address) (b : Body) → a.first < 256 → a.seed < 256 → ValidBody b → Bytes (frame (direction_of b.kind) a (encode_body b))
unfolding frame
encoded_bytes a b f s v =
    let d : Direction = direction_of b.kind in
    let l : length_byte (plain d (encode_body b)) (length (encode_body b)) < 256 = length_byte_lt (plain d (encode_body b)) (length (encode_body b)) (omega (arith, body-short b v, longest_lt d)) in
    let front = more {b = a.first} f (more {b = length_byte (plain d (encode_body b)) (length (encode_body b))} l (body_bytes b v)) in
    bytes-append front (more (xor_all_lt a.seed s front) none)
