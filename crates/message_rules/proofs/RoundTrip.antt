-- The round trips of requests and replies, proved once over a lawful reading of bodies.
-- Assumes nothing.
use mathlib.Core.Path.{◌≡◌, refl, sym, ap, ap₂, ◌∙◌, subst}
use mathlib.Core.Bool.{true}
use mathlib.Core.List.{List, [], ◌++◌}
use Prim.Native.Nat.{ℕ, ◌+◌, ◌≤◌, ◌<◌}
use native.Mathlib.Omega.{arith}
use native.Mathlib.Nat.{add-zero}
use lib.ListN.{length}
use borrow.Author.Tests.{eq-eqb, le-leb}
use Rattle.checksum.specs.Bytes.{Bytes}
use Rattle.checksum.proofs.Bytes.{bytes_take, bytes_drop}
use Rattle.message_rules.specs.declared.Address.{Address}
use Rattle.message_rules.specs.declared.Direction.{Direction}
use Rattle.message_rules.specs.declared.Direction.TheVariants as way
use Rattle.message_rules.specs.Read.{Read, ok, after, and_then}
use Rattle.message_rules.specs.Layout.{direction_of, longest}
use Rattle.message_rules.specs.Body.{Body, encode_body, decode_body, ValidBody}
use Rattle.message_rules.specs.Frame.{frame, frame_answer, fits, body_length, body_of, message_in}
use Rattle.message_rules.specs.Message.{Reading, Valid, as_message, requests, replies, encode, body_read, decode}
use Rattle.message_rules.specs.Theorems.{Behind, RoundTrip}
use Rattle.message_rules.proofs.Tests.{after-ok, then_ok}
use Rattle.message_rules.proofs.Bodies.{decoded, body_decoded, body-short}
use Rattle.message_rules.proofs.Frames.{framed, body_back, frame_passes}
use Rattle.message_rules.proofs.Encoded.{encoded_bytes}
use Rattle.message_rules.proofs.Typed.{Lawful, placed_is, requests_lawful, replies_lawful}

pub fits-behind : (d : Direction) (n : ℕ) (rest : List ℕ) → Behind d rest → fits d n (n + length rest) ≡ true
fits-behind way.Request n rest e = eq-eqb n (n + length rest) (sym (ap (λ (t : List ℕ). n + length t) e ∙ add-zero n))
fits-behind way.Reply n rest e = le-leb n (n + length rest) (omega arith)

behind-none : (d : Direction) → Behind d []
behind-none way.Request = refl
behind-none way.Reply = tt

module _ {M : Type 0} (t : Reading M) (law : Lawful t) where
  read-there : (a : Address) (m : M) (rest : List ℕ) → Behind t.direction rest → Valid t m → decode t a (encode t a m ++ rest) ≡ ok m
  unfolding body_read decode
  read-there a m rest h v =
      let d : Direction = t.direction in
      let b : List ℕ = encode_body (t.body_for m) in
      let x : Body = t.body_for m in
      let sends : direction_of x.kind ≡ d = law.sends x.kind x.bytes x.words x.rest m (law.there m) in
      let short : length b ≤ longest d = subst (λ (x : Direction). length b ≤ longest x) sends (body-short (t.body_for m) v) in
      let read : decode_body d b ≡ ok (t.body_for m) = ap (λ (x : Direction). decode_body x b) (sym sends) ∙ body_decoded (t.body_for m) v in
      ap₂ (λ (k : ℕ) (l : List ℕ). and_then (after k (decode_body d l)) (as_message t)) (frame_passes d a b rest short (fits-behind d (length b + 3) rest h)) (body_back d a b rest short)
      ∙ ap (λ (r : Read Body). and_then r (as_message t)) read
      ∙ law.there m

  module _ (a : Address) (s : List ℕ) (m : M) (y : Bytes s) (e : decode t a s ≡ ok m) where
    read_back : Valid t m × (encode t a m ≡ message_in t.direction s)
    unfolding body_read decode
    read_back =
        let d : Direction = t.direction in
        let q = then_ok (after (frame_answer d a s) (decode_body d (body_of s))) (as_message t) m e in
        let b : Body = q.first in
        let p = after-ok (frame_answer d a s) (decode_body d (body_of s)) b q.read in
        let g = decoded d b (bytes_take (body_length s) (bytes_drop 2 y)) p.1 in
        let same : t.body_for m ≡ b = law.back b.kind b.bytes b.words b.rest m q.further ∙ placed_is b g.valid in
        (subst ValidBody (sym same) g.valid, ap (λ (x : Body). frame d a (encode_body x)) same ∙ ap (frame d a) g.encoded ∙ sym (framed d a s p.0).starts)

  differ : (a : Address) (m n : M) → Valid t m → Valid t n → encode t a m ≡ encode t a n → m ≡ n
  differ a m n v w e =
      let x : decode t a (encode t a m ++ []) ≡ ok m = read-there a m [] (behind-none t.direction) v in
      let y : decode t a (encode t a n ++ []) ≡ ok n = read-there a n [] (behind-none t.direction) w in
      let z : ok m ≡ ok n = sym x ∙ ap (λ (s : List ℕ). decode t a (s ++ [])) e ∙ y in
      cc

  bytes : (a : Address) (m : M) → a.first < 256 → a.seed < 256 → Valid t m → Bytes (encode t a m)
  bytes a m f s v =
      let x : Body = t.body_for m in
      let sends : direction_of x.kind ≡ t.direction = law.sends x.kind x.bytes x.words x.rest m (law.there m) in
      subst (λ (d : Direction). Bytes (frame d a (encode_body x))) sends (encoded_bytes a x f s v)

  round_trip : RoundTrip t
  round_trip = record { there = read-there; valid = λ a s m y e. (read_back a s m y e).0; back = λ a s m y e. (read_back a s m y e).1; bytes = bytes; differ = differ }

pub requests_round : RoundTrip requests
requests_round = round_trip requests requests_lawful

pub replies_round : RoundTrip replies
replies_round = round_trip replies replies_lawful
