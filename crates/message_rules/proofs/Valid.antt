-- Which messages are valid, a line for each row of the table.
-- Assumes nothing.
use Prim.Native.Nat.{ℕ, ◌/◌, ◌%◌, ◌≤◌, ◌<◌}
use mathlib.Core.Path.{◌≡◌, refl, ap₂}
use mathlib.Core.Bool.{Bool, true, ◌&&◌}
use mathlib.Core.List.{List, [], ◌∷◌}
use native.Mathlib.Omega.{arith}
use lib.ListN.{length}
use lib.Dec.{ltb}
use borrow.Author.Tests.{lt-ltb, ltb-true, eq-eqb, eqb-true}
use Rattle.checksum.specs.Bytes as bytes
use Rattle.message_rules.specs.Layout.{layout_of, rule}
use Rattle.message_rules.specs.Body.{Body, ValidBody, Words, none, more}
use Rattle.message_rules.specs.Message.{Request, get_feature, set_feature, timing, save, text, table_read, table_write, Reply, value, timing_reply, text_fragment, table_fragment, requests, replies, Valid}
use Rattle.message_rules.specs.Valid.{RequestFields, ReplyFields, ValidExactly}
use Rattle.message_rules.proofs.Tests.{and_true}

-- the first element, and what is behind it
byte : {b : ℕ} {s : List ℕ} → bytes.Bytes (b ∷ s) → b < 256
byte (bytes.more h r) = h

others : {b : ℕ} {s : List ℕ} → bytes.Bytes (b ∷ s) → bytes.Bytes s
others (bytes.more h r) = r

first : {w : ℕ} {s : List ℕ} → Words (w ∷ s) → w < 65536
first (more h r) = h

second : {v w : ℕ} {s : List ℕ} → Words (v ∷ w ∷ s) → w < 65536
second (more h r) = first r

request-there : (m : Request) → Valid requests m → RequestFields m
request-there (get_feature c) v = byte v.bytes_fit
request-there (set_feature c x) v = (byte v.bytes_fit, first v.words_fit)
request-there timing v = tt
request-there save v = tt
request-there (text o) v = first v.words_fit
request-there (table_read c o) v = (byte v.bytes_fit, first v.words_fit)
request-there (table_write c o s) v = (byte v.bytes_fit, first v.words_fit, v.rest_fit, v.rest_count)

reply-there : (m : Reply) → Valid replies m → ReplyFields m
reply-there (value r c t m p) v =
    let two = and_true (ltb r 2) (ltb t 2) v.ruled in
    (ltb-true r 2 two.0, byte (others v.bytes_fit), ltb-true t 2 two.1, first v.words_fit, second v.words_fit)
reply-there (timing_reply s h x) v = (byte v.bytes_fit, eqb-true (s / 4 % 16) 0 v.ruled, first v.words_fit, second v.words_fit)
reply-there (text_fragment o s) v = (first v.words_fit, v.rest_fit, v.rest_count)
reply-there (table_fragment o s) v = (first v.words_fit, v.rest_fit, v.rest_count)

both : {x y : Bool} → x ≡ true → y ≡ true → x && y ≡ true
both p q = ap₂ (λ (x y : Bool). x && y) p q

one : {b : ℕ} → b < 256 → bytes.Bytes (b ∷ [])
one h = bytes.more h bytes.none

single : {w : ℕ} → w < 65536 → Words (w ∷ [])
single h = more h none

bit_byte : (n : ℕ) → n < 2 → n < 256
bit_byte n h = omega arith

-- a body whose fields are as many as its row says
made : {b : Body} → length b.bytes ≡ (layout_of b.kind).bytes → length b.words ≡ (layout_of b.kind).words → length b.rest ≤ (layout_of b.kind).most
    → bytes.Bytes b.bytes → Words b.words → bytes.Bytes b.rest → rule b.kind b.bytes ≡ true → ValidBody b
made n m k b w r e = record { bytes_count = n; words_count = m; rest_count = k; bytes_fit = b; words_fit = w; rest_fit = r; ruled = e }

request-back : (m : Request) → RequestFields m → Valid requests m
request-back (get_feature c) f = made refl refl (omega arith) (one f) none bytes.none refl
request-back (set_feature c x) f = made refl refl (omega arith) (one f.0) (single f.1) bytes.none refl
request-back timing f = made refl refl (omega arith) bytes.none none bytes.none refl
request-back save f = made refl refl (omega arith) bytes.none none bytes.none refl
request-back (text o) f = made refl refl (omega arith) bytes.none (single f) bytes.none refl
request-back (table_read c o) f = made refl refl (omega arith) (one f.0) (single f.1) bytes.none refl
request-back (table_write c o s) f = made refl refl f.3 (one f.0) (single f.1) f.2 refl

reply-back : (m : Reply) → ReplyFields m → Valid replies m
reply-back (value r c t m p) f =
    made refl refl (omega arith) (bytes.more (bit_byte r f.0) (bytes.more f.1 (one (bit_byte t f.2)))) (more f.3 (single f.4)) bytes.none
    (both (lt-ltb r 2 f.0) (lt-ltb t 2 f.2))
reply-back (timing_reply s h v) f = made refl refl (omega arith) (one f.0) (more f.2 (single f.3)) bytes.none (eq-eqb (s / 4 % 16) 0 f.1)
reply-back (text_fragment o s) f = made refl refl f.2 bytes.none (single f.0) f.1 refl
reply-back (table_fragment o s) f = made refl refl f.2 bytes.none (single f.0) f.1 refl

pub requests-valid : ValidExactly requests RequestFields
requests-valid = record { there = request-there; back = request-back }

pub replies-valid : ValidExactly replies ReplyFields
replies-valid = record { there = reply-there; back = reply-back }
