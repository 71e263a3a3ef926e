-- What `AcceptsExactly` rejects: tests of a builder's fields that let a wrong message through, or refuse a right one.
-- Assumes nothing.
use Prim.Native.Nat.{ℕ, zero, suc}
use mathlib.Core.Path.{◌≡◌, refl}
use mathlib.Core.Bool.{Bool, true, false, ◌&&◌}
use mathlib.Core.List.{List}
use native.Mathlib.Omega.{arith}
use lib.Dec.{leb, ltb}
use lib.ListN.{length, get_or, replicate}
use Rattle.checksum.specs.Bytes.{Bytes, none, more}
use Rattle.message_rules.specs.Row.{Kind}
use Rattle.message_rules.specs.Row as kind
use Rattle.message_rules.specs.Layout.{layout_of, rule}
use Rattle.message_rules.specs.Body.{Body}
use Rattle.message_rules.specs.Body as body
use Rattle.message_rules.specs.Message.{Reply, value, text_fragment, replies}
use Rattle.message_rules.proofs.Valid.{replies-valid}
use Rattle.message_rules.specs.declared.ReplyKind.TheVariants as reply
use Rattle.message_output.specs.Output.{admits}
use Rattle.message_output.specs.Accepts.{Typed, AcceptsExactly}

-- a Value of result 5 is let through
abbrev result_five : Kind → List ℕ → Bool
result_five (kind.Request c) b = true
result_five (kind.Reply reply.Value) b = ltb (get_or b 0 0) 6 && ltb (get_or b 2 0) 2
result_five (kind.Reply reply.TimingReply) b = rule (kind.Reply reply.TimingReply) b
result_five (kind.Reply reply.TextFragment) b = true
result_five (kind.Reply reply.TableFragment) b = true

abbrev lets_result_5 : Body → Bool
lets_result_5 b = leb (length b.rest) (layout_of b.kind).most && result_five b.kind b.bytes

-- the Value of result 5, code 10, type 0, maximum 100, present 50
abbrev five : Reply
five = value 5 0x10 0 100 50

five_typed : Typed (replies.body_for five)
five_typed =
    record {
      bytes_count = refl;
      words_count = refl;
      bytes_fit = more {b = 5} (omega arith) (more {b = 0x10} (omega arith) (more {b = 0} (omega arith) none));
      words_fit = body.more {w = 100} (omega arith) (body.more {w = 50} (omega arith) body.none);
      rest_fit = none;
    }

pub result_5 : AcceptsExactly lets_result_5 → ⊥
result_5 h = let wrong = replies-valid.there five (h.there (replies.body_for five) five_typed refl) in omega (arith, wrong.0)

-- data of 32 bytes are refused, as a Table write's are
abbrev refuses_32 : Body → Bool
refuses_32 b = leb (length b.rest) 31 && admits b

zeros : (n : ℕ) → Bytes (replicate n 0)
zeros zero = none
zeros (suc n) = more {b = 0} (omega arith) (zeros n)

-- a whole fragment of 32 bytes
abbrev full : Reply
full = text_fragment 0 (replicate 32 0)

pub fragment_of_32 : AcceptsExactly refuses_32 → ⊥
fragment_of_32 h =
    let right = replies-valid.back full (omega arith, zeros 32, omega arith) in
    let refused : false ≡ true = h.back (replies.body_for full) right in
    let z : ◌≡◌ {A = ℕ} 0 1 = cc in
    omega arith
