-- `message_frame::tail` meets its contract: the last byte is compared with the checksum of those in front of it.
-- Assumes nothing.
use mathlib.Core.Path.{◌≡◌, sym, ap, ◌∙◌}
use lib.ListN.{take}
use Prim.Native.Nat.{ℕ, ◌+◌}
use Rattle.std.proofs.lemmas.List.{take_min}
use borrow.Author.Tests.{eq-eqb, ne_eqb}
use Rattle.checksum.specs.Xor.{xor_all}
use Rattle.message_rules.specs.Frame.{body_length, length_byte}
use Rattle.message_frame.proofs.Parts.{tail_sum, sum_right, sum_wrong}
use Rattle.message_frame.proofs.tail.Goals as goal

pub returns-then-checksum-octet : goal.returns-then-checksum-octet
returns-then-checksum-octet c =
    let a = c.args in
    let n = c.body_length-n in
    let sum : c.checksum.result ≡ xor_all a.a.seed (take (n.result + 2) a.s.now) = c.checksum.ensures ∙ ap (λ (k : ℕ). xor_all a.a.seed (take k a.s.now)) c.min.ensures ∙ ap (xor_all a.a.seed) (take_min (n.result + 2) a.s.now) in
    let form = sym (c.from.ensures ∙ c.octet.ensures) ∙ c.if-from-length_byte.false ∙ c.length_byte.ensures ∙ ap (length_byte a.plain) n.ensures.0 in
    let wrong = sum_wrong a.a.seed c.checksum.result n.result a.s.now n.ensures.0 sum (λ e. c.if-checksum-octet.true (e ∙ sym c.octet-2.ensures)) in
    sym (tail_sum a.a a.plain a.s.now form ∙ rw (ne_eqb (xor_all a.a.seed (take (body_length a.s.now + 3) a.s.now)) 0 wrong))

pub returns : goal.returns
returns c =
    let a = c.args in
    let n = c.body_length-n in
    let sum : c.checksum.result ≡ xor_all a.a.seed (take (n.result + 2) a.s.now) = c.checksum.ensures ∙ ap (λ (k : ℕ). xor_all a.a.seed (take k a.s.now)) c.min.ensures ∙ ap (xor_all a.a.seed) (take_min (n.result + 2) a.s.now) in
    let form = sym (c.from.ensures ∙ c.octet.ensures) ∙ c.if-from-length_byte.false ∙ c.length_byte.ensures ∙ ap (length_byte a.plain) n.ensures.0 in
    let right = sum_right a.a.seed c.checksum.result n.result a.s.now n.ensures.0 sum (c.if-checksum-octet.false ∙ c.octet-2.ensures) in
    sym (tail_sum a.a a.plain a.s.now form ∙ rw (eq-eqb (xor_all a.a.seed (take (body_length a.s.now + 3) a.s.now)) 0 right))
