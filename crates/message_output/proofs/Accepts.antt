-- What a builder accepts is what is valid, and it is read as it was built.
-- Assumes nothing.
use Prim.Native.Nat.{ℕ}
use mathlib.Core.Path.{◌≡◌, refl, sym, ap, ap₂, ◌∙◌}
use mathlib.Core.Bool.{Bool, true, false, cond, ◌&&◌}
use mathlib.Core.List.{List, [], ◌++◌, append-nil}
use native.Mathlib.Omega.{arith}
use Rattle.std.specs.Prelude.{Ok, Err}
use lib.Dec.{leb}
use lib.ListN.{length, take, drop}
use lib.Seq.{take_at}
use borrow.Author.Tests.{le-leb, leb-true}
use Rattle.message_rules.specs.Limits.{output_room}
use Rattle.message_rules.specs.Layout.{layout_of, rule}
use Rattle.message_rules.specs.Read.{ok}
use Rattle.message_rules.specs.Body.{Body, ValidBody}
use Rattle.message_rules.specs.Message.{Reading, requests, replies, encode, decode}
use Rattle.message_rules.specs.Theorems.{RoundTrip, Behind}
use Rattle.message_rules.specs.declared.Address.{Address}
use Rattle.message_rules.specs.declared.Direction.{Direction}
use Rattle.message_rules.specs.declared.Direction.TheVariants as way
use Rattle.message_rules.proofs.RoundTrip.{requests_round, replies_round}
use Rattle.message_rules.proofs.Tests.{and_true}
use Rattle.buffers.specs.Buffers.{over}
use Rattle.message_output.specs.Output.{Built, admits}
use Rattle.message_output.specs.Accepts.{Typed, AcceptsExactly, ReadsBack}
use Rattle.message_rules.specs.declared.refusal.Refusal.TheVariants.{WrongSize, WrongField}

both : {x y : Bool} → x ≡ true → y ≡ true → x && y ≡ true
both p q = ap₂ (λ (x y : Bool). x && y) p q

valid : (b : Body) → Typed b → admits b ≡ true → ValidBody b
valid b t e =
    let u = and_true (leb (length b.rest) (layout_of b.kind).most) (rule b.kind b.bytes) e in
    record {
      bytes_count = t.bytes_count;
      words_count = t.words_count;
      rest_count = leb-true (length b.rest) (layout_of b.kind).most u.0;
      bytes_fit = t.bytes_fit;
      words_fit = t.words_fit;
      rest_fit = t.rest_fit;
      ruled = u.1;
    }

pub accepts-exactly : AcceptsExactly admits
accepts-exactly = record { there = valid; back = λ b v. both (le-leb (length b.rest) (layout_of b.kind).most v.rest_count) v.ruled }

-- nothing stands behind what was built
nothing : (d : Direction) → Behind d []
nothing way.Request = refl
nothing way.Reply = tt

module _ {M : Type 0} (t : Reading M) (round : RoundTrip t) where
  -- by the two tests of a builder: the room of the output, and the fields
  tested : (a : Address) (m : M) (before after : List ℕ) (n : ℕ) (x y : Bool) → (y ≡ true → ValidBody (t.body_for m))
      → ◌≡◌ {A = Built} (Ok n) (cond x (cond y (Ok (length (encode t a m))) (Err WrongField)) (Err WrongSize))
      → after ≡ cond x (cond y (over (encode t a m) before) before) before → decode t a (take n after) ≡ ok m
  tested a m before after n true true v e f =
      let s : List ℕ = encode t a m in
      let k : length s ≡ n = cc in
      let w : take n after ≡ s ++ [] = ap (take n) f ∙ take_at s (drop (length s) before) n k ∙ sym (append-nil s) in
      ap (decode t a) w ∙ round.there a m [] (nothing t.direction) (v refl)
  tested a m before after n true false v e f = let z : ◌≡◌ {A = ℕ} 0 1 = cc in absurd (omega arith)
  tested a m before after n false y v e f = let z : ◌≡◌ {A = ℕ} 0 1 = cc in absurd (omega arith)

  reads : ReadsBack t
  reads a m before after n y b = tested a m before after n (leb output_room (length before)) (admits (t.body_for m)) (valid (t.body_for m) y) b.answers b.leaves

pub requests-read-back : ReadsBack requests
requests-read-back = reads requests requests_round

pub replies-read-back : ReadsBack replies
replies-read-back = reads replies replies_round
