-- What begins with the display's null message is read as the null message.
-- Assumes nothing.
use mathlib.Core.Path.{◌≡◌, refl, sym, ap, ap₂, ◌∙◌}
use Prim.Native.Nat.{ℕ}
use mathlib.Core.List.{List, [], ◌∷◌, ◌++◌}
use mathlib.Core.Bool.{true}
use native.Mathlib.Omega.{arith}
use lib.ListN.{length, drop}
use Rattle.std.specs.Prelude.{nat_eq}
use Rattle.std.specs.List.{starts_with}
use borrow.Author.Tests.{eqb-true}
use Rattle.checksum.specs.Xor.{xor_all}
use Rattle.message_rules.specs.Frame.{frame, plain}
use Rattle.message_rules.specs.Read.{refused}
use Rattle.message_rules.specs.Message.{to_host, replies, decode}
use Rattle.message_rules.proofs.Order.{null-read}
use Rattle.message_rules.proofs.Tests.{and_true}
use Rattle.message_reply_reader.specs.Start.{null_bytes}

starts : (s p : List ℕ) → starts_with nat_eq s p ≡ true → s ≡ p ++ drop (length p) s
starts s [] e = refl
starts [] (x ∷ p) e = let z : ◌≡◌ {A = ℕ} 0 1 = cc in absurd (omega arith)
starts (y ∷ s) (x ∷ p) e =
    let t = and_true (nat_eq x y) (starts_with nat_eq s p) e in
    ap₂ (λ (a : ℕ) (l : List ℕ). a ∷ l) (sym (eqb-true x y t.0)) (starts s p t.1)

pub null-answer : (s : List ℕ) → starts_with nat_eq s null_bytes ≡ true → decode replies to_host s ≡ refused 12
unfolding frame plain xor_all
null-answer s e = ap (decode replies to_host) (starts s null_bytes e) ∙ null-read.there to_host (drop 3 s)
