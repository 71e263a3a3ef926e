-- `capabilities_scan::is_letter` meets its contract: from 21 to 7E a byte is a letter if it is none of the brackets, and no other is.
use Rattle.std.proofs.Common.{◌≡◌, ℕ, ◌≤◌, Bool, true, false, not, eqb, refl, sym, ap, arith}
use borrow.Author.Tests.{eqb-true, eqb-false}
use Rattle.capabilities_rules.specs.Machine.{kind_of, is_letter}
use Rattle.capabilities_rules.proofs.Bytes.{letter_kind, not_letter}
use Rattle.capabilities_scan.proofs.is_letter.Goals as goal

-- a bracket
opening : (b : ℕ) → b ≡ 0x28 → not (eqb b 0x28) ≡ is_letter (kind_of b)
unfolding kind_of
opening b e = rw e refl

-- another byte of the range
other : (b : ℕ) → 0x21 ≤ b → b ≤ 0x7e → (b ≡ 0x28 → ⊥) → not (eqb b 0x29) ≡ is_letter (kind_of b)
other b low high no-open = go (eqb b 0x29) refl
  where
    go : (t : Bool) → eqb b 0x29 ≡ t → not t ≡ is_letter (kind_of b)
    go true f = sym (not_letter b (λ l. l.no-close (eqb-true b 0x29 f)))
    go false f = sym (ap is_letter (letter_kind (record { low = low; high = high; no-open = no-open; no-close = eqb-false b 0x29 f })))

pub returns-then-b-ne-OPEN : goal.returns-then-b-ne-OPEN
returns-then-b-ne-OPEN c = other c.args.b (omega arith) (omega arith) c.if-b-ne-OPEN.true

pub returns-else-b-ne-OPEN : goal.returns-else-b-ne-OPEN
returns-else-b-ne-OPEN c = opening c.args.b c.if-b-ne-OPEN.false

pub returns-in_default : goal.returns-in_default
returns-in_default c = sym (not_letter c.args.b (λ l. omega arith))

pub returns-in_default-2 : goal.returns-in_default-2
returns-in_default-2 c = sym (not_letter c.args.b (λ l. omega arith))
