-- What a byte is, from its kind, and the kind of a letter.
use Prim.Native.Nat.{ℕ}
use mathlib.Core.Path.{◌≡◌, refl}
use mathlib.Core.Bool.{Bool, true, false, cond, ◌&&◌}
use native.Mathlib.Omega.{arith}
use lib.Dec.{leb, eqb}
use borrow.Author.Tests.{leb-true, leb-false, eqb-true, eqb-false}
use Rattle.capabilities_rules.specs.Machine.{kind_of, is_letter}
use Rattle.capabilities_rules.specs.Grammar.{IsLetter}
use Rattle.capabilities_rules.specs.Kinds.{ByteKind}
use Rattle.capabilities_rules.specs.Kinds.{Open, Close, Space, Letter, Zero, Other}

-- what a byte is, from its kind
abbrev pub KindIs : ℕ → ByteKind → Type 0
KindIs b Open = b ≡ 0x28
KindIs b Close = b ≡ 0x29
KindIs b Space = b ≡ 0x20
KindIs b Letter = IsLetter b
KindIs b Zero = b ≡ 0
KindIs b Other = IsLetter b → ⊥

pub kind-is : (b : ℕ) → KindIs b (kind_of b)
unfolding kind_of
kind-is b = go (eqb b 0x28) (eqb b 0x29) (eqb b 0x20) (leb 0x21 b) (leb b 0x7e) (eqb b 0) refl refl refl refl refl refl
  where
    go : (t u v w x y : Bool) → eqb b 0x28 ≡ t → eqb b 0x29 ≡ u → eqb b 0x20 ≡ v → leb 0x21 b ≡ w → leb b 0x7e ≡ x → eqb b 0 ≡ y
        → KindIs b (cond t Open (cond u Close (cond v Space (cond (w && x) Letter (cond y Zero Other)))))
    go true u v w x y et eu ev ew ex ey = eqb-true b 0x28 et
    go false true v w x y et eu ev ew ex ey = eqb-true b 0x29 eu
    go false false true w x y et eu ev ew ex ey = eqb-true b 0x20 ev
    go false false false true true y et eu ev ew ex ey =
        record { low = leb-true 0x21 b ew; high = leb-true b 0x7e ex; no-open = eqb-false b 0x28 et; no-close = eqb-false b 0x29 eu }
    go false false false true false true et eu ev ew ex ey = eqb-true b 0 ey
    go false false false true false false et eu ev ew ex ey = λ l. let h = leb-false b 0x7e ex in let i = l.high in omega arith
    go false false false false x true et eu ev ew ex ey = eqb-true b 0 ey
    go false false false false x false et eu ev ew ex ey = λ l. let h = leb-false 0x21 b ew in let i = l.low in omega arith

only_letter : (b : ℕ) (k : ByteKind) → KindIs b k → IsLetter b → k ≡ Letter
only_letter b Open e l = absurd (l.no-open e)
only_letter b Close e l = absurd (l.no-close e)
only_letter b Space e l = let h = l.low in absurd (omega arith)
only_letter b Letter e l = refl
only_letter b Zero e l = let h = l.low in absurd (omega arith)
only_letter b Other e l = absurd (e l)

pub letter_kind : {b : ℕ} → IsLetter b → kind_of b ≡ Letter
letter_kind {b} l = only_letter b (kind_of b) (kind-is b) l

no_letter : (b : ℕ) (k : ByteKind) → KindIs b k → (IsLetter b → ⊥) → is_letter k ≡ false
no_letter b Open e ne = refl
no_letter b Close e ne = refl
no_letter b Space e ne = refl
no_letter b Letter e ne = absurd (ne e)
no_letter b Zero e ne = refl
no_letter b Other e ne = refl

pub not_letter : (b : ℕ) → (IsLetter b → ⊥) → is_letter (kind_of b) ≡ false
not_letter b ne = no_letter b (kind_of b) (kind-is b) ne

pub space_apart : IsLetter 0x20 → ⊥
space_apart l = let h = l.low in omega arith

pub close_apart : IsLetter 0x29 → ⊥
close_apart l = l.no-close refl

pub open_apart : IsLetter 0x28 → ⊥
open_apart l = l.no-open refl
