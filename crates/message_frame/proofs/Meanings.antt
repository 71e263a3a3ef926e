-- A reader's result by what it stands for, either way.
-- Assumes nothing.
use mathlib.Core.Path.{◌≡◌, sym, ap, ◌∙◌, subst}
use mathlib.Core.List.{List}
use Prim.Native.Nat.{ℕ, ◌+◌, ◌-◌}
use lib.ListN.{take, drop}
use Rattle.std.specs.Prelude.{Result, Err}
use Rattle.message_rules.specs.Read.{Read, refused}
use Rattle.message_rules.specs.Frame.{body_length}
use Rattle.message_rules.specs.Refusal.{number_of}
use Rattle.message_rules.specs.declared.refusal.Refusal.{Refusal}
use Rattle.message_frame.specs.Meaning.{Meaning, stands_for, if_read}

module _ {M R : Type 0} {of : List ℕ → R → M} {In : List ℕ → R → Type 0} where
  pub means_of : {s : List ℕ} {r : Result R Refusal} {x y : Read M} → x ≡ y → Meaning of In s r y → Meaning of In s r x
  means_of e p = record { means = p.means ∙ sym e; inside = p.inside }

  pub means_as : {s : List ℕ} {r q : Result R Refusal} {x : Read M} → r ≡ q → Meaning of In s q x → Meaning of In s r x
  means_as {s} e p = record { means = ap (stands_for of s) e ∙ p.means; inside = subst (if_read In s) (sym e) p.inside }

  -- a refusal stands for its number
  pub means-refused : {s : List ℕ} {x : Read M} (r : Refusal) → x ≡ refused (number_of r) → Meaning of In s (Err r) x
  means-refused r e = record { means = sym e; inside = tt }

-- the data behind k bytes of a body, from position k + 3 on
pub rest_from : (s : List ℕ) (k j : ℕ) → body_length s - k ≡ body_length s - 1 - j → take (body_length s - k) (drop (3 + j) s) ≡ take (body_length s - 1 - j) (drop (3 + j) s)
rest_from s k j e = ap (λ (n : ℕ). take n (drop (3 + j) s)) e
