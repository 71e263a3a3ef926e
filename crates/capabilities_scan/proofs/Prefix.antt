-- The runs that the definitions count, in the words of the library.
use Prim.Native.Nat.{ℕ, ◌+◌}
use mathlib.Core.Path.{◌≡◌, refl, ap, ◌∙◌}
use mathlib.Core.Bool.{cond}
use mathlib.Core.List.{List, [], ◌∷◌}
use lib.Dec.{eqb}
use Rattle.std.proofs.Common.{add_comm}
use Rattle.std.specs.List.{prefix_len}
use Rattle.capabilities_rules.specs.Machine.{kind_of, is_letter}
use Rattle.capabilities_rules.specs.Nodes.{letters}
use Rattle.capabilities_scan.specs.Scan.{leading}

pub prefix_len-leading : (b : ℕ) (s : List ℕ) → prefix_len (λ c. eqb c b) s ≡ leading b s
unfolding leading
prefix_len-leading b [] = refl
prefix_len-leading b (c ∷ s) = ap (λ (n : ℕ). cond (eqb c b) n 0) (add_comm 1 (prefix_len (λ c. eqb c b) s) ∙ ap (λ (n : ℕ). n + 1) (prefix_len-leading b s))

pub prefix_len-letters : (s : List ℕ) → prefix_len (λ b. is_letter (kind_of b)) s ≡ letters s
unfolding letters
prefix_len-letters [] = refl
prefix_len-letters (b ∷ s) = ap (λ (n : ℕ). cond (is_letter (kind_of b)) n 0) (add_comm 1 (prefix_len (λ b. is_letter (kind_of b)) s) ∙ ap (λ (n : ℕ). n + 1) (prefix_len-letters s))
