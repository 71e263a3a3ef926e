-- What the definitions of Codes.antt come to, in terms of membership alone. proofs/Theorems.antt proves each.
use Rattle.std.specs.Prelude.{ℕ, ◌+◌, ◌≤◌, ◌<◌, ◌≡◌, Bool, true, false, cond, ◌&&◌, List, length, eqb, Some, None}
use Rattle.codes.specs.Codes.{all_codes, member, no_codes, inserted, assigned, in_both, count_of, next_of}

-- the set of no code has none
abbrev pub NoneInside : Type 0
NoneInside = (c : ℕ) → member no_codes c ≡ false

-- a set with or without c differs from what it was at c alone
abbrev pub AssignsOne : Type 0
AssignsOne = (ws : List ℕ) (c : ℕ) (inside : Bool) (d : ℕ) → length ws ≡ 4 → c < all_codes
    → member (assigned ws c inside) d ≡ cond (eqb d c) inside (member ws d)

-- a code is in both sets exactly if it is in each
abbrev pub BothInside : Type 0
BothInside = (a b : List ℕ) (c : ℕ) → c < all_codes → member (in_both a b) c ≡ member a c && member b c

-- the set of no code counts 0, and a new code counts one more
abbrev pub CountsNone : Type 0
CountsNone = count_of no_codes ≡ 0

abbrev pub CountsInserted : Type 0
CountsInserted = (ws : List ℕ) (c : ℕ) → length ws ≡ 4 → c < all_codes → member ws c ≡ false → count_of (inserted ws c) ≡ count_of ws + 1

-- the next code is the least one not below c; it is nothing where no code from c on is in the set
abbrev pub NextIsLeast : Type 0
NextIsLeast = (ws : List ℕ) (c k : ℕ) → c ≤ k → k < all_codes → member ws k ≡ true → ((j : ℕ) → c ≤ j → j < k → member ws j ≡ false)
    → next_of ws c ≡ Some k

abbrev pub NextIsNothing : Type 0
NextIsNothing = (ws : List ℕ) (c : ℕ) → ((j : ℕ) → c ≤ j → j < all_codes → member ws j ≡ false) → next_of ws c ≡ None
