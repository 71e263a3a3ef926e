-- Document 01, "The board": "The set of declared codes is four 64-bit words, one bit a code; the number declared and the next declared
-- code are read from them." A set of VCP codes is the list of its words.
use Rattle.std.specs.Prelude.{ℕ, zero, suc, ◌+◌, ◌-◌, ◌/◌, ◌%◌, ◌^◌, Bool, true, cond, List, [], ◌∷◌, get_or, set, replicate, eqb, Option, Some, None}
use Rattle.std.specs.Int.Bits.{bit_and}

-- "each code 0 to 255"
abbrev pub all_codes : ℕ
all_codes = 256

-- whether bit i of the word w is set
unfoldable pub bit : ℕ → ℕ → Bool
bit w i = eqb (w / 2 ^ i % 2) 1

-- whether the code c is in the set: bit c % 64 of word c / 64
unfoldable pub member : List ℕ → ℕ → Bool
member ws c = bit (get_or ws (c / 64) 0) (c % 64)

-- the set of no code: four words of zeros
abbrev pub no_codes : List ℕ
no_codes = replicate 4 0

-- the word w with bit i set: 2 ^ i is added where it is not set yet
abbrev pub bit_set : ℕ → ℕ → ℕ
bit_set w i = cond (bit w i) w (w + 2 ^ i)

-- the word w with bit i cleared: 2 ^ i is taken away where it is set
abbrev pub bit_cleared : ℕ → ℕ → ℕ
bit_cleared w i = cond (bit w i) (w - 2 ^ i) w

-- the word w with bit i set or cleared
unfoldable pub bit_assigned : ℕ → ℕ → Bool → ℕ
bit_assigned w i inside = cond inside (bit_set w i) (bit_cleared w i)

-- the set with or without the code c
unfoldable pub assigned : List ℕ → ℕ → Bool → List ℕ
assigned ws c inside = set ws (c / 64) (bit_assigned (get_or ws (c / 64) 0) (c % 64) inside)

-- the set with the code c in it
abbrev pub inserted : List ℕ → ℕ → List ℕ
inserted ws c = assigned ws c true

-- the set of the codes that are in both, word by word
unfoldable pub in_both : (a b : List ℕ) → List ℕ
in_both a b = bit_and (get_or a 0 0) (get_or b 0 0) ∷ bit_and (get_or a 1 0) (get_or b 1 0) ∷ bit_and (get_or a 2 0) (get_or b 2 0) ∷ bit_and (get_or a 3 0) (get_or b 3 0) ∷ []

-- how many of 0 to n - 1 p holds of
unfoldable pub how_many : (ℕ → Bool) → ℕ → ℕ
how_many p zero = 0
how_many p (suc n) = how_many p n + cond (p n) 1 0

-- "the number declared": how many codes are in the set
unfoldable pub count_of : List ℕ → ℕ
count_of ws = how_many (member ws) all_codes

-- the least of c to c + n - 1 that p holds of, or nothing
unfoldable pub first_of : (ℕ → Bool) → ℕ → ℕ → Option ℕ
first_of p zero c = None
first_of p (suc n) c = cond (p c) (Some c) (first_of p n (suc c))

-- "the next declared code": the least code not below c that is in the set, or nothing
unfoldable pub next_of : List ℕ → ℕ → Option ℕ
next_of ws c = first_of (member ws) (all_codes - c) c
