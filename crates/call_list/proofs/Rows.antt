-- The rows of tokens and households, and the records of a list as they are cut off its bytes.
use mathlib.Core.Path.{◌≡◌, refl, sym, ap, ◌∙◌}
use mathlib.Core.Bool.{Bool, true, false, ◌||◌}
use mathlib.Core.List.{List, [], ◌∷◌, ◌++◌}
use Prim.Native.Nat.{ℕ, zero, suc, ◌≤◌, ◌<◌}
use native.Mathlib.Omega.{arith}
use lib.ListN.{length, set, take, drop}
use lib.Dec.{eqb}
use lib.Seq.{get_or-set_same, get_or-set_other, length-take-le}
use Rattle.std.specs.Prelude.{min, fold}
use Rattle.std.proofs.lemmas.List.{get_or-take}
use Rattle.call_list_rules.specs.CallList.{among}
use Rattle.call_list_rules.proofs.Among.{with_next, among_alike}
use Rattle.call_list.specs.Parts.{number_in, stands_in}

-- ---- a number among those of a row

-- the first of them, and the others
or-swap : (a b c : Bool) → a || (b || c) ≡ b || (a || c)
or-swap true true c = refl
or-swap true false c = refl
or-swap false b c = refl

among-first : (f : ℕ → ℕ) (k n : ℕ) → among f (suc k) n ≡ eqb (f 0) n || among (λ i. f (suc i)) k n
unfolding among
among-first f zero n = refl
among-first f (suc k) n =
    ap (λ (t : Bool). eqb (f (suc k)) n || t) (among-first f k n) ∙ or-swap (eqb (f (suc k)) n) (eqb (f 0) n) (among (λ i. f (suc i)) k n)

or-assoc : (a b c : Bool) → (a || b) || c ≡ a || (b || c)
or-assoc true b c = refl
or-assoc false b c = refl

or-false : (t : Bool) → t ≡ t || false
or-false true = refl
or-false false = refl

-- looking at every number of a row
pub fold-among : (row : List ℕ) (t : Bool) (n : ℕ) → fold (λ (u : Bool) (x : ℕ). u || eqb x n) t row ≡ t || stands_in row n
unfolding among
fold-among [] t n = or-false t
fold-among (x ∷ row) t n =
    fold-among row (t || eqb x n) n
    ∙ or-assoc t (eqb x n) (among (number_in row) (length row) n)
    ∙ ap (λ (u : Bool). t || u) (sym (among-first (number_in (x ∷ row)) (length row) n))

-- the first k numbers of a row are those of f
abbrev pub Alike : (row : List ℕ) (f : ℕ → ℕ) (k : ℕ) → Type 0
Alike row f k = (i : ℕ) → i < k → number_in row i ≡ f i

-- whether a number stands among them
pub stands-among : (row : List ℕ) (f : ℕ → ℕ) (k n : ℕ) → k ≤ length row → Alike row f k → stands_in (take k row) n ≡ among f k n
stands-among row f k n l h =
    let e : length (take k row) ≡ k = length-take-le k row l in
    ap (λ (m : ℕ). among (number_in (take k row)) m n) e ∙ among_alike (number_in (take k row)) f k n (λ i m. get_or-take k row i 0 m ∙ h i m)

-- one more number is put behind them
pub alike_next : (row : List ℕ) (f : ℕ → ℕ) (k v : ℕ) → k < length row → v ≡ f k → Alike row f k → Alike (set row k v) f (suc k)
alike_next row f k v l e h =
    with_next (λ (j : ℕ). number_in (set row k v) j ≡ f j) k
    (λ j m. get_or-set_other row k j v 0 (λ q. omega arith) ∙ h j m) (get_or-set_same row k v 0 l ∙ e)

-- ---- a chunk cut off the front

chunk-taken : (n : ℕ) (x t : List ℕ) → length x ≡ min n (length (x ++ t)) → x ≡ take n (x ++ t)
chunk-taken zero [] t e = refl
chunk-taken zero (y ∷ x) t e = absurd (omega (arith, e))
chunk-taken (suc n) [] [] e = refl
chunk-taken (suc n) [] (z ∷ t) e = absurd (omega (arith, e))
chunk-taken (suc n) (y ∷ x) t e = ap (λ (s : List ℕ). y ∷ s) (chunk-taken n x t (omega (arith, e)))

chunk-left : (n : ℕ) (x t : List ℕ) → length x ≡ min n (length (x ++ t)) → t ≡ drop n (x ++ t)
chunk-left zero [] t e = refl
chunk-left zero (y ∷ x) t e = absurd (omega (arith, e))
chunk-left (suc n) [] [] e = refl
chunk-left (suc n) [] (z ∷ t) e = absurd (omega (arith, e))
chunk-left (suc n) (y ∷ x) t e = chunk-left n x t (omega (arith, e))

-- a chunk x of at most n bytes comes off the bytes r, and t are left
module _ (n : ℕ) (r x t : List ℕ) (e : r ≡ x ++ t) (l : length x ≡ min n (length r)) where
  size : length x ≡ min n (length (x ++ t))
  size = l ∙ ap (λ (s : List ℕ). min n (length s)) e

  pub cut-taken : x ≡ take n r
  cut-taken = chunk-taken n x t size ∙ ap (take n) (sym e)

  pub cut-left : t ≡ drop n r
  cut-left = chunk-left n x t size ∙ ap (drop n) (sym e)
