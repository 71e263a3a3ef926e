-- The theorems of specs/Statements.antt.
use mathlib.Core.Path.{◌≡◌, refl, ap, ◌∙◌}
use mathlib.Core.Bool.{Bool, true, false}
use mathlib.Core.Logic.{⊎_elim}
use mathlib.Core.List.{List}
use Prim.Native.Nat.{ℕ, zero, suc, ◌+◌, ◌-◌, ◌/◌, ◌%◌, ◌≤◌, ◌<◌}
use native.Mathlib.Nat.{eq-or-lt_of_le}
use native.Mathlib.Omega.{arith}
use lib.ListN.{get_or, replicate}
use lib.Bits.{bit_and}
use borrow.Author.Tests.{eq-eqb, ne_eqb}
use Rattle.codes.specs.Codes.{all_codes, bit, member, no_codes, inserted, in_both, how_many, count_of, first_of, next_of}
use Rattle.codes.specs.Statements.{NoneInside, AssignsOne, BothInside, CountsNone, CountsInserted, NextIsLeast, NextIsNothing}
use Rattle.std.specs.Prelude.{Some, None}
use Rattle.codes.proofs.Bits.{bit-none, bit-and}
use Rattle.codes.proofs.Counting.{how_many-none, how_many_change, how_many_le}
use Rattle.codes.proofs.Members.{member-assigned}

-- an element of a list that holds one value alone, or the same value behind it
repeated : {A : Type 0} (n i : ℕ) (a : A) → get_or (replicate n a) i a ≡ a
repeated zero i a = refl
repeated (suc n) zero a = refl
repeated (suc n) (suc i) a = repeated n i a

pub none_inside : NoneInside
unfolding member
none_inside c = ap (λ (w : ℕ). bit w (c % 64)) (repeated 4 (c / 64) 0) ∙ bit-none (c % 64)

pub assigns_one : AssignsOne
assigns_one = member-assigned

-- each word of the set of both
both_word : (a b : List ℕ) (i : ℕ) → i < 4 → get_or (in_both a b) i 0 ≡ bit_and (get_or a i 0) (get_or b i 0)
unfolding in_both
both_word a b zero h = refl
both_word a b (suc zero) h = refl
both_word a b (suc (suc zero)) h = refl
both_word a b (suc (suc (suc zero))) h = refl
both_word a b (suc (suc (suc (suc i)))) h = absurd (omega arith)

pub both_inside : BothInside
unfolding member
both_inside a b c h = ap (λ (w : ℕ). bit w (c % 64)) (both_word a b (c / 64) (omega arith)) ∙ bit-and (get_or a (c / 64) 0) (get_or b (c / 64) 0) (c % 64)

pub counts-none : CountsNone
unfolding count_of
counts-none = how_many-none (member no_codes) all_codes none_inside

pub counts-inserted : CountsInserted
unfolding count_of
counts-inserted ws c hl hc hm =
    let more = assigns_one ws c true in
    let now : member (inserted ws c) c ≡ true = more c hl hc ∙ rw (eq-eqb c c refl) in
    let change = how_many_change (member (inserted ws c)) (member ws) all_codes c hc (λ d z. more d hl hc ∙ rw (ne_eqb d c z)) in
    let made : how_many (member (inserted ws c)) all_codes + 0 ≡ how_many (member ws) all_codes + 1 = (rw (now, hm) at change) in
    omega arith

-- at most all codes are counted
pub count_le : (ws : List ℕ) → count_of ws ≤ all_codes
unfolding count_of
count_le ws = how_many_le (member ws) all_codes

-- the least number that a test holds of, found or not
first_found : (p : ℕ → Bool) (n c k : ℕ) → c ≤ k → k < c + n → p k ≡ true → ((j : ℕ) → c ≤ j → j < k → p j ≡ false) → first_of p n c ≡ Some k
unfolding first_of
first_found p zero c k l h t f = absurd (omega arith)
first_found p (suc n) c k l h t f = ⊎_elim here (later (first_found p n (suc c) k)) (eq-or-lt_of_le l)
  where
    here : c ≡ k → first_of p (suc n) c ≡ Some k
    here e = rw (ap p e ∙ t) (ap Some e)

    later : (suc c ≤ k → k < suc c + n → p k ≡ true → ((j : ℕ) → suc c ≤ j → j < k → p j ≡ false) → first_of p n (suc c) ≡ Some k) → c < k → first_of p (suc n) c ≡ Some k
    later ih q = rw (f c (omega arith) q) (ih q (omega arith) t (λ j a b. f j (omega arith) b))

first-none : (p : ℕ → Bool) (n c : ℕ) → ((j : ℕ) → c ≤ j → j < c + n → p j ≡ false) → first_of p n c ≡ None
unfolding first_of
first-none p zero c f = refl
first-none p (suc n) c f = rw (f c (omega arith) (omega arith)) (first-none p n (suc c) (λ j a b. f j (omega arith) (omega arith)))

pub next-is-least : NextIsLeast
unfolding next_of
next-is-least ws c k l h t f = first_found (member ws) (all_codes - c) c k l (omega arith) t f

pub next-is-nothing : NextIsNothing
unfolding next_of
next-is-nothing ws c f = first-none (member ws) (all_codes - c) c (λ j a b. f j a (omega arith))
