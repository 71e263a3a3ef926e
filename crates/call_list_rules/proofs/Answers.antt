-- The answer to one record.
use mathlib.Core.Path.{◌≡◌, refl}
use mathlib.Core.Bool.{Bool, true, false, cond}
use mathlib.Core.List.{List}
use Prim.Native.Nat.{ℕ}
use native.Mathlib.Omega.{arith}
use Rattle.message_rules.specs.Answer.{done, broken_record, repeated_token, repeated_household}
use Rattle.call_list_rules.specs.CallList.{is_whole, token_of, household_of, among, record_answer}

-- record k has a token, or a household, of an earlier one
abbrev pub repeats_token : List ℕ → ℕ → Bool
repeats_token s k = among (token_of s) k (token_of s k)

abbrev pub repeats_household : List ℕ → ℕ → Bool
repeats_household s k = among (household_of s) k (household_of s k)

-- which answer is given
pub data Answered (s : List ℕ) (k : ℕ) : ℕ → Type 0 where
  broken : is_whole s k ≡ false → Answered s k broken_record
  token : is_whole s k ≡ true → repeats_token s k ≡ true → Answered s k repeated_token
  household : is_whole s k ≡ true → repeats_token s k ≡ false → repeats_household s k ≡ true → Answered s k repeated_household
  good : is_whole s k ≡ true → repeats_token s k ≡ false → repeats_household s k ≡ false → Answered s k done

-- each answer, and no other
pub answered : (s : List ℕ) (k : ℕ) → Answered s k (record_answer s k)
unfolding record_answer
answered s k = go (is_whole s k) (repeats_token s k) (repeats_household s k) refl refl refl
  where
    go : (p q r : Bool) → is_whole s k ≡ p → repeats_token s k ≡ q → repeats_household s k ≡ r → Answered s k (cond p (cond q repeated_token (cond r repeated_household done)) broken_record)
    go false q r e f g = broken e
    go true true r e f g = token e f
    go true false true e f g = household e f g
    go true false false e f g = good e f g

pub answer-is : (s : List ℕ) (k a : ℕ) → Answered s k a → record_answer s k ≡ a
unfolding record_answer
answer-is s k a (broken e) = rw e
answer-is s k a (token e f) = rw (e, f)
answer-is s k a (household e f g) = rw (e, f, g)
answer-is s k a (good e f g) = rw (e, f, g)

-- what an accepted record has
pub record Fits (s : List ℕ) (k : ℕ) : Type 0 where
  pub whole : is_whole s k ≡ true
  pub new_token : repeats_token s k ≡ false
  pub new_household : repeats_household s k ≡ false

pub done-fits : (s : List ℕ) (k : ℕ) → record_answer s k ≡ done → Fits s k
done-fits s k e = go (record_answer s k) (answered s k) e
  where
    go : (a : ℕ) → Answered s k a → a ≡ done → Fits s k
    go a (broken w) z = absurd (omega arith)
    go a (token w t) z = absurd (omega arith)
    go a (household w t h) z = absurd (omega arith)
    go a (good w t h) z = record { whole = w; new_token = t; new_household = h }

pub fits-done : (s : List ℕ) (k : ℕ) → Fits s k → record_answer s k ≡ done
fits-done s k f = answer-is s k done (good f.whole f.new_token f.new_household)
