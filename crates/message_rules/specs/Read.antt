-- What reading comes to: a message, or the number of the first refusal.
use Rattle.std.specs.Prelude.{ℕ, zero, suc, Bool, true, false, cond}
use Rattle.message_rules.specs.Answer.{done}

pub data Read (M : Type 0) : Type 0 where
  ok : M → Read M
  refused : ℕ → Read M

-- the answer number of a reading
abbrev pub answer_of : {M : Type 0} → Read M → ℕ
answer_of (ok m) = done
answer_of (refused k) = k

-- one test of an ordered row of tests: if it fails its number is the answer, else the next test decides
abbrev pub unless : Bool → ℕ → ℕ → ℕ
unless t k next = cond t next k

-- the refusal k, unless the test holds
abbrev pub require : {M : Type 0} → Bool → ℕ → Read M → Read M
require true k r = r
require false k r = refused k

-- the refusal k, unless it is 0
abbrev pub after : {M : Type 0} → ℕ → Read M → Read M
after zero r = r
after (suc k) r = refused (suc k)

-- what was read, read further
abbrev pub and_then : {M N : Type 0} → Read M → (M → Read N) → Read N
and_then (ok m) f = f m
and_then (refused k) f = refused k
