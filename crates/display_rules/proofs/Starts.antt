-- The start and declaring follow the paper's sentences: the theorems of specs/Starts.antt.
use mathlib.Core.Path.{◌≡◌, refl, ◌∙◌}
use Prim.Native.Nat.{ℕ, ◌≤◌, ◌<◌}
use native.Mathlib.Omega.{arith}
use borrow.Author.Tests.{eq-eqb, ne_eqb, le-leb, lt-leb, lt-ltb, le-ltb}
use Rattle.settings_rules.specs.Settings.{start_with}
use Rattle.settings_rules.specs.Operations.{no_timing, NoCode, Starts}
use Rattle.settings_rules.specs.declared.Settings.{Settings}
use Rattle.settings_rules.specs.declared.Timing.{Timing}
use Rattle.settings_rules.proofs.Operations.{no_code, starts_as_written, declares_as_written}
use Rattle.display_rules.specs.State.{fresh, start_answer, start, declare}
use Rattle.display_rules.specs.Starts.{Fresh, StartNumbers, DeclareRefuses}
use Rattle.display_rules.proofs.Sound.{start-accepted}

-- ---- the numbers

-- by the settings' answer k to the timing
module _ (k n p : ℕ) where
  timing-first : (k ≡ 0 → ⊥) → start_answer k n p ≡ k
  unfolding start_answer
  timing-first h = rw (ne_eqb k 0 h)

  long_11 : k ≡ 0 → 4096 < n → start_answer k n p ≡ 11
  unfolding start_answer
  long_11 e h = rw (eq-eqb k 0 e, lt-leb n 4096 h)

  small_18 : k ≡ 0 → n ≤ 4096 → p ≡ 0 → start_answer k n p ≡ 18
  unfolding start_answer
  small_18 e h z = rw (eq-eqb k 0 e, le-leb n 4096 h, eq-eqb p 0 z)

  large_18 : k ≡ 0 → n ≤ 4096 → 32 < p → start_answer k n p ≡ 18
  unfolding start_answer
  large_18 e h l = rw (eq-eqb k 0 e, le-leb n 4096 h, lt-ltb 32 p l, ne_eqb p 0 (λ z. omega arith))

  right_0 : k ≡ 0 → n ≤ 4096 → 1 ≤ p → p ≤ 32 → start_answer k n p ≡ 0
  unfolding start_answer
  right_0 e h l m = rw (eq-eqb k 0 e, le-leb n 4096 h, le-ltb 32 p m, ne_eqb p 0 (λ z. omega arith))

-- ---- the display

fresh-is : (t : Timing) (s : Settings) (n p : ℕ) → NoCode t s → Fresh t n p (fresh s n p)
fresh-is t s n p c = record {
  settings = c;
  capabilities = record { whole = refl; offset = refl; len = refl };
  table = record { whole = refl; offset = refl; len = refl };
  size = refl;
}

pub start-numbers : StartNumbers start
unfolding start
start-numbers t n p = record {
  reserved = λ h. timing-first (start_with t).answer n p (λ z. omega (arith, w.reserved h)) ∙ w.reserved h;
  long = λ e. long_11 (start_with t).answer n p (w.otherwise e);
  small = λ e. small_18 (start_with t).answer n p (w.otherwise e);
  large = λ e. large_18 (start_with t).answer n p (w.otherwise e);
  otherwise = λ e. right_0 (start_with t).answer n p (w.otherwise e);
  started = λ a. rw a (fresh-is t (start_with t).settings n p (w.started (start-accepted (start_with t).answer n p a).0));
  refused = λ a. rw (ne_eqb (start_answer (start_with t).answer n p) 0 a) (fresh-is no_timing _ 0 1 (no_code no_timing));
}
  where
    w : Starts t (start_with t).answer (start_with t).settings
    w = starts_as_written t

-- ---- declaring

pub declare-refuses : DeclareRefuses declare
unfolding declare
declare-refuses d e z h = (declares_as_written d.settings e z h, record { capabilities = refl; table = refl; size = refl })
