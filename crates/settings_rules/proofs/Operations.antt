-- The rules of Settings.antt come to what the paper's sentences say of each code: the theorems of specs/Operations.antt.
use mathlib.Core.Path.{◌≡◌, refl, sym, ap, ◌∙◌}
use mathlib.Core.Bool.{Bool, true, false, cond, not, ◌&&◌, ◌||◌, true≢false}
use mathlib.Core.Logic.{◌⊎◌, inl, inr}
use Prim.Native.Nat.{ℕ, zero, suc, ◌≤◌, ◌<◌}
use native.Mathlib.Omega.{arith}
use lib.ListN.{get_or, replicate}
use lib.Dec.{eqb}
use borrow.Author.Tests.{eq-eqb, ne_eqb, eqb-true, eqb-false, lt-ltb}
use Rattle.codes.specs.Codes.{member}
use Rattle.codes.proofs.Theorems.{none_inside}
use Rattle.settings_rules.specs.Settings.{reserved_bits, starting_settings, start_with, declaration_refused, declare_code, answer_to_set, set_answer, with_present, set_code, with_declaration, save_all}
use Rattle.settings_rules.specs.Entries.{entry_of, entry_declared, Sized}
use Rattle.settings_rules.specs.Operations.{SameTiming, NoCode, Starts, Declarable, DeclaredAs, MaySet, StartsAsWritten, DeclaresAsWritten, SetsAsWritten, SavesAsWritten}
use Rattle.settings_rules.specs.declared.Timing.{Timing}
use Rattle.settings_rules.specs.declared.Settings.{Settings}
use Rattle.settings_rules.specs.declared.Declaration.{Declaration}
use Rattle.settings_rules.proofs.Stores.{present-stored}
use Rattle.settings_rules.proofs.Theorems.{declare-accepts, set-accepts, refused-declare-keeps, refused-set-keeps, momentary-set-keeps, declares_one, sets_one, saves_all}

same : (s : Settings) → SameTiming s s
same s = record { status = refl; horizontal = refl; vertical = refl }

or_true : (p : Bool) → p || true ≡ true
or_true true = refl
or_true false = refl

-- ---- the start

zeros : (n i : ℕ) → ◌≡◌ {A = ℕ} (get_or (replicate n 0) i 0) 0
zeros zero i = refl
zeros (suc n) zero = refl
zeros (suc n) (suc i) = zeros n i

pub no_code : (t : Timing) → NoCode t (starting_settings t)
unfolding starting_settings entry_of
no_code t = record { entries = λ c. rw (none_inside c, zeros 256 c); status = refl; horizontal = refl; vertical = refl }

pub starts_as_written : StartsAsWritten start_with
unfolding start_with
starts_as_written t = go (eqb (reserved_bits t.status) 0) refl
  where
    go : (b : Bool) → eqb (reserved_bits t.status) 0 ≡ b → Starts t (start_with t).answer (start_with t).settings
    go true e = rw e (record { reserved = λ n. absurd (n (eqb-true _ _ e)); otherwise = λ h. refl; started = λ h. no_code t; refused = λ n. absurd (n refl) })
    go false e = rw e (record { reserved = λ n. refl; otherwise = λ h. absurd (eqb-false _ _ e h); started = λ h. absurd (omega arith); refused = λ n. no_code _ })

-- ---- declaring

ne_one : (n : ℕ) → n ≤ 1 → (n ≡ 1 → ⊥) → n ≡ 0
ne_one zero l h = refl
ne_one (suc zero) l h = absurd (h refl)
ne_one (suc (suc n)) l h = absurd (omega arith)

module _ (s : Settings) (d : Declaration) where
  refused_18 : declaration_refused (entry_of s d.code).declared d ≡ true → (declare_code s d).answer ≡ 18
  unfolding declare_code entry_of
  refused_18 e = rw e

  for_table : d.code ≡ 0xF4 → declaration_refused (entry_of s d.code).declared d ≡ true
  unfolding declaration_refused
  for_table e = rw (eq-eqb d.code 0xF4 e)

  for_twice : (entry_of s d.code).declared ≡ true → declaration_refused (entry_of s d.code).declared d ≡ true
  unfolding declaration_refused
  for_twice e = rw (e, or_true (eqb d.code 0xF4))

  for_kind : 1 < d.kind → declaration_refused (entry_of s d.code).declared d ≡ true
  unfolding declaration_refused
  for_kind h = rw (lt-ltb 1 d.kind h, or_true (eqb d.code 0xF4 || (entry_of s d.code).declared))

  for_neither : d.readable ≡ false → d.writable ≡ false → declaration_refused (entry_of s d.code).declared d ≡ true
  unfolding declaration_refused
  for_neither r w = rw (r, w, or_true)

  for_momentary : d.kind ≡ 1 → d.writable ≡ false → declaration_refused (entry_of s d.code).declared d ≡ true
  unfolding declaration_refused
  for_momentary k w = rw (k, w, or_true (not d.readable), or_true)

  for_above : d.continuous ≡ true → d.maximum < d.present → declaration_refused (entry_of s d.code).declared d ≡ true
  unfolding declaration_refused
  for_above c h = rw (c, lt-ltb d.maximum d.present h, or_true)

  declared_as : (declare_code s d).answer ≡ 0 → Sized s → d.code < 256 → DeclaredAs d (entry_of (declare_code s d).settings d.code)
  unfolding entry_declared
  declared_as a z h =
      let e : entry_of (declare_code s d).settings d.code ≡ entry_declared d = declares_one s d z h a d.code ∙ rw (eq-eqb d.code d.code refl) in
      rw e
      (record {
        declared = refl;
        readable = refl;
        writable = refl;
        kept = λ k. rw k;
        momentary = λ k. rw k;
        continuous = refl;
        maximum = refl;
        present = refl;
        saved = refl;
      })

  -- either the answer is 0 or nothing changed
  others_keep : Sized s → d.code < 256 → (c : ℕ) → (c ≡ d.code → ⊥) → entry_of (declare_code s d).settings c ≡ entry_of s c
  others_keep z h c n = go (eqb (declare_code s d).answer 0) refl
    where
      go : (t : Bool) → eqb (declare_code s d).answer 0 ≡ t → entry_of (declare_code s d).settings c ≡ entry_of s c
      go true e = declares_one s d z h (eqb-true _ _ e) c ∙ rw (ne_eqb c d.code n)
      go false e = ap (λ (a : Settings). entry_of a c) (refused-declare-keeps s d (eqb-false _ _ e))

  keeps-timing : SameTiming s (declare_code s d).settings
  unfolding declare_code with_declaration
  keeps-timing = go (declaration_refused (member s.declared d.code) d) refl
    where
      go : (t : Bool) → declaration_refused (member s.declared d.code) d ≡ t → SameTiming s (declare_code s d).settings
      go true e = rw e (same s)
      go false e = rw e (record { status = refl; horizontal = refl; vertical = refl })

  declarable : Declarable s d → (declare_code s d).answer ≡ 0
  declarable a = declare-accepts s d a.code a.first a.kind (access d.writable refl) a.within
    where
      access : (w : Bool) → d.writable ≡ w → (d.writable ≡ true) ⊎ ((d.readable ≡ true) × (d.kind ≡ 0))
      access true e = inl e
      access false e = inr (readable d.readable refl, kept (eqb d.kind 1) refl)
        where
          readable : (r : Bool) → d.readable ≡ r → d.readable ≡ true
          readable true f = f
          readable false f = absurd (true≢false (sym (a.access f) ∙ e))

          kept : (k : Bool) → eqb d.kind 1 ≡ k → d.kind ≡ 0
          kept true f = absurd (true≢false (sym (a.momentary (eqb-true _ _ f)) ∙ e))
          kept false f = ne_one d.kind a.kind (eqb-false _ _ f)

pub declares_as_written : DeclaresAsWritten declare_code
declares_as_written s d z h = record {
  table = λ e. refused_18 s d (for_table s d e);
  twice = λ e. refused_18 s d (for_twice s d e);
  kind = λ k. refused_18 s d (for_kind s d k);
  neither = λ r w. refused_18 s d (for_neither s d r w);
  momentary = λ k w. refused_18 s d (for_momentary s d k w);
  above = λ c l. refused_18 s d (for_above s d c l);
  otherwise = declarable s d;
  refused = refused-declare-keeps s d;
  entry = λ a. declared_as s d a z h;
  others = others_keep s d z h;
  timing = keeps-timing s d;
}

-- ---- Set

module _ (s : Settings) (c value : ℕ) where
  undeclared_8 : (entry_of s c).declared ≡ false → (set_code s c value).answer ≡ 8
  unfolding set_code set_answer answer_to_set entry_of
  undeclared_8 e = rw e

  table_8 : c ≡ 0xF4 → (set_code s c value).answer ≡ 8
  unfolding set_code set_answer answer_to_set
  table_8 e = rw (eq-eqb c 0xF4 e, or_true)

  read-only_8 : (entry_of s c).writable ≡ false → (set_code s c value).answer ≡ 8
  unfolding set_code set_answer answer_to_set entry_of
  read-only_8 e = rw (e, or_true)

  above_9 : MaySet s c → (entry_of s c).continuous ≡ true → (entry_of s c).maximum < value → (set_code s c value).answer ≡ 9
  unfolding set_code set_answer answer_to_set entry_of
  above_9 m k l = rw (m.declared, ne_eqb c 0xF4 m.code, m.writable, k, lt-ltb (get_or s.maximum c 0) value l)

  set-timing : SameTiming s (set_code s c value).settings
  unfolding set_code with_present
  set-timing = go (eqb (set_answer s c value) 0 && not (member s.momentary c))
    where
      go : (t : Bool) → SameTiming s (cond t (with_present s c value) s)
      go true = record { status = refl; horizontal = refl; vertical = refl }
      go false = same s

  others_stay : Sized s → c < 256 → (b : ℕ) → (b ≡ c → ⊥) → entry_of (set_code s c value).settings b ≡ entry_of s b
  unfolding set_code
  others_stay z h b n = go (eqb (set_answer s c value) 0 && not (member s.momentary c))
    where
      go : (t : Bool) → entry_of (cond t (with_present s c value) s) b ≡ entry_of s b
      go true = present-stored s c value z h b ∙ rw (ne_eqb b c n)
      go false = refl

pub sets_as_written : SetsAsWritten set_code
sets_as_written s c value z h = record {
  undeclared = undeclared_8 s c value;
  table = table_8 s c value;
  read_only = read-only_8 s c value;
  above = above_9 s c value;
  within = λ m k l. set-accepts s c value m.declared m.code m.writable (λ e. l);
  free = λ m k. set-accepts s c value m.declared m.code m.writable (λ e. absurd (true≢false (sym e ∙ k)));
  refused = refused-set-keeps s c value;
  momentary = momentary-set-keeps s c value;
  stored = λ a m. sets_one s c value z h a m c ∙ rw (eq-eqb c c refl);
  others = others_stay s c value z h;
  timing = set-timing s c value;
}

-- ---- Save

pub saves_as_written : SavesAsWritten save_all
unfolding save_all
saves_as_written s = record { saved = saves_all s; timing = record { status = refl; horizontal = refl; vertical = refl } }
