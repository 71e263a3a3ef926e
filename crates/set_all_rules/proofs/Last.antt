-- What trying settings leaves of each code: the value that was accepted last, or what was there.
use mathlib.Core.Path.{◌≡◌, refl, ap, ◌∙◌}
use mathlib.Core.Bool.{Bool, true, false, cond, not, ◌&&◌}
use mathlib.Core.Logic.{⊎_elim}
use mathlib.Core.List.{List, [], ◌∷◌}
use Prim.Native.Nat.{ℕ, zero, suc, ◌<◌}
use native.Mathlib.Omega.{arith}
use lib.ListN.{length}
use lib.Dec.{eqb}
use Rattle.checksum.specs.Bytes.{Bytes}
use Rattle.checksum.specs.Bytes as bytes
use Rattle.codes.specs.Codes.{member}
use Rattle.codes.proofs.Cases.{eq_or_ne}
use Rattle.message_rules.specs.Answer.{done}
use Rattle.settings_rules.specs.Settings.{set_answer, with_present, set_code}
use Rattle.settings_rules.specs.Entries.{Entry, entry_of, entry_present, Sized}
use Rattle.settings_rules.specs.declared.Settings.{Settings}
use Rattle.settings_rules.proofs.Operations.{sets_as_written}
use Rattle.settings_rules.proofs.Stores.{present-sized}
use Rattle.set_all_rules.specs.SetAll.{try_all}
use Rattle.set_all_rules.specs.Statements.{AcceptedAt}

-- ---- one Set

module _ (s : Settings) (c v : ℕ) where
  pub set-sized : Sized s → Sized (set_code s c v).settings
  unfolding set_code
  set-sized z = go (eqb (set_answer s c v) done && not (member s.momentary c))
    where
      go : (t : Bool) → Sized (cond t (with_present s c v) s)
      go true = present-sized s c v z
      go false = z

  -- of no code it changes more than the present value
  set_but_present : (b w : ℕ) → entry_present (entry_of (set_code s c v).settings b) w ≡ entry_present (entry_of s b) w
  unfolding set_code with_present entry_of entry_present
  set_but_present b w = go (eqb (set_answer s c v) done && not (member s.momentary c))
    where
      go : (t : Bool) → entry_present (entry_of (cond t (with_present s c v) s) b) w ≡ entry_present (entry_of s b) w
      go true = refl
      go false = refl

  set-momentary : (b : ℕ) → (entry_of (set_code s c v).settings b).momentary ≡ (entry_of s b).momentary
  unfolding entry_present
  set-momentary b = ap (λ (e : Entry). e.momentary) (set_but_present b 0)

  module _ (z : Sized s) (h : c < 256) where
    -- where it does not set a code, it leaves that code's entry
    set-leaves : (b : ℕ) → (c ≡ b → (set_code s c v).answer ≡ 0 → ⊥) → entry_of (set_code s c v).settings b ≡ entry_of s b
    set-leaves b n = ⊎_elim
        (λ e. ap (λ (a : Settings). entry_of a b) ((sets_as_written s c v z h).refused (n e)))
        (λ n. (sets_as_written s c v z h).others b (λ e. n (rw e)))
        (eq_or_ne c b)

    set-leaves-momentary : (b : ℕ) → (entry_of s b).momentary ≡ true → entry_of (set_code s c v).settings b ≡ entry_of s b
    set-leaves-momentary b m = ⊎_elim
        (λ e. ap (λ (a : Settings). entry_of a b) ((sets_as_written s c v z h).momentary (rw e m)))
        (λ n. (sets_as_written s c v z h).others b (λ e. n (rw e)))
        (eq_or_ne c b)

-- ---- settings in a row

-- setting number i of the tail is number i + 1 of the whole
later : (c v k : ℕ) (codes values answers : List ℕ) (i b w : ℕ) → AcceptedAt codes values answers i b w → AcceptedAt (c ∷ codes) (v ∷ values) (k ∷ answers) (suc i) b w
later c v k codes values answers i b w a = record { inside = omega (arith, a.inside); code = a.code; value = a.value; accepted = a.accepted }

sooner : (c v k : ℕ) (codes values answers : List ℕ) (i b w : ℕ) → AcceptedAt (c ∷ codes) (v ∷ values) (k ∷ answers) (suc i) b w → AcceptedAt codes values answers i b w
sooner c v k codes values answers i b w a = record { inside = omega (arith, a.inside); code = a.code; value = a.value; accepted = a.accepted }

-- no setting of this code is accepted
abbrev pub NoneAccepted : Settings → (codes values : List ℕ) → (b : ℕ) → Type 0
NoneAccepted s codes values b = (i w : ℕ) → AcceptedAt codes values (try_all s codes values).answers i b w → ⊥

pub tried_none : (s : Settings) (codes values : List ℕ) (b : ℕ) → Sized s → Bytes codes → NoneAccepted s codes values b
    → entry_of (try_all s codes values).settings b ≡ entry_of s b
tried_none s [] values b z f n = refl
tried_none s (c ∷ codes) [] b z f n = refl
tried_none s (c ∷ codes) (v ∷ values) b z (bytes.more h f) n =
    tried_none (set_code s c v).settings codes values b (set-sized s c v z) f (λ i w a. n (suc i) w (later c v _ codes values _ i b w a))
    ∙ set-leaves s c v z h b (λ e k. n zero v (record { inside = omega arith; code = e; value = refl; accepted = k }))

pub tried_momentary : (s : Settings) (codes values : List ℕ) (b : ℕ) → Sized s → Bytes codes → (entry_of s b).momentary ≡ true
    → entry_of (try_all s codes values).settings b ≡ entry_of s b
tried_momentary s [] values b z f m = refl
tried_momentary s (c ∷ codes) [] b z f m = refl
tried_momentary s (c ∷ codes) (v ∷ values) b z (bytes.more h f) m =
    tried_momentary (set_code s c v).settings codes values b (set-sized s c v z) f (set-momentary s c v b ∙ m)
    ∙ set-leaves-momentary s c v z h b m

pub tried_last : (s : Settings) (codes values : List ℕ) (b : ℕ) → Sized s → Bytes codes → length codes ≡ length values → (i w : ℕ)
    → AcceptedAt codes values (try_all s codes values).answers i b w
    → ((j x : ℕ) → i < j → AcceptedAt codes values (try_all s codes values).answers j b x → ⊥)
    → (entry_of s b).momentary ≡ false
    → entry_of (try_all s codes values).settings b ≡ entry_present (entry_of s b) w
tried_last s [] values b z f p i w a n m = absurd (omega (arith, a.inside))
tried_last s (c ∷ codes) [] b z f p i w a n m = absurd (omega arith)
tried_last s (c ∷ codes) (v ∷ values) b z (bytes.more h f) p zero w a n m =
    tried_none (set_code s c v).settings codes values b (set-sized s c v z) f (λ i x d. n (suc i) x (omega arith) (later c v _ codes values _ i b x d))
    ∙ stored a.code a.value
  where
    stored : c ≡ b → v ≡ w → entry_of (set_code s c v).settings b ≡ entry_present (entry_of s b) w
    stored e g = rw (← e, ← g) ((sets_as_written s c v z h).stored a.accepted (rw (← e) at m))
tried_last s (c ∷ codes) (v ∷ values) b z (bytes.more h f) p (suc i) w a n m =
    tried_last (set_code s c v).settings codes values b (set-sized s c v z) f (omega arith) i w (sooner c v _ codes values _ i b w a)
    (λ j x l d. n (suc j) x (omega arith) (later c v _ codes values _ j b x d))
    (set-momentary s c v b ∙ m)
    ∙ set_but_present s c v b w
