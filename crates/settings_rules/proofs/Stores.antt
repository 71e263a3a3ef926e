-- What a store of one code does to the entries of all codes, and to the lengths.
use mathlib.Core.Path.{◌≡◌, refl, sym, ap, ◌∙◌}
use mathlib.Core.Bool.{Bool, true, false, cond}
use mathlib.Core.Logic.{⊎_elim}
use mathlib.Core.List.{List}
use Prim.Native.Nat.{ℕ, ◌<◌}
use native.Mathlib.Omega.{arith}
use lib.ListN.{length, get_or, set, length-set}
use lib.Seq.{get_or-set_same, get_or-set_other}
use lib.Dec.{eqb}
use borrow.Author.Tests.{eq-eqb, ne_eqb}
use Rattle.codes.specs.Codes.{all_codes, member}
use Rattle.codes.proofs.Cases.{eq_or_ne}
use Rattle.codes.proofs.Members.{length-assigned}
use Rattle.codes.proofs.Theorems.{assigns_one}
use Rattle.settings_rules.specs.Settings.{momentary_type, with_declaration, with_present}
use Rattle.settings_rules.specs.Entries.{Entry, entry_of, entry_declared, entry_present, Sized}
use Rattle.settings_rules.specs.declared.Settings.{Settings}
use Rattle.settings_rules.specs.declared.Declaration.{Declaration}

-- an element after a store
pub stored_at {ℓ} : {A : Type ℓ} (l : List A) (i : ℕ) (a d : A) (j : ℕ) → i < length l → get_or (set l i a) j d ≡ cond (eqb j i) a (get_or l j d)
stored_at l i a d j h = ⊎_elim
    (λ e. ap (λ (k : ℕ). get_or (set l i a) k d) e ∙ get_or-set_same l i a d h ∙ sym (ap (λ (t : Bool). cond t a (get_or l j d)) (eq-eqb j i e)))
    (λ q. get_or-set_other l i j a d q ∙ sym (ap (λ (t : Bool). cond t a (get_or l j d)) (ne_eqb j i q)))
    (eq_or_ne j i)

-- the entries with a code declared
pub declaration_stored : (s : Settings) (d : Declaration) → Sized s → d.code < all_codes → (c : ℕ)
    → entry_of (with_declaration s d) c ≡ cond (eqb c d.code) (entry_declared d) (entry_of s c)
unfolding entry_of with_declaration entry_declared
declaration_stored s d z h c =
    rw (
      assigns_one s.declared d.code true c z.declared h,
      assigns_one s.readable d.code d.readable c z.readable h,
      assigns_one s.writable d.code d.writable c z.writable h,
      assigns_one s.momentary d.code (eqb d.kind momentary_type) c z.momentary h,
      assigns_one s.continuous d.code d.continuous c z.continuous h,
      stored_at s.maximum d.code d.maximum 0 c (omega (arith, z.maximum)),
      stored_at s.present d.code d.present 0 c (omega (arith, z.present)),
      stored_at s.saved d.code d.present 0 c (omega (arith, z.saved)),
    ) (chosen (eqb c d.code))
  where
    chosen : (t : Bool)
        → ◌≡◌ {A = Entry} (record {
          declared = cond t true (member s.declared c);
          readable = cond t d.readable (member s.readable c);
          writable = cond t d.writable (member s.writable c);
          momentary = cond t (eqb d.kind momentary_type) (member s.momentary c);
          continuous = cond t d.continuous (member s.continuous c);
          maximum = cond t d.maximum (get_or s.maximum c 0);
          present = cond t d.present (get_or s.present c 0);
          saved = cond t d.present (get_or s.saved c 0);
        }) (cond t (entry_declared d) (entry_of s c))
    chosen true = refl
    chosen false = refl

-- the entries with another present value of one code
pub present-stored : (s : Settings) (c value : ℕ) → Sized s → c < all_codes → (d : ℕ)
    → entry_of (with_present s c value) d ≡ cond (eqb d c) (entry_present (entry_of s d) value) (entry_of s d)
unfolding entry_of with_present entry_present
present-stored s c value z h d = rw (stored_at s.present c value 0 d (omega (arith, z.present))) (chosen (eqb d c))
  where
    chosen : (t : Bool)
        → entry_present (entry_of s d) (cond t value (get_or s.present d 0)) ≡ cond t (entry_present (entry_of s d) value) (entry_of s d)
    chosen true = refl
    chosen false = refl

-- neither store changes a length
pub declaration_sized : (s : Settings) (d : Declaration) → Sized s → Sized (with_declaration s d)
unfolding with_declaration
declaration_sized s d z = record {
  declared = length-assigned s.declared d.code true ∙ z.declared;
  readable = length-assigned s.readable d.code d.readable ∙ z.readable;
  writable = length-assigned s.writable d.code d.writable ∙ z.writable;
  momentary = length-assigned s.momentary d.code (eqb d.kind momentary_type) ∙ z.momentary;
  continuous = length-assigned s.continuous d.code d.continuous ∙ z.continuous;
  maximum = simp length-set z.maximum;
  present = simp length-set z.present;
  saved = simp length-set z.saved;
}

pub present-sized : (s : Settings) (c value : ℕ) → Sized s → Sized (with_present s c value)
unfolding with_present
present-sized s c value z = record {
  declared = z.declared;
  readable = z.readable;
  writable = z.writable;
  momentary = z.momentary;
  continuous = z.continuous;
  maximum = z.maximum;
  present = simp length-set z.present;
  saved = z.saved;
}
