-- What setting present and saved of one code together does: to the entries of all codes, to the lengths, and to what is sound.
use mathlib.Core.Path.{◌≡◌, refl}
use mathlib.Core.Bool.{Bool, true, false, cond}
use Prim.Native.Nat.{ℕ, ◌≤◌, ◌<◌}
use native.Mathlib.Omega.{arith}
use lib.ListN.{get_or, length-set}
use lib.Dec.{eqb}
use borrow.Author.Tests.{eqb-true}
use Rattle.codes.specs.Codes.{all_codes}
use Rattle.settings_rules.specs.Entries.{Entry, entry_of, Sized, Within, Sound}
use Rattle.settings_rules.specs.Values.{with_value, entry_value}
use Rattle.settings_rules.specs.declared.Settings.{Settings}
use Rattle.settings_rules.proofs.Stores.{stored_at}

pub value-stored : (s : Settings) (c value : ℕ) → Sized s → c < all_codes → (d : ℕ)
    → entry_of (with_value s c value) d ≡ cond (eqb d c) (entry_value (entry_of s d) value) (entry_of s d)
unfolding entry_of with_value entry_value
value-stored s c value z h d =
    rw (stored_at s.present c value 0 d (omega (arith, z.present)), stored_at s.saved c value 0 d (omega (arith, z.saved))) (chosen (eqb d c))
  where
    chosen : (t : Bool)
        → ◌≡◌ {A = Entry} (record {
          declared = (entry_of s d).declared;
          readable = (entry_of s d).readable;
          writable = (entry_of s d).writable;
          momentary = (entry_of s d).momentary;
          continuous = (entry_of s d).continuous;
          maximum = (entry_of s d).maximum;
          present = cond t value (get_or s.present d 0);
          saved = cond t value (get_or s.saved d 0);
        }) (cond t (entry_value (entry_of s d) value) (entry_of s d))
    chosen true = refl
    chosen false = refl

pub value-sized : (s : Settings) (c value : ℕ) → Sized s → Sized (with_value s c value)
unfolding with_value
value-sized s c value z = record {
  declared = z.declared;
  readable = z.readable;
  writable = z.writable;
  momentary = z.momentary;
  continuous = z.continuous;
  maximum = z.maximum;
  present = simp length-set z.present;
  saved = simp length-set z.saved;
}

-- a value within the maximum of its code keeps the settings sound
pub value_sound : (s : Settings) (c value : ℕ) → c < all_codes → ((entry_of s c).continuous ≡ true → value ≤ (entry_of s c).maximum) → Sound s
    → Sound (with_value s c value)
unfolding entry_of entry_value with_value
value_sound s c value h a o = record {
  sized = value-sized s c value o.sized;
  table = o.table;
  within = λ d. rw (value-stored s c value o.sized h d) (chosen d (eqb d c) refl);
  timing = o.timing;
}
  where
    chosen : (d : ℕ) (t : Bool) → eqb d c ≡ t → Within (cond t (entry_value (entry_of s d) value) (entry_of s d))
    chosen d true e = rw (eqb-true d c e) (record { present = a; saved = a })
    chosen d false e = o.within d
