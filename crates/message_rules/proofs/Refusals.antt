-- No refusal has the number 0, which is that of a call that is done.
use mathlib.Core.Path.{◌≡◌, refl, sym}
use mathlib.Core.Bool.{true, false, false≢true}
use Rattle.std.specs.Prelude.{Result, Ok, Err, is_ok}
use lib.Dec.{eqb}
use borrow.Author.Tests.{eqb-false}
use Rattle.message_rules.specs.Answer.{done}
use Rattle.message_rules.specs.Refusal.{number_of, answer_number}
use Rattle.message_rules.specs.declared.refusal.Refusal.{Refusal}
use Rattle.message_rules.specs.declared.refusal.Refusal.TheVariants as refusal

pub refused-by_number : (r : Refusal) → eqb (number_of r) done ≡ false
refused-by_number refusal.WrongSize = refl
refused-by_number refusal.TooShort = refl
refused-by_number refusal.WrongFirstByte = refl
refused-by_number refusal.WrongLength = refl
refused-by_number refusal.WrongChecksum = refl
refused-by_number refusal.UnknownCommand = refl
refused-by_number refusal.WrongField = refl
refused-by_number refusal.CodeNotAllowed = refl
refused-by_number refusal.ValueTooLarge = refl
refused-by_number refusal.NotWanted = refl
refused-by_number refusal.TextTooLong = refl
refused-by_number refusal.NullMessage = refl
refused-by_number refusal.WrongGrammar = refl
refused-by_number refusal.NoNodeRoom = refl
refused-by_number refusal.TooDeep = refl
refused-by_number refusal.TransferClosed = refl
refused-by_number refusal.BrokenRecord = refl
refused-by_number refusal.NotDeclarable = refl
refused-by_number refusal.RepeatedToken = refl
refused-by_number refusal.RepeatedHousehold = refl

pub refused-not_done : (r : Refusal) → number_of r ≡ done → ⊥
refused-not_done r = eqb-false (number_of r) done (refused-by_number r)

-- a call that is done has the number 0, and no other has
pub ok-is_done : {V : Type 0} (r : Result V Refusal) → true ≡ is_ok r → answer_number r ≡ done
ok-is_done (Ok v) e = refl
ok-is_done (Err r) e = absurd (false≢true (sym e))

pub err-not_done : {V : Type 0} (r : Result V Refusal) → false ≡ is_ok r → answer_number r ≡ done → ⊥
err-not_done (Ok v) e d = false≢true e
err-not_done (Err r) e d = refused-not_done r d
