-- The theorems of specs/Statements.antt.
use mathlib.Core.Path.{◌≡◌, refl, sym, ◌∙◌}
use mathlib.Core.Logic.{⊎_elim}
use mathlib.Core.List.{List}
use Prim.Native.Nat.{ℕ}
use native.Mathlib.Omega.{arith}
use lib.ListN.{length}
use Rattle.buffers.specs.Buffers.{over}
use Rattle.codes.proofs.Cases.{eq_or_ne}
use Rattle.display_rules.specs.Kept.{step_kept}
use Rattle.display_rules.specs.declared.Display.{Display}
use Rattle.set_all_rules.specs.SetAll.{try_all, call_answer, display_set_all}
use Rattle.set_all_rules.specs.Statements.{SetsAll, SetsAllAsWritten, EqualsMessages, AcceptedAt, LaterStands, StaysMade, SettingsStayMade}
use Rattle.set_all_rules.proofs.Calls.{short-is_1, many-is_7, uneven-is_7, allowed-is_0, answered_0, tried_as, refused_as, allowed_as, tried_length, answers-there, at_place, tried_number}
use Rattle.set_all_rules.proofs.Messages.{messages_try, made_tried, made_settings}
use Rattle.set_all_rules.proofs.Last.{tried_none, tried_momentary, tried_last}

-- ---- the call's own answer, and what is lent

module _ (d : Display) (codes values answers : List ℕ) where
  abbrev k : ℕ
  k = call_answer (length codes) (length values) (length answers)

  tried_answers : k ≡ 0 → SetsAll d codes values answers (display_set_all d codes values answers)
  tried_answers e =
      let fits = answered_0 (length codes) (length values) (length answers) e in
      let there = answers-there d.settings codes values answers fits.paired fits.room in
      rw (tried_as d.settings codes values answers e)
      (record {
        short = λ h. absurd (omega (arith, fits.room));
        many = λ r h. absurd (omega (arith, e, many-is_7 (length codes) (length values) (length answers) r h));
        uneven = λ r n. absurd (n fits.paired);
        otherwise = λ a. refl;
        untried = λ n. absurd (n refl);
        unwritten = λ n. absurd (n refl);
        numbers = λ z i h. rw (at_place d.settings codes values answers fits.paired fits.room i h) (tried_number d.settings codes values i);
        size = there.same;
        beyond = λ i h. there.behind i (omega (arith, tried_length d.settings codes values fits.paired));
        texts = record { capabilities = refl; table = refl; size = refl };
      })

  refused-answers : (k ≡ 0 → ⊥) → SetsAll d codes values answers (display_set_all d codes values answers)
  refused-answers n =
      rw (refused_as d.settings codes values answers k refl n)
      (record {
        short = λ h. short-is_1 _ _ _ h;
        many = λ r h. many-is_7 _ _ _ r h;
        uneven = λ r h. uneven-is_7 _ _ _ r h;
        otherwise = λ a. allowed-is_0 _ _ _ a.room a.few a.paired;
        untried = λ h. refl;
        unwritten = λ h. refl;
        numbers = λ z. absurd (n z);
        size = refl;
        beyond = λ i h. refl;
        texts = record { capabilities = refl; table = refl; size = refl };
      })

pub sets_all_as_written : SetsAllAsWritten display_set_all
sets_all_as_written d codes values answers = ⊎_elim (tried_answers d codes values answers) (refused-answers d codes values answers)
    (eq_or_ne (call_answer (length codes) (length values) (length answers)) 0)

-- ---- "that many Set messages one after the other"

pub equals_messages : EqualsMessages step_kept display_set_all
equals_messages now codes values answers out w b g a =
    rw (allowed_as now.display.settings codes values answers a, messages_try now codes values out w b g)
    (record {
      display = refl;
      answers = at_place now.display.settings codes values answers a.paired a.room;
      table = refl;
      output = refl;
    })

-- ---- "of a kept code the later accepted value stands"

pub later_stands : LaterStands display_set_all
later_stands d codes values answers z b a c =
    rw (allowed_as d.settings codes values answers a)
    (record {
      last = λ i v x n m. tried_last d.settings codes values c z b a.paired i v (in_row i v x) (λ j w l y. n j w l (in_buffer j w y)) m;
      momentary = tried_momentary d.settings codes values c z b;
      none = λ n. tried_none d.settings codes values c z b (λ i v x. n i v (in_buffer i v x));
    })
  where
    given : List ℕ
    given = (try_all d.settings codes values).answers

    in_row : (i v : ℕ) → AcceptedAt codes values (over given answers) i c v → AcceptedAt codes values given i c v
    in_row i v x = record { inside = x.inside; code = x.code; value = x.value; accepted = sym (at_place d.settings codes values answers a.paired a.room i x.inside) ∙ x.accepted }

    in_buffer : (i v : ℕ) → AcceptedAt codes values given i c v → AcceptedAt codes values (over given answers) i c v
    in_buffer i v x = record { inside = x.inside; code = x.code; value = x.value; accepted = at_place d.settings codes values answers a.paired a.room i x.inside ∙ x.accepted }

-- ---- displays that calls have made

pub stays_made : StaysMade step_kept display_set_all
stays_made d codes values answers m b g = ⊎_elim
    (λ e. rw (tried_as d.settings codes values answers e) (made_tried d codes values b g m))
    (λ n. rw (refused_as d.settings codes values answers _ refl n) m)
    (eq_or_ne (call_answer (length codes) (length values) (length answers)) 0)

pub settings_stay_made : SettingsStayMade display_set_all
settings_stay_made d codes values answers m b = ⊎_elim
    (λ e. rw (tried_as d.settings codes values answers e) (made_settings d.settings codes values b m))
    (λ n. rw (refused_as d.settings codes values answers _ refl n) m)
    (eq_or_ne (call_answer (length codes) (length values) (length answers)) 0)
