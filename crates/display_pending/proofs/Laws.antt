-- What is sent of what a builder answered, and what a Set comes to when it is done.
use mathlib.Core.Path.{◌≡◌, refl, ap, ◌∙◌, subst}
use mathlib.Core.Bool.{Bool, true, false, not}
use mathlib.Core.List.{List}
use Prim.Native.Nat.{ℕ, ◌≤◌}
use lib.ListN.{length}
use lib.Dec.{eqb}
use borrow.Author.Tests.{eqb-true, le-leb}
use Rattle.message_rules.specs.Answer.{done}
use Rattle.message_rules.specs.Limits.{output_room}
use Rattle.message_rules.specs.Message.{set_feature}
use Rattle.buffers.specs.Buffers.{over}
use Rattle.message_output.specs.Output.{Built, built_length, Builds}
use Rattle.codes.specs.Codes.{member}
use Rattle.settings_rules.specs.Settings.{with_present, set_answer, judge_set, set_code}
use Rattle.settings_rules.proofs.Answers.{both}
use Rattle.display_rules.specs.State.{with_settings}
use Rattle.display_rules.specs.Turn.{accepted, refusal, no_reply, set_turn}
use Rattle.display_rules.specs.Step.{outcome}
use Rattle.display_rules.specs.declared.Display.{Display}
use Rattle.display_pending.specs.Send.{Sent}
use Rattle.display_pending.specs.Pending.{pending_by, pending_set, Prepares}

-- ---- what is sent

pub sent_of : {allowed : Bool} {s before after : List ℕ} {b : Built} → Builds allowed s before after b → (n : ℕ) → n ≡ built_length b → Sent allowed s before after n
sent_of r n l = record { counted = l ∙ ap built_length r.answers; leaves = r.leaves }

-- where its fields are allowed
pub sent-allowed : {allowed : Bool} {s before after : List ℕ} {b : Built} → Builds allowed s before after b → allowed ≡ true → (n : ℕ) → n ≡ built_length b → Sent true s before after n
sent-allowed {allowed} {s} {before} {after} r e n l = subst (λ (t : Bool). Sent t s before after n) e (sent_of r n l)

-- where its fields are allowed and the output has its room, the whole reply is
pub sent-whole : {allowed : Bool} {s before after : List ℕ} {n : ℕ} → Sent allowed s before after n → allowed ≡ true → output_room ≤ length before
    → (n ≡ length s) × (after ≡ over s before)
sent-whole {allowed} {s} {before} r e h = (rw (le-leb output_room (length before) h, e) at r.counted, rw (le-leb output_room (length before) h, e) at r.leaves)

-- ---- a Set

-- one whose value is stored, and any other
pub set-stored : (d : Display) (table : List ℕ) (c value : ℕ) → (judge_set d.settings c value).stored ≡ true
    → set_turn d table c value ≡ accepted (with_settings d (with_present d.settings c value)) table no_reply
unfolding set_turn set_code
set-stored d table c value e = rw (e, eqb-true (set_answer d.settings c value) done (both (eqb (set_answer d.settings c value) done) (not (member d.settings.momentary c)) e).0)

pub set-kept : (d : Display) (table : List ℕ) (c value : ℕ) → (judge_set d.settings c value).stored ≡ false
    → set_turn d table c value ≡ refusal (judge_set d.settings c value).answer d table no_reply
unfolding set_turn set_code
set-kept d table c value e = rw e

-- what the settings make of a Set is what is to be done
pub set_prepares : (d : Display) (table out : List ℕ) (c value : ℕ)
    → Prepares d (pending_by d (set_feature c value) (set_turn d table c value)) (outcome (set_turn d table c value) out) (pending_set d.settings c value) table out
set_prepares d table out c value = go (judge_set d.settings c value).stored (eqb (judge_set d.settings c value).answer done) refl refl
  where
    go : (s a : Bool) → (judge_set d.settings c value).stored ≡ s → eqb (judge_set d.settings c value).answer done ≡ a
        → Prepares d (pending_by d (set_feature c value) (set_turn d table c value)) (outcome (set_turn d table c value) out) (pending_set d.settings c value) table out
    go true a e f = record { pending = rw (set-stored d table c value e, e); comes = rw (set-stored d table c value e, e) }
    go false true e f = record { pending = rw (set-kept d table c value e, e, f); comes = rw (set-kept d table c value e, e, f, eqb-true (judge_set d.settings c value).answer done f) }
    go false false e f = record { pending = rw (set-kept d table c value e, e, f); comes = rw (set-kept d table c value e, e, f) }
