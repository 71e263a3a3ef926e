-- Many settings in one call are a row of messages that touch no text: the theorem of specs/SetAll.antt.
-- Assumes nothing.
use Prim.Native.Nat.{ℕ}
use mathlib.Core.Path.{◌≡◌, refl}
use mathlib.Core.Bool.{false}
use mathlib.Core.Logic.{⊎_elim}
use mathlib.Core.List.{List, [], ◌∷◌}
use lib.ListN.{length}
use Rattle.checksum.specs.Bytes.{Bytes}
use Rattle.checksum.specs.Bytes as bytes
use Rattle.codes.proofs.Cases.{eq_or_ne}
use Rattle.message_rules.specs.Body.{Words}
use Rattle.message_rules.specs.Body as body
use Rattle.message_rules.specs.Message.{set_feature}
use Rattle.message_rules.specs.Read.{ok}
use Rattle.message_rules.specs.declared.TextKind.{TextKind}
use Rattle.message_rules.specs.declared.TextKind.TheVariants.{Capabilities, Table}
use Rattle.settings_rules.specs.Settings.{set_code}
use Rattle.display_rules.specs.Kept.{Kept, step_kept, kept_after, with_display}
use Rattle.display_rules.specs.Operations.{LentRight}
use Rattle.display_rules.specs.Statements.{touches}
use Rattle.transfer_rules.specs.Exchange.{Calls, World, Exchange}
use Rattle.set_all_rules.specs.SetAll.{call_answer, display_set_all}
use Rattle.set_all_rules.proofs.Calls.{tried_as, refused_as}
use Rattle.set_all_rules.proofs.Messages.{set_message, display_set, display_tried, set-bytes, set_said, set_steps, lent_still}
use Rattle.conformance.specs.BothEnds.{Between, others}
use Rattle.conformance.specs.SetAll.{SetAllBetween}

-- a Set touches no text
touches_none : (k : TextKind) (c v : ℕ) → touches k (ok (set_feature c v)) ≡ false
touches_none Capabilities c v = refl
touches_none Table c v = refl

module _ (calls : Calls) (k : TextKind) (w : World) (es : List Exchange) (n : ℕ) where
  tried_between : (now : Kept) (codes values out : List ℕ) → LentRight now out → Bytes codes → Words values →
      Between calls step_kept k (with_display now (display_tried now.display codes values)) w es n → Between calls step_kept k now w es n
  tried_between now [] values out l b g x = x
  tried_between now (c ∷ codes) [] out l b g x = x
  tried_between now (c ∷ codes) (v ∷ values) out l (bytes.more h b) (body.more j g) x =
      let next = with_display now (display_set now.display c v) in
      let rest : Between calls step_kept k next w es n = tried_between next codes values out (lent_still now out (set_code now.display.settings c v).settings l) b g x in
      let first : Between calls step_kept k (kept_after now (step_kept now (set_message c v) out)) w es n = rw (set_steps c v h j now out l) rest in
      others (set_message c v) out (set-bytes c v h j) (rw (set_said c v h j) (touches_none k c v)) first

pub set_all-between : SetAllBetween step_kept display_set_all
set_all-between calls k now codes values answers out l b g w es n = ⊎_elim
    (λ e x. tried_between calls k w es n now codes values out l b g (rw (tried_as now.display.settings codes values answers e) at x))
    (λ e x. rw (refused_as now.display.settings codes values answers _ refl e) at x)
    (eq_or_ne (call_answer (length codes) (length values) (length answers)) 0)
