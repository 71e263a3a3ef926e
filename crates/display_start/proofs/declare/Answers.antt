-- A code that may be declared is; a refused one leaves the display.
use Rattle.std.proofs.Common.{sym, ◌∙◌}
use Rattle.message_rules.proofs.Refusals.{ok-is_done, err-not_done}
use Rattle.settings_rules.proofs.Theorems.{refused-declare-keeps}
use Rattle.display_rules.specs.State.{declare}
use Rattle.display_start.proofs.Laws.{declares-code}
use Rattle.display_start.proofs.declare.Goals.{then-is_ok, else-is_ok}
use Rattle.display_start.proofs.declare.Goals as goal

pub returns : goal.returns
unfolding declare
returns c =
    let s = c.args.d.settings in
    let e = c.args.declaration in
    let judged = c.judge_declaration-judged in
    elim c.if-is_ok.branch [
      | then-is_ok w ↦ rw (w.d-is, w.with_declaration-d.ensures, c.number.ensures, judged.ensures, declares-code s e (sym judged.ensures ∙ ok-is_done judged.result w.if-is_ok.ensures.value))
      | else-is_ok w ↦ rw (w.d-is, c.number.ensures, judged.ensures, refused-declare-keeps s e (λ d. err-not_done judged.result w.if-is_ok.ensures.value (judged.ensures ∙ d)))
    ]
