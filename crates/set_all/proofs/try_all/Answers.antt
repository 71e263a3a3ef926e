-- The setting that was tried is judged as its Set is: it is stored, or momentary, or refused, and what is left leaves the same.
use Rattle.std.proofs.Common.{◌≡◌, cond, not, ◌&&◌, set, get_or, eqb, refl, sym, ap, ◌∙◌, arith, true, false, Ok, Err, ℕ}
use Rattle.codes.specs.Codes.{member}
use Rattle.message_rules.specs.Answer.{done}
use Rattle.message_rules.specs.Refusal.{answer_number, number_of}
use Rattle.message_rules.proofs.Refusals.{refused-by_number}
use Rattle.set_all.specs.Parts.{answer_by}
use Rattle.set_all.proofs.Laws.{Judged, going_ends, goes-on}
use Rattle.set_all.proofs.try_all.Goals.{in-Ok+then-is_kept, in-Ok+else-is_kept, in-Err}
use Rattle.set_all.proofs.try_all.Goals as goal

pub loop-k-preserved : goal.loop-k-preserved
loop-k-preserved c =
    let s = c.args.s in
    let code = get_or c.args.codes.now c.loop-k.k 0 in
    let value = get_or c.args.values.now c.loop-k.k 0 in
    let judged : (a : ℕ) → a ≡ answer_number c.answer_to.result
    → Judged c.both-settable.result s.momentary s.continuous s.maximum s.present c.args.codes.now c.args.values.now c.args.answers.now c.loop-k.present c.loop-k.answers c.loop-k.k code a =
    λ a e. record {
      standing = c.loop-k.invariant;
      inside = c.loop-k-test.true;
      index = refl;
      low = (c.type_inv.codes c.loop-k.k).fits;
      answer = e ∙ c.answer_to.ensures;
    } in
    elim c.match-answer_to.branch [
      | in-Ok+then-is_kept w ↦
          let kept : not (member s.momentary code) ≡ true = sym w.is_kept.ensures ∙ w.if-is_kept.true in
          rw (w.present-is, w.answers-is, w.from.ensures) (rw kept at (goes-on _ _ _ _ _ _ _ _ _ _ _ _ _ (judged done (ap answer_number (sym w.in-Ok.is)))))
      | in-Ok+else-is_kept w ↦
          let not_kept : not (member s.momentary code) ≡ false = sym w.is_kept.ensures ∙ w.if-is_kept.false in
          rw (w.present-is, w.answers-is) (rw not_kept at (goes-on _ _ _ _ _ _ _ _ _ _ _ _ _ (judged done (ap answer_number (sym w.in-Ok.is)))))
      | in-Err w ↦
          let r = w.in-Err.refusal in
          rw (w.present-is, w.answers-is, w.from-in-Err.ensures)
          (rw (refused-by_number r) at (goes-on _ _ _ _ _ _ _ _ _ _ _ _ _ (judged (number_of r) (ap answer_number (sym w.in-Err.is)))))
    ]

pub returns : goal.returns
returns c =
    let l = c.loop-k in
    going_ends c.args.s c.args.codes.now c.args.values.now c.args.answers.now l.present l.answers l.k c.loop-k-test.false
    (l.invariant.going c.args.s (record { settable_is = sym c.both-settable.ensures; momentary-is = refl; continuous-is = refl; maximum-is = refl }) refl)
