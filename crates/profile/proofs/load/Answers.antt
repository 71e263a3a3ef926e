-- `load` stores what was judged and accepted.
use Rattle.std.proofs.lemmas.Result.{err_from_is_err_and}
use Rattle.profile.proofs.Loading.{load_stored, load_kept}
use Rattle.profile.proofs.load.Goals as goal

pub returns-in_err-judge_profile : goal.returns-in_err-judge_profile
returns-in_err-judge_profile c =
    let p = err_from_is_err_and c.from_residual.result c.from_residual.ensures.1 in
    rw (p.1, p.2) (load_kept c.args.s c.args.profile.now c.in_err-judge_profile.field-0.0 c.in_err-judge_profile.ensures)

pub returns : goal.returns
returns c = load_stored c.args.s c.args.profile.now c.store.result _ c.in_ok-judge_profile.ensures c.store.ensures
