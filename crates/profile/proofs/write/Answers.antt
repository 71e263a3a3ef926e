-- `write` judges the room and puts the records.
use Rattle.std.proofs.Common.{sym, ap, ◌∙◌, List, ℕ, arith}
use Rattle.profile_rules.specs.Profile.{records_of}
use Rattle.buffers.specs.Buffers.{put}
use Rattle.profile.proofs.Sets.{set-codes}
use Rattle.profile.proofs.Outputs.{profile_size, write_refused, write_done}
use Rattle.profile.proofs.write.Goals as goal

pub returns-then-out-length : goal.returns-then-out-length
returns-then-out-length c =
    let size = profile_size _ _ _ (set-codes c.args.s _ c.profile_codes-words.ensures) c.count.ensures in
    write_refused _ _ (omega (arith, size.0))

pub put_records-requires : goal.put_records-requires
put_records-requires c =
    let size = profile_size _ _ _ (set-codes c.args.s _ c.profile_codes-words.ensures) c.count.ensures in
    omega (arith, size.1)

pub returns : goal.returns
returns c =
    let codes = set-codes c.args.s _ c.profile_codes-words.ensures in
    let size = profile_size _ _ _ codes c.count.ensures in
    write_done c.args.s c.args.out.now _ _ (sym size.0) (omega arith)
    (c.put_records.ensures ∙ ap (λ (cs : List ℕ). put c.args.out.now 0 (records_of c.args.s.saved cs)) codes)
