-- The next code of the set has its record next: there is room for it, and it goes in front of those of the codes behind it.
use Rattle.std.proofs.Common.{[], arith}
use Rattle.profile_rules.proofs.Rising.{next-found, next-none}
use Rattle.profile.proofs.Outputs.{put-room, put-end, put-turn}
use Rattle.profile.proofs.put_records.Goals as goal

pub put_record-requires : goal.put_record-requires
put_record-requires c =
    let l = c.loop-code in
    put-room [] c.args.words l.out l.at l.from _ (next-found _ _ _ l.invariant.0 c.in-Some.ensures) l.invariant.1

pub loop-code-smaller : goal.loop-code-smaller
loop-code-smaller c = let found = next-found _ _ _ c.loop-code.invariant.0 c.in-Some.ensures in omega arith

pub loop-code-preserved : goal.loop-code-preserved
loop-code-preserved c =
    let l = c.loop-code in
    put-turn c.args.saved.now c.args.words l.out c.args.out.now _ _ l.at l.from _ _ _ (next-found _ _ _ l.invariant.0 c.in-Some.ensures)
    c.from.ensures c.from-from.ensures c.put_record.ensures l.invariant.1 l.invariant.2 l.invariant.3

pub returns : goal.returns
returns c =
    let l = c.loop-code in
    put-end c.args.saved.now c.args.words l.out l.at l.from _ (next-none _ _ c.in_default.ensures) l.invariant.3
