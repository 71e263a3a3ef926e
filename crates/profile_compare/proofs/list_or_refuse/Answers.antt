-- `list_or_refuse` lists the differences, where the shortest array has room for them.
use Rattle.std.proofs.Common.{◌≡◌, sym, ap, ◌∙◌, length, min}
use Rattle.profile_compare_rules.specs.Compare.{lent, room_in}
use Rattle.profile_compare.specs.Parts.{list_of}
use Rattle.profile_compare.proofs.Outcomes.{list-refused, list-listed}
use Rattle.profile_compare.proofs.list_or_refuse.Goals as goal

pub returns-then-too_many : goal.returns-then-too_many
returns-then-too_many c =
    let room-is : c.min-room.result ≡ room_in (lent c.args.codes.now c.args.firsts.now c.args.seconds.now) = c.min-room.ensures ∙ ap (min (length c.args.codes.now)) c.min.ensures in
    list-refused (list_of c.args.both.first.bytes.now c.args.both.second.bytes.now) (lent c.args.codes.now c.args.firsts.now c.args.seconds.now) _ room-is
    (sym c.too_many.ensures ∙ c.if-too_many.true) _ c.refused.ensures

pub returns : goal.returns
returns c =
    let room-is : c.min-room.result ≡ room_in (lent c.args.codes.now c.args.firsts.now c.args.seconds.now) = c.min-room.ensures ∙ ap (min (length c.args.codes.now)) c.min.ensures in
    list-listed (list_of c.args.both.first.bytes.now c.args.both.second.bytes.now) (lent c.args.codes.now c.args.firsts.now c.args.seconds.now) _ room-is
    (sym c.too_many.ensures ∙ c.if-too_many.false)
    c.list.result (lent c.list.new.codes c.list.new.firsts c.list.new.seconds) c.list.ensures.value c.list.ensures.seconds_after
