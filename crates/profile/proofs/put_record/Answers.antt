-- `put_record` puts the head, the code and the value one behind the other.
use Rattle.profile.proofs.Outputs.{record_parts}
use Rattle.profile.proofs.put_record.Goals as goal

pub returns : goal.returns
returns c =
    let a = c.args in
    record_parts a.out.now a.at.0 a.code a.value c.put_head.new.out c.put_byte.new.out c.put_word.new.out c.requires c.put_head.ensures c.put_byte.ensures c.put_word.ensures
