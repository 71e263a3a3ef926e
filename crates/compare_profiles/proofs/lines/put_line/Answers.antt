-- `put_line` puts the code, a space, a value, a space, a value and the line end, one behind the other.
use native.Mathlib.Omega.{arith}
use Rattle.compare_profiles.proofs.Laws.{line-put, line-size}
use Rattle.compare_profiles.proofs.lines.put_line.Goals as goal

pub returns : goal.returns
returns c =
    let x = c.put_value-middle.ensures in
    let y = c.put_value-end.ensures in
    let size = line-size c.args.code x.text y.text in
    let one = x.short in
    let two = y.short in
    record {
      first = x.text;
      second = y.text;
      first_value = x.value;
      second_value = y.value;
      short = omega arith;
      there = line-put c.args.text.now c.args.at c.args.code x.text y.text (omega (arith, c.requires.2)) _ _ _ _ _ _ _ _
          c.put_hex.ensures c.put_octet.ensures x.there x.behind c.put_octet-2.ensures y.there y.behind c.put_octet-3.ensures;
      behind = omega (arith, x.behind, y.behind);
    }
