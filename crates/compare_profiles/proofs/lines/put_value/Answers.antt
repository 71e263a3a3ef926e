-- `put_value` puts "-", or the digits, of which there are at most five.
use mathlib.Core.Path.{refl, ap, ◌∙◌}
use mathlib.Core.List.{[], ◌∷◌}
use Prim.Native.Nat.{ℕ, ◌+◌, ◌≤◌, ◌<◌}
use native.Mathlib.Omega.{arith}
use lib.Arith.{lt_of_le-ne}
use lib.ListN.{length}
use Rattle.buffers.proofs.Puts.{put-fits}
use Rattle.numerals.proofs.Places.{places-at-most}
use Rattle.compare_profiles.specs.Lines.{number, absent}
use Rattle.compare_profiles.specs.Parts.{value_room}
use Rattle.compare_profiles.proofs.lines.put_value.Goals as goal
use Rattle.compare_profiles.proofs.lines.put_value.Goals.{After-put_decimal}

pub returns-then-is_absent : goal.returns-then-is_absent
returns-then-is_absent c =
    let is = c.if-is_absent.true in
    record {
      text = 0x2D ∷ [];
      value = rw is absent;
      short = omega arith;
      there = c.put_octet.ensures ∙ put-fits c.args.text.now c.args.at (0x2D ∷ []) (omega (arith, c.requires.1));
      behind = refl;
    }

-- a value has at most five digits
short : (c : After-put_decimal) → c.put_decimal.result ≤ value_room
short c =
    let e = c.put_decimal.ensures in
    let below : c.args.value < 65536 = lt_of_le-ne c.requires.0 c.if-is_absent.false in
    omega (arith, e.as_many, places-at-most 5 c.args.value e.decimal.places (omega arith) (omega (arith, below)) e.decimal.fewest)

pub overflow_add-result-2 : goal.overflow_add-result-2
overflow_add-result-2 c = omega (arith, short (goal.at.overflow_add-result-2 c).After-put_decimal)

pub returns : goal.returns
returns c =
    let e = c.put_decimal.ensures in
    let few : length e.number ≤ value_room = omega (arith, short (goal.at.returns c).After-put_decimal, e.counted) in
    record {
      text = e.number;
      value = number (lt_of_le-ne c.requires.0 c.if-is_absent.false) e.decimal;
      short = few;
      there = e.there ∙ put-fits c.args.text.now c.args.at e.number (omega (arith, c.requires.1));
      behind = ap (λ (n : ℕ). c.args.at + n) e.counted;
    }
