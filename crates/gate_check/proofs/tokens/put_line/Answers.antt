-- `put_line` puts the digits, and the line end behind them.
use mathlib.Core.Path.{ap}
use Prim.Native.Nat.{ℕ, ◌+◌, ◌<◌}
use native.Mathlib.Omega.{arith}
use lib.ListN.{length}
use Rattle.numerals.proofs.Places.{places-at-most}
use Rattle.gate_check.specs.Parts.{line_room}
use Rattle.gate_check.proofs.Laws.{line-put}
use Rattle.gate_check.proofs.tokens.put_line.Goals as goal
use Rattle.gate_check.proofs.tokens.put_line.Goals.{After-put_decimal}

-- a token has at most ten digits
short : (c : After-put_decimal) → c.put_decimal.result < line_room
short c =
    let e = c.put_decimal.ensures in
    omega (arith, e.as_many, places-at-most 10 c.args.token e.decimal.places (omega arith) (omega arith) e.decimal.fewest)

pub overflow_add-end : goal.overflow_add-end
overflow_add-end c = omega (arith, short (goal.at.overflow_add-end c).After-put_decimal)

pub overflow_add-result : goal.overflow_add-result
overflow_add-result c = omega (arith, short (goal.at.overflow_add-result c).After-put_decimal)

pub returns : goal.returns
returns c =
    let e = c.put_decimal.ensures in
    let little : length e.number < line_room = omega (arith, short (goal.at.returns c).After-put_decimal, e.counted) in
    record {
      number = e.number;
      decimal = e.decimal;
      short = little;
      there = line-put c.args.text.now e.number _ _ c.args.at _ c.requires little e.there (ap (λ (n : ℕ). c.args.at + n) e.counted) c.put_octet.ensures;
      behind = omega (arith, e.counted);
    }
