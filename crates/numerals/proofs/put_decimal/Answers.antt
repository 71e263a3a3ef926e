-- `put_decimal` puts the digits that `io::decimal` gives.
use mathlib.Core.Path.{refl}
use lib.ListN.{take}
use Rattle.numerals.proofs.put_decimal.Goals as goal

pub returns : goal.returns
returns c =
    rw (← c.from.ensures) (record {
      number = take c.decimal-count.result c.decimal-count.new.out;
      decimal = record { places = c.decimal-count.result; fewest = c.decimal-count.ensures.len; is = c.decimal-count.ensures.digits };
      there = c.put.ensures;
      counted = c.decimal-count.ensures.in_bounds.1;
      as_many = refl;
    })
