-- What became of exchanges, in numbers. The papers leave the telling of it to programs.
use Rattle.std.specs.Prelude.{ℕ, ◌+◌, ◌%◌, ◌^◌, ◌==◌, Bool, true, false}
use Rattle.day_line.specs.declared.Fate.{Fate}
use Rattle.day_line.specs.declared.Fate.TheVariants.{Good, RequestLost, ReplyLost, Cut, Flipped, Repeated}
use Rattle.day_line.specs.declared.tally.Tally.{Tally}

-- the number behind another; it wraps, though no run counts so far
abbrev pub next : ℕ → ℕ
next n = (n + 1) % 2 ^ 64

-- one more exchange: accepted, or spoiled as its fate says; one that was refused though nothing spoiled it counts nowhere
unfoldable pub tallied : Tally → Fate → Bool → Tally
tallied t fate true = record { accepted = next t.accepted; lost = t.lost; cut = t.cut; flipped = t.flipped; repeated = t.repeated }
tallied t Good false = t
tallied t RequestLost false = record { accepted = t.accepted; lost = next t.lost; cut = t.cut; flipped = t.flipped; repeated = t.repeated }
tallied t ReplyLost false = record { accepted = t.accepted; lost = next t.lost; cut = t.cut; flipped = t.flipped; repeated = t.repeated }
tallied t Cut false = record { accepted = t.accepted; lost = t.lost; cut = next t.cut; flipped = t.flipped; repeated = t.repeated }
tallied t Flipped false = record { accepted = t.accepted; lost = t.lost; cut = t.cut; flipped = next t.flipped; repeated = t.repeated }
tallied t Repeated false = record { accepted = t.accepted; lost = t.lost; cut = t.cut; flipped = t.flipped; repeated = next t.repeated }

-- whether so many exchanges were all accepted or spoiled
unfoldable pub all_told : Tally → ℕ → Bool
all_told t count = (t.accepted + t.lost + t.cut + t.flipped + t.repeated) % 2 ^ 64 == count
