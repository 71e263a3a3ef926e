-- A line that loses, cuts, flips and repeats, by a fixed rule. The papers leave the line to the world; this one is a program's own.
use Rattle.std.specs.Prelude.{ℕ, ◌*◌, ◌/◌, ◌%◌, cond, List, ◌==◌, bit_xor, nat_lt, slice_index, slice_set}
use Rattle.message_rules.specs.Limits.{output_room}
use Rattle.day_line.specs.declared.Fate.{Fate}
use Rattle.day_line.specs.declared.Fate.TheVariants.{Good, RequestLost, ReplyLost, Cut, Flipped, Repeated}
use Rattle.frames.specs.declared.Frame.{Frame}
use Rattle.day_line.specs.declared.Line.{Line}

-- five exchanges in sixteen are spoiled, each by a number of its own
abbrev pub fate_of : ℕ → Fate
fate_of n =
    cond (n == 0) RequestLost
    (cond (n == 1) ReplyLost
    (cond (n == 2) Cut
    (cond (n == 3) Flipped
    (cond (n == 4) Repeated Good))))

-- a fate is drawn from four bits of the seed
abbrev pub draw : ℕ → Fate
draw seed = fate_of (seed / 4096 % 16)

-- the seeds are a linear congruential sequence
abbrev pub next_seed : ℕ → ℕ
next_seed seed = seed % 2147483647 * 16807 % 2147483647

-- some number below n, or 0
abbrev pub below : (n seed : ℕ) → ℕ
below n seed = cond (n == 0) 0 (seed / 8 % n)

-- a frame of which only the first n bytes count
unfoldable pub cut : Frame → ℕ → Frame
cut f n = record { bytes = f.bytes; len = n }

-- a request that is lost reaches the display as no bytes
abbrev pub heard : Fate → Frame → Frame
heard RequestLost f = cut f 0
heard Good f = f
heard ReplyLost f = f
heard Cut f = f
heard Flipped f = f
heard Repeated f = f

-- one bit of the byte at a position is turned over
unfoldable pub flip : List ℕ → ℕ → List ℕ
flip bytes at = cond (nat_lt at output_room) (slice_set bytes at (bit_xor (slice_index bytes at) 4)) bytes

-- one bit of some byte of a frame is turned over
unfoldable pub flipped : Frame → ℕ → Frame
flipped f seed = record { bytes = flip f.bytes (below f.len seed); len = f.len }

-- what comes of a reply: all of it, nothing, less than all of it, all with a bit turned over, or what came last once more
abbrev pub came : Line → Fate → Frame → Frame
came l Good f = f
came l RequestLost f = cut f 0
came l ReplyLost f = cut f 0
came l Cut f = cut f (below f.len l.seed)
came l Flipped f = flipped f l.seed
came l Repeated f = l.last

-- the line after this came: it keeps what came last, where anything came
abbrev pub after : Line → Frame → Line
after l f = record { seed = next_seed l.seed; last = cond (f.len == 0) l.last f }
