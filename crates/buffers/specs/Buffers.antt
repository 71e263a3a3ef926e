-- What a list of bytes leaves where it is laid into a buffer, and a part of one.
use Rattle.std.specs.Prelude.{ℕ, ◌+◌, cond, List, ◌++◌, leb, length, take, drop}

-- s at the start of the output; "Bytes of an output beyond the reply length stay."
abbrev pub over : (s out : List ℕ) → List ℕ
over s out = s ++ drop (length s) out

-- s in the buffer from index `at` on; the rest stays
abbrev pub put : (out : List ℕ) (at : ℕ) (s : List ℕ) → List ℕ
put out at s = take at out ++ (s ++ drop (at + length s) out)

-- the same where all of s fits; else the buffer stays
abbrev pub put_whole : (out : List ℕ) (at : ℕ) (s : List ℕ) → List ℕ
put_whole out at s = cond (leb (at + length s) (length out)) (put out at s) out

-- the n bytes of s from index `at` on, or as many as there are
abbrev pub part_of : (s : List ℕ) (at n : ℕ) → List ℕ
part_of s at n = take n (drop at s)
