-- Lines of differences, one behind the other.
use mathlib.Core.Path.{◌≡◌, refl, sym, ap, subst, ◌∙◌}
use mathlib.Core.List.{List, [], ◌∷◌, ◌++◌, append_assoc, append-nil}
use Prim.Native.Nat.{ℕ, zero, suc, ◌+◌, ◌*◌, ◌≤◌}
use native.Mathlib.Omega.{arith}
use lib.ListN.{length, get_or, drop, length-append}
use lib.Seq.{get_or-drop}
use Rattle.buffers.specs.Buffers.{put, put_whole}
use Rattle.buffers.proofs.Puts.{put-none, put-fits, put-length, put_then, put-whole_then}
use Rattle.numerals.specs.Numerals.{hexadecimal}
use Rattle.profile_compare_rules.specs.Compare.{Difference}
use Rattle.profile_compare_rules.specs.Statements.{difference, lines_in}
use Rattle.compare_profiles.specs.Lines.{Value, line_of, Lines, none, line}
use Rattle.compare_profiles.specs.Parts.{line_room, PutsLine}

-- ---- a line

-- its parts one behind the other
parts : (code : ℕ) (x y : List ℕ) → ((((hexadecimal code ++ (0x20 ∷ [])) ++ x) ++ (0x20 ∷ [])) ++ y) ++ (0x0A ∷ []) ≡ line_of code x y
parts code x y =
    ap (λ (s : List ℕ). hexadecimal code ++ (0x20 ∷ s)) (append_assoc (x ++ (0x20 ∷ [])) y (0x0A ∷ []) ∙ append_assoc x (0x20 ∷ []) (y ++ (0x0A ∷ [])))

pub line-size : (code : ℕ) (x y : List ℕ) → length (line_of code x y) ≡ length x + length y + 5
line-size code x y = omega (arith, length-append x (0x20 ∷ (y ++ (0x0A ∷ []))), length-append y (0x0A ∷ []))

module _ (text : List ℕ) (at code : ℕ) (x y : List ℕ) (room : at + length x + length y + 5 ≤ length text) where
  -- the text with the code, the space, the first value, the space, the second value, the line end
  pub line-put : (h o v p w q : List ℕ) (middle end : ℕ) → h ≡ put_whole text at (hexadecimal code) → o ≡ put_whole h (at + 2) (0x20 ∷ []) → v ≡ put o (at + 3) x → middle ≡ at + 3 + length x
      → p ≡ put_whole v middle (0x20 ∷ []) → w ≡ put p (middle + 1) y → end ≡ middle + 1 + length y → q ≡ put_whole w end (0x0A ∷ []) → q ≡ put text at (line_of code x y)
  line-put h o v p w q middle end a b c m d e n f =
      let s1 = hexadecimal code ++ (0x20 ∷ []) in
      let s2 = s1 ++ x in
      let s3 = s2 ++ (0x20 ∷ []) in
      let s4 = s3 ++ y in
      let l2 = length-append s1 x in
      let l3 = length-append s2 (0x20 ∷ []) in
      let l4 = length-append s3 y in
      let one = put-whole_then text at (hexadecimal code) (0x20 ∷ []) h o (at + 2) (a ∙ put-fits text at (hexadecimal code) (omega arith)) refl b (omega arith) in
      let two = put_then text at s1 x o v (at + 3) one refl c (omega arith) in
      let three = put-whole_then text at s2 (0x20 ∷ []) v p middle two (omega arith) d (omega arith) in
      let four = put_then text at s3 y p w (middle + 1) three (omega arith) e (omega arith) in
      put-whole_then text at s4 (0x0A ∷ []) w q end four (omega arith) f (omega arith) ∙ ap (put text at) (parts code x y)

-- a line that fits leaves the text as long as it was
pub line-length : (d : Difference) (before after : List ℕ) (at end : ℕ) → at + line_room ≤ length before → PutsLine d before at after end → length after ≡ length before
line-length d before after at end room p = let short = p.short in ap length p.there ∙ put-length before at (line_of d.code p.first p.second) (omega arith)

-- ---- lines

-- one more line
lines_next : (ds : List Difference) (text : List ℕ) (d : Difference) (x y : List ℕ) → Lines ds text → Value d.first x → Value d.second y → Lines (ds ++ (d ∷ [])) (text ++ line_of d.code x y)
lines_next [] text d x y none a b = subst (Lines (d ∷ [])) (append-nil (line_of d.code x y)) (line a b none)
lines_next (e ∷ ds) text d x y (line {first = u} {second = v} {text = rest} p q l) a b =
    subst (Lines (e ∷ (ds ++ (d ∷ [])))) (sym (append_assoc (line_of e.code u v) rest (line_of d.code x y))) (line p q (lines_next ds rest d x y l a b))

-- the next line of the arrays
pub lines_in-next : (k : ℕ) (cs xs ys : List ℕ) → lines_in (k + 1) cs xs ys ≡ lines_in k cs xs ys ++ (difference (get_or cs k 0) (get_or xs k 0) (get_or ys k 0) ∷ [])
lines_in-next zero cs xs ys = refl
lines_in-next (suc k) cs xs ys =
    let e : suc k + 1 ≡ suc (k + 1) = omega arith in
    ap (λ (n : ℕ). lines_in n cs xs ys) e
    ∙ ap (λ (ds : List Difference). difference (get_or cs 0 0) (get_or xs 0 0) (get_or ys 0 0) ∷ ds) (lines_in-next k (drop 1 cs) (drop 1 xs) (drop 1 ys) ∙ ap (λ (d : Difference). lines_in k (drop 1 cs) (drop 1 xs) (drop 1 ys) ++ (d ∷ [])) here)
  where
    at : (s : List ℕ) → get_or (drop 1 s) k 0 ≡ get_or s (suc k) 0
    at s = let e : 1 + k ≡ suc k = omega arith in get_or-drop 1 s k 0 ∙ ap (λ (n : ℕ). get_or s n 0) e

    here : difference (get_or (drop 1 cs) k 0) (get_or (drop 1 xs) k 0) (get_or (drop 1 ys) k 0) ≡ difference (get_or cs (suc k) 0) (get_or xs (suc k) 0) (get_or ys (suc k) 0)
    here = let a = at cs in let b = at xs in let c = at ys in cc (a, b, c)

-- the text so far: the first k lines, put at its start
pub record SoFar (cs xs ys before : List ℕ) (k : ℕ) (now : List ℕ) (at : ℕ) : Type 0 where
  pub text : List ℕ
  pub lines : Lines (lines_in k cs xs ys) text
  pub there : now ≡ put before 0 text
  pub size : at ≡ length text
  pub short : at ≤ line_room * k

pub none_so_far : (cs xs ys before : List ℕ) → SoFar cs xs ys before 0 before 0
none_so_far cs xs ys before = record { text = []; lines = none; there = sym (put-none before 0); size = refl; short = omega arith }

pub line_so_far : (cs xs ys before now after : List ℕ) (k at end : ℕ) → line_room * (k + 1) ≤ length before → PutsLine (difference (get_or cs k 0) (get_or xs k 0) (get_or ys k 0)) now at after end
    → SoFar cs xs ys before k now at → SoFar cs xs ys before (k + 1) after end
line_so_far cs xs ys before now after k at end room p far =
    let d = difference (get_or cs k 0) (get_or xs k 0) (get_or ys k 0) in
    let written = line_of d.code p.first p.second in
    let size = far.size in
    let little = p.short in
    let close = far.short in
    record {
      text = far.text ++ written;
      lines = subst (λ (ds : List Difference). Lines ds (far.text ++ written)) (sym (lines_in-next k cs xs ys)) (lines_next (lines_in k cs xs ys) far.text d p.first p.second far.lines p.first_value p.second_value);
      there = put_then before 0 far.text written now after at far.there (omega arith) p.there (omega arith);
      size = omega (arith, p.behind, length-append far.text written);
      short = omega (arith, p.behind);
    }
