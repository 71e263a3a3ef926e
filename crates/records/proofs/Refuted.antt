-- Wrong rules, and that the theorems do not hold of them: the high byte first, a number read with its high byte first,
-- a length that counts itself (so that a record may be cut), a kind that nothing looks at, a length that is written so
-- that it counts the whole record.
use mathlib.Core.Path.{◌≡◌, refl, ap}
use mathlib.Core.Bool.{◌&&◌}
use mathlib.Core.List.{List, [], ◌∷◌, ◌++◌}
use Prim.Native.Nat.{ℕ, zero, suc, ◌+◌, ◌*◌, ◌/◌, ◌%◌}
use native.Mathlib.Omega.{arith}
use lib.ListN.{length, get_or, length-append}
use lib.Dec.{leb, eqb}
use Rattle.checksum.specs.Bytes.{none, more}
use Rattle.records.specs.Numbers.{little_endian, word_at}
use Rattle.records.specs.Records.{begins_with}
use Rattle.records.specs.Statements.{BytesRule, NumberRule, LowFirst, NumberBack, BeginsRule, BeginsExactly, WriteRule, WritesRecord}

-- ---- numbers

abbrev high_first : BytesRule
high_first zero n = []
high_first (suc k) n = high_first k (n / 256) ++ (n % 256 ∷ [])

-- 1 would be written 00 01
pub high-first_refuted : LowFirst high_first → ⊥
high-first_refuted h = let e : ◌≡◌ {A = List ℕ} (0 ∷ 1 ∷ []) (1 ∷ 0 ∷ []) = h.two 1 0 (omega arith) in let f : ◌≡◌ {A = ℕ} 0 1 = ap (λ (l : List ℕ). get_or l 0 0) e in omega arith

abbrev reads_high_first : NumberRule
reads_high_first zero s i = 0
reads_high_first (suc k) s i = get_or s i 0 * 256 + reads_high_first k s (i + 1)

pub reads_high_first_refuted : NumberBack little_endian reads_high_first → ⊥
reads_high_first_refuted h = let e : ◌≡◌ {A = ℕ} 256 1 = h 1 1 [] [] in omega arith

-- ---- records

-- the bytes that document 01 gives: a record of length 5 and kind 1
abbrev example : List ℕ
example = 0x05 ∷ 0x00 ∷ 0x01 ∷ 0x00 ∷ 0x10 ∷ 0x32 ∷ 0x00 ∷ []

-- its length counts what follows it, and not all its bytes
abbrev counts_itself : BeginsRule
counts_itself len kind s = leb 2 len && (leb len (length s) && (eqb (word_at s 0) len && eqb (word_at s 2) kind))

-- its first five bytes would do
pub counts_itself_refuted : BeginsExactly counts_itself → ⊥
counts_itself_refuted h =
    let w = h.whole 5 1 (0x05 ∷ 0x00 ∷ 0x01 ∷ 0x00 ∷ 0x10 ∷ [])
    (more (omega arith) (more (omega arith) (more (omega arith) (more (omega arith) (more (omega arith) none))))) refl in
    short w.body w.rest w.counted w.bytes
  where
    short : (body rest : List ℕ) → 2 + length body ≡ 5 → ◌≡◌ {A = List ℕ} (0x05 ∷ 0x00 ∷ 0x01 ∷ 0x00 ∷ 0x10 ∷ []) (5 % 256 ∷ 5 / 256 ∷ 1 % 256 ∷ 1 / 256 ∷ (body ++ rest)) → ⊥
    short body rest e f = omega (arith, ap length f, length-append body rest)

-- the kind is not looked at
abbrev any_kind : BeginsRule
any_kind len kind s = begins_with len (word_at s 2) s

pub any_kind_refuted : BeginsExactly any_kind → ⊥
unfolding begins_with
any_kind_refuted h =
    let w = h.whole 5 2 example
    (more (omega arith) (more (omega arith) (more (omega arith) (more (omega arith) (more (omega arith) (more (omega arith) (more (omega arith) none))))))) refl in
    let e : ◌≡◌ {A = ℕ} 1 2 = ap (λ (s : List ℕ). get_or s 2 0) w.bytes in
    omega arith

-- the length that is written counts its own two bytes too
abbrev counts_all : WriteRule
counts_all kind body = little_endian 2 (4 + length body) ++ (little_endian 2 kind ++ body)

pub counts_all_refuted : WritesRecord counts_all → ⊥
counts_all_refuted h = let e : ◌≡◌ {A = ℕ} 4 2 = ap (λ (s : List ℕ). get_or s 0 0) (h 1 [] []).bytes in omega arith
