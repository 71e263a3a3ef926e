-- One record of a profile: its bytes are read as what was written, and bytes that are read as a record are the ones that are
-- written for it.
use mathlib.Core.Path.{◌≡◌, refl, ap, ◌∙◌}
use mathlib.Core.Bool.{Bool, true, false}
use mathlib.Core.List.{List, ◌∷◌, ◌++◌}
use Prim.Native.Nat.{ℕ, ◌/◌, ◌%◌, ◌≤◌, ◌<◌}
use native.Mathlib.Omega.{arith}
use lib.ListN.{length, get_or, drop}
use lib.Seq.{drop-cons}
use borrow.Author.Tests.{le-leb}
use Rattle.checksum.specs.Bytes.{Bytes}
use Rattle.checksum.proofs.Bytes.{bytes-at}
use Rattle.records.specs.Numbers.{little_endian}
use Rattle.records.specs.Records.{begins_with}
use Rattle.records.proofs.Records as laws
use Rattle.profile_form_rules.specs.Records.{value_record, record_length, value_kind, record_size, code_in, value_in, begins_with_record}
use Rattle.profile_form_rules.specs.Statements.{record_then}

-- what is written begins with a record, whatever follows
pub begins : (c v : ℕ) (rest : List ℕ) → begins_with_record (value_record c v ++ rest) ≡ true
begins c v rest = laws.begins value_kind (c ∷ little_endian 2 v) rest

-- a record that is cut is none
pub cut-is-none : (s : List ℕ) → length s < record_size → begins_with_record s ≡ false
cut-is-none s h = laws.cut-is-none record_length value_kind s h

-- what a record has
abbrev pub Whole : List ℕ → Type 0
Whole s = laws.Whole record_length value_kind s

pub whole : (s : List ℕ) → begins_with_record s ≡ true → Whole s
whole s e = laws.whole record_length value_kind s e

-- the first seven elements of a list
pub seven : (s : List ℕ) → 7 ≤ length s
    → s ≡ get_or s 0 0 ∷ get_or s 1 0 ∷ get_or s 2 0 ∷ get_or s 3 0 ∷ get_or s 4 0 ∷ get_or s 5 0 ∷ get_or s 6 0 ∷ drop 7 s
seven s h =
    drop-cons s 0 0 (omega arith)
    ∙ ap (λ (t : List ℕ). get_or s 0 0 ∷ t) (drop-cons s 1 0 (omega arith)
    ∙ ap (λ (t : List ℕ). get_or s 1 0 ∷ t) (drop-cons s 2 0 (omega arith)
    ∙ ap (λ (t : List ℕ). get_or s 2 0 ∷ t) (drop-cons s 3 0 (omega arith)
    ∙ ap (λ (t : List ℕ). get_or s 3 0 ∷ t) (drop-cons s 4 0 (omega arith)
    ∙ ap (λ (t : List ℕ). get_or s 4 0 ∷ t) (drop-cons s 5 0 (omega arith)
    ∙ ap (λ (t : List ℕ). get_or s 5 0 ∷ t) (drop-cons s 6 0 (omega arith)))))))

-- bytes that begin with a record are that record and what follows
pub record-read : (s : List ℕ) → Whole s → Bytes s → s ≡ value_record (code_in s) (value_in s) ++ drop record_size s
record-read s w b =
    let e0 : get_or s 0 0 ≡ 5 = omega (arith, w.len) in
    let e1 : get_or s 1 0 ≡ 0 = omega (arith, w.len) in
    let e2 : get_or s 2 0 ≡ 1 = omega (arith, w.kind) in
    let e3 : get_or s 3 0 ≡ 0 = omega (arith, w.kind) in
    let e5 : get_or s 5 0 ≡ value_in s % 256 = omega (arith, bytes-at b 5) in
    let e6 : get_or s 6 0 ≡ value_in s / 256 = omega (arith, bytes-at b 5) in
    cc (seven s w.size)

-- ---- in literal bytes

-- bytes that begin with a record, and those that do not
pub begun : (bytes : List ℕ) → begins_with_record bytes ≡ true → bytes ≡ record_then (code_in bytes) (get_or bytes 5 0) (get_or bytes 6 0) (drop 7 bytes)
begun bytes e =
    let w : Whole bytes = whole bytes e in
    let e0 : get_or bytes 0 0 ≡ 5 = omega (arith, w.len) in
    let e1 : get_or bytes 1 0 ≡ 0 = omega (arith, w.len) in
    let e2 : get_or bytes 2 0 ≡ 1 = omega (arith, w.kind) in
    let e3 : get_or bytes 3 0 ≡ 0 = omega (arith, w.kind) in
    cc (seven bytes w.size)

pub begins-with : (b low high : ℕ) (rest : List ℕ) → begins_with_record (record_then b low high rest) ≡ true
unfolding begins_with
begins-with b low high rest = rw (le-leb 7 (length (record_then b low high rest)) (omega arith))

pub begins-none : (bytes : List ℕ) → ((b low high : ℕ) (rest : List ℕ) → bytes ≡ record_then b low high rest → ⊥) → begins_with_record bytes ≡ false
begins-none bytes n = go (begins_with_record bytes) refl
  where
    go : (t : Bool) → begins_with_record bytes ≡ t → t ≡ false
    go false e = refl
    go true e = absurd (n (code_in bytes) (get_or bytes 5 0) (get_or bytes 6 0) (drop 7 bytes) (begun bytes e))
