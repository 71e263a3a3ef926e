-- One record: bytes that begin with it, and where it stands.
use mathlib.Core.Path.{◌≡◌, refl, sym, ap, ◌∙◌}
use mathlib.Core.Bool.{Bool, true, false, ◌&&◌}
use mathlib.Core.List.{List, ◌∷◌, ◌++◌}
use Prim.Native.Nat.{ℕ, ◌+◌, ◌-◌, ◌/◌, ◌%◌, ◌≤◌, ◌<◌}
use native.Mathlib.Omega.{arith}
use lib.ListN.{length, get_or, take, drop, length-append, length-drop, take-append-drop}
use lib.Seq.{drop-cons, length-take-le}
use lib.Dec.{leb, eqb}
use borrow.Author.Tests.{leb-true, le-leb, lt-leb, eqb-true, eq-eqb, ne_eqb}
use Rattle.checksum.specs.Bytes.{Bytes}
use Rattle.checksum.proofs.Bytes.{bytes-at}
use Rattle.records.specs.Numbers.{word_at}
use Rattle.records.specs.Records.{record_of, begins_with}
use Rattle.records.specs.Statements.{Begins, BeginsExactly, WritesRecord}
use Rattle.records.proofs.Numbers.{low-high, number_dropped, number-here}

-- ---- what a record has

pub record Whole (n k : ℕ) (s : List ℕ) : Type 0 where
  pub least : 2 ≤ n
  pub size : 2 + n ≤ length s
  pub len : word_at s 0 ≡ n
  pub kind : word_at s 2 ≡ k

both : (p q : Bool) → p && q ≡ true → (p ≡ true) × (q ≡ true)
both true q e = (refl, e)
both false q e = let z : ◌≡◌ {A = ℕ} 0 1 = cc in absurd (omega arith)

pub whole : (n k : ℕ) (s : List ℕ) → begins_with n k s ≡ true → Whole n k s
unfolding begins_with
whole n k s e =
    let least = both (leb 2 n) _ e in
    let size = both (leb (2 + n) (length s)) _ least.1 in
    let fields = both (eqb (word_at s 0) n) (eqb (word_at s 2) k) size.1 in
    record { least = leb-true _ _ least.0; size = leb-true _ _ size.0; len = eqb-true _ _ fields.0; kind = eqb-true _ _ fields.1 }

pub whole-begins : (n k : ℕ) (s : List ℕ) → Whole n k s → begins_with n k s ≡ true
unfolding begins_with
whole-begins n k s w = rw (le-leb 2 n w.least, le-leb (2 + n) (length s) w.size, eq-eqb (word_at s 0) n w.len, eq-eqb (word_at s 2) k w.kind)

-- a record that is cut is none
pub cut-is-none : (n k : ℕ) (s : List ℕ) → length s < 2 + n → begins_with n k s ≡ false
unfolding begins_with
cut-is-none n k s h = rw (lt-leb (2 + n) (length s) h) (go (leb 2 n))
  where
    go : (b : Bool) → b && false ≡ false
    go true = refl
    go false = refl

-- ---- exactly the bytes of a record

-- the first four elements of a list
pub four : (s : List ℕ) → 4 ≤ length s → s ≡ get_or s 0 0 ∷ get_or s 1 0 ∷ get_or s 2 0 ∷ get_or s 3 0 ∷ drop 4 s
four s h =
    drop-cons s 0 0 (omega arith)
    ∙ ap (λ (t : List ℕ). get_or s 0 0 ∷ t) (drop-cons s 1 0 (omega arith)
    ∙ ap (λ (t : List ℕ). get_or s 1 0 ∷ t) (drop-cons s 2 0 (omega arith)
    ∙ ap (λ (t : List ℕ). get_or s 2 0 ∷ t) (drop-cons s 3 0 (omega arith))))

begins-whole : (n k : ℕ) (s : List ℕ) → Bytes s → begins_with n k s ≡ true → Begins n k s
begins-whole n k s b e =
    let w : Whole n k s = whole n k s e in
    let size = w.size in
    let least = w.least in
    let e0 : get_or s 0 0 ≡ n % 256 = omega (arith, w.len, bytes-at b 0) in
    let e1 : get_or s 1 0 ≡ n / 256 = omega (arith, w.len, bytes-at b 0) in
    let e2 : get_or s 2 0 ≡ k % 256 = omega (arith, w.kind, bytes-at b 2) in
    let e3 : get_or s 3 0 ≡ k / 256 = omega (arith, w.kind, bytes-at b 2) in
    let e4 : drop 4 s ≡ take (n - 2) (drop 4 s) ++ drop (n - 2) (drop 4 s) = sym (take-append-drop (n - 2) (drop 4 s)) in
    record {
      body = take (n - 2) (drop 4 s);
      rest = drop (n - 2) (drop 4 s);
      counted = omega (arith, length-take-le (n - 2) (drop 4 s) (omega (arith, length-drop 4 s)));
      bytes = four s (omega arith) ∙ rw (e0, e1, e2, e3) (ap (λ (t : List ℕ). n % 256 ∷ n / 256 ∷ k % 256 ∷ k / 256 ∷ t) e4);
    }

begins-every : (n k : ℕ) (s : List ℕ) → Begins n k s → begins_with n k s ≡ true
begins-every n k s g =
    let t = n % 256 ∷ n / 256 ∷ k % 256 ∷ k / 256 ∷ (g.body ++ g.rest) in
    let counted = g.counted in
    let w : Whole n k t = record { least = omega arith; size = omega (arith, length-append g.body g.rest); len = low-high n; kind = low-high k } in
    ap (begins_with n k) g.bytes ∙ whole-begins n k t w

pub begins-exactly : BeginsExactly begins_with
begins-exactly = record { whole = begins-whole; every = begins-every }

-- what is written begins with a record, whatever follows
pub writes_record : WritesRecord record_of
writes_record k body rest = record { body = body; rest = rest; counted = refl; bytes = refl }

pub begins : (k : ℕ) (body rest : List ℕ) → begins_with (2 + length body) k (record_of k body ++ rest) ≡ true
begins k body rest = begins-every (2 + length body) k (record_of k body ++ rest) (writes_record k body rest)

-- ---- the answers of `stands`

module _ (n k : ℕ) (s : List ℕ) (at : ℕ) where
  pub stands_short : n < 2 → false ≡ begins_with n k (drop at s)
  unfolding begins_with
  stands_short h = rw (lt-leb 2 n h)

  pub stands_cut : length s < at + (2 + n) → false ≡ begins_with n k (drop at s)
  stands_cut h = sym (cut-is-none n k (drop at s) (omega (arith, length-drop at s)))

  pub stands_by_kind : 2 ≤ n → at + (2 + n) ≤ length s → word_at s at ≡ n → (r : Bool) → r ≡ eqb (word_at s (at + 2)) k → r ≡ begins_with n k (drop at s)
  unfolding begins_with
  stands_by_kind l h e r q =
      rw (le-leb 2 n l, le-leb (2 + n) (length (drop at s)) (omega (arith, length-drop at s)), number-here 2 s at, eq-eqb (word_at s at) n e, number_dropped 2 s at 2) q

  pub stands_not : 2 ≤ n → at + (2 + n) ≤ length s → (word_at s at ≡ n → ⊥) → false ≡ begins_with n k (drop at s)
  unfolding begins_with
  stands_not l h e =
      rw (le-leb 2 n l, le-leb (2 + n) (length (drop at s)) (omega (arith, length-drop at s)), number-here 2 s at, ne_eqb (word_at s at) n e)

  -- a record that stands there is whole
  pub stands_whole : at ≤ length s → begins_with n k (drop at s) ≡ true → at + (2 + n) ≤ length s
  stands_whole l h = omega (arith, (whole n k (drop at s) h).size, length-drop at s)
