-- The step follows the paper's sentences on Table write, and the numbers and replies of Text and Table read: the
-- theorems of specs/Texts.antt.
use mathlib.Core.Path.{◌≡◌, refl}
use mathlib.Core.Bool.{Bool, true, false, cond}
use mathlib.Core.List.{List}
use Prim.Native.Nat.{ℕ, ◌+◌, ◌≤◌, ◌<◌}
use native.Mathlib.Omega.{arith}
use lib.ListN.{length}
use lib.Seq.{take-append_seam}
use lib.Dec.{eqb, ltb}
use borrow.Author.Tests.{eqb-true, eqb-false, eq-eqb, ne_eqb, le-leb, lt-leb, ltb-false, le-ltb}
use Rattle.buffers.proofs.Theorems.{puts-bytes}
use Rattle.message_rules.specs.Message.{text, table_read, table_write, null, to_host}
use Rattle.message_rules.proofs.Order.{null-read}
use Rattle.message_rules.specs.declared.TextKind.TheVariants.{Capabilities, Table}
use Rattle.display_rules.specs.Limits.{table_room}
use Rattle.display_rules.specs.Turn.{refusal}
use Rattle.display_rules.specs.Fragments.{read_turn, table_read_turn}
use Rattle.display_rules.specs.Table.{write_answer, length_after, table_write_turn}
use Rattle.display_rules.specs.Step.{outcome}
use Rattle.display_rules.specs.Kept.{Kept, step_kept}
use Rattle.display_rules.specs.Texts.{Writes, WriteNumbers, TextReads, TableReads, ReadNumbers}
use Rattle.display_rules.proofs.Sound.{write_accepted}
use Rattle.display_rules.proofs.Operations.{obeys, replies_with}

-- ---- the numbers

module _ (c old at n : ℕ) where
  code_8 : (c ≡ 0xF4 → ⊥) → write_answer c old at n ≡ 8
  unfolding write_answer
  code_8 h = rw (ne_eqb c 0xF4 h)

  gap_10 : c ≡ 0xF4 → old < at → write_answer c old at n ≡ 10
  unfolding write_answer
  gap_10 e h = rw (eq-eqb c 0xF4 e, lt-leb at old h)

  long_11 : c ≡ 0xF4 → at ≤ old → table_room < at + n → write_answer c old at n ≡ 11
  unfolding write_answer
  long_11 e h l = rw (eq-eqb c 0xF4 e, le-leb at old h, lt-leb (at + n) table_room l)

  fits_0 : c ≡ 0xF4 → at ≤ old → at + n ≤ table_room → write_answer c old at n ≡ 0
  unfolding write_answer
  fits_0 e h l = rw (eq-eqb c 0xF4 e, le-leb at old h, le-leb (at + n) table_room l)

module _ (old at n : ℕ) where
  length-anew : at ≡ 0 → length_after old at n ≡ n
  unfolding length_after
  length-anew e = rw (eq-eqb at 0 e)

  length-grown : 0 < at → old ≤ at + n → length_after old at n ≡ at + n
  unfolding length_after
  length-grown h l = rw (ne_eqb at 0 (λ e. omega arith)) (go (ltb old (at + n)) refl)
    where
      go : (t : Bool) → ltb old (at + n) ≡ t → cond t (at + n) old ≡ at + n
      go true e = refl
      go false e = let m : at + n ≤ old = ltb-false old (at + n) e in omega arith

  length-within : 0 < at → at + n ≤ old → length_after old at n ≡ old
  unfolding length_after
  length-within h l = rw (ne_eqb at 0 (λ e. omega arith), le-ltb old (at + n) l)

-- ---- a write

module _ (now : Kept) (out : List ℕ) (c at : ℕ) (s : List ℕ) (room : length now.table ≡ table_room) where
  answer : ℕ
  answer = write_answer c now.display.table.len at (length s)

  of_accepted : answer ≡ 0 → Writes now out c at s (outcome (table_write_turn now.display now.table c at s) out)
  unfolding answer table_write_turn
  of_accepted a =
      let old : ℕ = now.display.table.len in
      let shown = write_accepted c old at (length s) a in
      let fits : at + length s ≤ length now.table = omega (arith, shown.2) in
      rw a
      (record {
        code = λ n. absurd (n shown.0);
        gap = λ e l. absurd (omega (arith, shown.1));
        long = λ e h l. absurd (omega (arith, shown.2));
        otherwise = λ e h l. refl;
        refused = λ n. absurd (n refl);
        inside = λ e i h. (puts-bytes now.table at s fits).there i h;
        before = (puts-bytes now.table at s fits).before;
        behind = (puts-bytes now.table at s fits).behind;
        buffer = (puts-bytes now.table at s fits).same;
        anew = λ e z. length-anew old at (length s) z;
        grown = λ e h l. length-grown old at (length s) h l;
        within = λ e h l. length-within old at (length s) h l;
        offset = λ e. refl;
        len = λ e. refl;
        reply = record { len = refl; bytes = refl; found = refl };
        settings = refl;
        capabilities = refl;
        size = refl;
      })

  of_refused : (answer ≡ 0 → ⊥) → Writes now out c at s (outcome (table_write_turn now.display now.table c at s) out)
  unfolding answer table_write_turn
  of_refused n =
      let old : ℕ = now.display.table.len in
      rw (ne_eqb answer 0 n)
      (record {
        code = code_8 c old at (length s);
        gap = gap_10 c old at (length s);
        long = long_11 c old at (length s);
        otherwise = fits_0 c old at (length s);
        refused = λ e. record { display = refl; table = refl };
        inside = λ e. absurd (n e);
        before = λ i h. refl;
        behind = λ i h. refl;
        buffer = refl;
        anew = λ e. absurd (n e);
        grown = λ e. absurd (n e);
        within = λ e. absurd (n e);
        offset = λ e. absurd (n e);
        len = λ e. absurd (n e);
        reply = record { len = refl; bytes = refl; found = refl };
        settings = refl;
        capabilities = refl;
        size = refl;
      })

  of_write : Writes now out c at s (outcome (table_write_turn now.display now.table c at s) out)
  of_write = go (eqb answer 0) refl
    where
      go : (t : Bool) → eqb answer 0 ≡ t → Writes now out c at s (outcome (table_write_turn now.display now.table c at s) out)
      go true e = of_accepted (eqb-true _ _ e)
      go false e = of_refused (eqb-false _ _ e)

pub write_numbers : WriteNumbers step_kept
write_numbers now message out c at s w r = rw (obeys now message out (table_write c at s) w r) (of_write now out c at s w.table)

-- ---- a read

of_text : (now : Kept) (out : List ℕ) (q : ℕ) → TextReads now (outcome (read_turn Capabilities now.display now.text now.table q) out)
unfolding read_turn
of_text now out q = record { answer = refl; sent = take-append_seam _ _ }

of_table_read : (now : Kept) (out : List ℕ) (c q : ℕ) → TableReads now out c (outcome (table_read_turn now.display now.text now.table c q) out)
unfolding table_read_turn read_turn
of_table_read now out c q = record {
  code = λ n. rw (ne_eqb c 0xF4 n);
  otherwise = λ e. rw (eq-eqb c 0xF4 e);
  null = λ n. rw (ne_eqb c 0xF4 n) (replies_with 3 _ out (refusal 8 now.display now.table (null to_host)) null-read.fixed refl refl);
  stays = λ n. rw (ne_eqb c 0xF4 n) (record { display = refl; table = refl });
  sent = λ e. rw (eq-eqb c 0xF4 e) (take-append_seam (read_turn Table now.display now.text now.table q).reply _);
}

pub read-numbers : ReadNumbers step_kept
read-numbers = record {
  text = λ now message out q w r. rw (obeys now message out (text q) w r) (of_text now out q);
  table = λ now message out c q w r. rw (obeys now message out (table_read c q) w r) (of_table_read now out c q);
}
