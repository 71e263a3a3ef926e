-- What a write leaves of the table, and that other messages do not disturb a text.
use mathlib.Core.Path.{◌≡◌, refl, sym, ap, ◌∙◌}
use mathlib.Core.Bool.{Bool, true, false, cond, true≢false}
use mathlib.Core.List.{List, ◌++◌, append-nil, append_assoc}
use Prim.Native.Nat.{ℕ, ◌+◌, ◌-◌, ◌≤◌, ◌<◌}
use native.Mathlib.Omega.{arith}
use lib.ListN.{length, take, drop, length-take, length-append, drop_of_length-le}
use lib.Seq.{length-take-le, take_at, drop_at, take-add, take-append-add, take-take}
use lib.Dec.{eqb, ltb}
use borrow.Author.Tests.{eqb-true, le-leb, ltb-true, ltb-false}
use Rattle.message_rules.specs.Answer.{done, wrong_size, wrong_field, code_not_allowed}
use Rattle.message_rules.specs.Message.{Request, get_feature, set_feature, timing, save, text, table_read, table_write, requests, decode, null, to_display, to_host}
use Rattle.message_rules.specs.Read.{Read, ok, refused}
use Rattle.message_rules.specs.Message.{table_code}
use Rattle.settings_rules.specs.Settings.{reserved_bits, timing_in}
use Rattle.display_rules.specs.Limits.{table_room}
use Rattle.display_rules.specs.Turn.{Turn, refusal, accepted, no_reply, bytes_of, timing_of, get_turn, set_turn, save_turn, timing_turn}
use Rattle.display_rules.specs.Fragments.{read_turn, table_read_turn}
use Rattle.display_rules.specs.Table.{write_answer, length_after, written, table_write_turn}
use Rattle.display_rules.specs.Step.{turn_of, lent_well, turn, step}
use Rattle.display_rules.specs.Kept.{step_kept, keeping}
use Rattle.display_rules.specs.Statements.{table_after, WritesGoIn, touches, Untouched, OthersKeep}
use Rattle.message_rules.specs.declared.TextKind.{TextKind}
use Rattle.message_rules.specs.declared.TextKind.TheVariants.{Capabilities, Table}
use Rattle.display_rules.specs.declared.Display.{Display}
use Rattle.display_rules.proofs.Tests.{Lent, lent-sizes}
use Rattle.display_rules.proofs.Sound.{made_is_sound}

-- ---- writes

drop_front : (i j : ℕ) (l : List ℕ) → i ≤ length l → drop i (take (i + j) l) ≡ take j (drop i l)
drop_front i j l h = rw (take-add i j l) (drop_at (take i l) (take j (drop i l)) i (length-take-le i l h))

-- the first bytes of a buffer after a write
module _ (table s : List ℕ) (old at : ℕ) (begins : at ≤ old) (room : old ≤ length table) where
  front : List ℕ
  front = take at table ++ s

  front_length : length front ≡ at + length s
  unfolding front
  front_length = length-append (take at table) s ∙ ap (λ (n : ℕ). n + length s) (length-take-le at table (omega arith))

  front_is : take at (take old table) ++ s ≡ front
  unfolding front
  front_is = ap (λ (l : List ℕ). l ++ s) (take-take at old table begins)

  written_is : written table at s ≡ front ++ drop (at + length s) table
  unfolding front
  written_is = sym (append_assoc (take at table) s (drop (at + length s) table))

  within-is : written (take old table) at s ≡ front ++ drop (at + length s) (take old table)
  unfolding front
  within-is = sym (append_assoc (take at (take old table)) s (drop (at + length s) (take old table))) ∙ ap (λ (l : List ℕ). l ++ drop (at + length s) (take old table)) front_is

  grown : old ≤ at + length s → take (at + length s) (written table at s) ≡ written (take old table) at s
  grown h =
      let short : length (take old table) ≤ at + length s = simp length-take (omega arith) in
      ap (take (at + length s)) written_is
      ∙ take_at front (drop (at + length s) table) (at + length s) front_length
      ∙ sym (append-nil front)
      ∙ ap (λ (q : List ℕ). front ++ q) (sym (drop_of_length-le (take old table) {i = at + length s} short))
      ∙ sym within-is

  inside : at + length s ≤ old → take old (written table at s) ≡ written (take old table) at s
  inside h =
      let m : ℕ = old - (at + length s) in
      let e : at + length s + m ≡ old = omega arith in
      let f : length front + m ≡ old = ap (λ (n : ℕ). n + m) front_length ∙ e in
      ap (take old) written_is
      ∙ ap (λ (n : ℕ). take n (front ++ drop (at + length s) table)) (sym f)
      ∙ take-append-add front (drop (at + length s) table) m
      ∙ ap (λ (q : List ℕ). front ++ q) (sym (drop_front (at + length s) m table (omega arith)) ∙ ap (λ (n : ℕ). drop (at + length s) (take n table)) e)
      ∙ sym within-is

  after_is : take (length_after old at (length s)) (written table at s) ≡ table_after (take old table) at s
  unfolding length_after
  after_is = go (eqb at 0) (ltb old (at + length s)) refl refl
    where
      go : (z g : Bool) → eqb at 0 ≡ z → ltb old (at + length s) ≡ g
          → take (cond z (length s) (cond g (at + length s) old)) (written table at s) ≡ cond z s (written (take old table) at s)
      go true g x y =
          let e : at ≡ 0 = eqb-true at 0 x in
          rw e (take_at s (drop (0 + length s) table) (length s) refl)
      go false true x y = let l : old < at + length s = ltb-true old (at + length s) y in grown (omega arith)
      go false false x y = inside (ltb-false old (at + length s) y)

pub accepts : (old at n : ℕ) → at ≤ old → at + n ≤ table_room → write_answer table_code old at n ≡ done
unfolding write_answer
accepts old at n h l = rw (le-leb at old h, le-leb (at + n) table_room l)

pub writes_go_in : WritesGoIn step_kept
unfolding step turn table_write_turn
writes_go_in now message out at s m w r begins ends =
    let d : Display = now.display in
    let e : Lent d (length now.text) (length now.table) (length out) = lent-sizes d (length now.text) (length now.table) (length out) w in
    let room : d.table.len ≤ table_room = (made_is_sound d m).room in
    rw (w, r, accepts d.table.len at (length s) begins ends)
    (refl, after_is now.table s d.table.len at begins (omega (arith, e.table)), refl)

-- ---- other messages

abbrev Keeps : TextKind → Display → List ℕ → List ℕ → Turn → Type 0
Keeps k d lent table t = Untouched k (keeping d lent table) (keeping t.display lent t.table)

table-read-keeps : (d : Display) (lent table : List ℕ) (c q : ℕ) → Keeps Capabilities d lent table (table_read_turn d lent table c q)
unfolding table_read_turn read_turn
table-read-keeps d lent table c q = go (eqb c table_code)
  where
    go : (t : Bool) → Keeps Capabilities d lent table (cond t (read_turn Table d lent table q) (refusal code_not_allowed d table (null to_host)))
    go true = (refl, refl)
    go false = (refl, refl)

table_write-keeps : (d : Display) (lent table : List ℕ) (c at : ℕ) (s : List ℕ) → Keeps Capabilities d lent table (table_write_turn d table c at s)
unfolding table_write_turn
table_write-keeps d lent table c at s = go (eqb (write_answer c d.table.len at (length s)) done) refl
  where
    go : (t : Bool) → eqb (write_answer c d.table.len at (length s)) done ≡ t → Keeps Capabilities d lent table (table_write_turn d table c at s)
    go true h = rw h (refl, refl)
    go false h = rw h (refl, refl)

-- of a code other than the table's
other-read-keeps : (d : Display) (lent table : List ℕ) (c q : ℕ) → eqb c table_code ≡ false → Keeps Table d lent table (table_read_turn d lent table c q)
unfolding table_read_turn
other-read-keeps d lent table c q h = rw h (refl, refl)

other_write_keeps : (d : Display) (lent table : List ℕ) (c at : ℕ) (s : List ℕ) → eqb c table_code ≡ false → Keeps Table d lent table (table_write_turn d table c at s)
unfolding table_write_turn write_answer
other_write_keeps d lent table c at s h = rw h (refl, refl)

timing-keeps : (k : TextKind) (d : Display) (lent table : List ℕ) → Keeps k d lent table (timing_turn d table)
unfolding timing_turn
timing-keeps k d lent table = go (eqb (reserved_bits d.settings.status) 0)
  where
    go : (t : Bool) → Keeps k d lent table (cond t (accepted d table (bytes_of (timing_of (timing_in d.settings)))) (refusal wrong_field d table no_reply))
    go true = (refl, refl)
    go false = (refl, refl)

settings_keep : (k : TextKind) (d : Display) (lent table : List ℕ) (c v : ℕ) → Keeps k d lent table (set_turn d table c v) × Keeps k d lent table (save_turn d table)
unfolding set_turn save_turn
settings_keep Capabilities d lent table c v = ((refl, refl), (refl, refl))
settings_keep Table d lent table c v = ((refl, refl), (refl, refl))

keeps : (k : TextKind) (d : Display) (lent table : List ℕ) (w : Bool) (r : Read Request) → touches k r ≡ false → Keeps k d lent table (cond w (turn_of d lent table r) (refusal wrong_size d table no_reply))
unfolding get_turn read_turn
keeps k d lent table false r h = (refl, refl)
keeps k d lent table true (refused n) h = (refl, refl)
keeps k d lent table true (ok (get_feature c)) h = (refl, refl)
keeps k d lent table true (ok (set_feature c v)) h = (settings_keep k d lent table c v).0
keeps k d lent table true (ok timing) h = timing-keeps k d lent table
keeps k d lent table true (ok save) h = (settings_keep k d lent table 0 0).1
keeps Capabilities d lent table true (ok (text q)) h = absurd (true≢false h)
keeps Table d lent table true (ok (text q)) h = (refl, refl)
keeps Capabilities d lent table true (ok (table_read c q)) h = table-read-keeps d lent table c q
keeps Table d lent table true (ok (table_read c q)) h = other-read-keeps d lent table c q h
keeps Capabilities d lent table true (ok (table_write c at s)) h = table_write-keeps d lent table c at s
keeps Table d lent table true (ok (table_write c at s)) h = other_write_keeps d lent table c at s h

pub others_keep : OthersKeep step_kept
unfolding step turn
others_keep k now message out h =
    keeps k now.display now.text now.table (lent_well now.display (length now.text) (length now.table) (length out)) (decode requests to_display message) h
