-- The number declared is the number of codes that are declared, and only an accepted declaration changes it.
use mathlib.Core.Path.{◌≡◌, refl, ap}
use mathlib.Core.Bool.{Bool, true, false, cond, not, ◌&&◌}
use mathlib.Core.List.{List}
use Prim.Native.Nat.{ℕ, ◌+◌}
use native.Mathlib.Omega.{arith}
use lib.ListN.{length}
use lib.Dec.{eqb}
use borrow.Author.Tests.{eqb-true, eqb-false}
use Rattle.codes.specs.Codes.{member, count_of}
use Rattle.message_rules.specs.Answer.{done, wrong_size, wrong_field, code_not_allowed}
use Rattle.message_rules.specs.Message.{Request, get_feature, set_feature, timing, save, text, table_read, table_write, requests, decode, null, to_display, to_host}
use Rattle.message_rules.specs.Read.{Read, ok, refused}
use Rattle.message_rules.specs.Message.{table_code}
use Rattle.settings_rules.specs.Settings.{reserved_bits, declare_code, set_answer, set_code, with_present, save_all, timing_in}
use Rattle.settings_rules.proofs.Theorems.{counts_the_declared, declaring-counts-one, refused-declare-keeps}
use Rattle.settings_rules.specs.declared.Settings.{Settings}
use Rattle.display_rules.specs.State.{declare}
use Rattle.display_rules.specs.Turn.{Turn, refusal, accepted, no_reply, bytes_of, timing_of, get_turn, set_turn, save_turn, timing_turn}
use Rattle.display_rules.specs.Fragments.{read_turn, table_read_turn}
use Rattle.display_rules.specs.Table.{write_answer, table_write_turn}
use Rattle.display_rules.specs.Step.{turn_of, lent_well, turn, step}
use Rattle.display_rules.specs.Kept.{step_kept}
use Rattle.display_rules.specs.Statements.{NumberDeclared, DeclaringAddsOne, StepsDeclareNone}
use Rattle.message_rules.specs.declared.TextKind.{TextKind}
use Rattle.message_rules.specs.declared.TextKind.TheVariants.{Capabilities, Table}
use Rattle.display_rules.specs.declared.Display.{Display}
use Rattle.display_rules.proofs.Sound.{made_is_sound}

pub number-declared : NumberDeclared
number-declared d = counts_the_declared d.settings

pub declaring_adds_one : DeclaringAddsOne step_kept
unfolding declare
declaring_adds_one d e m h = go (eqb (declare_code d.settings e).answer done) refl
  where
    go : (t : Bool) → eqb (declare_code d.settings e).answer done ≡ t
        → count_of (declare_code d.settings e).settings.declared ≡ count_of d.settings.declared + cond t 1 0
    go true a = declaring-counts-one d.settings e (made_is_sound d m).settings.sized h (eqb-true _ _ a)
    go false a =
        let k : count_of (declare_code d.settings e).settings.declared ≡ count_of d.settings.declared = ap (λ (s : Settings). count_of s.declared) (refused-declare-keeps d.settings e (eqb-false _ _ a)) in
        omega arith

abbrev Same : Display → Turn → Type 0
Same d t = t.display.settings.declared ≡ d.settings.declared

read_same : (k : TextKind) (d : Display) (lent table : List ℕ) (q : ℕ) → Same d (read_turn k d lent table q)
unfolding read_turn
read_same Capabilities d lent table q = refl
read_same Table d lent table q = refl

set_same : (d : Display) (table : List ℕ) (c v : ℕ) → Same d (set_turn d table c v)
unfolding set_turn set_code with_present
set_same d table c v = go (eqb (set_answer d.settings c v) done && not (member d.settings.momentary c))
  where
    go : (t : Bool) → (cond t (with_present d.settings c v) d.settings).declared ≡ d.settings.declared
    go true = refl
    go false = refl

timing-same : (d : Display) (table : List ℕ) → Same d (timing_turn d table)
unfolding timing_turn
timing-same d table = go (eqb (reserved_bits d.settings.status) 0)
  where
    go : (t : Bool) → Same d (cond t (accepted d table (bytes_of (timing_of (timing_in d.settings)))) (refusal wrong_field d table no_reply))
    go true = refl
    go false = refl

table-read-same : (d : Display) (lent table : List ℕ) (c q : ℕ) → Same d (table_read_turn d lent table c q)
unfolding table_read_turn
table-read-same d lent table c q = go (eqb c table_code)
  where
    go : (t : Bool) → Same d (cond t (read_turn Table d lent table q) (refusal code_not_allowed d table (null to_host)))
    go true = read_same Table d lent table q
    go false = refl

write_same : (d : Display) (table : List ℕ) (c at : ℕ) (s : List ℕ) → Same d (table_write_turn d table c at s)
unfolding table_write_turn
write_same d table c at s = go (eqb (write_answer c d.table.len at (length s)) done) refl
  where
    go : (t : Bool) → eqb (write_answer c d.table.len at (length s)) done ≡ t → Same d (table_write_turn d table c at s)
    go true h = rw h
    go false h = rw h

same : (d : Display) (lent table : List ℕ) (w : Bool) (r : Read Request) → Same d (cond w (turn_of d lent table r) (refusal wrong_size d table no_reply))
unfolding get_turn save_turn save_all
same d lent table false r = refl
same d lent table true (refused k) = refl
same d lent table true (ok (get_feature c)) = refl
same d lent table true (ok (set_feature c v)) = set_same d table c v
same d lent table true (ok timing) = timing-same d table
same d lent table true (ok save) = refl
same d lent table true (ok (text q)) = read_same Capabilities d lent table q
same d lent table true (ok (table_read c q)) = table-read-same d lent table c q
same d lent table true (ok (table_write c at s)) = write_same d table c at s

pub steps_declare_none : StepsDeclareNone step_kept
unfolding step turn
steps_declare_none now message out =
    same now.display now.text now.table (lent_well now.display (length now.text) (length now.table) (length out)) (decode requests to_display message)
