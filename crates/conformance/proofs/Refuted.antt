-- A wrong gate, and that `GateReads` does not hold of it: it takes its whole buffer for the list, also what stood there
-- before the text came.
-- Assumes nothing.
use Prim.Native.Nat.{ℕ}
use mathlib.Core.Path.{◌≡◌, refl, sym, ap, subst, ◌∙◌}
use mathlib.Core.Bool.{Bool, true, false, cond}
use mathlib.Core.List.{List, [], ◌++◌}
use native.Mathlib.Omega.{arith}
use lib.ListN.{length, take, drop, replicate, length-replicate}
use lib.Dec.{eqb}
use Rattle.checksum.specs.Bytes as bytes
use Rattle.message_rules.specs.Answer.{done}
use Rattle.message_rules.specs.declared.TextKind.TheVariants.{Table}
use Rattle.settings_rules.specs.Settings.{empty_settings, start_with}
use Rattle.settings_rules.specs.declared.Settings.{Settings}
use Rattle.settings_rules.specs.declared.Timing.{Timing}
use Rattle.display_rules.specs.State.{fresh, start_answer, start}
use Rattle.display_rules.specs.Step.{lent_well}
use Rattle.display_rules.specs.Kept.{Kept, step_kept}
use Rattle.display_rules.specs.Statements as made
use Rattle.display_rules.specs.Statements.{whole}
use Rattle.display_rules.specs.declared.Display.{Display}
use Rattle.transfer_rules.specs.Exchange.{rules, after_all}
use Rattle.transfer_rules.specs.Demand3.{start_of}
use Rattle.records.specs.Records.{begins_with}
use Rattle.call_list_rules.specs.CallList.{among, record_answer, first_refused, check_list, entry_of}
use Rattle.call_list_rules.specs.Statements.{record_then}
use Rattle.conformance.specs.BothEnds.{Ready, setup_of}
use Rattle.conformance.specs.Gate.{TakeRule, GateReads}
use Rattle.conformance.proofs.Undisturbed.{undisturbed}

-- ---- a display that was started, with an empty table

abbrev timing : Timing
timing = record { status = 0; horizontal = 0; vertical = 0 }

abbrev out : List ℕ
out = replicate 38 0

abbrev now : Kept
now = record { display = (start timing 0 1).display; text = []; table = replicate 1024 0 }

-- refused or not, it has no text and no table
pub record Empty (d : Display) : Type 0 where
  pub table : d.table.len ≡ 0
  pub sizes : lent_well d 0 1024 38 ≡ true

either : (b : Bool) (s e : Settings) → Empty (cond b (fresh s 0 1) (fresh e 0 1))
either true s e = record { table = refl; sizes = refl }
either false s e = record { table = refl; sizes = refl }

is_empty : Empty now.display
unfolding start
is_empty = either (eqb (start_answer (start_with timing).answer 0 1) done) (start_with timing).settings empty_settings

no_table : whole Table now ≡ []
no_table = ap (λ (n : ℕ). take n now.table) is_empty.table

-- ---- a gate whose buffer holds a record from before

abbrev before : List ℕ
before = record_then 1 0 0 0 7 0 0 0 []

ready : Ready step_kept Table now out before 1
ready = record {
  is_made = made.started timing 0 1;
  sizes = is_empty.sizes;
  bytes = subst bytes.Bytes (sym no_table) bytes.none;
  fits = omega (arith, ap length no_table);
  allowed = omega arith;
}

abbrev whole_buffer : TakeRule
whole_buffer w = w.buffer

-- the empty table is read, and the old record is called
pub whole-buffer_refuted : GateReads rules step_kept whole_buffer check_list entry_of → ⊥
unfolding check_list first_refused record_answer among begins_with
whole-buffer_refuted h =
    let r = undisturbed Table now out out before 1 ready (omega (arith, length-replicate {A = ℕ} 38 0)) (omega (arith, ap length no_table)) in
    let w = after_all rules (start_of rules (setup_of Table now before 1)) r.exchanges in
    let held : w.buffer ≡ before = r.holds ∙ ap (λ (t : List ℕ). t ++ drop (length t) before) no_table in
    let calls = h now out before 1 ready r.exchanges 0 r.between r.is_done (ap (λ (t : List ℕ). (check_list t).answer) held) in
    let e : ◌≡◌ {A = ℕ} 12 0 = ap length (sym held ∙ calls.same ∙ no_table) in
    omega arith
