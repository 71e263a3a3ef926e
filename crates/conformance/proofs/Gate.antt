-- Where a transfer is done, demand 3 says that the bytes read are the table; where the check accepts them, they are a list.
-- Assumes nothing.
use Prim.Native.Nat.{ℕ}
use mathlib.Core.Path.{◌≡◌, sym, ap, ap₂, ◌∙◌}
use mathlib.Core.List.{List}
use lib.ListN.{length, take, drop}
use lib.Seq.{take-append_seam}
use Rattle.message_rules.specs.declared.TextKind.TheVariants.{Table}
use Rattle.display_rules.specs.Kept.{Kept, StepRule, step_kept}
use Rattle.display_rules.specs.Statements.{whole}
use Rattle.transfer_rules.specs.declared.State.TheVariants.{Done}
use Rattle.transfer_rules.specs.Exchange.{Calls, rules, World, after_all}
use Rattle.transfer_rules.specs.Demand3.{start_of, EndClaim}
use Rattle.call_list_rules.specs.CallList.{check_list, entry_of}
use Rattle.call_list_rules.specs.Statements.{CheckRule, EntryRule, AcceptsExactly, EntriesGiven}
use Rattle.call_list_rules.specs.declared.Checked.{Checked}
use Rattle.call_list_rules.proofs.Theorems.{accepts-exactly, entries-given}
use Rattle.conformance.specs.BothEnds.{setup_of, BothEnds}
use Rattle.conformance.specs.Gate.{bytes_read, CallsOf, GateReads}
use Rattle.conformance.proofs.BothEnds.{both_ends}

-- the bytes that a done transfer has read
done-bytes : (now : Kept) (buffer : List ℕ) (budget : ℕ) (w : World) (m n : ℕ) → EndClaim (setup_of Table now buffer budget) w m n → w.transfer.state ≡ Done → bytes_read w ≡ whole Table now
done-bytes now buffer budget w m n claim d =
    let text = whole Table now in
    let held = claim.done d in
    ap₂ take held.0 held.2 ∙ take-append_seam text (drop (length text) buffer)

-- of any gate whose check accepts exactly the lists, and whose entries are theirs
module _ (c : Calls) (step : StepRule) (check : CheckRule) (entry : EntryRule) where
  pub accepted-calls : AcceptsExactly check → EntriesGiven entry → (table bytes : List ℕ) → bytes ≡ table → (check bytes).answer ≡ 0 → CallsOf check entry table bytes
  accepted-calls accepts gives table bytes e a =
      let x = accepts.is_one table (sym (ap (λ (s : List ℕ). (check s).answer) e) ∙ a) in
      record {
        same = e;
        calls = x.entries;
        is_list = x.is_list;
        number = ap (λ (s : List ℕ). (check s).entries) e ∙ ap (λ (r : Checked). r.entries) (accepts.every x.entries table x.is_list);
        given = λ k. ap (λ (s : List ℕ). entry s k) e ∙ gives x.entries table x.is_list k;
      }

  pub gate_reads_by : BothEnds c step → AcceptsExactly check → EntriesGiven entry → GateReads c step bytes_read check entry
  gate_reads_by ends accepts gives now out buffer budget ready es n between d a =
      let claim = (ends Table now out buffer budget ready es n between).2 in
      accepted-calls accepts gives (whole Table now) (bytes_read (after_all c (start_of c (setup_of Table now buffer budget)) es)) (done-bytes now buffer budget _ (length es) n claim d) a

-- of ours
pub gate_reads : GateReads rules step_kept bytes_read check_list entry_of
gate_reads = gate_reads_by rules step_kept check_list entry_of both_ends accepts-exactly entries-given
