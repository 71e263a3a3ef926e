-- A list that is accepted ends where its last record does.
use mathlib.Core.Path.{sym, ap, ◌∙◌}
use Prim.Native.Nat.{ℕ}
use lib.ListN.{length}
use Rattle.call_list_rules.specs.declared.Checked.{Checked}
use Rattle.call_list_rules.proofs.Theorems.{accepts-exactly}
use Rattle.ddcci.proofs.calls.ddcci_check_call_list.Goals as goal

pub returns-in-Ok : goal.returns-in-Ok
returns-in-Ok c =
    let s = c.args.list.now in
    let e = c.in-Ok.ensures in
    let x = accepts-exactly.is_one s (sym (ap (λ (r : Checked). r.answer) e)) in
    let q = accepts-exactly.every x.entries s x.is_list in
    ap (λ (n : ℕ). record { answer = 0; entries = n; position = record { 0 = length s } }) (ap (λ (r : Checked). r.entries) (e ∙ q)) ∙ sym q
