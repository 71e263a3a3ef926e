-- `entry` reads a record that is there.
use mathlib.Core.Path.{ap, ◌∙◌}
use mathlib.Core.List.{List, []}
use Prim.Native.Nat.{ℕ}
use native.Mathlib.Omega.{arith}
use lib.ListN.{get_or}
use Rattle.call_list.specs.Parts.{entry_at}
use Rattle.call_list.proofs.Laws.{entry-there, entry_past}
use Rattle.call_list.proofs.entry.Goals as goal

pub returns-in-Some : goal.returns-in-Some
returns-in-Some c =
    let a = c.args in
    let x = c.in-Some.ensures.lookup.3 in
    c.entry_in.ensures
    ∙ ap (λ (r : List ℕ). entry_at r 0) (x.1 [])
    ∙ ap (λ (rs : List (List ℕ)). entry_at (get_or rs a.number.0 []) 0) c.as_chunks.ensures.front
    ∙ entry-there a.list.now a.number.0 (omega (arith, x.0, c.as_chunks.ensures.front_len))

pub returns-in-None : goal.returns-in-None
returns-in-None c = let a = c.args in entry_past a.list.now a.number.0 (omega (arith, c.in-None.ensures.lookup.3, c.as_chunks.ensures.front_len))
