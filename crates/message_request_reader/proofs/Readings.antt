-- What the reader answers for a body of each kind: a line for each row of the table.
-- Assumes nothing.
use mathlib.Core.Path.{◌≡◌, refl, sym, ap, ◌∙◌}
use mathlib.Core.List.{List}
use Prim.Native.Nat.{ℕ, ◌+◌, ◌-◌, ◌≤◌, ◌<◌}
use native.Mathlib.Omega.{arith}
use lib.ListN.{length, get_or}
use Rattle.message_rules.specs.declared.RequestKind.{RequestKind}
use Rattle.message_rules.specs.declared.RequestKind.TheVariants.{Get, Set, Timing, Save, Text, TableRead, TableWrite}
use Rattle.std.specs.Prelude.{Ok}
use Rattle.message_rules.specs.Read.{ok}
use Rattle.message_rules.specs.Row as kind
use Rattle.message_rules.specs.Layout.{layout_of, least}
use Rattle.message_rules.specs.Body.{word}
use Rattle.message_rules.specs.Frame.{body_length}
use Rattle.message_rules.specs.Message.{requests, table_write}
use Rattle.message_frame.specs.Parts.{body_in}
use Rattle.message_frame.proofs.Fields.{placed_in, body_placed}
use Rattle.message_frame.proofs.Meanings.{means_of, means_as, rest_from}
use Rattle.message_request_reader.specs.Outcome.{RequestMeans}
use Rattle.message_request_reader.specs.declared.RequestRead.{RequestRead}
use Rattle.message_request_reader.specs.declared.RequestRead.TheVariants as request

abbrev pub request_at : RequestKind → List ℕ → RequestRead
request_at Get s = request.Get (get_or s 3 0)
request_at Set s = request.Set (get_or s 3 0) (word s 4)
request_at Timing s = request.Timing
request_at Save s = request.Save
request_at Text s = request.Text (record { 0 = word s 3 })
request_at TableRead s = request.TableRead (get_or s 3 0) (record { 0 = word s 4 })
request_at TableWrite s = request.TableWrite (get_or s 3 0) (record { offset = record { 0 = word s 4 }; at = record { 0 = 6 }; len = body_length s - 4 })

request_placed : (c : RequestKind) (s : List ℕ) → body_length s + 3 ≤ length s → least (layout_of (kind.Request c)) ≤ body_length s - 1 → RequestMeans s (Ok (request_at c s)) (placed_in requests (kind.Request c) s)
request_placed Get s room h = record { means = refl; inside = tt }
request_placed Set s room h = record { means = refl; inside = tt }
request_placed Timing s room h = record { means = refl; inside = tt }
request_placed Save s room h = record { means = refl; inside = tt }
request_placed Text s room h = record { means = refl; inside = tt }
request_placed TableRead s room h = record { means = refl; inside = tt }
request_placed TableWrite s room h = record { means = ap (λ (l : List ℕ). ok (table_write (get_or s 3 0) (word s 4) l)) (rest_from s 4 3 (omega arith)); inside = (refl, omega arith) }

pub request-read : {c k : RequestKind} (s : List ℕ) {r : RequestRead} → 0 < body_length s → body_length s + 3 ≤ length s → least (layout_of (kind.Request c)) ≤ body_length s - 1
    → c ≡ k → r ≡ request_at k s → RequestMeans s (Ok r) (body_in requests (kind.Request c) s)
request-read {c} {k} s some room h e q =
    means_of (body_placed (kind.Request c) s some room h requests) (means_as (ap Ok (q ∙ ap (λ (x : RequestKind). request_at x s) (sym e))) (request_placed c s room h))
