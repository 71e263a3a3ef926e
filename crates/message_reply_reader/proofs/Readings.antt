-- What the reader answers for a body of each kind: a line for each row of the table.
-- Assumes nothing.
use mathlib.Core.Path.{◌≡◌, refl, sym, ap, ◌∙◌}
use mathlib.Core.Bool.{Bool, true, false, cond, ◌&&◌}
use mathlib.Core.List.{List}
use Prim.Native.Nat.{ℕ, ◌+◌, ◌-◌, ◌/◌, ◌%◌, ◌≤◌, ◌<◌}
use native.Mathlib.Omega.{arith}
use lib.Dec.{eqb, ltb}
use lib.ListN.{length, get_or}
use Rattle.std.specs.Prelude.{Result, Ok, Err}
use Rattle.message_rules.specs.declared.refusal.Refusal.{Refusal}
use Rattle.message_rules.specs.declared.refusal.Refusal.TheVariants.{WrongField}
use Rattle.message_rules.specs.declared.TextKind.TheVariants.{Capabilities, Table}
use Rattle.message_rules.specs.declared.ReplyKind.{ReplyKind}
use Rattle.message_frame.specs.declared.Carried.{Carried}
use Rattle.message_rules.specs.declared.ReplyKind.TheVariants.{Value, TimingReply, TextFragment, TableFragment}
use Rattle.message_rules.specs.Read.{Read, ok, require, and_then}
use Rattle.message_rules.specs.Row as kind
use Rattle.message_rules.specs.Layout.{layout_of, least}
use Rattle.message_rules.specs.Body.{word}
use Rattle.message_rules.specs.Frame.{body_length}
use Rattle.message_rules.specs.Message.{as_message, replies, value, timing_reply, text_fragment, table_fragment, Reply}
use Rattle.message_frame.specs.Parts.{body_in}
use Rattle.message_frame.proofs.Fields.{placed_in, body_placed}
use Rattle.message_frame.proofs.Meanings.{means_of, means_as, rest_from}
use Rattle.message_reply_reader.specs.Outcome.{ReplyMeans}
use Rattle.message_reply_reader.specs.declared.ReplyRead.{ReplyRead}
use Rattle.message_reply_reader.specs.declared.ReplyRead.TheVariants as reply

-- the data of a fragment
abbrev pub fragment_in : List ℕ → Carried
fragment_in s = record { offset = record { 0 = word s 3 }; at = record { 0 = 5 }; len = body_length s - 3 }

-- 7 for a field that the paper does not allow
abbrev pub reply_at : ReplyKind → List ℕ → Result ReplyRead Refusal
reply_at Value s = cond (ltb (get_or s 3 0) 2 && ltb (get_or s 5 0) 2) (Ok (reply.Value (get_or s 3 0) (get_or s 4 0) (get_or s 5 0) (word s 6) (word s 8))) (Err WrongField)
reply_at TimingReply s = cond (eqb (get_or s 3 0 / 4 % 16) 0) (Ok (reply.Timing (get_or s 3 0) (word s 4) (word s 6))) (Err WrongField)
reply_at TextFragment s = Ok (reply.Fragment Capabilities (fragment_in s))
reply_at TableFragment s = Ok (reply.Fragment Table (fragment_in s))

-- a result that depends on the fields' rule
ruled : (s : List ℕ) (t : Bool) (r : Result ReplyRead Refusal) (m : Reply) → ReplyMeans s r (ok m) → ReplyMeans s (cond t r (Err WrongField)) (and_then (require t 7 (ok m)) ok)
ruled s true r m p = p
ruled s false r m p = record { means = refl; inside = tt }

-- the rule is judged before the message is made of its fields
require_as : (t : Bool) (m : Reply) (b : Read Reply) → b ≡ ok m → {B : Type 0} (x : B) (f : B → Read Reply) → f x ≡ b → and_then (require t 7 (ok x)) f ≡ and_then (require t 7 (ok m)) ok
require_as true m b e x f q = q ∙ e
require_as false m b e x f q = refl

reply_placed : (c : ReplyKind) (s : List ℕ) → body_length s + 3 ≤ length s → least (layout_of (kind.Reply c)) ≤ body_length s - 1 → ReplyMeans s (reply_at c s) (placed_in replies (kind.Reply c) s)
reply_placed Value s room h =
    let m : Reply = value (get_or s 3 0) (get_or s 4 0) (get_or s 5 0) (word s 6) (word s 8) in
    means_of (require_as (ltb (get_or s 3 0) 2 && ltb (get_or s 5 0) 2) m (ok m) refl _ (as_message replies) refl) (ruled s (ltb (get_or s 3 0) 2 && ltb (get_or s 5 0) 2) _ m (record { means = refl; inside = tt }))
reply_placed TimingReply s room h =
    let m : Reply = timing_reply (get_or s 3 0) (word s 4) (word s 6) in
    means_of (require_as (eqb (get_or s 3 0 / 4 % 16) 0) m (ok m) refl _ (as_message replies) refl) (ruled s (eqb (get_or s 3 0 / 4 % 16) 0) _ m (record { means = refl; inside = tt }))
reply_placed TextFragment s room h = record { means = ap (λ (l : List ℕ). ok (text_fragment (word s 3) l)) (rest_from s 3 2 (omega arith)); inside = (refl, omega arith) }
reply_placed TableFragment s room h = record { means = ap (λ (l : List ℕ). ok (table_fragment (word s 3) l)) (rest_from s 3 2 (omega arith)); inside = (refl, omega arith) }

pub reply-read : {c k : ReplyKind} (s : List ℕ) {r : Result ReplyRead Refusal} → 0 < body_length s → body_length s + 3 ≤ length s → least (layout_of (kind.Reply c)) ≤ body_length s - 1
    → c ≡ k → r ≡ reply_at k s → ReplyMeans s r (body_in replies (kind.Reply c) s)
reply-read {c} {k} s some room h e q =
    means_of (body_placed (kind.Reply c) s some room h replies) (means_as (q ∙ ap (λ (x : ReplyKind). reply_at x s) (sym e)) (reply_placed c s room h))

-- a Value and a Timing reply by the fields as they were taken
module _ (s : List ℕ) where
  pub value_read : {r c t m p : ℕ} → r ≡ get_or s 3 0 → c ≡ get_or s 4 0 → t ≡ get_or s 5 0 → m ≡ word s 6 → p ≡ word s 8 → ltb r 2 && ltb t 2 ≡ true → ◌≡◌ {A = Result ReplyRead Refusal} (Ok (reply.Value r c t m p)) (reply_at Value s)
  value_read d e f g h q = rw (← d, ← e, ← f, ← g, ← h, q)

  pub value_wrong : {r t : ℕ} → r ≡ get_or s 3 0 → t ≡ get_or s 5 0 → ltb r 2 && ltb t 2 ≡ false → ◌≡◌ {A = Result ReplyRead Refusal} (Err WrongField) (reply_at Value s)
  value_wrong d f q = rw (← d, ← f, q)

  pub timing-read : {st h v : ℕ} → st ≡ get_or s 3 0 → h ≡ word s 4 → v ≡ word s 6 → eqb (st / 4 % 16) 0 ≡ true → ◌≡◌ {A = Result ReplyRead Refusal} (Ok (reply.Timing st h v)) (reply_at TimingReply s)
  timing-read d g h q = rw (← d, ← g, ← h, q)
