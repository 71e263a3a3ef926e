-- What the table's half of requests makes of a message: the form of its length byte, and behind a right frame its kind or the refusal that `decode` gives.
-- Assumes nothing.
use mathlib.Core.Path.{◌≡◌, refl, sym, ap, ◌∙◌, subst}
use Prim.Native.Nat.{ℕ, ◌<◌}
use mathlib.Core.List.{List}
use Rattle.std.specs.Prelude.{Result}
use lib.ListN.{get_or}
use Rattle.message_rules.specs.declared.Address.{Address}
use Rattle.message_rules.specs.declared.Direction.TheVariants as way
use Rattle.message_rules.specs.Row.{Row, Known, Unknown}
use Rattle.message_rules.specs.Row as kind
use Rattle.message_rules.specs.Layout.{row_of}
use Rattle.message_rules.specs.Frame.{plain_row, body_length, frame_answer}
use Rattle.message_rules.specs.Message.{requests}
use Rattle.message_rules.proofs.Rows.{found}
use Rattle.message_frame.proofs.Parts.{decode-unknown}
use Rattle.message_frame.proofs.Verdicts.{never, row-holds}
use Rattle.message_rules.specs.declared.RequestKind.{RequestKind}
use Rattle.message_rules.specs.declared.refusal.Refusal.{Refusal}
use Rattle.message_frame.specs.declared.row.SizedRow.{SizedRow}
use Rattle.message_frame.specs.Meaning.{Holds}
use Rattle.message_frame.specs.Verdict.{read_of}
use Rattle.message_request_reader.specs.Table.{request_row}

-- the row of the number k that stands in the slice, for a body of n bytes
module _ (a : Address) (s : List ℕ) (n : ℕ) {k : ℕ} {row : SizedRow RequestKind} (q : row ≡ request_row (row_of way.Request k) n) (e : k ≡ get_or s 2 0) where
  row_is : row ≡ request_row (row_of way.Request (get_or s 2 0)) n
  row_is = q ∙ ap (λ (j : ℕ). request_row (row_of way.Request j) n) e

  pub request_form : row.plain ≡ plain_row (row_of way.Request (get_or s 2 0))
  request_form = ap (λ (r : SizedRow RequestKind). r.plain) row_is ∙ go (row_of way.Request (get_or s 2 0)) refl
    where
      go : (r : Row) → row_of way.Request (get_or s 2 0) ≡ r → (request_row r n).plain ≡ plain_row r
      go (Known (kind.Request c) l) p = refl
      go (Known (kind.Reply c) l) p = never (found way.Request (get_or s 2 0) (kind.Reply c) l p).way
      go Unknown p = refl

  pub request-holds : n ≡ body_length s → 0 < body_length s → frame_answer way.Request a s ≡ 0 → Holds requests kind.Request a s (read_of row.verdict)
  request-holds m some z =
      subst (λ (v : Result RequestKind Refusal). Holds requests kind.Request a s (read_of v)) (sym (ap (λ (r : SizedRow RequestKind). r.verdict) (row_is ∙ ap (request_row (row_of way.Request (get_or s 2 0))) m))) (go (row_of way.Request (get_or s 2 0)) refl)
    where
      go : (r : Row) → row_of way.Request (get_or s 2 0) ≡ r → Holds requests kind.Request a s (read_of (request_row r (body_length s)).verdict)
      go (Known (kind.Request c) l) p = row-holds requests kind.Request a s some z c l p
      go (Known (kind.Reply c) l) p = never (found way.Request (get_or s 2 0) (kind.Reply c) l p).way
      go Unknown p = decode-unknown requests a s z some p
