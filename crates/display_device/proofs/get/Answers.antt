-- `display_device::get` meets its contract. What Get shows can always be sent.
use mathlib.Core.Path.{◌≡◌, refl, sym, ◌∙◌}
use mathlib.Core.Bool.{Bool, true, false}
use Prim.Native.Nat.{ℕ, ◌≤◌}
use native.Mathlib.Omega.{arith}
use mir.Val.{bool_byte}
use borrow.Author.Tests.{lt-ltb}
use Rattle.message_rules.specs.Message.{replies, encode}
use Rattle.settings_rules.specs.Results.{feature_of}
use Rattle.settings_rules.specs.Settings.{Feature, get_code, type_number}
use Rattle.settings_rules.proofs.Theorems.{get_is_sendable}
use Rattle.message_output.proofs.Outputs.{unwrapped}
use Rattle.display_rules.specs.Turn.{feature_reply}
use Rattle.display_pending.specs.Send.{Sent}
use Rattle.display_pending.proofs.Laws.{sent-allowed}
use Rattle.display_device.proofs.get.Goals.{in-Some, in-None}
use Rattle.display_device.proofs.get.Goals as goal

type_byte : (momentary : Bool) → bool_byte momentary ≡ type_number momentary
type_byte true = refl
type_byte false = refl

-- the fields that were put into the reply are those that Get shows
sends_shown : (c : goal.After-unwrap_or) (v : Feature) → v ≡ get_code c.args.s c.args.code → c.match-get.unknown ≡ (v.result, v.kind, v.maximum, v.present)
    → Sent true (encode replies c.args.a (feature_reply v)) c.args.out.now c.build_value.new.out c.unwrap_or.result
sends_shown c v shown fields =
    let sendable = get_is_sendable c.args.s c.args.code in
    let code : v.code ≡ c.args.code = rw shown sendable.0 in
    let result : v.result ≤ 1 = rw shown sendable.1 in
    let kind : v.kind ≤ 1 = rw shown sendable.2 in
    rw code (sent-allowed (rw fields at c.build_value.ensures) (rw (lt-ltb v.result 2 (omega arith), lt-ltb v.kind 2 (omega arith))) c.unwrap_or.result (c.unwrap_or.ensures ∙ unwrapped c.build_value.result))

pub returns : goal.returns
returns c =
    let v : Feature = feature_of c.args.code c.get.result in
    rw (← c.get.ensures)
    (elim c.match-get.branch [
      | in-Some w ↦ sends_shown c v c.get.ensures (rw (w.in-Some.is, ← type_byte w.in-Some.v.momentary, ← w.from.ensures) w.unknown-is)
      | in-None w ↦ sends_shown c v c.get.ensures (rw w.in-None.is w.unknown-is)
    ])
