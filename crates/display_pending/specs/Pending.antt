-- What a message leaves to be done to the display once it was judged and answered, and what the step comes to when that is done.
use Rattle.std.specs.Prelude.{ℕ, ◌≡◌, cond, List, length, eqb, Option, Some, None, Result, Ok, Err}
use Rattle.message_rules.specs.Answer.{done, wrong_size}
use Rattle.message_rules.specs.Message.{Request, get_feature, set_feature, timing, save, text, table_read, table_write, requests, decode, to_display}
use Rattle.message_rules.specs.Read.{Read, ok, refused}
use Rattle.message_rules.specs.Refusal as refusals
use Rattle.message_rules.specs.declared.refusal.Refusal.{Refusal}
use Rattle.settings_rules.specs.Settings.{judge_set, with_present, save_all}
use Rattle.settings_rules.specs.Settings.{Judgement}
use Rattle.settings_rules.specs.declared.Settings.{Settings}
use Rattle.display_rules.specs.State.{unsent, with_settings, with_table, with_cursor}
use Rattle.display_rules.specs.Turn.{Turn}
use Rattle.display_rules.specs.Step.{obey, turn_of, lent_well, Outcome}
use Rattle.display_rules.specs.declared.Display.{Display}
use Rattle.display_rules.specs.declared.Fragment.{Fragment}
use Rattle.display_pending.specs.declared.Pending.{Pending}
use Rattle.display_pending.specs.declared.Pending.TheVariants.{Store, Save, Moved, Written, Replied, Momentary, Refused}

-- ---- what is to be done

-- a reply of n bytes was sent: without a fragment, or with the one that was found
abbrev pub replied : Option Fragment → (n : ℕ) → Pending
replied None n = Replied n
replied (Some f) n = Moved f n

-- a message that is answered with 0, by what its rule makes of it; "Momentary: accepted, nothing stored"
abbrev pub pending_done : Display → Request → Turn → Pending
pending_done d (get_feature c) t = replied t.found (length t.reply)
pending_done d (set_feature c v) t = cond (judge_set d.settings c v).stored (Store c v) Momentary
pending_done d timing t = replied t.found (length t.reply)
pending_done d save t = Save
pending_done d (text q) t = replied t.found (length t.reply)
pending_done d (table_read c q) t = replied t.found (length t.reply)
pending_done d (table_write c at s) t = Written t.display.table.len

-- any other answer is a refusal, with the reply that goes with it
abbrev pub pending_by : Display → Request → Turn → Pending
pending_by d m t = cond (eqb t.answer done) (pending_done d m t) (Refused t.answer (length t.reply))

-- what was read
abbrev pub pending_for : Display → (lent table : List ℕ) → Read Request → Pending
pending_for d lent table (ok m) = pending_by d m (obey d lent table m)
pending_for d lent table (refused k) = Refused k (length (turn_of d lent table (refused k)).reply)

-- a message, with the buffers that are lent for it
unfoldable pub pending_of : Display → (lent table message out : List ℕ) → Pending
pending_of d lent table message out =
    cond (lent_well d (length lent) (length table) (length out))
    (pending_for d lent table (decode requests to_display message))
    (Refused wrong_size 0)

-- ---- by the parts that judge

-- a Set, by the settings' judgement; "Momentary: accepted, nothing stored. Else present is the value."
abbrev pub pending_judged : (code value : ℕ) → Judgement → Pending
pending_judged c v j = cond j.stored (Store c v) (cond (eqb j.answer done) Momentary (Refused j.answer 0))

abbrev pub pending_set : Settings → (code value : ℕ) → Pending
pending_set s c v = pending_judged c v (judge_set s c v)

-- a reply without a fragment, by what its builder answered
abbrev pub pending_built : Result ℕ Refusal → Pending
pending_built (Ok n) = Replied n
pending_built (Err r) = Refused (refusals.number_of r) 0

-- ---- what the step comes to when it is done

-- an answer without a fragment
abbrev pub answered : Display → (answer length : ℕ) → (table out : List ℕ) → Outcome
answered d k n table out = record { display = d; answer = k; len = n; found = None; table = table; out = out }

-- with the two buffers as the message left them
abbrev pub carried : Display → Pending → (table out : List ℕ) → Outcome
carried d (Store c value) table out = answered (with_settings d (with_present d.settings c value)) done 0 table out
carried d Save table out = answered (with_settings d (save_all d.settings)) done 0 table out
carried d (Moved f n) table out = record { display = with_cursor f.kind d f.cursor; answer = done; len = n; found = Some f; table = table; out = out }
carried d (Written n) table out = answered (with_table d (unsent n)) done 0 table out
carried d (Replied n) table out = answered d done n table out
carried d Momentary table out = answered d done 0 table out
carried d (Refused k n) table out = answered d k n table out

-- What a function returned is what is to be done; with that done, and the two buffers as it left them, the step has its outcome.
pub record Prepares (d : Display) (p : Pending) (o : Outcome) (r : Pending) (table out : List ℕ) : Type 0 where
  pub pending : r ≡ p
  pub comes : carried d r table out ≡ o
