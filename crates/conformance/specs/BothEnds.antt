-- Demand 3 (document 01, "The read run") of the two ends of this build together, since its display is a conforming
-- one (Conformance.antt).
-- Over any three calls of a host and any rule for a display's steps.
use Rattle.std.specs.Prelude.{ℕ, suc, ◌≤◌, ◌<◌, ◌≡◌, true, false, List, [], ◌∷◌, length, take}
use Rattle.std.proofs.Math.Option.{some}
use Rattle.checksum.specs.Bytes.{Bytes}
use Rattle.message_rules.specs.Message.{requests, decode, to_display}
use Rattle.message_rules.specs.declared.TextKind.{TextKind}
use Rattle.codes.specs.Codes.{all_codes}
use Rattle.settings_rules.specs.declared.Declaration.{Declaration}
use Rattle.display_rules.specs.State.{cursor_of}
use Rattle.display_rules.specs.Step.{Outcome}
use Rattle.display_rules.specs.Kept.{Kept, RightSizes, StepRule, kept_after, kept_declared, kept_loaded}
use Rattle.display_rules.specs.Statements.{Made, whole, touches}
use Rattle.transfer_rules.specs.Limits.{most_budget}
use Rattle.transfer_rules.specs.Fragment.{request_message}
use Rattle.transfer_rules.specs.Transfer.{is_open}
use Rattle.transfer_rules.specs.Exchange.{Calls, Turn, ignores, acts, World, Exchange, Replied, Corrupted, sent, after, after_all, Course}
use Rattle.transfer_rules.specs.Demand3.{Setup, start_of, Claims}
use Rattle.conformance.specs.Conformance.{held}

-- the turn that a step's outcome is: its fragment cursor, and the reply that it left in the output
abbrev pub turn_of : TextKind → ℕ → Outcome → Turn
turn_of k q o = acts q (held (cursor_of k o.display)) (take o.len o.out)

module _ (c : Calls) (step : StepRule) (k : TextKind) where
  -- "Each exchange feeds it only the request that asking returned, or nothing": from what is kept before the turn to
  -- what is kept after it
  pub data DisplayTurn (w : World) (e : Exchange) (now : Kept) : Kept → Type 0 where
    missed : e.turn ≡ ignores → DisplayTurn w e now now
    -- the display's step on the very request that was sent, with buffers of the right sizes
    stepped : (q : ℕ) (out : List ℕ) → sent c w e ≡ some (request_message k q) → q < 65536 → RightSizes now out →
        e.turn ≡ turn_of k q (step now (request_message k q) out) → DisplayTurn w e now (kept_after now (step now (request_message k q) out))

  -- A list of exchanges between the two ends, of which n are corrupted: as `Course`, but each turn is the display's
  -- own. Between exchanges the display may act on any message that is neither a request for this text nor a write to
  -- it, a code may be declared, and a profile loaded.
  pub data Between : Kept → World → List Exchange → ℕ → Type 0 where
    ended : {now : Kept} {w : World} → Between now w [] 0
    answered : {now next : Kept} {w : World} {e : Exchange} {es : List Exchange} {n : ℕ} → Bytes e.came →
        DisplayTurn w e now next → is_open w.transfer ≡ true → Replied e → Between next (after c w e) es n → Between now w (e ∷ es) n
    corrupted : {now next : Kept} {w : World} {e : Exchange} {es : List Exchange} {n : ℕ} → Bytes e.came →
        DisplayTurn w e now next → Corrupted k w e → Between next (after c w e) es n → Between now w (e ∷ es) (suc n)
    closed : {now next : Kept} {w : World} {e : Exchange} {es : List Exchange} {n : ℕ} → Bytes e.came →
        DisplayTurn w e now next → is_open w.transfer ≡ false → Between next (after c w e) es n → Between now w (e ∷ es) n
    others : {now : Kept} {w : World} {es : List Exchange} {n : ℕ} (message out : List ℕ) → Bytes message →
        touches k (decode requests to_display message) ≡ false → Between (kept_after now (step now message out)) w es n → Between now w es n
    declares : {now : Kept} {w : World} {es : List Exchange} {n : ℕ} (x : Declaration) → x.code < all_codes →
        Between (kept_declared now x) w es n → Between now w es n
    loads : {now : Kept} {w : World} {es : List Exchange} {n : ℕ} (profile : List ℕ) → Between (kept_loaded now profile) w es n → Between now w es n

-- such a list is one with a conforming display, which holds the display's text; the host's calls may be any
abbrev pub IsCourse : StepRule → Type 0
IsCourse step =
    (c : Calls) (k : TextKind) (now : Kept) (w : World) (es : List Exchange) (n : ℕ) →
    Made step now.display → w.cursor ≡ held (cursor_of k now.display) → Between c step k now w es n → Course c k (whole k now) w es n

-- a display that calls have made, with a capabilities string and a table's buffer of the right sizes, and a transfer
-- of either text with an allowed budget and room for the text
pub record Ready (step : StepRule) (k : TextKind) (now : Kept) (out buffer : List ℕ) (budget : ℕ) : Type 0 where
  pub is_made : Made step now.display
  pub sizes : RightSizes now out
  pub bytes : Bytes (whole k now)
  pub fits : length (whole k now) ≤ length buffer
  pub allowed : budget ≤ most_budget

-- what demand 3 supposes of such a transfer: the text is the display's, and so is the cursor
abbrev pub setup_of : TextKind → Kept → (buffer : List ℕ) (budget : ℕ) → Setup
setup_of k now buffer budget = record { kind = k; text = whole k now; buffer = buffer; budget = budget; cursor = held (cursor_of k now.display) }

-- the corollary: from there, demand 3's claims hold of every list of exchanges between the two
abbrev pub BothEnds : Calls → StepRule → Type 0
BothEnds c step =
    (k : TextKind) (now : Kept) (out buffer : List ℕ) (budget : ℕ) → Ready step k now out buffer budget → let s = setup_of k now buffer budget in
    (es : List Exchange) (n : ℕ) → Between c step k now (start_of c s) es n → Claims c s es n

-- after any such list, a request that is sent is for an offset below 65,536: the bound that `stepped` takes is always
-- met
abbrev pub OffsetsFit : Calls → StepRule → Type 0
OffsetsFit c step =
    (k : TextKind) (now : Kept) (out buffer : List ℕ) (budget : ℕ) → Ready step k now out buffer budget → let s = setup_of k now buffer budget in
    (es : List Exchange) (n : ℕ) → Between c step k now (start_of c s) es n →
    (e : Exchange) (q : ℕ) → sent c (after_all c (start_of c s) es) e ≡ some (request_message k q) → q < 65536
