-- How far demand 3 reaches, over any three calls: which lists of exchanges its suppositions leave out, that it cannot do without them, and that its bound is tight.
use Rattle.std.specs.Prelude.{ℕ, ◌+◌, ◌≡◌, List, true, length}
use Rattle.message_rules.specs.Message.{Valid, replies}
use Rattle.message_rules.specs.declared.TextKind.{TextKind}
use Rattle.transfer_rules.specs.declared.State.TheVariants.{Done, Exhausted}
use Rattle.transfer_rules.specs.Fragment.{fragment_for, fragment_message}
use Rattle.transfer_rules.specs.Transfer.{is_open}
use Rattle.transfer_rules.specs.Exchange.{Calls, World, Exchange, Begins, Replied, after_all, Each, Follows, Course}
use Rattle.transfer_rules.specs.Demand3.{Setup, Supposed, enough, start_of, CourseOf}

module _ (c : Calls) where
  -- ---- which lists are left out

  -- an exchange with a conforming display, in which a fragment of the text's kind at the offset reached comes only as that display's own whole reply
  pub record Genuine (kind : TextKind) (text : List ℕ) (w : World) (e : Exchange) : Type 0 where
    pub follows : Follows c kind text w e
    pub own : is_open w.transfer ≡ true → (d : List ℕ) → Valid replies (fragment_for kind w.transfer.reached.0 d) →
        Begins e.came (fragment_message kind w.transfer.reached.0 d) → Replied e

  -- every list of such exchanges meets what is supposed, and no other does: only a foreign fragment at the very offset is left out
  pub record Covers : Type 0 where
    pub met : (s : Setup) → Supposed s → (es : List Exchange) → Each c (Genuine s.kind s.text) (start_of c s) es → (n : ℕ) × CourseOf c s es n
    pub only : (kind : TextKind) (text : List ℕ) (w : World) (es : List Exchange) (n : ℕ) → Course c kind text w es n → Each c (Genuine kind text) w es

  -- ---- what is supposed is needed: a list in which the display conforms, but the line forges a fragment, after which the transfer says done and holds another text
  pub record Needed : Type 0 where
    pub setup : Setup
    pub supposed : Supposed setup
    pub exchanges : List Exchange
    pub follows : Each c (Follows c setup.kind setup.text) (start_of c setup) exchanges
    pub ends : (after_all c (start_of c setup) exchanges).transfer.state ≡ Done
    pub another : (after_all c (start_of c setup) exchanges).accepted ≡ setup.text → ⊥

  -- ---- no fewer are enough: a list of one exchange less, with a budget of one less, of which none is corrupted, ends exhausted
  pub record Tight : Type 0 where
    pub setup : Setup
    pub supposed : Supposed setup
    pub exchanges : List Exchange
    pub course : CourseOf c setup exchanges 0
    pub one_less : length exchanges + 1 ≡ enough (length setup.text) 0
    pub budget_less : setup.budget + 1 ≡ enough (length setup.text) 0
    pub ends : (after_all c (start_of c setup) exchanges).transfer.state ≡ Exhausted
