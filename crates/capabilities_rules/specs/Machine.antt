-- The grammar as a machine that takes one byte at a time: the kinds of byte, what each does, and where the reader then stands.
-- No limit of length or room is in it.
use Rattle.std.specs.Prelude.{ℕ, zero, suc, Bool, true, false, cond, ◌&&◌, List, [], ◌∷◌, leb, eqb}
use Rattle.std.proofs.Math.Option.{Option, none, some}
use Rattle.capabilities_rules.specs.Limits.{deepest}
use Rattle.capabilities_rules.specs.Kinds.{ByteKind}
use Rattle.capabilities_rules.specs.Kinds.{Open, Close, Space, Letter, Zero, Other}
use Rattle.capabilities_rules.specs.Kinds.{Mode}
use Rattle.capabilities_rules.specs.Kinds.{Free, Word, Gap}
use Rattle.capabilities_rules.specs.Kinds.{Act}
use Rattle.capabilities_rules.specs.Kinds.{Enter, Leave, Begin, Extend, Skip, Refuse}

-- "(" is 28, ")" is 29, a space 20, a zero byte 00; a letter is any other byte from 21 to 7E
unfoldable pub kind_of : ℕ → ByteKind
kind_of b =
    cond (eqb b 0x28) Open
    (cond (eqb b 0x29) Close
    (cond (eqb b 0x20) Space
    (cond (leb 0x21 b && leb b 0x7e) Letter
    (cond (eqb b 0) Zero Other))))

abbrev pub is_letter : ByteKind → Bool
is_letter Open = false
is_letter Close = false
is_letter Space = false
is_letter Letter = true
is_letter Zero = false
is_letter Other = false

-- What a byte does in a group. Free: no word stands there that could take a group; Word: within a word; Gap: past a word
-- and the spaces after it.
abbrev pub act_of : Mode → ByteKind → Act
act_of Free Open = Refuse
act_of Free Close = Leave
act_of Free Space = Skip
act_of Free Letter = Begin
act_of Free Zero = Refuse
act_of Free Other = Refuse
act_of Word Open = Enter
act_of Word Close = Leave
act_of Word Space = Skip
act_of Word Letter = Extend
act_of Word Zero = Refuse
act_of Word Other = Refuse
act_of Gap Open = Enter
act_of Gap Close = Leave
act_of Gap Space = Skip
act_of Gap Letter = Begin
act_of Gap Zero = Refuse
act_of Gap Other = Refuse

-- the mode after a space
abbrev pub pause_of : Mode → Mode
pause_of Free = Free
pause_of Word = Gap
pause_of Gap = Gap

-- Where a reader stands: before the outer group, inside it, or after it. `inside d m`: d groups are open around the
-- innermost one, which stands at m.
pub data Phase : Type 0 where
  before : Phase
  inside : ℕ → Mode → Phase
  after : Phase

-- what a byte of kind k does; Refuse where it cannot stand. Behind the outer group only zero bytes can, and they are skipped.
abbrev pub act : Phase → ByteKind → Act
act before Open = Enter
act before Close = Refuse
act before Space = Refuse
act before Letter = Refuse
act before Zero = Refuse
act before Other = Refuse
act (inside d m) k = act_of m k
act after Open = Refuse
act after Close = Refuse
act after Space = Refuse
act after Letter = Refuse
act after Zero = Skip
act after Other = Refuse

-- past a ")" that d groups stand around
abbrev pub leaving : ℕ → Phase
leaving zero = after
leaving (suc d) = inside d Free

-- where the reader stands after an act that is no refusal
abbrev pub to : Phase → Act → Phase
to before a = inside 0 Free
to (inside d m) Enter = inside (suc d) Free
to (inside d m) Leave = leaving d
to (inside d m) Begin = inside d Word
to (inside d m) Extend = inside d Word
to (inside d m) Skip = inside d (pause_of m)
to (inside d m) Refuse = inside d m
to after a = after

-- how many groups are open
abbrev pub depth : Phase → ℕ
depth before = 0
depth (inside d m) = suc d
depth after = 0

abbrev pub moved : Act → Option Phase → Option Phase
moved Enter r = r
moved Leave r = r
moved Begin r = r
moved Extend r = r
moved Skip r = r
moved Refuse r = none

-- the act of a byte where nothing caps the depth
abbrev pub uncapped : Phase → Act → Act
uncapped p a = a

-- the act of a byte where groups may nest at most 8 deep
abbrev pub capped : Phase → Act → Act
capped p Enter = cond (leb deepest (depth p)) Refuse Enter
capped p Leave = Leave
capped p Begin = Begin
capped p Extend = Extend
capped p Skip = Skip
capped p Refuse = Refuse

-- where the reader stands after the bytes s, if each of them, its act capped by f, can stand where it does
unfoldable pub run_by : (Phase → Act → Act) → Phase → List ℕ → Option Phase
run_by f p [] = some p
run_by f p (b ∷ s) = moved (f p (act p (kind_of b))) (run_by f (to p (act p (kind_of b))) s)

-- with depth unlimited, and with groups nested at most 8 deep
abbrev pub run : Phase → List ℕ → Option Phase
run p s = run_by uncapped p s

abbrev pub run_capped : Phase → List ℕ → Option Phase
run_capped p s = run_by capped p s
