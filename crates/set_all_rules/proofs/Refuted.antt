-- Wrong rules, each against one sentence of K1, and that specs/Statements.antt does not hold of them.
use mathlib.Core.Path.{◌≡◌, refl, sym, ap, ◌∙◌}
use mathlib.Core.Bool.{true, false, cond, ◌&&◌}
use mathlib.Core.Logic.{inl}
use mathlib.Core.List.{List, [], ◌∷◌, ◌++◌}
use Prim.Native.Nat.{ℕ, ◌≤◌, ◌<◌}
use native.Mathlib.Omega.{arith}
use lib.ListN.{length, get_or, replicate, length-replicate}
use lib.Dec.{eqb, leb}
use Rattle.buffers.specs.Buffers.{over}
use Rattle.checksum.specs.Bytes.{Bytes}
use Rattle.checksum.specs.Bytes as bytes
use Rattle.message_rules.specs.Body.{Words}
use Rattle.message_rules.specs.Body as body
use Rattle.settings_rules.specs.Settings.{empty_settings, declare_code, set_code, with_present}
use Rattle.settings_rules.specs.Entries.{Entry, entry_of, entry_declared, entry_present, Sized}
use Rattle.settings_rules.specs.Operations.{MaySet, Sets}
use Rattle.settings_rules.specs.declared.Declaration.{Declaration}
use Rattle.settings_rules.specs.declared.Settings.{Settings}
use Rattle.settings_rules.specs.declared.Timing.{Timing}
use Rattle.settings_rules.proofs.Operations.{sets_as_written}
use Rattle.settings_rules.proofs.Stores.{present-stored}
use Rattle.settings_rules.proofs.Theorems.{empty_is_sound, starts_with-none, declare-accepts, declares_one, declare-keeps_sound}
use Rattle.profile_rules.specs.Statements as profile
use Rattle.profile_rules.proofs.Made as profiled
use Rattle.display_rules.specs.State.{with_settings, empty_display, start}
use Rattle.display_rules.specs.Kept.{Kept, keeping, StepRule, step_kept}
use Rattle.display_rules.specs.Operations.{LentRight}
use Rattle.display_rules.specs.Statements.{started}
use Rattle.display_rules.specs.declared.Display.{Display}
use Rattle.display_rules.proofs.Sound.{made_is_sound}
use Rattle.set_all_rules.specs.SetAll.{Tried, try_all, call_answer, Left, set_all, display_set_all}
use Rattle.set_all_rules.specs.Statements.{SetAllRule, Allowed, SetsAllAsWritten, EqualsMessages, LaterStands, StaysMade, SettingsStayMade}
use Rattle.set_all_rules.proofs.Calls.{allowed_as}
use Rattle.set_all_rules.proofs.Last.{set-sized}
use Rattle.set_all_rules.proofs.Theorems.{equals_messages}

-- ---- a display with one code, 10: kept, continuous, of maximum 5, and at 3

abbrev ten : Declaration
ten = record { code = 0x10; readable = true; writable = true; kind = 0; continuous = true; maximum = 5; present = 3 }

abbrev board : Display
board = with_settings empty_display (declare_code empty_settings ten).settings

-- these settings have that code, at this value
record Ten (s : Settings) (present : ℕ) : Type 0 where
  sized : Sized s
  entry : entry_of s 0x10 ≡ entry_present (entry_declared ten) present

ten_accepted : (declare_code empty_settings ten).answer ≡ 0
ten_accepted = declare-accepts empty_settings ten (λ e. omega arith) (starts_with-none _ 0x10) (omega arith) (inl refl) (λ e. omega arith)

board_ten : Ten board.settings 3
unfolding entry_declared entry_present
board_ten = record {
  sized = (declare-keeps_sound empty_settings ten (omega arith) empty_is_sound).sized;
  entry = declares_one empty_settings ten empty_is_sound.sized (omega arith) ten_accepted 0x10;
}

-- the value that a display holds of it
abbrev shown : Display → ℕ
shown d = (entry_of d.settings 0x10).present

ten_shows : (s : Settings) (n : ℕ) → Ten s n → (entry_of s 0x10).present ≡ n
unfolding entry_present
ten_shows s n t = ap (λ (e : Entry). e.present) t.entry

-- a Set of it to at most 5 is accepted and stored, and one above 5 is refused
module _ (s : Settings) (n v : ℕ) (t : Ten s n) where
  set_of : Sets s 0x10 v (set_code s 0x10 v).answer (set_code s 0x10 v).settings
  set_of = sets_as_written s 0x10 v t.sized (omega arith)

  may_set : MaySet s 0x10
  unfolding entry_declared entry_present
  may_set = record { declared = ap (λ (e : Entry). e.declared) t.entry; code = λ e. omega arith; writable = ap (λ (e : Entry). e.writable) t.entry }

  bounded : (entry_of s 0x10).continuous ≡ true
  unfolding entry_declared entry_present
  bounded = ap (λ (e : Entry). e.continuous) t.entry

  bound : (entry_of s 0x10).maximum ≡ 5
  unfolding entry_declared entry_present
  bound = ap (λ (e : Entry). e.maximum) t.entry

  is-kept : (entry_of s 0x10).momentary ≡ false
  unfolding entry_declared entry_present
  is-kept = ap (λ (e : Entry). e.momentary) t.entry

  taken : v ≤ 5 → (set_code s 0x10 v).answer ≡ 0
  taken h = set_of.within may_set bounded (omega (arith, bound))

  ten_after : v ≤ 5 → Ten (set_code s 0x10 v).settings v
  unfolding entry_declared entry_present
  ten_after h = record { sized = set-sized s 0x10 v t.sized; entry = set_of.stored (taken h) is-kept ∙ ap (λ (e : Entry). entry_present e v) t.entry }

  above : 5 < v → (set_code s 0x10 v).answer ≡ 9
  above h = set_of.above may_set bounded (omega (arith, bound))

  kept-after : 5 < v → (set_code s 0x10 v).settings ≡ s
  kept-after h = set_of.refused (λ e. omega (arith, above h))

-- code 12 is not declared: a Set of it is answered with 8, and changes nothing
none_12 : (entry_of board.settings 0x12).declared ≡ false
none_12 = ap (λ (e : Entry). e.declared) (declares_one empty_settings ten empty_is_sound.sized (omega arith) ten_accepted 0x12) ∙ starts_with-none _ 0x12

set_12 : (v : ℕ) → Sets board.settings 0x12 v (set_code board.settings 0x12 v).answer (set_code board.settings 0x12 v).settings
set_12 v = sets_as_written board.settings 0x12 v board_ten.sized (omega arith)

is_8 : (v : ℕ) → (set_code board.settings 0x12 v).answer ≡ 8
is_8 v = (set_12 v).undeclared none_12

as_it_was : (v : ℕ) → (set_code board.settings 0x12 v).settings ≡ board.settings
as_it_was v = (set_12 v).refused (λ e. omega (arith, is_8 v))

-- ---- two settings, tried by a rule

abbrev now : Kept
now = keeping board [] (replicate 1024 0)

abbrev out : List ℕ
out = replicate 38 0

lent : LentRight now out
lent = record { text = refl; table = length-replicate {A = ℕ} 1024 0; output = omega (arith, length-replicate {A = ℕ} 38 0) }

abbrev pair : (a b : ℕ) → List ℕ
pair a b = a ∷ b ∷ []

abbrev room : List ℕ
room = pair 0 0

allowed : (c b v w : ℕ) → Allowed (pair c b) (pair v w) room
allowed c b v w = record { room = omega arith; few = omega arith; paired = refl }

-- a rule by how it tries the settings, of a call that is allowed
abbrev tries : (Settings → (codes values : List ℕ) → Tried) → SetAllRule
tries try d codes values answers =
    let t = try d.settings codes values in
    record { changed = record { display = with_settings d t.settings; answer = 0 }; answers = over t.answers answers }

-- if the theorem holds of it, it leaves what the right rule leaves
module _ (try : Settings → (codes values : List ℕ) → Tried) (h : EqualsMessages step_kept (tries try)) (c b v w : ℕ)
    (cs : Bytes (pair c b)) (vs : Words (pair v w)) where
  same-settings : (try board.settings (pair c b) (pair v w)).settings ≡ (try_all board.settings (pair c b) (pair v w)).settings
  same-settings =
      let wrong = (h now (pair c b) (pair v w) room out lent cs vs (allowed c b v w)).display in
      let right = (equals_messages now (pair c b) (pair v w) room out lent cs vs (allowed c b v w)).display in
      ap (λ (d : Display). d.settings) (wrong ∙ sym right)
      ∙ ap (λ (l : Left). l.settings) (allowed_as board.settings (pair c b) (pair v w) room (allowed c b v w))

  same_first : get_or (over (try board.settings (pair c b) (pair v w)).answers room) 0 0 ≡ (set_code board.settings c v).answer
  same_first =
      let wrong = (h now (pair c b) (pair v w) room out lent cs vs (allowed c b v w)).answers 0 (omega arith) in
      let right = (equals_messages now (pair c b) (pair v w) room out lent cs vs (allowed c b v w)).answers 0 (omega arith) in
      wrong ∙ sym right
      ∙ ap (λ (l : Left). get_or l.answers 0 0) (allowed_as board.settings (pair c b) (pair v w) room (allowed c b v w))

two_bytes : (c b : ℕ) → c < 256 → b < 256 → Bytes (pair c b)
two_bytes c b h g = bytes.more h (bytes.more g bytes.none)

two-words : (v w : ℕ) → v < 65536 → w < 65536 → Words (pair v w)
two-words v w h g = body.more h (body.more g body.none)

-- ---- "refused ones skipped and the next still tried": it stops at the first refusal

abbrev stops : Settings → (codes values : List ℕ) → Tried
stops s [] values = record { settings = s; answers = [] }
stops s (c ∷ codes) [] = record { settings = s; answers = [] }
stops s (c ∷ codes) (v ∷ values) =
    let one = set_code s c v in
    let rest = stops one.settings codes values in
    cond (eqb one.answer 0) (record { settings = rest.settings; answers = one.answer ∷ rest.answers }) (record { settings = s; answers = one.answer ∷ [] })

pub stops_refuted : EqualsMessages step_kept (tries stops) → ⊥
stops_refuted h =
    let same = same-settings stops h 0x12 0x10 1 4 (two_bytes 0x12 0x10 (omega arith) (omega arith)) (two-words 1 4 (omega arith) (omega arith)) in
    let stays : board.settings ≡ (set_code (set_code board.settings 0x12 1).settings 0x10 4).settings = rw (is_8 1) at same in
    let after : board.settings ≡ (set_code board.settings 0x10 4).settings = stays ∙ ap (λ (s : Settings). (set_code s 0x10 4).settings) (as_it_was 1) in
    let e : ◌≡◌ {A = ℕ} 3 4 = sym (ten_shows _ 3 board_ten) ∙ ap (λ (s : Settings). (entry_of s 0x10).present) after ∙ ten_shows _ 4 (ten_after _ 3 4 board_ten (omega arith)) in
    omega arith

-- ---- "of a kept code the later accepted value stands": the first value stands, since the last is tried first

abbrev backwards : Settings → (codes values : List ℕ) → Tried
backwards s [] values = record { settings = s; answers = [] }
backwards s (c ∷ codes) [] = record { settings = s; answers = [] }
backwards s (c ∷ codes) (v ∷ values) =
    let rest = backwards s codes values in
    let one = set_code rest.settings c v in
    record { settings = one.settings; answers = one.answer ∷ rest.answers }

-- 10 is set to 4 and then to 5, or the other way round
twice : (v w : ℕ) → v ≤ 5 → w ≤ 5 → Ten (set_code (set_code board.settings 0x10 v).settings 0x10 w).settings w
twice v w h g = ten_after _ v w (ten_after _ 3 v board_ten h) g

pub backwards_refuted : EqualsMessages step_kept (tries backwards) → ⊥
backwards_refuted h =
    let same = same-settings backwards h 0x10 0x10 4 5 (two_bytes 0x10 0x10 (omega arith) (omega arith)) (two-words 4 5 (omega arith) (omega arith)) in
    let e : ◌≡◌ {A = ℕ} 4 5 = sym (ten_shows _ 4 (twice 5 4 (omega arith) (omega arith))) ∙ ap (λ (s : Settings). (entry_of s 0x10).present) same ∙ ten_shows _ 5 (twice 4 5 (omega arith) (omega arith)) in
    omega arith

pub backwards_not_later : LaterStands (tries backwards) → ⊥
unfolding entry_present
backwards_not_later h =
    let first = ten_after _ 3 5 board_ten (omega arith) in
    let accepted : (set_code board.settings 0x10 5).answer ≡ 0 = taken _ 3 5 board_ten (omega arith) in
    let last = (h board (pair 0x10 0x10) (pair 4 5) room board_ten.sized (two_bytes 0x10 0x10 (omega arith) (omega arith)) (allowed 0x10 0x10 4 5) 0x10).last 1 5
    (record { inside = omega arith; code = refl; value = refl; accepted = accepted })
    (λ j w l a. omega (arith, a.inside)) (is-kept _ 3 0 board_ten) in
    let e : ◌≡◌ {A = ℕ} 4 5 = sym (ten_shows _ 4 (twice 5 4 (omega arith) (omega arith))) ∙ ap (λ (x : Entry). x.present) last in
    omega arith

-- ---- "the same answer at each place": the answers stand in reverse

abbrev reversed : List ℕ → List ℕ
reversed [] = []
reversed (a ∷ rest) = reversed rest ++ (a ∷ [])

abbrev reverses : Settings → (codes values : List ℕ) → Tried
reverses s codes values = let t = try_all s codes values in record { settings = t.settings; answers = reversed t.answers }

pub reverses_refuted : EqualsMessages step_kept (tries reverses) → ⊥
reverses_refuted h =
    let same : (set_code (set_code board.settings 0x12 1).settings 0x10 4).answer ≡ (set_code board.settings 0x12 1).answer =
    same_first reverses h 0x12 0x10 1 4 (two_bytes 0x12 0x10 (omega arith) (omega arith)) (two-words 1 4 (omega arith) (omega arith)) in
    let zero : (set_code (set_code board.settings 0x12 1).settings 0x10 4).answer ≡ 0 = ap (λ (s : Settings). (set_code s 0x10 4).answer) (as_it_was 1) ∙ taken _ 3 4 board_ten (omega arith) in
    let e : ◌≡◌ {A = ℕ} 0 8 = sym zero ∙ same ∙ is_8 1 in
    omega arith

-- ---- a refused setting puts back the value that stood before the call

abbrev puts_back : (before : Settings) → Settings → (codes values : List ℕ) → Tried
puts_back before s [] values = record { settings = s; answers = [] }
puts_back before s (c ∷ codes) [] = record { settings = s; answers = [] }
puts_back before s (c ∷ codes) (v ∷ values) =
    let one = set_code s c v in
    let rest = puts_back before (cond (eqb one.answer 0) one.settings (with_present s c (entry_of before c).present)) codes values in
    record { settings = rest.settings; answers = one.answer ∷ rest.answers }

pub puts-back_refuted : EqualsMessages step_kept (tries (λ s. puts_back s s)) → ⊥
unfolding entry_present
puts-back_refuted h =
    let four : Settings = (set_code board.settings 0x10 4).settings in
    let is-four : Ten four 4 = ten_after _ 3 4 board_ten (omega arith) in
    let same = same-settings (λ s. puts_back s s) h 0x10 0x10 4 6 (two_bytes 0x10 0x10 (omega arith) (omega arith)) (two-words 4 6 (omega arith) (omega arith)) in
    let back : with_present four 0x10 (entry_of board.settings 0x10).present ≡ (set_code four 0x10 6).settings =
    rw (taken _ 3 4 board_ten (omega arith), above _ 4 6 is-four (omega arith)) at same in
    let three : (entry_of (with_present four 0x10 (entry_of board.settings 0x10).present) 0x10).present ≡ 3 =
    ap (λ (e : Entry). e.present) (present-stored four 0x10 (entry_of board.settings 0x10).present is-four.sized (omega arith) 0x10) ∙ ten_shows _ 3 board_ten in
    let e : ◌≡◌ {A = ℕ} 3 4 = sym three ∙ ap (λ (s : Settings). (entry_of s 0x10).present) (back ∙ kept-after _ 4 6 is-four (omega arith)) ∙ ten_shows _ 4 is-four in
    omega arith

-- ---- "It must equal that many Set messages": a step that stores nothing

abbrev stays_put : StepRule
stays_put was message lent_out =
    let o = step_kept was message lent_out in
    record { display = was.display; answer = o.answer; len = o.len; found = o.found; table = o.table; out = o.out }

pub stays-put_refuted : EqualsMessages stays_put display_set_all → ⊥
stays-put_refuted h =
    let same = (h now (pair 0x10 0x10) (pair 4 5) room out lent (two_bytes 0x10 0x10 (omega arith) (omega arith)) (two-words 4 5 (omega arith) (omega arith)) (allowed 0x10 0x10 4 5)).display in
    let set : (display_set_all board (pair 0x10 0x10) (pair 4 5) room).changed.display.settings ≡ (set_code (set_code board.settings 0x10 4).settings 0x10 5).settings =
    ap (λ (l : Left). l.settings) (allowed_as board.settings (pair 0x10 0x10) (pair 4 5) room (allowed 0x10 0x10 4 5)) in
    let e : ◌≡◌ {A = ℕ} 5 3 = sym (ten_shows _ 5 (twice 4 5 (omega arith) (omega arith))) ∙ ap (λ (s : Settings). (entry_of s 0x10).present) (sym set) ∙ ap shown same ∙ ten_shows _ 3 board_ten in
    omega arith

-- ---- "answers with the number of each": a call that refuses every setting

abbrev refuses_all : Settings → (codes values : List ℕ) → Tried
refuses_all s [] values = record { settings = s; answers = [] }
refuses_all s (c ∷ codes) [] = record { settings = s; answers = [] }
refuses_all s (c ∷ codes) (v ∷ values) = record { settings = s; answers = 8 ∷ (refuses_all s codes values).answers }

pub refuses_all_refuted : EqualsMessages step_kept (tries refuses_all) → ⊥
refuses_all_refuted h =
    let same = same_first refuses_all h 0x10 0x10 4 5 (two_bytes 0x10 0x10 (omega arith) (omega arith)) (two-words 4 5 (omega arith) (omega arith)) in
    let e : ◌≡◌ {A = ℕ} 8 0 = same ∙ taken _ 3 4 board_ten (omega arith) in
    omega arith

-- ---- the call's own answer

-- a rule by its own answer, and by what it leaves where that is not 0; else it is the right one
abbrev answering : (number : (codes values answers : ℕ) → ℕ) → (refused : ℕ → SetAllRule) → SetAllRule
answering number refused d codes values given =
    let k = number (length codes) (length values) (length given) in
    cond (eqb k 0) (tries try_all d codes values given) (refused k d codes values given)

-- "nothing is tried and no answer written"
abbrev untouched : ℕ → SetAllRule
untouched k d codes values given = record { changed = record { display = d; answer = k }; answers = given }

-- "refused with 1 .. then .. with 7": 7 is tested first
abbrev seven_first : SetAllRule
seven_first = answering (λ n m room. cond (leb n 64 && eqb n m) (cond (leb n room) 0 1) 7) untouched

pub seven_first_refuted : SetsAllAsWritten seven_first → ⊥
seven_first_refuted h = let e : ◌≡◌ {A = ℕ} 7 1 = (h board (0 ∷ []) [] []).short (omega arith) in omega arith

-- "more than 64": 65 are allowed
abbrev takes65 : SetAllRule
takes65 = answering (λ n m room. cond (leb n room) (cond (leb n 65 && eqb n m) 0 7) 1) untouched

pub takes_65_refuted : SetsAllAsWritten takes65 → ⊥
takes_65_refuted h = let e : ◌≡◌ {A = ℕ} 0 7 = (h board (replicate 65 0) (replicate 65 0) (replicate 65 0)).many (omega arith) (omega arith) in omega arith

-- "or unequally many": they are allowed
abbrev takes_uneven : SetAllRule
takes_uneven = answering (λ n m room. cond (leb n room) (cond (leb n 64) 0 7) 1) untouched

pub takes_uneven_refuted : SetsAllAsWritten takes_uneven → ⊥
takes_uneven_refuted h = let e : ◌≡◌ {A = ℕ} 0 7 = (h board [] (0 ∷ []) []).uneven (omega arith) (λ z. omega arith) in omega arith

-- the right answer, in the paper's numbers
abbrev right : (codes values answers : ℕ) → ℕ
right n m room = cond (leb n room) (cond (leb n 64 && eqb n m) 0 7) 1

-- "no answer written": the refusal is written as the answer to each
abbrev writes_refusal : SetAllRule
writes_refusal = answering right (λ k d codes values given. untouched k d codes values (over (replicate (length codes) k) given))

pub writes_refusal_refuted : SetsAllAsWritten writes_refusal → ⊥
writes_refusal_refuted h =
    let e : ◌≡◌ {A = ℕ} 7 0 = ap (λ (s : List ℕ). get_or s 0 0) ((h board (0 ∷ []) [] (0 ∷ [])).unwritten (λ z. omega arith)) in
    omega arith

-- "nothing is tried": of unequally many, as many are tried as have both
abbrev tries_uneven : SetAllRule
tries_uneven = answering right (λ k d codes values given. untouched k (with_settings d (try_all d.settings codes values).settings) codes values given)

pub tries_uneven_refuted : SetsAllAsWritten tries_uneven → ⊥
tries_uneven_refuted h =
    let same = (h board (0x10 ∷ []) (pair 4 5) (0 ∷ [])).untried (λ z. omega arith) in
    let e : ◌≡◌ {A = ℕ} 4 3 = sym (ten_shows _ 4 (ten_after _ 3 4 board_ten (omega arith))) ∙ ap shown same ∙ ten_shows _ 3 board_ten in
    omega arith

-- answers beyond the codes stay: they are cleared
abbrev clears : SetAllRule
clears d codes values given =
    let left = display_set_all d codes values given in
    record { changed = left.changed; answers = over (try_all d.settings codes values).answers (replicate (length given) 0) }

pub clears_refuted : SetsAllAsWritten clears → ⊥
clears_refuted h = let e : ◌≡◌ {A = ℕ} 0 5 = (h board [] [] (5 ∷ [])).beyond 0 (omega arith) in omega arith

-- ---- a display that calls have made stays such a one

-- its fragments have no byte from then on
abbrev sizeless : SetAllRule
sizeless d codes values given =
    let left = display_set_all d codes values given in
    let after = left.changed.display in
    record {
      changed = record { display = record { settings = after.settings; capabilities = after.capabilities; table = after.table; size = 0 }; answer = left.changed.answer };
      answers = left.answers;
    }

pub sizeless_refuted : StaysMade step_kept sizeless → ⊥
sizeless_refuted h =
    let t : Timing = record { status = 0; horizontal = 0; vertical = 0 } in
    let low : 1 ≤ 0 = (made_is_sound _ (h (start t 0 1).display [] [] [] (started t 0 1) bytes.none body.none)).low in
    omega arith

-- and so do its settings: the value 6 is stored last, whatever the maximum
abbrev stores_six : SetAllRule
stores_six d codes values given =
    let left = display_set_all d codes values given in
    let after = left.changed.display in
    record { changed = record { display = with_settings after (with_present after.settings 0x10 6); answer = left.changed.answer }; answers = left.answers }

pub stores_six_refuted : SettingsStayMade stores_six → ⊥
unfolding entry_present entry_declared set_all call_answer
stores_six_refuted h =
    let made = profile.declared (profile.started (record { status = 0; horizontal = 0; vertical = 0 })) ten (omega arith) in
    let stored : entry_of (with_present board.settings 0x10 6) 0x10 ≡ entry_present (entry_declared ten) 6 =
    present-stored board.settings 0x10 6 board_ten.sized (omega arith) 0x10 ∙ ap (λ (e : Entry). entry_present e 6) board_ten.entry in
    let low : 6 ≤ 5 = rw stored at (((profiled.made_is_sound _ (h board [] [] [] made bytes.none)).within 0x10).present (ap (λ (e : Entry). e.continuous) stored)) in
    omega arith
