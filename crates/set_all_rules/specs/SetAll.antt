-- Document 02, K1: "one call that takes a list of codes and values and answers with the number of each".
use Rattle.std.specs.Prelude.{ℕ, cond, ◌&&◌, List, [], ◌∷◌, length, eqb, leb}
use Rattle.buffers.specs.Buffers.{over}
use Rattle.message_rules.specs.Answer.{done, wrong_size, wrong_field}
use Rattle.message_rules.specs.Read.{unless}
use Rattle.settings_rules.specs.Settings.{set_code}
use Rattle.settings_rules.specs.declared.Settings.{Settings}
use Rattle.display_rules.specs.State.{with_settings}
use Rattle.display_rules.specs.declared.Changed.{Changed}
use Rattle.display_rules.specs.declared.Display.{Display}
use Rattle.set_all_rules.specs.Limits.{most_settings}

-- ---- one setting after the other

-- what the settings come to, and the answer to each in its order
pub record Tried : Type 0 where
  pub settings : Settings
  pub answers : List ℕ

-- "that many Set messages one after the other": each is document 01's Set, on what the one before it left; "refused ones
-- skipped and the next still tried"
abbrev pub try_all : Settings → (codes values : List ℕ) → Tried
try_all s [] values = record { settings = s; answers = [] }
try_all s (c ∷ codes) [] = record { settings = s; answers = [] }
try_all s (c ∷ codes) (v ∷ values) =
    let one = set_code s c v in
    let rest = try_all one.settings codes values in
    record { settings = rest.settings; answers = one.answer ∷ rest.answers }

-- ---- the call

-- "An answer buffer shorter than the codes is refused with 1, then more than 64, or unequally many codes and values,
-- with 7", by the three numbers
unfoldable pub call_answer : (codes values answers : ℕ) → ℕ
call_answer n m room =
    unless (leb n room) wrong_size
    (unless (leb n most_settings && eqb n m) wrong_field done)

-- what a call leaves: the settings, its own answer, and every lent answer
pub record Left : Type 0 where
  pub settings : Settings
  pub answer : ℕ
  pub answers : List ℕ

-- refused, "nothing is tried and no answer written"
abbrev pub left_as_it_was : Settings → (answer : ℕ) (answers : List ℕ) → Left
left_as_it_was s k answers = record { settings = s; answer = k; answers = answers }

-- "the same answer at each place"; the answers behind them stay
abbrev pub left_by_all : Tried → (answers : List ℕ) → Left
left_by_all t answers = record { settings = t.settings; answer = done; answers = over t.answers answers }

unfoldable pub set_all : Settings → (codes values answers : List ℕ) → Left
set_all s codes values answers =
    let k = call_answer (length codes) (length values) (length answers) in
    cond (eqb k done) (left_by_all (try_all s codes values) answers) (left_as_it_was s k answers)

-- ---- of a display

-- what the call returns, and every lent answer
pub record DisplayLeft : Type 0 where
  pub changed : Changed
  pub answers : List ℕ

-- the settings are all that it changes of a display
abbrev pub display_set_all : Display → (codes values answers : List ℕ) → DisplayLeft
display_set_all d codes values answers =
    let left = set_all d.settings codes values answers in
    record { changed = record { display = with_settings d left.settings; answer = left.answer }; answers = left.answers }
