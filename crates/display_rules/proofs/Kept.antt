-- A row of messages leaves what its parts leave one after the other, and the text as it was: of any rule for steps.
use mathlib.Core.Path.{◌≡◌, refl}
use mathlib.Core.List.{List, [], ◌∷◌, ◌++◌}
use Rattle.display_rules.specs.Kept.{Kept, StepRule, kept_after, Delivery, kept_after_row}

module _ (step : StepRule) where
  pub row-joined : (now : Kept) (row rest : List Delivery) → kept_after_row step now (row ++ rest) ≡ kept_after_row step (kept_after_row step now row) rest
  row-joined now [] rest = refl
  row-joined now (m ∷ row) rest = row-joined (kept_after now (step now m.message m.out)) row rest

  pub row-text : (now : Kept) (row : List Delivery) → (kept_after_row step now row).text ≡ now.text
  row-text now [] = refl
  row-text now (m ∷ row) = row-text (kept_after now (step now m.message m.out)) row
