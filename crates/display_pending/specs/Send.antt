-- What a reply that is put into the output leaves there, and how long it is: all or nothing, as its builder says.
use Rattle.std.specs.Prelude.{ℕ, ◌≡◌, Bool, List}
use Rattle.message_output.specs.Output.{built_length, built_answer, built_output}

-- the reply s was built where its fields are allowed and the output has its room: n is its length there, or 0
pub record Sent (allowed : Bool) (s before after : List ℕ) (n : ℕ) : Type 0 where
  pub counted : n ≡ built_length (built_answer allowed s before)
  pub leaves : after ≡ built_output allowed s before
