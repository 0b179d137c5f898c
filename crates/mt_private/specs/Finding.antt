-- What a call finds that looks for what makes a thing.
use Rattle.std.specs.Prelude.{◌≡◌, Option, Some, None}

-- what is found is what makes this, and nothing is found only where nothing makes it
abbrev pub Finds : {A B : Type 0} → (B → A) → A → Option B → Type 0
Finds of a (Some b) = a ≡ of b
Finds {A} {B} of a None = (b : B) → a ≡ of b → ⊥
