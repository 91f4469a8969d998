-- Choices by a test and by what may be missing, shared by all definitions.
-- They stay calls until a proof opens them, so that proofs can name their parts.
use Rattle.std.specs.Prelude.{Bool, true, false, Option, Some, None}

-- x if the test holds, else y
unfoldable pub pick {ℓ} : {A : Type ℓ} → Bool → A → A → A
pick true x y = x
pick false x y = y

-- y if there is nothing, else what f makes of it
unfoldable pub opt : {A B : Type 0} → Option A → B → (A → B) → B
opt None y f = y
opt (Some a) y f = f a
