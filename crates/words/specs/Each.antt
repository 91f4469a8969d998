-- Texts one behind the other.
use Rattle.std.specs.Prelude.{ℕ, zero, suc, ◌+◌, List, [], ◌++◌}

-- the texts that f makes of k, k + 1 and so on, n of them
unfoldable pub each : ℕ → ℕ → (ℕ → List ℕ) → List ℕ
each zero k f = []
each (suc n) k f = f k ++ each n (k + 1) f
