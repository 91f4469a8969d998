-- A run's answer as 36 bytes: CSW 8, sense 24, whether a file mask was set 1, the mask 1, address of a cut read's first CCW 2.
use Rattle.std.specs.Prelude.{ℕ, ◌≡◌, List, [], ◌∷◌, ◌++◌, Option, Some, None}
use Rattle.base.specs.Choice.{pick, opt}
use Rattle.base.specs.Bytes.{two}
use Rattle.questions.specs.Number.{limit_return}
use Rattle.channel.specs.Csw.{csw_bytes}
use Rattle.trial.specs.declared.Ran.{Ran}
use Rattle.trial.specs.Run.{ran_of}
use Rattle.trial.specs.Trial.{Shown, shown_of}

-- whether a mask was set, and which; 0 where none was
unfoldable pub mask_bytes : Option ℕ → List ℕ
mask_bytes None = 0 ∷ 0 ∷ []
mask_bytes (Some m) = 1 ∷ m ∷ []

-- what a run shows, in that order; the address is 0 where there is no cut
unfoldable pub answer_bytes : Shown → List ℕ
answer_bytes x = csw_bytes x.csw ++ x.sense ++ (mask_bytes x.mask ++ two (opt x.first 0 (λ a. a)))

-- what the call returns: "limit", or 0 for any other end
unfoldable pub run_return : Shown → ℕ
run_return x = pick x.limited limit_return 0

-- ---- what the code answers, whatever storage is behind the run

-- the 36 bytes
abbrev pub Writes : Ran → List ℕ → Type 0
Writes r after = (st : List ℕ) → after ≡ answer_bytes (shown_of (ran_of r st))

-- the number that the call returns
abbrev pub Numbers : Ran → ℕ → Type 0
Numbers r n = (st : List ℕ) → n ≡ run_return (shown_of (ran_of r st))
