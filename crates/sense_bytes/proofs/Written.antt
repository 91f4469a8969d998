-- The sense of a cut, from the bytes that the code writes.
use Prim.Native.Nat.{ℕ, ◌/◌, ◌%◌}
use mathlib.Core.Path.{◌≡◌, ◌∙◌}
use mathlib.Core.List.{List, [], ◌∷◌, ◌++◌}
use lib.ListN.{drop}
use Rattle.base.specs.Choice.{pick}
use Rattle.base.specs.Bytes.{two, three}
use Rattle.drive.specs.Drive.{address_bytes}
use Rattle.drive.specs.Step as Step
use Rattle.command.specs.declared.Cut.{Cut}
use Rattle.command.specs.Answer.{cut_of}

pub cut_written : (k : Cut) (x y : List ℕ) {o : ℕ} → o ≡ pick k.over 1 0
    → y ≡ (0x08 ∷ 0 ∷ 0x40 ∷ 0 ∷ 0 ∷ 0 ∷ 0 ∷ 0x53 ∷ k.at.cylinder / 256 ∷ k.at.cylinder % 256 ∷ k.at.head / 256 ∷ k.at.head % 256 ∷ k.r ∷ 0 ∷ 0
    ∷ k.restart.0 / 65536 ∷ k.restart.0 / 256 % 256 ∷ k.restart.0 % 256 ∷ k.error.0 / 256 ∷ k.error.0 % 256 ∷ k.pattern0 ∷ k.pattern1 ∷ k.pattern2 ∷ o ∷ []) ++ drop 24 x
    → y ≡ Step.cut_sense (cut_of k []) ++ drop 24 x
unfolding Step.cut_sense address_bytes three two
cut_written k x y w q = q ∙ rw w
