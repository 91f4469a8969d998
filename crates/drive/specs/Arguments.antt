-- What the code answers about a CCW's argument, in terms of the definitions.
use Rattle.std.specs.Prelude.{ℕ, ◌≡◌, Bool, true, ◌&&◌, List, [], length, get_or}
use Rattle.channel.specs.declared.Ccw.{Ccw}
use Rattle.channel.specs.declared.Location.{Location}
use Rattle.channel.specs.Ccw.{Lent, formed, argument_inside, argument}
use Rattle.drive.specs.declared.Command.{Command}
use Rattle.drive.specs.Step.{sound}

-- The lengths of the two areas of arguments decide whether a CCW's argument is inside its area.
abbrev pub Insides : ℕ → ℕ → Location → Ccw → Bool → Type 0
Insides n m l c b = (p : Lent) → length p.arguments ≡ n → length p.restart_arguments ≡ m → b ≡ argument_inside p l c

-- the same of a CCW with an argument, its form included
abbrev pub Argues : ℕ → ℕ → Location → Ccw → Bool → Type 0
Argues n m l c b = (p : Lent) → length p.arguments ≡ n → length p.restart_arguments ≡ m → b ≡ (formed c && argument_inside p l c)

-- and of a CCW that is any command
abbrev pub Sounds : ℕ → ℕ → Location → ℕ → Ccw → Command → Bool → Type 0
Sounds n m l size c k b = (p : Lent) → length p.arguments ≡ n → length p.restart_arguments ≡ m → b ≡ sound p l size c k

-- the two areas of arguments, with no CCWs
abbrev pub only_arguments : List ℕ → List ℕ → Lent
only_arguments s r = record { chain = []; arguments = s; program = []; restart_arguments = r }

-- A CCW's argument is wholly in its area.
abbrev pub ArgumentIn : List ℕ → List ℕ → Location → Ccw → Type 0
ArgumentIn s r l c = argument_inside (only_arguments s r) l c ≡ true

-- a byte of a CCW's argument
abbrev pub ArgumentByte : List ℕ → List ℕ → Location → Ccw → ℕ → ℕ → Type 0
ArgumentByte s r l c k b = (p : Lent) → p.arguments ≡ s → p.restart_arguments ≡ r → b ≡ get_or (argument p l c) k 0
