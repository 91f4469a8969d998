-- What actions 8, 10 and 10A decide, part by part.
use Rattle.std.specs.Prelude.{ℕ, ◌≤◌, ◌≡◌, List, length, Option, Some, None}
use Rattle.address.specs.declared.Address.{Address}
use Rattle.address.specs.declared.Extent.{Extent}
use Rattle.channel.specs.declared.Ccw.{Ccw}
use Rattle.channel.specs.declared.Csw.{Csw}
use Rattle.recovery.specs.Table.{Row}
use Rattle.recovery.specs.Report.{Report}
use Rattle.recovery.specs.Recovery as Recovery
use Rattle.recovery.specs.Recovery.{Given}
use Rattle.report.specs.declared.Told.{Told}
use Rattle.recovered.specs.declared.Kind.{Kind}
use Rattle.recovered.specs.Applied.{kind_of, given_of}
use Rattle.decision.specs.declared.Decision.{Decision}
use Rattle.decision.specs.Decision.{Means, Decides}

-- what f makes of every report that tells this, whatever storage's length
abbrev pub Acts : (Given → Report → List ℕ → Recovery.Recovery) → (chain : List ℕ) → Told → Decision → Type 0
Acts f chain t d = (size : ℕ) → Decides f chain size t d

-- the interrupted CCW of every report with this CSW
abbrev pub Interrupts : (chain : List ℕ) → Csw → Option Ccw → Type 0
Interrupts chain csw s =
    (rows : List Row) (x : Extent) (r : Report) (st : List ℕ) → r.csw ≡ csw → s ≡ Recovery.interrupted (given_of rows chain x) r st

-- where it stands in the chain
abbrev pub Behind : (chain : List ℕ) → Csw → Option Ccw → Type 0
Behind chain csw None = Unit {0}
Behind chain csw (Some c) = (8 ≤ csw.address) × (csw.address ≤ length chain)

-- what f makes of every report with this CSW and mask
abbrev pub DecidesBy : (Given → Report → List ℕ → Recovery.Recovery) → (chain : List ℕ) → Csw → Option ℕ → Decision → Type 0
DecidesBy f chain csw mask d =
    (rows : List Row) (x : Extent) (r : Report) (st p a : List ℕ) → r.csw ≡ csw → r.mask ≡ mask
    → Means x d st p a (f (given_of rows chain x) r st)

-- the restart at the home address of a track, whatever the chain and the CSW
abbrev pub Homes : Option ℕ → Address → ℕ → Kind → Decision → Type 0
Homes mask track to kind d =
    (k : Recovery.Kind) (chain : List ℕ) (csw : Csw) → kind_of k ≡ kind → DecidesBy (λ g q st. Recovery.home_restart g q st k track to) chain csw mask d

-- the restart of an interrupted seek
abbrev pub SeekRestarts : (chain : List ℕ) → Csw → Option ℕ → Address → Ccw → Decision → Type 0
SeekRestarts chain csw mask track c d = DecidesBy (λ g q st. Recovery.seek_restart g q st track c) chain csw mask d

-- 10A, of every report with this CSW, mask and head reached, whatever the chain
abbrev pub ReachedRestarts : Csw → Option ℕ → Address → (head : ℕ) → Decision → Type 0
ReachedRestarts csw mask track head d =
    (chain : List ℕ) (rows : List Row) (x : Extent) (r : Report) (st p a : List ℕ) → r.csw ≡ csw → r.mask ≡ mask → Recovery.reached_head r.sense ≡ head
    → Means x d st p a (Recovery.reached_restart (given_of rows chain x) r st track)
