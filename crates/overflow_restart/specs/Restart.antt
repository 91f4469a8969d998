-- What a restart inside an overflow record means.
use Rattle.std.specs.Prelude.{ℕ, ◌≤◌, ◌≡◌, true, List, [], Option}
use Rattle.address.specs.declared.Address.{Address}
use Rattle.address.specs.declared.Extent.{Extent}
use Rattle.channel.specs.declared.Ccw.{Ccw}
use Rattle.channel.specs.declared.Csw.{Csw}
use Rattle.channel.specs.Fetch.{InBytes, Inside}
use Rattle.channel.specs.Walk.{readable}
use Rattle.recovery.specs.Table.{Row}
use Rattle.recovery.specs.Report.{Report}
use Rattle.recovery.specs.Recovery as Recovery
use Rattle.recovery.specs.Recovery.{Given}
use Rattle.recovered.specs.declared.Kind.{Kind}
use Rattle.recovered.specs.Applied.{kind_of, given_of}
use Rattle.decision.specs.declared.Decision.{Decision}
use Rattle.decision.specs.Decision.{Means}
use Rattle.overflow_restart.specs.declared.WalkEnd.{WalkEnd}

-- a walk ended with a CCW of the chain that a read may use, and with no more than its count left
pub record Interrupted (chain : List ℕ) (e : WalkEnd) : Type 0 where
  pub inside : Inside chain [] e.at
  pub in_bytes : InBytes e.ccw
  pub usable : readable 65536 e.ccw ≡ true
  pub left : e.left ≤ e.ccw.count

-- what f makes of every report with this CSW and mask, by a restart of this kind
abbrev pub DecidesKind : (Recovery.Kind → Given → Report → List ℕ → Recovery.Recovery) → (chain : List ℕ) → (Csw → Type 0) → Option ℕ → Kind → Decision → Type 0
DecidesKind f chain Shown mask kind d =
    (k : Recovery.Kind) (rows : List Row) (x : Extent) (r : Report) (st p a : List ℕ) → kind_of k ≡ kind → Shown r.csw → r.mask ≡ mask
    → Means x d st p a (f k (given_of rows chain x) r st)

-- to a track, with restart CCW 1 for the rest of the CCW c, of which this count is left
abbrev pub OverflowRestarts : Option ℕ → Address → Kind → Ccw → (left : ℕ) → Option ℕ → Decision → Type 0
OverflowRestarts mask track kind c left tic d =
    (chain : List ℕ) → DecidesKind (λ k g r st. Recovery.overflow_restart g r st k track c tic) chain (λ w. w.count ≡ left) mask kind d

-- from the CCW on that a walk ended with
abbrev pub GoesFrom : (chain : List ℕ) → Option ℕ → Address → Kind → WalkEnd → Decision → Type 0
GoesFrom chain mask track kind e d =
    DecidesKind (λ k g r st. Recovery.from_interrupted g r st k track e.at e.ccw) chain (λ w. w.count ≡ e.left) mask kind d
