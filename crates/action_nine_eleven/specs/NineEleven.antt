-- What actions 9 and 11 decide, part by part.
use Rattle.std.specs.Prelude.{ℕ, ◌≡◌, List, [], length, Option, Some, None}
use Rattle.address.specs.declared.Address.{Address}
use Rattle.address.specs.declared.Extent.{Extent}
use Rattle.address.specs.Model.{last_of}
use Rattle.channel.specs.declared.Ccw.{Ccw}
use Rattle.channel.specs.declared.Csw.{Csw}
use Rattle.channel.specs.declared.Location.{Location}
use Rattle.channel.specs.Ccw.{Lent}
use Rattle.channel.specs.Walk.{Walk, walked, checked, walk}
use Rattle.recovery.specs.Table.{Row}
use Rattle.recovery.specs.Report.{Report}
use Rattle.recovery.specs.Recovery as Recovery
use Rattle.report.specs.declared.Told.{Told}
use Rattle.report.specs.Told.{Tells}
use Rattle.recovered.specs.declared.Kind.{Kind}
use Rattle.recovered.specs.Applied.{kind_of, given_of}
use Rattle.decision.specs.declared.Decision.{Decision}
use Rattle.decision.specs.Decision.{Means}
use Rattle.overflow_restart.specs.Restart.{Interrupted, DecidesKind}
use Rattle.overflow_restart.specs.declared.WalkEnd.{WalkEnd}

-- ---- the walk

-- how a walk ended; the places of its bytes are not asked
unfoldable pub end_of : Walk → Option WalkEnd
end_of (walked ps l c left over) = Some (record { at = l; ccw = c; left = left })
end_of (checked ps l) = None

-- the walk of n bytes from the CCW c at l on
abbrev pub WalksTo : (chain : List ℕ) → ℕ → Location → Ccw → ℕ → Option WalkEnd → Type 0
WalksTo chain size l c n e = (p : Lent) → p.chain ≡ chain → p.program ≡ [] → e ≡ end_of (walk p size n l c c.count c.address)

-- it ended with a CCW of the chain that a read may use, and with no more than its count left
abbrev pub EndUsable : (chain : List ℕ) → Option WalkEnd → Type 0
EndUsable chain None = Unit {0}
EndUsable chain (Some e) = Interrupted chain e

-- ---- the restart

-- where a walk ended so
abbrev pub WalkedTo : (chain : List ℕ) → Csw → Option ℕ → Address → Kind → Option WalkEnd → Decision → Type 0
WalkedTo chain csw mask track kind e d =
    (w : Walk) → e ≡ end_of w → DecidesKind (λ k g r st. Recovery.overflow_walk g r st k track w) chain (λ v. v ≡ csw) mask kind d

-- from the read's first CCW on, with storage of this length
abbrev pub Overflows : (chain : List ℕ) → ℕ → Told → Address → Kind → Decision → Type 0
Overflows chain size t track kind d =
    (k : Recovery.Kind) (rows : List Row) (x : Extent) (r : Report) (st p a : List ℕ) → kind_of k ≡ kind → Tells (last_of x.model) r t → length st ≡ size
    → Means x d st p a (Recovery.overflow_at (given_of rows chain x) r st k track)
