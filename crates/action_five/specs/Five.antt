-- What action 5 decides, part by part.
use Rattle.std.specs.Prelude.{ℕ, ◌≤◌, ◌≡◌, Bool, List, length, Option}
use Rattle.base.specs.Choice.{pick}
use Rattle.base.specs.Bits.{bit_on}
use Rattle.questions.specs.declared.Question.TheVariants as Question
use Rattle.address.specs.declared.Extent.{Extent}
use Rattle.address.specs.Model.{last_of}
use Rattle.channel.specs.declared.Ccw.{Ccw}
use Rattle.channel.specs.declared.Location.{Location}
use Rattle.channel.specs.Ccw.{next, resolve}
use Rattle.channel.specs.Walk.{walked}
use Rattle.recovery.specs.Table.{Row}
use Rattle.recovery.specs.Report.{Report}
use Rattle.recovery.specs.Recovery as Recovery
use Rattle.recovery.specs.Recovery.{Given, only_chain, on_next}
use Rattle.report.specs.declared.Sense.{Sense}
use Rattle.report.specs.declared.Told.{Told}
use Rattle.report.specs.Told.{Tells}
use Rattle.correction.specs.declared.ThreeStayed.{ThreeStayed}
use Rattle.correction.specs.declared.Correction.{Correction}
use Rattle.correction.specs.declared.End.{End}
use Rattle.correction.specs.Retraced.{three_stayed_of}
use Rattle.recovered.specs.declared.Kind.{Kind}
use Rattle.recovered.specs.declared.Kind.TheVariants.{Five, FiveA}
use Rattle.recovered.specs.Applied.{given_of}
use Rattle.decision.specs.declared.Decision.{Decision}
use Rattle.decision.specs.Decision.{Means, Decides}

-- the pattern, and where its bytes stayed
abbrev pub correction_of : Sense → ThreeStayed → Correction
correction_of s stayed = record { stayed = stayed; pattern0 = s.pattern0; pattern1 = s.pattern1; pattern2 = s.pattern2 }

-- "If that CCW's command has bit 3 off (5A)"
unfoldable pub search_kind : Ccw → Kind
search_kind d = pick (bit_on 3 d.command) Five FiveA

-- ---- by the places of the walk, of which three are known

-- three places of a walk of the restart displacement's bytes
abbrev pub Known : (sense : List ℕ) → ThreeStayed → List (Option ℕ) → Type 0
Known sense stayed ps = (length ps ≤ Recovery.restart_displacement sense) × (stayed ≡ three_stayed_of (Recovery.pattern_from sense) ps)

-- what f makes of every report that tells this, and of every walk in which the three bytes stayed so
abbrev pub DecidesAt : (List (Option ℕ) → Given → Report → List ℕ → Recovery.Recovery) → (chain : List ℕ) → Told → ThreeStayed → Decision → Type 0
DecidesAt f chain t stayed d =
    (rows : List Row) (x : Extent) (r : Report) (st p a : List ℕ) (ps : List (Option ℕ)) → Tells (last_of x.model) r t → Known r.sense stayed ps
    → Means x d st p a (f ps (given_of rows chain x) r st)

-- the restart that goes on with the CCW c at an address of the chain
abbrev pub SearchRestarts : Told → ThreeStayed → ℕ → Ccw → Decision → Type 0
SearchRestarts t stayed to c d = (chain : List ℕ) → DecidesAt (λ ps g r st. Recovery.search_restart g r st ps to c) chain t stayed d

-- the restart behind the CCW at l
abbrev pub GoesOn : (chain : List ℕ) → Told → ThreeStayed → Location → Decision → Type 0
GoesOn chain t stayed l d =
    DecidesAt (λ ps g r st. on_next (resolve (only_chain chain) l (next l)) (Recovery.refused Question.Agreement) (Recovery.search_restart g r st ps)) chain t stayed d

-- where the walk ended so, and the CSW agrees
abbrev pub AfterWalk : (chain : List ℕ) → Told → End → Bool → Decision → Type 0
AfterWalk chain t e wrong d = DecidesAt (λ ps g r st. Recovery.after_walk g r st ps e.at e.ccw wrong) chain t e.stayed d

-- where it ended so, and the CSW has yet to agree
abbrev pub WalkedTo : (chain : List ℕ) → Told → End → Decision → Type 0
WalkedTo chain t e d = DecidesAt (λ ps g r st. Recovery.walked_to g r st (walked ps e.at e.ccw e.left e.over)) chain t e.stayed d

-- from the read's first CCW c on
abbrev pub DecidesRetraced : (chain : List ℕ) → ℕ → Told → Ccw → Decision → Type 0
DecidesRetraced chain size t c d = Decides (λ g r st. Recovery.walked_to g r st (Recovery.retrace g r st c)) chain size t d
