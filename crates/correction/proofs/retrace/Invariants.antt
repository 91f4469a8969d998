-- `correction::retrace` meets its contract. Invariant: the places so far, with the rest of the walk behind them, are the whole walk.
-- Measure: the bytes left; each CCW takes at least one. Assumes nothing.
use Rattle.std.specs.Prelude.{Option}
use Prim.Native.Nat.{ℕ, ◌-◌, ◌≤◌}
use mathlib.Core.Path.{◌≡◌}
use mathlib.Core.Bool.{true}
use mathlib.Core.List.{List, []}
use lib.ListN.{length}
use Rattle.channel.specs.Ccw.{Lent}
use Rattle.channel.specs.Walk.{walk, readable}
use Rattle.channel.specs.Fetch.{InBytes, Inside}
use Rattle.channel.proofs.Stretch.{behind_places}
use Rattle.correction.specs.Retraced.{three_stayed_of}
use Rattle.correction.proofs.retrace.Given as goal

abbrev pub invariant-loop-here : goal.invariant-loop-here
invariant-loop-here l =
    (l.from ≤ l.n)
    × InBytes l.word
    × Inside l.chain [] l.here
    × (readable l.size l.word ≡ true)
    × ((ps : List (Option ℕ))
    × (length ps ≡ l.from)
    × (l.stayed ≡ three_stayed_of l.k ps)
    × ((p : Lent) → p.chain ≡ l.chain → p.program ≡ []
    → behind_places ps (walk p l.size (l.n - l.from) l.here l.word l.word.count l.word.address) ≡ walk p l.size l.n l.initial.here l.initial.word l.initial.word.count l.initial.word.address))

abbrev pub decreases-loop-here : goal.decreases-loop-here
decreases-loop-here l = l.n - l.from
