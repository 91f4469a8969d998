-- `action_nine_eleven::walk_end` meets its contract. Invariant: the rest of the walk ends as the whole does. Measure: the bytes left; each CCW
-- takes at least one. Assumes nothing.
use mathlib.Core.Path.{◌≡◌}
use mathlib.Core.Bool.{true}
use mathlib.Core.List.{[]}
use Rattle.channel.specs.Ccw.{Lent}
use Rattle.channel.specs.Walk.{walk, readable}
use Rattle.channel.specs.Fetch.{InBytes, Inside}
use Rattle.action_nine_eleven.specs.NineEleven.{end_of}
use Rattle.action_nine_eleven.proofs.walk_end.Given as goal

abbrev pub invariant-loop-here : goal.invariant-loop-here
invariant-loop-here l =
    InBytes l.word
    × Inside l.chain [] l.here
    × (readable l.size l.word ≡ true)
    × ((p : Lent) → p.chain ≡ l.chain → p.program ≡ []
    → end_of (walk p l.size l.more l.here l.word l.word.count l.word.address) ≡ end_of (walk p l.size l.initial.more l.initial.here l.initial.word l.initial.word.count l.initial.word.address))

abbrev pub decreases-loop-here : goal.decreases-loop-here
decreases-loop-here l = l.more
