-- `restart_areas::place` meets its contract. Invariant: what is left to be placed makes the same area. Assumes nothing.
use mathlib.Core.Path.{◌∙◌}
use Rattle.restart_areas.proofs.Placing.{placed_more, placed_all}
use Rattle.restart_areas.proofs.place.Goals as goal

pub loop-i-preserved : goal.loop-i-preserved
loop-i-preserved c = placed_more _ _ _ _ c.loop-i-test.true ∙ c.loop-i.invariant

pub returns : goal.returns
returns c = placed_all _ _ _ _ c.loop-i-test.false ∙ c.loop-i.invariant
