-- `restart_areas::begin_arguments` meets its contract: what was placed in the cleared area is a law of `restart_arguments_of`. Assumes nothing.
use Rattle.restart_areas.proofs.Areas.{arguments_begun}
use Rattle.restart_areas.proofs.begin_arguments.Goals as goal

pub returns : goal.returns
returns c =
    arguments_begun _ _ _ c.args.restart_arguments.now c.requires.restart_arguments_len c.mask_byte.ensures (c.fill.ensures.after (λ y e. e))
    c.put_address.ensures c.place.ensures
