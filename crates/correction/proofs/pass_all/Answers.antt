-- `correction::pass_all` meets its contract: byte by byte. Assumes nothing.
use Rattle.correction.specs.Retraced.{all_passed}
use Rattle.correction.proofs.pass_all.Goals as goal

pub returns : goal.returns
unfolding all_passed
returns c = rw (c.pass.ensures, c.pass-2.ensures, c.pass-3.ensures)
