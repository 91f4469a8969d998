-- `Drive::examine` meets its contract: the count area that comes next, compared with the five bytes. Assumes nothing.
use native.Mathlib.Omega.{arith}
use mathlib.Core.Path.{sym, ◌∙◌}
use Rattle.position.proofs.Search.{names_is, examines_equal, examines_unequal}
use Rattle.position.proofs.Drive.examine.Goals as goal

pub returns-in_default : goal.returns-in_default
returns-in_default c = record { examines = (rw c.in_default.is at c.coming.ensures) _; examined_stands = tt }

pub stepped-requires : goal.stepped-requires
stepped-requires c =
    let a = rw c.in-Some.is at c.coming.ensures in record { standing = c.requires.standing; spots = a.0; passes_bound = omega arith }

pub returns-then-names : goal.returns-then-names
returns-then-names c =
    let a = rw c.in-Some.is at c.coming.ensures in
    let g = c.requires.b0_bound in
    let q = names_is _ _ _ _ _ _ _ g.1 g.3 ∙ sym c.names.ensures in record { examines = examines_equal _ c.args.self c.in-Some.x _ a.1 _ _ q c.stepped.result c.if-names.true c.stepped.ensures.value; examined_stands = c.stepped.ensures.stands }

pub stepped-requires-2 : goal.stepped-requires-2
stepped-requires-2 c =
    let a = rw c.in-Some.is at c.coming.ensures in record { standing = c.requires.standing; spots = a.0; passes_bound = a.2 }

pub returns : goal.returns
returns c =
    let a = rw c.in-Some.is at c.coming.ensures in
    let g = c.requires.b0_bound in
    let q = names_is _ _ _ _ _ _ _ g.1 g.3 ∙ sym c.names.ensures in record { examines = examines_unequal _ c.args.self c.in-Some.x _ a.1 _ _ q c.stepped-2.result c.if-names.false c.stepped-2.ensures.value; examined_stands = c.stepped-2.ensures.stands }
