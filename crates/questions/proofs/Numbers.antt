-- No two questions have one number: `same_number`. So a promise on the question that refuses says the same as one on its number.
use Prim.Native.Nat.{ℕ}
use mathlib.Core.Path.{◌≡◌, refl, ap, sym, ◌∙◌}
use mathlib.Core.Bool.{Bool, true, false}
use lib.Dec.{eqb}
use Rattle.questions.specs.declared.Question.{Question}
use Rattle.questions.specs.declared.Question.TheVariants.{Areas, Image, Faults, Report, Extent, Row, Action, Format, Agreement}
use Rattle.questions.specs.Number.{number_of}

choose : Bool → Question → Question → Question
choose true p q = p
choose false p q = q

question_of : ℕ → Question
question_of n =
    choose (eqb n 1) Areas
    (choose (eqb n 2) Image
    (choose (eqb n 3) Faults
    (choose (eqb n 4) Report
    (choose (eqb n 5) Extent
    (choose (eqb n 6) Row
    (choose (eqb n 7) Action
    (choose (eqb n 8) Format Agreement)))))))

back : (q : Question) → question_of (number_of q) ≡ q
unfolding question_of choose
back Areas = refl
back Image = refl
back Faults = refl
back Report = refl
back Extent = refl
back Row = refl
back Action = refl
back Format = refl
back Agreement = refl

pub same_number : (p q : Question) → number_of p ≡ number_of q → p ≡ q
same_number p q e = sym (back p) ∙ ap question_of e ∙ back q
