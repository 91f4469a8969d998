-- What is printed, from what the code does.
--   parts_shown, parts_stored      the reading of the parts: its lines, and storage behind it
--   bad_shown, bad_stored          an input whose parts are not there
--   whole_shown, whole_stored      an input whose parts are
--   ordered                        the parts lie in the input
use Rattle.std.specs.Prelude.{Option, Some, None, Result, Err}
use Prim.Native.Nat.{ℕ, ◌-◌}
use mathlib.Core.Path.{◌≡◌, ap, sym, ◌∙◌}
use mathlib.Core.List.{List}
use lib.ListN.{length, take, drop, replicate}
use Rattle.base.specs.Choice.{opt}
use Rattle.base.specs.Bytes.{part}
use Rattle.base.proofs.Bytes.{to_end}
use Rattle.text.specs.Text.{Puts}
use Rattle.questions.specs.declared.Question.TheVariants as Question
use Rattle.address.specs.declared.Model.TheVariants.{One}
use Rattle.reading_runs.specs.Conclusion.{Conclusion, leaving}
use Rattle.whole_reading.specs.Reading.{reading_call}
use Rattle.reading_input.specs.declared.Places.{Places}
use Rattle.reading_input.specs.Input.{parts_of}
use Rattle.reading_input.specs.Found.{parts_in, found_in, Ordered, Inside}
use Rattle.reading_lines.specs.Lines.{answer_text, refusal_line}
use Rattle.reading_session.specs.Session.{reading_of, shown, answered, text_of}
use Rattle.reading_runs.specs.declared.Over.{Over}
use Rattle.questions.specs.declared.Question.{Question}

-- ---- the parts

module _ (s st st' p' a' l' : List ℕ) (p : Places) (r : Result Over Question)
    (e : leaving r st' p' a' l'
    ≡ reading_call One (take (p.second - p.chain) (drop p.chain s)) (take (p.third - p.arguments) (drop p.arguments s)) st
    (take (length s - p.image) (drop p.image s)) (take (p.image - p.faults) (drop p.faults s))
    (take (p.faults - p.extent) (drop p.extent s)) 4096 (replicate 64 0) (replicate 16 0) (replicate 24576 0)) where
  read_is : leaving r st' p' a' l' ≡ reading_of (parts_in s p) st
  unfolding reading_of part
  read_is = e ∙ rw (to_end s p.image)

  pub parts_shown : {x y : List ℕ} {n : ℕ} → Puts x 0 (answer_text r st' l') y n → Puts x 0 (shown (reading_of (parts_in s p) st)) y n
  unfolding shown
  parts_shown q = rw (← read_is) q

  pub parts_stored : st' ≡ (reading_of (parts_in s p) st).storage
  parts_stored = ap (λ (k : Conclusion). k.storage) read_is

-- ---- the input

module _ (s st : List ℕ) {f : Option Places} (e : found_in s f ≡ parts_of s) where
  module _ (h : f ≡ None) where
    bad_is : answered s st ≡ leaving (Err Question.Areas) st (replicate 64 0) (replicate 16 0) (replicate 24576 0)
    unfolding answered opt
    bad_is = rw (← e, h)

    pub bad_shown : {x y : List ℕ} {n : ℕ} → Puts x 0 (refusal_line Question.Areas) y n → Puts x 0 (text_of s st) y n
    unfolding text_of shown answer_text
    bad_shown q = rw bad_is q

    pub bad_stored : st ≡ (answered s st).storage
    bad_stored = ap (λ (k : Conclusion). k.storage) (sym bad_is)

  module _ {p : Places} (h : f ≡ Some p) where
    whole_is : answered s st ≡ reading_of (parts_in s p) st
    unfolding answered opt
    whole_is = rw (← e, h)

    pub whole_shown : {x y : List ℕ} {n : ℕ} → Puts x 0 (shown (reading_of (parts_in s p) st)) y n → Puts x 0 (text_of s st) y n
    unfolding text_of
    whole_shown q = rw whole_is q

    pub whole_stored : {st' : List ℕ} → st' ≡ (reading_of (parts_in s p) st).storage → st' ≡ (answered s st).storage
    whole_stored q = rw whole_is q

pub ordered : {f : Option Places} {p : Places} {n : ℕ} → f ≡ Some p → Inside f n → Ordered p n
ordered e h = rw e at h
