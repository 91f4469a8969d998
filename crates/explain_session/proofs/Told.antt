-- What is printed, from what the code does.
--   told_put                       sense bits, row and answer
--   well_sense, ill_sense          the sense of a report that was read
--   long_report                    the length of such a report
--   parts_put                      the text for the parts
--   bad_put, whole_put             an input without its parts, and one with them
--   ordered                        the parts lie in the input
use Rattle.std.specs.Prelude.{Option, Some, None, Result, Ok, Err}
use Prim.Native.Nat.{ℕ, ◌-◌, ◌≤◌}
use native.Mathlib.Omega.{arith}
use mathlib.Core.Path.{◌≡◌, ◌∙◌}
use mathlib.Core.List.{List, []}
use lib.ListN.{length, take, drop, replicate}
use Rattle.base.specs.Choice.{opt}
use Rattle.base.specs.Bytes.{part}
use Rattle.base.proofs.Bytes.{to_end}
use Rattle.text.specs.Text.{Puts, ascii}
use Rattle.text.proofs.Written.{puts_then}
use Rattle.questions.specs.declared.Question.{Question}
use Rattle.address.specs.declared.Model.TheVariants.{One}
use Rattle.recovery.specs.Report.{report_from}
use Rattle.report.specs.declared.Report as Code
use Rattle.report.specs.Reported.{reported_of, Bounds, Bounded}
use Rattle.recovered.specs.declared.Recovered.{Recovered}
use Rattle.recovered.specs.Applied.{with}
use Rattle.recover.specs.Recover.{recover_call}
use Rattle.explain_names.specs.Names.{refusal_line}
use Rattle.explain_ccws.specs.Ccws.{ccw_lines}
use Rattle.explain_sense.specs.Sense.{sense_lines, row_text}
use Rattle.explain_answer.specs.Answer.{answer_text}
use Rattle.explain_input.specs.declared.Places.{Places}
use Rattle.explain_input.specs.Input.{parts_of}
use Rattle.explain_input.specs.Found.{parts_in, found_in, Ordered, Inside}
use Rattle.explain_session.specs.Session.{sense_of, report_text, recovery_of, explained, printed}
use Rattle.report.specs.declared.Report.{Report}

pub told_put : {x y₁ y₂ y : List ℕ} {at r₁ r₂ r : ℕ} (o : Recovered) (sense st p a : List ℕ)
    → Puts x at (sense_lines sense) y₁ r₁ → Puts y₁ r₁ (row_text sense) y₂ r₂ → Puts y₂ r₂ (answer_text o sense st p a) y r
    → Puts x at (report_text o sense st p a) y r
unfolding report_text
told_put o sense st p a l m n = puts_then (puts_then l m) n

-- ---- the sense of a report

module _ (s : List ℕ) (o : Result Report Question) (e : reported_of s o ≡ report_from s) where
  pub well_sense : {w : Code.Report} → o ≡ Ok w → take 24 (drop 3 s) ≡ sense_of s
  unfolding sense_of opt part
  well_sense h = rw (← e, h)

  pub ill_sense : {q : Question} → o ≡ Err q → replicate 24 0 ≡ sense_of s
  unfolding sense_of opt
  ill_sense h = rw (← e, h)

pub long_report : (s : List ℕ) {o : Result Report Question} {w : Code.Report} → o ≡ Ok w → Bounded s o → 27 ≤ length s
long_report s {o} {w} h b =
    let g : Bounds s w = rw h at b in
    omega (arith, g.long)

-- ---- the parts

module _ (s : List ℕ) (p : Places) (o : Recovered) (st q a : List ℕ)
    (e : with o st q a
    ≡ recover_call One (take (p.report - p.chain) (drop p.chain s)) (take (p.end - p.report) (drop p.report s))
    (take (length s - p.extent) (drop p.extent s)) (replicate 65536 0) (replicate 64 0) (replicate 16 0)) where
  recovered : with o st q a ≡ recovery_of (parts_in s p)
  unfolding recovery_of part
  recovered = e ∙ rw (to_end s p.extent)

  pub parts_put : {x y₁ y : List ℕ} {r₁ r : ℕ} → Puts x 0 (ccw_lines (ascii "ccw") 0 (take (p.report - p.chain) (drop p.chain s)) [] 256) y₁ r₁
      → Puts y₁ r₁ (report_text o (sense_of (take (p.end - p.report) (drop p.report s))) st q a) y r → Puts x 0 (explained (parts_in s p)) y r
  unfolding explained part
  parts_put c t = rw (← recovered) (puts_then c t)

-- ---- the input

module _ (s : List ℕ) (f : Option Places) (e : found_in s f ≡ parts_of s) where
  pub bad_put : {x y : List ℕ} {n : ℕ} → f ≡ None → Puts x 0 (refusal_line Question.Areas) y n → Puts x 0 (printed s) y n
  unfolding printed opt
  bad_put h q = rw (← e, h) q

  pub whole_put : {x y : List ℕ} {n : ℕ} {p : Places} → f ≡ Some p → Puts x 0 (explained (parts_in s p)) y n → Puts x 0 (printed s) y n
  unfolding printed opt
  whole_put h q = rw (← e, h) q

pub ordered : {f : Option Places} {p : Places} {n : ℕ} → f ≡ Some p → Inside f n → Ordered p n
ordered e h = rw e at h
