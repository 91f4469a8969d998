-- What the program `explain` prints for its input. Everything that it says of a recovery is what the proved recovery answers.
use Rattle.std.specs.Prelude.{ℕ, List, [], ◌++◌, replicate}
use Rattle.base.specs.Choice.{opt}
use Rattle.text.specs.Text.{ascii}
use Rattle.questions.specs.declared.Question.TheVariants as Question
use Rattle.address.specs.declared.Model.TheVariants.{One}
use Rattle.recovery.specs.Report.{report_from}
use Rattle.recovered.specs.declared.Recovered.{Recovered}
use Rattle.recovered.specs.Applied.{Applied}
use Rattle.recover.specs.Recover.{recover_call}
use Rattle.explain_names.specs.Names.{refusal_line}
use Rattle.explain_ccws.specs.Ccws.{ccw_lines}
use Rattle.explain_sense.specs.Sense.{sense_lines, row_text}
use Rattle.explain_answer.specs.Answer.{answer_text}
use Rattle.explain_input.specs.Input.{Parts, parts_of}

-- the bytes of the longest text: 256 CCWs of 682, sense bits of 1,855, a row of 177, an answer of 5,754
abbrev pub room : ℕ
room = 182378

-- the sense bytes of a report; no bit is on in one that is not well formed
unfoldable pub sense_of : List ℕ → List ℕ
sense_of report = opt (report_from report) (replicate 24 0) (λ r. r.sense)

-- the sense bits that are on, the row of the error table that they match, and the answer with the areas behind it
unfoldable pub report_text : Recovered → (sense storage program restart_arguments : List ℕ) → List ℕ
report_text r sense st p a = sense_lines sense ++ row_text sense ++ answer_text r sense st p a

-- Recovery from the report, on a pack of model 1, with storage of the greatest size. It begins as zeros, so that a byte which is corrected shows its pattern byte.
unfoldable pub recovery_of : Parts → Applied
recovery_of p = recover_call One p.chain p.report p.extent (replicate 65536 0) (replicate 64 0) (replicate 16 0)

-- the CCWs of the chain, as many as the longest chain has, then what recovery makes of the report
unfoldable pub explained : Parts → List ℕ
explained p =
    ccw_lines (ascii "ccw") 0 p.chain [] 256
    ++ report_text (recovery_of p).answer (sense_of p.report) (recovery_of p).storage (recovery_of p).program (recovery_of p).restart_arguments

-- the whole text; an input without its parts is refusal 1
unfoldable pub printed : List ℕ → List ℕ
printed s = opt (parts_of s) (refusal_line Question.Areas) explained
