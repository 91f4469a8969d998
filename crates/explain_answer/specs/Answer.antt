-- Lines of what recovery answers.
use Rattle.std.specs.Prelude.{ℕ, List, [], ◌++◌}
use Rattle.text.specs.Text.{ascii, number}
use Rattle.status.specs.Status.{csw_text}
use Rattle.words.specs.Words.{item}
use Rattle.channel.specs.declared.Csw.{Csw}
use Rattle.recovery.specs.Recovery.{reached_head}
use Rattle.recovered.specs.declared.Kind.{Kind}
use Rattle.recovered.specs.declared.Kind.TheVariants.{Five, FiveA, Eight, Nine, Ten, TenA, Eleven}
use Rattle.recovered.specs.declared.Recovered.{Recovered}
use Rattle.recovered.specs.declared.Recovered.TheVariants.{Refused, ActionOne, ActionTwo, Repeat, CorrectedOnly, Finished, Restart}
use Rattle.explain_names.specs.Names.{refusal_line}
use Rattle.explain_ccws.specs.Ccws.{ccw_lines, used_in}
use Rattle.explain_correction.specs.Correction.{correction_text}

-- the answers in words, a slash between each and the next
unfoldable pub action_texts : List ℕ
action_texts =
    ascii "action 1: permanent error, tell the operator"
    ++ ascii "/action 2: give the condition back to the program, no retry"
    ++ ascii "/repeat: run the chain again"
    ++ ascii "/action 5: storage is corrected, and no more: PCI fetch mode"
    ++ ascii "/action 5: storage is corrected, and the chain is finished"
    ++ ascii "/action 5: storage is corrected, go on behind the search"
    ++ ascii "/action 5A: storage is corrected, go on behind a read count"
    ++ ascii "/action 8: seek the next cylinder, repeat the interrupted CCW"
    ++ ascii "/action 9: seek the next cylinder, read on by restart CCW 1"
    ++ ascii "/action 10: make the user's seek, go on behind it"
    ++ ascii "/action 10A: seek the next track, repeat the interrupted CCW"
    ++ ascii "/action 11: seek the next track, read on by restart CCW 1"

-- the text with number i of these, counted from 0, and the line's end
unfoldable pub action_line : ℕ → List ℕ
action_line i = item i action_texts ++ ascii "\n"

-- ending address, unit status, channel status and count left
unfoldable pub csw_line : Csw → List ℕ
csw_line w = ascii "csw" ++ csw_text w

-- ---- a restart

-- the number of its text in `action_texts`, counted from 0
unfoldable pub restart_index : Kind → ℕ
restart_index Five = 5
restart_index FiveA = 6
restart_index Eight = 7
restart_index Nine = 8
restart_index Ten = 9
restart_index TenA = 10
restart_index Eleven = 11

-- of 10A and 11: "For 10A the cylinder comes from the user's argument and the head from sense byte 6": the head in two digits
unfoldable pub head_text : (sense : List ℕ) → List ℕ
head_text sense = ascii "head reached" ++ number 10 2 (reached_head sense) ++ ascii ", by sense byte 6, on the cylinder of the user's seek argument\n"

-- what the action rests on: only action 5 corrects storage, and only 10A and 11 go by the head reached
unfoldable pub detail_text : Kind → (sense storage : List ℕ) → List ℕ
detail_text Five sense st = correction_text sense st
detail_text FiveA sense st = correction_text sense st
detail_text Eight sense st = []
detail_text Nine sense st = []
detail_text Ten sense st = []
detail_text TenA sense st = head_text sense
detail_text Eleven sense st = head_text sense

-- "restart program, 64 bytes at 1000"
unfoldable pub restart_text : Kind → (sense storage program restart_arguments : List ℕ) → List ℕ
restart_text k sense st p a = action_line (restart_index k) ++ detail_text k sense st ++ ccw_lines (ascii "restart") 0x1000 p a (used_in p)

-- "'finished' with the CSW less unit check"
unfoldable pub finished_text : Csw → (sense storage : List ℕ) → List ℕ
finished_text w sense st = action_line 4 ++ correction_text sense st ++ csw_line w

-- ---- an answer, with storage and the restart areas behind it

-- the answer in words, then what comes with it: the correction, the CSW, the restart program
unfoldable pub answer_text : Recovered → (sense storage program restart_arguments : List ℕ) → List ℕ
answer_text (Refused q) sense st p a = refusal_line q
answer_text ActionOne sense st p a = action_line 0
answer_text ActionTwo sense st p a = action_line 1
answer_text Repeat sense st p a = action_line 2
answer_text CorrectedOnly sense st p a = action_line 3 ++ correction_text sense st
answer_text (Finished w) sense st p a = finished_text w sense st
answer_text (Restart k) sense st p a = restart_text k sense st p a
