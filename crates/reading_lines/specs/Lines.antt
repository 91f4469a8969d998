-- The lines that the program prints for an answer (document 01, the last paragraph under "Proved cases").
use Rattle.std.specs.Prelude.{ℕ, zero, suc, List, [], ◌++◌, eqb, get_or, take, drop, Result, Ok, Err}
use Rattle.base.specs.Choice.{pick}
use Rattle.base.specs.Bytes.{be16_at}
use Rattle.text.specs.Text.{ascii, number, bytes_text}
use Rattle.questions.specs.declared.Question.{Question}
use Rattle.channel.specs.declared.Csw.{Csw}
use Rattle.status.specs.Status.{csw_text, refused_text}
use Rattle.reading_runs.specs.declared.How.{How}
use Rattle.reading_runs.specs.declared.How.TheVariants.{Ended, Limited, Stop}
use Rattle.reading_runs.specs.declared.Over.{Over}

-- ---- the recoveries

-- "its action (5 or 5A)": an entry of the list of recoveries has 05 or 15 for them
unfoldable pub action_name : ℕ → List ℕ
action_name n = pick (eqb n 0x15) (ascii "5A") (ascii "5")

-- "then cylinder, head and record as 3, 2 and 3 decimal digits"
unfoldable pub record_text : ℕ → ℕ → ℕ → List ℕ
record_text cylinder head r = number 10 3 cylinder ++ number 10 2 head ++ number 10 3 r ++ ascii "\n"

-- "a line for each recovery", from an entry's six bytes
unfoldable pub recovery_line : List ℕ → List ℕ
recovery_line l = ascii "action " ++ action_name (get_or l 0 0) ++ record_text (be16_at l 1) (be16_at l 3) (get_or l 5 0)

-- the lines of the first n entries
unfoldable pub recovery_lines : ℕ → List ℕ → List ℕ
recovery_lines zero l = []
recovery_lines (suc n) l = recovery_line l ++ recovery_lines n (drop 6 l)

-- ---- the end

-- "limit" or "stopped" and its number replace the word "end"
unfoldable pub end_name : How → List ℕ
end_name Ended = ascii "end"
end_name Limited = ascii "limit"
end_name (Stop n) = ascii "stopped" ++ number 10 1 n

-- "a line with ending address, unit status, channel status and count left in hexadecimal"
unfoldable pub end_line : How → Csw → List ℕ
end_line h w = end_name h ++ csw_text w

-- ---- storage

-- "and the first 16 bytes of storage"
unfoldable pub storage_line : List ℕ → List ℕ
storage_line st = bytes_text (take 16 st) ++ ascii "\n"

-- ---- the answer

-- the bytes of the longest: 4,096 recoveries of 21, an end of 28, storage of 33
abbrev pub room : ℕ
room = 86077

-- "a refusal prints only 'refused' and its number"
unfoldable pub refusal_line : Question → List ℕ
refusal_line q = refused_text q ++ ascii "\n"

-- the lines of an answer, with storage and the list of recoveries behind it
unfoldable pub answer_text : Result Over Question → (storage list : List ℕ) → List ℕ
answer_text (Err q) st l = refusal_line q
answer_text (Ok o) st l = recovery_lines o.made l ++ end_line o.how o.csw ++ storage_line st
