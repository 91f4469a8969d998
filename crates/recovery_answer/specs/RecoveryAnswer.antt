-- Recovery's answer as a number and 10 bytes: what it is 1, the action 1, a CSW 8.
use Rattle.std.specs.Prelude.{ℕ, List, ◌∷◌}
use Rattle.questions.specs.Number.{number_of}
use Rattle.channel.specs.declared.Csw.{Csw}
use Rattle.channel.specs.Csw.{csw_bytes}
use Rattle.recovered.specs.declared.Recovered.{Recovered}
use Rattle.recovered.specs.declared.Recovered.TheVariants.{Refused, ActionOne, ActionTwo, Repeat, CorrectedOnly, Finished, Restart}
use Rattle.recovered.specs.Applied.{action_number}

-- the refusing question's number, or 0
abbrev pub recovery_return : Recovered → ℕ
recovery_return (Refused q) = number_of q
recovery_return ActionOne = 0
recovery_return ActionTwo = 0
recovery_return Repeat = 0
recovery_return CorrectedOnly = 0
recovery_return (Finished w) = 0
recovery_return (Restart k) = 0

-- stands where an answer has no CSW: eight bytes of 0
abbrev pub no_csw : Csw
no_csw = record { address = 0; unit = 0; channel = 0; count = 0 }

-- the 10 bytes, from their three parts
abbrev pub bytes_with : ℕ → ℕ → Csw → List ℕ
bytes_with what action w = what ∷ action ∷ csw_bytes w

-- 1 action 1, 2 action 2, 3 repeat, 4 corrected only, 5 finished, 6 restart. "A no answers its number and changes nothing."
unfoldable pub recovery_answer_after : List ℕ → Recovered → List ℕ
recovery_answer_after a (Refused q) = a
recovery_answer_after a ActionOne = bytes_with 1 0 no_csw
recovery_answer_after a ActionTwo = bytes_with 2 0 no_csw
recovery_answer_after a Repeat = bytes_with 3 0 no_csw
recovery_answer_after a CorrectedOnly = bytes_with 4 0x05 no_csw
recovery_answer_after a (Finished w) = bytes_with 5 0x05 w
recovery_answer_after a (Restart k) = bytes_with 6 (action_number k) no_csw
