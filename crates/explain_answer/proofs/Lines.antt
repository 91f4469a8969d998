-- Lines of an answer, from the texts that the code puts one behind the other.
--   actions_short, action_put, csw_put          an action in words; a CSW
--   restart_put, finished_put                   a restart, a chain that is finished
--   head_put                                    the head reached
--   detail_put, answered                        what a restart rests on, and the answer, by cases
use Prim.Native.Nat.{ℕ}
use mathlib.Core.Path.{◌≡◌, refl}
use mathlib.Core.Bool.{true}
use mathlib.Core.List.{List, [], ◌∷◌}
use Rattle.base.specs.Choice.{pick}
use Rattle.status.specs.Status.{csw_text}
use Rattle.text.specs.Text.{Puts, ascii, number}
use Rattle.text.proofs.Written.{puts_then}
use Rattle.words.specs.Words.{item, room_after, short_from, short}
use Rattle.channel.specs.declared.Csw.{Csw}
use Rattle.recovery.specs.Recovery.{reached_head}
use Rattle.recovered.specs.declared.Kind.{Kind}
use Rattle.recovered.specs.declared.Recovered.{Recovered}
use Rattle.explain_ccws.specs.Ccws.{ccw_lines, used_in}
use Rattle.explain_correction.specs.Correction.{correction_text}
use Rattle.explain_answer.specs.Answer.{action_texts, action_line, csw_line, restart_index, head_text, detail_text, restart_text, finished_text, answer_text}

pub actions_short : short 64 action_texts ≡ true
unfolding action_texts ascii short short_from room_after pick
actions_short = refl

pub action_put : {x y₁ y : List ℕ} {at r₁ r : ℕ} (i : ℕ) → Puts x at (item i action_texts) y₁ r₁ → Puts y₁ r₁ (0x0a ∷ []) y r → Puts x at (action_line i) y r
unfolding action_line ascii
action_put i a b = puts_then a b

pub csw_put : {x y₁ y : List ℕ} {at r₁ r : ℕ} (w : Csw) → Puts x at (ascii "csw") y₁ r₁ → Puts y₁ r₁ (csw_text w) y r → Puts x at (csw_line w) y r
unfolding csw_line
csw_put w a b = puts_then a b

pub restart_put : {x y₁ y₂ y : List ℕ} {at r₁ r₂ r i n : ℕ} (k : Kind) (sense st p a : List ℕ) → i ≡ restart_index k → n ≡ used_in p
    → Puts x at (action_line i) y₁ r₁ → Puts y₁ r₁ (detail_text k sense st) y₂ r₂ → Puts y₂ r₂ (ccw_lines (ascii "restart") 0x1000 p a n) y r
    → Puts x at (restart_text k sense st p a) y r
unfolding restart_text
restart_put k sense st p a ei en l m c = rw (← ei, ← en) (puts_then (puts_then l m) c)

pub finished_put : {x y₁ y₂ y : List ℕ} {at r₁ r₂ r : ℕ} (w : Csw) (sense st : List ℕ)
    → Puts x at (action_line 4) y₁ r₁ → Puts y₁ r₁ (correction_text sense st) y₂ r₂ → Puts y₂ r₂ (csw_line w) y r → Puts x at (finished_text w sense st) y r
unfolding finished_text
finished_put w sense st a b c = puts_then (puts_then a b) c

pub head_put : {x y₁ y₂ y : List ℕ} {at r₁ r₂ r n : ℕ} (sense : List ℕ) → n ≡ reached_head sense
    → Puts x at (ascii "head reached") y₁ r₁ → Puts y₁ r₁ (number 10 2 n) y₂ r₂
    → Puts y₂ r₂ (ascii ", by sense byte 6, on the cylinder of the user's seek argument\n") y r → Puts x at (head_text sense) y r
unfolding head_text
head_put sense e a b c = rw (← e) (puts_then (puts_then a b) c)

-- ---- by cases

pub detail_put : {x y s : List ℕ} {at r : ℕ} {k j : Kind} (sense st : List ℕ) → k ≡ j → Puts x at s y r → s ≡ detail_text j sense st → Puts x at (detail_text k sense st) y r
detail_put sense st e q h = rw (e, ← h) q

pub answered : {x y s : List ℕ} {at r : ℕ} {o b : Recovered} (sense st p a : List ℕ) → o ≡ b → Puts x at s y r → s ≡ answer_text b sense st p a → Puts x at (answer_text o sense st p a) y r
answered sense st p a e q k = rw (e, ← k) q
