-- Names, from what the code puts.
--   read-*, tic-index, other-index   the number of a command's name
--   *-short                          no name is longer than 64 bytes
--   command_put                      the name of a command
--   flag_off, flag_on                a flag
--   six_a, numbered                  an action of the error table
--   refusal_put                      a refusal
use Prim.Native.Nat.{ℕ}
use mathlib.Core.Path.{◌≡◌, refl, ◌∙◌}
use mathlib.Core.Bool.{true, false}
use mathlib.Core.List.{List, [], ◌∷◌}
use borrow.Author.Tests.{eq-eqb, ne_eqb}
use Rattle.base.specs.Choice.{pick}
use Rattle.base.specs.Bits.{bit_on}
use Rattle.text.specs.Text.{Puts, ascii}
use Rattle.status.specs.Status.{refused_text}
use Rattle.text.proofs.Written.{puts_then, puts_none}
use Rattle.words.specs.Words.{item, room_after, short_from, short}
use Rattle.questions.specs.declared.Question.{Question}
use Rattle.questions.specs.Number.{number_of}
use Rattle.channel.specs.declared.Ccw.{Ccw}
use Rattle.channel.specs.Ccw.{is_tic}
use Rattle.drive.specs.declared.Read.{Read}
use Rattle.drive.specs.declared.Command.{Command}
use Rattle.drive.specs.Command.{command_of}
use Rattle.explain_names.specs.Names.{command_names, read_index, command_index, ccw_index, command_name, flag_names, flag_text, sense_names, action_names, action_name, question_texts, refusal_line}

-- ---- the number of a command's name

module _ (k : Read) where
  pub read_whole : k.counts ≡ true → k.datas ≡ true → 11 ≡ read_index k
  unfolding read_index pick
  read_whole a b = rw (a, b)

  pub read_count : k.counts ≡ true → k.datas ≡ false → 10 ≡ read_index k
  unfolding read_index pick
  read_count a b = rw (a, b)

  pub read_key : k.counts ≡ false → k.keys ≡ true → 9 ≡ read_index k
  unfolding read_index pick
  read_key a b = rw (a, b)

  pub read_data : k.counts ≡ false → k.keys ≡ false → 8 ≡ read_index k
  unfolding read_index pick
  read_data a b = rw (a, b)

module _ (c : Ccw) {b : _} (e : b ≡ is_tic c) where
  pub tic_index : b ≡ true → 0 ≡ ccw_index c
  unfolding ccw_index pick
  tic_index h = rw (← e, h)

  pub other_index : {k : Command} {i : ℕ} → b ≡ false → k ≡ command_of c.command → i ≡ command_index k → i ≡ ccw_index c
  unfolding ccw_index pick
  other_index h f g = rw (← e, h, ← f) g

-- ---- no name is longer than 64 bytes

pub commands_short : short 64 command_names ≡ true
unfolding command_names ascii short short_from room_after pick
commands_short = refl

pub flags_short : short 64 flag_names ≡ true
unfolding flag_names ascii short short_from room_after pick
flags_short = refl

pub senses_short : short 64 sense_names ≡ true
unfolding sense_names ascii short short_from room_after pick
senses_short = refl

pub actions_short : short 64 action_names ≡ true
unfolding action_names ascii short short_from room_after pick
actions_short = refl

pub questions_short : short 64 question_texts ≡ true
unfolding question_texts ascii short short_from room_after pick
questions_short = refl

-- ---- names

module _ {x y : List ℕ} {at r : ℕ} where
  pub command_put : (c : Ccw) {i : ℕ} → i ≡ ccw_index c → Puts x at (item i command_names) y r → Puts x at (command_name c) y r
  unfolding command_name
  command_put c e p = rw (← e) p

  pub flag_on : {z : List ℕ} {q i : ℕ} (flags k : ℕ) → bit_on k flags ≡ true → i ≡ k → Puts x at (0x2c ∷ 0x20 ∷ []) y r → Puts y r (item i flag_names) z q → Puts x at (flag_text flags k) z q
  unfolding flag_text ascii pick
  flag_on flags k h e p o = rw (h, ← e) (puts_then p o)

  pub six_a : (k : ℕ) → k ≡ 0x16 → Puts x at (0x36 ∷ 0x41 ∷ []) y r → Puts x at (action_name k) y r
  unfolding action_name ascii pick
  six_a k e p = rw (eq-eqb k 0x16 e) p

  pub numbered : (k : ℕ) {i : ℕ} → (k ≡ 0x16 → ⊥) → i ≡ k → Puts x at (item i action_names) y r → Puts x at (action_name k) y r
  unfolding action_name pick
  numbered k h e p = rw (ne_eqb k 0x16 h, ← e) p

pub flag_off : (x : List ℕ) (at flags k : ℕ) → bit_on k flags ≡ false → Puts x at (flag_text flags k) x at
unfolding flag_text pick
flag_off x at flags k h = rw h (puts_none x at)

pub refusal_put : {x y₁ y₂ y₃ y : List ℕ} {at r₁ r₂ r₃ r k n : ℕ} (q : Question) → k ≡ number_of q → n ≡ k
    → Puts x at (refused_text q) y₁ r₁ → Puts y₁ r₁ (0x3a ∷ 0x20 ∷ []) y₂ r₂ → Puts y₂ r₂ (item n question_texts) y₃ r₃ → Puts y₃ r₃ (0x0a ∷ []) y r
    → Puts x at (refusal_line q) y r
unfolding refusal_line ascii
refusal_put q ek en a b c d = puts_then (puts_then (puts_then a b) (rw (en ∙ ek) at c)) d
