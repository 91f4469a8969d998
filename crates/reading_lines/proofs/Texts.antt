-- The lines, from the texts that the code puts one behind the other.
--   five_a_put, five_put, record_put, recovery_put     a recovery's line
--   recoveries_turn, recoveries_none                   the lines of all, one turn of the loop and its end
--   ended_put, limited_put, stopped_put, end_put       the end
--   storage_put, short_put                             storage
--   made_within                                        how many recoveries there are at most
--   refusal_put, refused_put, over_put                 the answer
use Rattle.std.specs.Prelude.{Result, Ok, Err}
use Prim.Native.Nat.{ℕ, zero, suc, ◌+◌, ◌-◌, ◌<◌, ◌≤◌}
use native.Mathlib.Nat.{add-zero, not-suc-le-zero}
use native.Mathlib.Numerals.{sub-one}
use native.Mathlib.Omega.{arith}
use mathlib.Core.Path.{◌≡◌}
use mathlib.Core.List.{List, [], ◌∷◌, ◌++◌}
use lib.ListN.{length, get_or, take, drop}
use lib.Seq.{get_or-drop, drop-drop, take_all}
use borrow.Author.Tests.{eq-eqb, ne_eqb}
use Rattle.base.specs.Choice.{pick}
use Rattle.base.specs.Bytes.{be16_at}
use Rattle.base.proofs.Bytes.{be16-drop}
use Rattle.text.specs.Text.{Puts, ascii, number, bytes_text}
use Rattle.text.proofs.Written.{puts_then, puts_none}
use Rattle.questions.specs.declared.Question.{Question}
use Rattle.channel.specs.declared.Csw.{Csw}
use Rattle.status.specs.Status.{csw_text, refused_text}
use Rattle.reading_runs.specs.declared.How.{How}
use Rattle.reading_runs.specs.declared.How.TheVariants.{Ended, Limited, Stop}
use Rattle.reading_runs.specs.declared.Over as Code
use Rattle.reading_runs.specs.Conclusion.{MadeWithin}
use Rattle.reading_lines.specs.Lines.{action_name, record_text, recovery_line, recovery_lines, end_name, end_line, storage_line, refusal_line, answer_text}
use Rattle.reading_runs.specs.declared.Over.{Over}

-- ---- a recovery's line

module _ {x y : List ℕ} {at r : ℕ} where
  pub five_a_put : {n : ℕ} → n ≡ 0x15 → Puts x at (0x35 ∷ 0x41 ∷ []) y r → Puts x at (action_name n) y r
  unfolding action_name ascii pick
  five_a_put {n} e p = rw (eq-eqb n 0x15 e) p

  pub five_put : {n : ℕ} → (n ≡ 0x15 → ⊥) → Puts x at (0x35 ∷ []) y r → Puts x at (action_name n) y r
  unfolding action_name ascii pick
  five_put {n} e p = rw (ne_eqb n 0x15 e) p

pub record_put : {x y₁ y₂ y₃ y : List ℕ} {at r₁ r₂ r₃ r : ℕ} (cylinder head n : ℕ)
    → Puts x at (number 10 3 cylinder) y₁ r₁ → Puts y₁ r₁ (number 10 2 head) y₂ r₂ → Puts y₂ r₂ (number 10 3 n) y₃ r₃
    → Puts y₃ r₃ (0x0a ∷ []) y r → Puts x at (record_text cylinder head n) y r
unfolding record_text ascii
record_put cylinder head n a b c d = puts_then (puts_then (puts_then a b) c) d

line_at : (l : List ℕ) (from : ℕ)
    → recovery_line (drop from l) ≡ ascii "action " ++ action_name (get_or l from 0) ++ record_text (be16_at l (from + 1)) (be16_at l (from + 3)) (get_or l (from + 5) 0)
unfolding recovery_line
line_at l from = rw (be16-drop from 1 l, be16-drop from 3 l, get_or-drop from l 0 0, get_or-drop from l 5 0, add-zero)

pub recovery_put : {x y₁ y₂ y : List ℕ} {at r₁ r₂ r cylinder head n : ℕ} (l : List ℕ) (from : ℕ)
    → Puts x at (0x61 ∷ 0x63 ∷ 0x74 ∷ 0x69 ∷ 0x6f ∷ 0x6e ∷ 0x20 ∷ []) y₁ r₁ → Puts y₁ r₁ (action_name (get_or l from 0)) y₂ r₂
    → cylinder ≡ be16_at l (from + 1) → head ≡ be16_at l (from + 3) → n ≡ get_or l (from + 5) 0
    → Puts y₂ r₂ (record_text cylinder head n) y r → Puts x at (recovery_line (drop from l)) y r
unfolding ascii
recovery_put l from a b ec eh en d = rw (line_at l from, ← ec, ← eh, ← en) (puts_then (puts_then a b) d)

-- ---- the lines of all

lines_more : (l : List ℕ) (from left : ℕ) → 0 < left → recovery_lines left (drop from l) ≡ recovery_line (drop from l) ++ recovery_lines (left - 1) (drop (from + 6) l)
unfolding recovery_lines
lines_more l from zero h = absurd (not-suc-le-zero h)
lines_more l from (suc left) h = rw (sub-one, drop-drop 6 from l)

module _ {x : List ℕ} {at : ℕ} (l : List ℕ) where
  pub recoveries_turn : {y : List ℕ} {r : ℕ} (from left : ℕ) → 0 < left → Puts x at (recovery_line (drop from l)) y r
      → (z : List ℕ) (q : ℕ) → Puts y r (recovery_lines (left - 1) (drop (from + 6) l)) z q → Puts x at (recovery_lines left (drop from l)) z q
  recoveries_turn from left h p z q o = rw (lines_more l from left h) (puts_then p o)

  pub recoveries_none : (from left : ℕ) → left ≤ 0 → Puts x at (recovery_lines left (drop from l)) x at
  unfolding recovery_lines
  recoveries_none from zero h = puts_none x at
  recoveries_none from (suc left) h = absurd (not-suc-le-zero h)

-- ---- the end

module _ {x y : List ℕ} {at r : ℕ} {how : How} where
  pub ended_put : how ≡ Ended → Puts x at (0x65 ∷ 0x6e ∷ 0x64 ∷ []) y r → Puts x at (end_name how) y r
  unfolding end_name ascii
  ended_put e p = rw e p

  pub limited_put : how ≡ Limited → Puts x at (0x6c ∷ 0x69 ∷ 0x6d ∷ 0x69 ∷ 0x74 ∷ []) y r → Puts x at (end_name how) y r
  unfolding end_name ascii
  limited_put e p = rw e p

  pub stopped_put : {z : List ℕ} {q k n : ℕ} → how ≡ Stop n → k ≡ n → Puts x at (0x73 ∷ 0x74 ∷ 0x6f ∷ 0x70 ∷ 0x70 ∷ 0x65 ∷ 0x64 ∷ []) y r
      → Puts y r (number 10 1 k) z q → Puts x at (end_name how) z q
  unfolding end_name ascii
  stopped_put e k p o = rw (e, ← k) (puts_then p o)

pub end_put : {x y z : List ℕ} {at r q : ℕ} (how : How) (w : Csw) → Puts x at (end_name how) y r → Puts y r (csw_text w) z q → Puts x at (end_line how w) z q
unfolding end_line
end_put how w p o = puts_then p o

-- ---- storage

module _ {x y z : List ℕ} {at r q : ℕ} (st : List ℕ) where
  pub storage_put : Puts x at (bytes_text (take 16 st)) y r → Puts y r (0x0a ∷ []) z q → Puts x at (storage_line st) z q
  unfolding storage_line ascii
  storage_put p o = puts_then p o

  pub short_put : length st < 16 → Puts x at (bytes_text st) y r → Puts y r (0x0a ∷ []) z q → Puts x at (storage_line st) z q
  unfolding storage_line ascii
  short_put h p o = rw (take_all 16 st (omega arith)) (puts_then p o)

-- ---- the answer

pub made_within : (n : ℕ) {o : Result Over Question} {e : Code.Over} → o ≡ Ok e → MadeWithin n o → e.made ≤ n
made_within n q h = rw q at h

pub refusal_put : {x y₁ y : List ℕ} {at r₁ r : ℕ} (q : Question) → Puts x at (refused_text q) y₁ r₁ → Puts y₁ r₁ (0x0a ∷ []) y r → Puts x at (refusal_line q) y r
unfolding refusal_line ascii
refusal_put q a b = puts_then a b

module _ {x y : List ℕ} {at r : ℕ} (st l : List ℕ) where
  pub refused_put : {o : Result Over Question} {q : Question} → o ≡ Err q → Puts x at (refusal_line q) y r → Puts x at (answer_text o st l) y r
  unfolding answer_text
  refused_put e p = rw e p

  pub over_put : {o : Result Over Question} {e : Code.Over} {y₁ y₂ : List ℕ} {r₁ r₂ : ℕ} → o ≡ Ok e → Puts x at (recovery_lines e.made l) y₁ r₁
      → Puts y₁ r₁ (end_line e.how e.csw) y₂ r₂ → Puts y₂ r₂ (storage_line st) y r → Puts x at (answer_text o st l) y r
  unfolding answer_text
  over_put e a b c = rw e (puts_then (puts_then a b) c)
