-- The whole answer, from its parts.
--   status_length, cut_length, last_length   how long the parts are
--   whole                                    36 bytes, after the three parts were written to a lent area
--   ended_so, cut_so, limit_so               the bytes are those of what the run shows
use Rattle.std.specs.Prelude.{Option, Some, None}
use Prim.Native.Nat.{ℕ, ◌+◌, ◌-◌}
use native.Mathlib.Omega.{arith}
use mathlib.Core.Path.{◌≡◌, refl, ap, sym, ◌∙◌}
use mathlib.Core.List.{List, [], ◌++◌, append_assoc, append-nil}
use lib.ListN.{length, take, drop, length-append, length-drop, drop_of_length-le}
use lib.Seq.{take-append_seam}
use borrow.Rule.Slice.PartMut.{mid_of, put_mid}
use Rattle.base.specs.Choice.{opt}
use Rattle.base.specs.Bytes.{two, three}
use Rattle.copy.proofs.Lists.{put_home}
use Rattle.channel.specs.Ccw.{address_of}
use Rattle.drive.specs.Drive.{address_bytes}
use Rattle.drive.specs.Step as Step
use Rattle.command.specs.declared.Check.TheVariants.{Rejected, NotFound, Protected, EndOfCylinder}
use Rattle.command.specs.declared.Status.{Status}
use Rattle.command.specs.declared.Status.TheVariants.{Quiet, Refused, ProtectedStep}
use Rattle.command.specs.declared.End.{End}
use Rattle.command.specs.declared.Cut.{Cut}
use Rattle.command.specs.Answer.{sense_of, cut_of}
use Rattle.trial.specs.declared.Limit.{Limit}
use Rattle.trial.specs.declared.Ran.TheVariants as Ran
use Rattle.trial.specs.Trial.{shown_of}
use Rattle.channel.specs.Csw.{csw_bytes}
use Rattle.run_answer.specs.RunAnswer.{mask_bytes, answer_bytes, Writes}

-- ---- lengths

pub status_length : (s : Status) → length (sense_of s) ≡ 24
unfolding Step.no_sense Step.check_sense
status_length Quiet = refl
status_length (Refused Rejected) = refl
status_length (Refused NotFound) = refl
status_length (Refused Protected) = refl
status_length (Refused EndOfCylinder) = refl
status_length (ProtectedStep head) = refl

pub cut_length : (k : Cut) → length (Step.cut_sense (cut_of k [])) ≡ 24
unfolding Step.cut_sense address_bytes three two
cut_length k = refl

pub last_length : (m : Option ℕ) (n : ℕ) → length (mask_bytes m ++ two n) ≡ 4
unfolding mask_bytes two
last_length None n = refl
last_length (Some m) n = refl

-- ---- three parts of a lent area

-- bytes at the front of what is lent from a place on
home : (x s ys : List ℕ) (a n : ℕ) → length s ≡ n → ys ≡ s ++ drop n (mid_of a (length x - a) x)
    → put_mid a (length x - a) x ys ≡ take a x ++ (s ++ drop (a + n) x)
home x s ys a n e q = rw (← e) (put_home x s a ys (rw e q))

-- what is taken up to a seam
seam : (x s : List ℕ) (n : ℕ) → length s ≡ n → take n (s ++ x) ≡ s
seam x s n e = rw (← e) (take-append_seam s x)

module _ (x c s t : List ℕ) (hx : length x ≡ 36) (hc : length c ≡ 8) (hs : length s ≡ 24) (ht : length t ≡ 4) where
  module _ (x₁ s₁ : List ℕ) (e : x₁ ≡ c ++ drop 8 x) (f : s₁ ≡ s ++ drop 24 (mid_of 8 (length x₁ - 8) x₁)) where
    abbrev x₂ : List ℕ
    x₂ = put_mid 8 (length x₁ - 8) x₁ s₁

    size : length x₁ ≡ 36
    size = rw (e, length-append, length-drop) (omega arith)

    both : x₂ ≡ (c ++ s) ++ drop 32 x₁
    both =
        home x₁ s s₁ 8 24 hs f ∙ ap (λ (l : List ℕ). l ++ (s ++ drop 32 x₁)) (ap (λ (l : List ℕ). take 8 l) e ∙ seam (drop 8 x) c 8 hc)
        ∙ sym (append_assoc c s (drop 32 x₁))

    sized : length x₂ ≡ 36
    sized = rw both (simp (length-append, length-drop) (omega (arith, size)))

    pub whole : (t₁ : List ℕ) → t₁ ≡ t ++ drop 4 (mid_of 32 (length x₂ - 32) x₂) → put_mid 32 (length x₂ - 32) x₂ t₁ ≡ c ++ s ++ t
    whole t₁ g =
        home x₂ t t₁ 32 4 ht g
        ∙ ap (λ (l : List ℕ). l ++ (t ++ drop 36 x₂)) (ap (λ (l : List ℕ). take 32 l) both ∙ seam (drop 32 x₁) (c ++ s) 32 (rw length-append (omega arith)))
        ∙ ap (λ (l : List ℕ). (c ++ s) ++ (t ++ l)) (drop_of_length-le x₂ {i = 36} (omega (arith, sized))) ∙ ap (λ (l : List ℕ). (c ++ s) ++ l) (append-nil t)

-- ---- the bytes of an answer

pub ended_so : (e : End) (after : List ℕ) → after ≡ csw_bytes e.csw ++ sense_of e.status ++ (mask_bytes e.mask ++ two 0) → Writes (Ran.Ended e) after
unfolding answer_bytes shown_of opt
ended_so e after q st = q

pub cut_so : (k : Cut) (after : List ℕ) → after ≡ csw_bytes k.csw ++ Step.cut_sense (cut_of k []) ++ (mask_bytes k.mask ++ two (address_of k.first))
    → Writes (Ran.Cut k) after
unfolding answer_bytes shown_of opt Step.cut_sense
cut_so k after q st = q

pub limit_so : (m : Limit) (after : List ℕ) → after ≡ csw_bytes m.csw ++ Step.no_sense ++ (mask_bytes m.mask ++ two 0) → Writes (Ran.Limited m) after
unfolding answer_bytes shown_of opt
limit_so m after q st = q
