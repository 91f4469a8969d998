-- The tracks of actions 8, 10 and 10A, and the interrupted CCW.
--   other_command                the commands that are no seek
--   head_carried, head_up        the next track
--   below-front .. stands-there  the CCW 8 below the CSW's address
use Rattle.std.specs.Prelude.{Some, None}
use Prim.Native.Nat.{ℕ, ◌+◌, ◌-◌, ◌<◌, ◌≤◌}
use native.Mathlib.Omega.{arith}
use mathlib.Core.Path.{◌≡◌, refl, sym, ◌∙◌}
use mathlib.Core.Bool.{true, false}
use mathlib.Core.List.{List, [], ◌∷◌}
use mathlib.Core.Logic.{inl, inr}
use types.Run.{OneOf}
use denote.Enum.Declared
use borrow.Author.Tests.{eq-eqb, ne_eqb, le-leb, lt-leb}
use Rattle.base.specs.Choice.{pick, opt}
use Rattle.base.proofs.Choice.{pick_true, pick_false}
use Rattle.address.specs.declared.Address.{Address}
use Rattle.channel.specs.declared.Ccw.{Ccw}
use Rattle.channel.specs.declared.Csw.{Csw}
use Rattle.channel.specs.Ccw.{is_tic, fetch_in}
use Rattle.drive.specs.declared.Command.{Command}
use Rattle.drive.specs.declared.Command.TheVariants.{NoOperation, Seek, SetMask, SetSector, SearchId, ReadHome, ReadRecord, SearchIdMultitrack, ReadMultitrack, Unlisted}
use Rattle.drive.specs.contracts.Command as CommandType
use Rattle.recovery.specs.Recovery as Recovery
use Rattle.recovery.specs.Recovery.{is_seek, next_cylinder, next_track}
use Rattle.action_eight_ten.specs.EightTen.{Interrupts}

-- ---- the command

no_seek : (x : ℕ) → OneOf (0 ∷ 2 ∷ 3 ∷ 4 ∷ 5 ∷ 6 ∷ 7 ∷ 8 ∷ 9 ∷ []) x → x ≡ 1 → ⊥
no_seek x (inl e) f = omega arith
no_seek x (inr (inl e)) f = omega arith
no_seek x (inr (inr (inl e))) f = omega arith
no_seek x (inr (inr (inr (inl e)))) f = omega arith
no_seek x (inr (inr (inr (inr (inl e))))) f = omega arith
no_seek x (inr (inr (inr (inr (inr (inl e)))))) f = omega arith
no_seek x (inr (inr (inr (inr (inr (inr (inl e))))))) f = omega arith
no_seek x (inr (inr (inr (inr (inr (inr (inr (inl e)))))))) f = omega arith
no_seek x (inr (inr (inr (inr (inr (inr (inr (inr e)))))))) f = omega arith

pub other_command : (k : Command) → OneOf (0 ∷ 2 ∷ 3 ∷ 4 ∷ 5 ∷ 6 ∷ 7 ∷ 8 ∷ 9 ∷ []) (Declared.tag_of CommandType.the_type k) → false ≡ is_seek k
unfolding is_seek
other_command NoOperation h = refl
other_command Seek h = absurd (no_seek 1 h refl)
other_command SetMask h = refl
other_command SetSector h = refl
other_command SearchId h = refl
other_command ReadHome h = refl
other_command Unlisted h = refl
other_command (ReadRecord k) h = refl
other_command SearchIdMultitrack h = refl
other_command (ReadMultitrack k) h = refl

-- ---- the next track

module _ (a : Address) where
  pub head_carried : a.head ≡ 18 → next_cylinder a ≡ next_track a
  unfolding next_track
  head_carried h = sym (pick_true _ _ (eq-eqb a.head 18 h))

  pub head_up : (a.head ≡ 18 → ⊥) → record { cylinder = a.cylinder; head = a.head + 1 } ≡ next_track a
  unfolding next_track
  head_up h = sym (pick_false _ _ (ne_eqb a.head 18 h))

-- ---- the interrupted CCW

module _ (chain : List ℕ) (csw : Csw) where
  pub below_front : csw.address < 8 → Interrupts chain csw None
  unfolding Recovery.interrupted
  below_front h = λ rows x r st u. rw u (sym (pick_false _ _ (lt-leb 8 csw.address h)))

  module _ (h : 8 ≤ csw.address) where
    pub none_there : None ≡ fetch_in chain (csw.address - 8) → Interrupts chain csw None
    unfolding Recovery.interrupted opt
    none_there e = λ rows x r st u. rw u (sym (pick_true _ _ (le-leb 8 csw.address h) ∙ rw (← e)))

    module _ (c : Ccw) (e : Some c ≡ fetch_in chain (csw.address - 8)) where
      pub tic_there : is_tic c ≡ true → Interrupts chain csw None
      unfolding Recovery.interrupted opt pick
      tic_there f = λ rows x r st u. rw u (sym (pick_true _ _ (le-leb 8 csw.address h) ∙ rw (← e, f)))

      pub stands_there : is_tic c ≡ false → Interrupts chain csw (Some c)
      unfolding Recovery.interrupted opt pick
      stands_there f = λ rows x r st u. rw u (sym (pick_true _ _ (le-leb 8 csw.address h) ∙ rw (← e, f)))
