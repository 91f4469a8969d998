-- The user's seek argument in a report.
--   first-other .. names-track   whether it names a track on the pack
use Rattle.std.specs.Prelude.{Some, None}
use Prim.Native.Nat.{ℕ, ◌+◌}
use native.Mathlib.Omega.{arith}
use mathlib.Core.Path.{◌≡◌, ap, sym, ◌∙◌}
use mathlib.Core.Bool.{true, false, ◌&&◌}
use mathlib.Core.List.{List}
use lib.Dec.{eqb}
use borrow.Author.Tests.{eq-eqb, ne_eqb}
use Rattle.base.specs.Choice.{opt}
use Rattle.base.specs.Bytes.{be16_at, part}
use Rattle.base.proofs.Choice.{pick_true, pick_false}
use Rattle.base.proofs.Bytes.{be16-part}
use Rattle.address.specs.declared.Address.{Address}
use Rattle.address.specs.Order.{on_pack}
use Rattle.drive.specs.Step.{sought}
use Rattle.recovery.specs.Recovery.{user_track}
use Rattle.report.specs.Told.{UserAt}

module _ (last : ℕ) (report : List ℕ) (at : ℕ) where
  front : be16_at (part report at (at + 6)) 0 ≡ be16_at report at
  front = let z : at + 0 ≡ at = omega arith in be16-part report at (at + 6) 0 (omega arith) ∙ ap (be16_at report) z

  pub first_other : (n : ℕ) → n ≡ be16_at report at → (n ≡ 0 → ⊥) → UserAt last report at None
  unfolding user_track opt
  first_other n e h =
      sym (pick_false _ _ (rw (ne_eqb (be16_at (part report at (at + 6)) 0) 0 (λ z. h (e ∙ sym front ∙ z)))))

  module _ (n : ℕ) (e : n ≡ be16_at report at) (h : n ≡ 0) (a : Address)
      (t : a ≡ record { cylinder = be16_at report (at + 2); head = be16_at report (at + 4) }) where
    is_sought : sought (part report at (at + 6)) ≡ a
    unfolding sought
    is_sought = rw (be16-part report at (at + 6) 2 (omega arith), be16-part report at (at + 6) 4 (omega arith), t)

    tested : (eqb (be16_at (part report at (at + 6)) 0) 0 && on_pack last (sought (part report at (at + 6)))) ≡ on_pack last a
    tested = rw (eq-eqb (be16_at (part report at (at + 6)) 0) 0 (front ∙ sym e ∙ h), is_sought)

    pub not_on_pack : on_pack last a ≡ false → UserAt last report at None
    unfolding user_track opt
    not_on_pack f = sym (pick_false _ _ (tested ∙ f))

    pub names_track : on_pack last a ≡ true → UserAt last report at (Some a)
    unfolding user_track opt
    names_track f = sym (pick_true _ _ (tested ∙ f) ∙ ap (λ b. Some b) is_sought)
