-- Where a data chain ends, a CCW at a time.
--   end_last       with the CCW c
--   end_broken     behind it, where no usable CCW comes next
--   end_on         where the next one leads to
--   more_usable    a CCW that a read may use with less storage
use Rattle.std.specs.Prelude.{Option, Some, None, Result, Ok, Err}
use Prim.Native.Nat.{ℕ, ◌+◌, ◌-◌, ◌<◌, ◌≤◌}
use native.Mathlib.Omega.{arith}
use mathlib.Core.Path.{◌≡◌, refl, ap, sym, ◌∙◌}
use mathlib.Core.Bool.{true, false, ◌||◌, not}
use mathlib.Core.List.{List, [], ◌∷◌}
use lib.Dec.{ltb, leb}
use borrow.Author.Tests.{ltb-true, ltb-false, leb-true, le-leb, not-true}
use Rattle.base.specs.Choice.{pick}
use Rattle.base.proofs.Choice.{split, pick_true, pick_false, and_left, and_right}
use Rattle.channel.specs.declared.Ccw.{Ccw}
use Rattle.channel.specs.declared.Location.{Location}
use Rattle.channel.specs.Ccw.{Lent, chains_data, skips, formed, storage_inside, next, resolve}
use Rattle.channel.specs.Walk.{Walk, walked, checked, behind_place, chained, walk, readable}
use Rattle.channel.proofs.Stretch.{behind_places, walk_short, walk_out, walk_chained}
use Rattle.correction.specs.Retraced.{usable}
use Rattle.correction.proofs.Retracing.{count_fits, chains_on, chained_usable}
use Rattle.action_nine_eleven.specs.NineEleven.{end_of}
use Rattle.overflow_restart.specs.declared.WalkEnd.{WalkEnd}

-- ---- the places in front do not matter

end_behind_one : (q : Option ℕ) (w : Walk) → end_of (behind_place q w) ≡ end_of w
unfolding end_of behind_place
end_behind_one q (walked ps l c left over) = refl
end_behind_one q (checked ps l) = refl

end_behind : (ps : List (Option ℕ)) (w : Walk) → end_of (behind_places ps w) ≡ end_of w
unfolding behind_places
end_behind [] w = refl
end_behind (q ∷ ps) w = end_behind_one q (behind_places ps w) ∙ end_behind ps w

-- ---- at the CCW c at l, with `more` bytes left

module _ (p : Lent) (size more : ℕ) (l : Location) (c : Ccw) where
  abbrev here : Walk
  here = walk p size more l c c.count c.address

  abbrev ended : ℕ → Option WalkEnd
  ended left = Some (record { at = l; ccw = c; left = left })

  end_short : more < c.count → ended (c.count - more) ≡ end_of here
  unfolding end_of
  end_short h = sym (ap end_of (walk_short p size more l c c.count c.address h) ∙ end_behind _ _)

  end_out : c.count ≤ more → chains_data c ≡ false → ended 0 ≡ end_of here
  unfolding end_of
  end_out h d = sym (ap end_of (walk_out p size more l c c.count c.address h d) ∙ end_behind _ _)

  pub end_last : (ltb more c.count || not (chains_data c)) ≡ true → (took : ℕ) → took ≡ pick (ltb more c.count) more c.count
      → ended (c.count - took) ≡ end_of here
  end_last d took e =
      split (ltb more c.count)
      (λ h. ap (λ m. ended (c.count - m)) (e ∙ pick_true _ _ h) ∙ end_short (ltb-true _ _ h))
      (λ h.
      let None : c.count - c.count ≡ 0 = omega arith in
      ap (λ m. ended (c.count - m)) (e ∙ pick_false _ _ h) ∙ ap ended None ∙ end_out (ltb-false _ _ h) (not-true _ (rw h at d)))

  module _ (Some : 0 < c.count) (d : (ltb more c.count || not (chains_data c)) ≡ false) where
    abbrev behind : Result (Location × Ccw) Location → Option WalkEnd
    behind f = end_of (chained (walk p size (more - c.count)) size f)

    end_behind_it : behind (usable size (resolve p l (next l))) ≡ end_of here
    end_behind_it =
        ap end_of (chained_usable (walk p size (more - c.count)) size (resolve p l (next l)))
        ∙ sym (end_behind _ _)
        ∙ ap end_of (sym (walk_chained p size more l c c.count c.address Some (count_fits c more d) (chains_on c more d)))

    pub end_broken : (x : Location) → Err x ≡ usable size (resolve p l (next l)) → None ≡ end_of here
    unfolding chained end_of
    end_broken x q = ap behind q ∙ end_behind_it

    pub end_on : (x : Location) (b : Ccw) → Ok (x, b) ≡ usable size (resolve p l (next l)) → readable size b ≡ true
        → end_of (walk p size (more - c.count) x b b.count b.address) ≡ end_of here
    unfolding chained
    end_on x b q g = sym (ap end_of (pick_true _ _ g)) ∙ ap behind q ∙ end_behind_it

-- ---- with more storage

pub more_usable : (size : ℕ) (c : Ccw) → size ≤ 65536 → readable size c ≡ true → readable 65536 c ≡ true
unfolding readable storage_inside
more_usable size c h g =
    let f : formed c ≡ true = and_left (formed c) (skips c || leb (c.address + c.count) size) g in
    let i : (skips c || leb (c.address + c.count) size) ≡ true = and_right (formed c) (skips c || leb (c.address + c.count) size) g in
    split (skips c)
    (λ s. rw (f, s))
    (λ s.
    let most : leb (c.address + c.count) size ≡ true = rw s at i in
    let fits : c.address + c.count ≤ 65536 = omega (arith, leb-true (c.address + c.count) size most) in
    rw (f, s, le-leb _ _ fits))
