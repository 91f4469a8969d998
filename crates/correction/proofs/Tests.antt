-- Where a byte stands behind a stretch, and which CCW comes next, from the tests that the code makes.
--   overwritten-nowhere .. overwritten-past    whether a later byte went to its place
--   pass-skipped .. pass-behind                whether it is one of the stretch
--   usable-broken .. usable-refused            whether a read may use the CCW that comes next
use Rattle.std.specs.Prelude.{Option, Some, None, Result, Ok, Err}
use Prim.Native.Nat.{ℕ, ◌+◌, ◌-◌, ◌<◌, ◌≤◌}
use mathlib.Core.Path.{◌≡◌, ap, sym, ◌∙◌}
use mathlib.Core.Bool.{true, false}
use borrow.Author.Tests.{lt-ltb, le-ltb, le-leb, lt-leb}
use Rattle.base.specs.Choice.{pick}
use Rattle.base.proofs.Choice.{pick_true, pick_false}
use Rattle.channel.specs.declared.Ccw.{Ccw}
use Rattle.channel.specs.declared.Location.{Location}
use Rattle.channel.specs.Ccw.{skips}
use Rattle.channel.specs.Walk.{readable}
use Rattle.correction.specs.Retraced.{overwrites, unless_overwritten, passed, usable}

module _ (c : Ccw) (n : ℕ) (q : Option ℕ) where
  pub overwritten_nowhere : q ≡ None → None ≡ unless_overwritten c n q
  unfolding unless_overwritten overwrites pick
  overwritten_nowhere e = rw e

  module _ (a : ℕ) (e : q ≡ Some a) where
    pub overwritten_below : a < c.address → Some a ≡ unless_overwritten c n q
    unfolding unless_overwritten overwrites pick
    overwritten_below h = rw (e, lt-leb c.address a h)

    pub overwritten_hit : c.address ≤ a → a < c.address + n → None ≡ unless_overwritten c n q
    unfolding unless_overwritten overwrites pick
    overwritten_hit h g = rw (e, le-leb c.address a h, lt-ltb a (c.address + n) g)

    pub overwritten_past : c.address ≤ a → c.address + n ≤ a → Some a ≡ unless_overwritten c n q
    unfolding unless_overwritten overwrites pick
    overwritten_past h g = rw (e, le-leb c.address a h, le-ltb a (c.address + n) g)

module _ (c : Ccw) (from n j : ℕ) (q : Option ℕ) where
  pub pass_skipped : skips c ≡ true → q ≡ passed c from n j q
  unfolding passed
  pass_skipped s = sym (pick_true _ _ s)

  module _ (s : skips c ≡ false) where
    pub pass_here : from ≤ j → j < from + n → Some (c.address + (j - from)) ≡ passed c from n j q
    unfolding passed
    pass_here h g = sym (pick_false _ _ s ∙ pick_true _ _ (rw (le-leb from j h, lt-ltb j (from + n) g)))

    pub pass_before : (r : Option ℕ) → j < from → r ≡ unless_overwritten c n q → r ≡ passed c from n j q
    unfolding passed
    pass_before r h e = e ∙ sym (pick_false _ _ s ∙ pick_false _ _ (rw (lt-leb from j h)))

    pub pass_behind : (r : Option ℕ) → from ≤ j → from + n ≤ j → r ≡ unless_overwritten c n q → r ≡ passed c from n j q
    unfolding passed
    pass_behind r h g e = e ∙ sym (pick_false _ _ s ∙ pick_false _ _ (rw (le-leb from j h, le-ltb j (from + n) g)))

module _ (size : ℕ) (f : Result (Location × Ccw) Location) (l : Location) where
  pub usable_broken : Err l ≡ f → Err l ≡ usable size f
  unfolding usable
  usable_broken e = ap (usable size) e

  module _ (c : Ccw) where
    pub usable_got : readable size c ≡ true → Ok (l, c) ≡ f → Ok (l, c) ≡ usable size f
    unfolding usable
    usable_got h e = sym (pick_true _ _ h) ∙ ap (usable size) e

    pub usable_refused : readable size c ≡ false → Ok (l, c) ≡ f → Err l ≡ usable size f
    unfolding usable
    usable_refused h e = sym (pick_false _ _ h) ∙ ap (usable size) e
