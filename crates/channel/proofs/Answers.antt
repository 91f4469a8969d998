-- What the channel's code answers, from the tests that it makes.
--   no-length .. some-length   the length that a read's end shows
--   unformed .. in-range       whether a read may use a CCW
--   misplaced .. stands-inside whether a CCW stands at a place, and which
--   nothing-there .. tic-lands the CCW that comes next
use Rattle.std.specs.Prelude.{Some, None, Ok, Err}
use Prim.Native.Nat.{ℕ, ◌+◌, ◌/◌, ◌%◌}
use native.Mathlib.Omega.{arith}
use mathlib.Core.Path.{◌≡◌, refl}
use mathlib.Core.Bool.{Bool, true, false, ◌&&◌}
use mathlib.Core.List.{List}
use lib.Dec.{eqb, ltb, leb}
use borrow.Author.Tests.{ltb-true, ltb-false, leb-true, le-leb, lt-leb, eq-eqb, ne_eqb}
use Rattle.base.specs.Choice.{pick}
use Rattle.base.proofs.Choice.{and_left, not_not}
use Rattle.channel.specs.declared.Ccw.{Ccw}
use Rattle.channel.specs.declared.Location.{Location}
use Rattle.channel.specs.declared.Location.TheVariants.{Chain, Restart}
use Rattle.channel.specs.Ccw.{Lent, is_tic, formed, skips, suppresses, chains_data, fetch_in, fetch, target, landed, follow, resolve, storage_inside}
use Rattle.channel.specs.Walk.{readable, incorrect_length}
use Rattle.channel.specs.Fetch.{shows_length, stands_at, stands_in, ccw_in, Inside, Fetches}

module _ (c : Ccw) where
  pub unsuppressed : suppresses c ≡ false → true ≡ shows_length c
  unfolding shows_length
  unsuppressed e = rw e

  pub suppressed : suppresses c ≡ true → chains_data c ≡ shows_length c
  unfolding shows_length
  suppressed e = rw e (not_not (chains_data c))

  pub over_length : (left : ℕ) (over : Bool) → over ≡ true → shows_length c ≡ incorrect_length c left over
  unfolding incorrect_length shows_length
  over_length left over e = rw e

  pub exact_length : (left : ℕ) (over : Bool) → over ≡ false → left ≡ 0 → false ≡ incorrect_length c left over
  unfolding incorrect_length
  exact_length left over e f = rw (e, eq-eqb _ _ f)

  pub short_length : (left : ℕ) (over : Bool) → over ≡ false → (left ≡ 0 → ⊥) → shows_length c ≡ incorrect_length c left over
  unfolding incorrect_length shows_length
  short_length left over e f = rw (e, ne_eqb _ _ f)

  pub no_count : c.count ≡ 0 → false ≡ formed c
  unfolding formed
  no_count e = rw (eq-eqb _ _ e)

  pub some_count : (c.count ≡ 0 → ⊥) → eqb (c.flags % 8) 0 ≡ formed c
  unfolding formed
  some_count e = rw (ne_eqb _ _ e)

  module _ (size : ℕ) where
    pub unformed : formed c ≡ false → false ≡ readable size c
    unfolding readable
    unformed e = rw e

    module _ (e : formed c ≡ true) where
      pub skipped : skips c ≡ true → true ≡ readable size c
      unfolding readable storage_inside
      skipped f = rw (e, f)

      pub in_range : skips c ≡ false → leb (c.address + c.count) size ≡ readable size c
      unfolding readable storage_inside
      in_range f = rw (e, f)

module _ (n a : ℕ) where
  pub misplaced : (a % 8 ≡ 0 → ⊥) → false ≡ stands_at n a
  misplaced e = rw (ne_eqb _ _ e) (neither (leb (a + 8) n))
    where
      neither : (b : Bool) → false ≡ (b && false)
      neither true = refl
      neither false = refl

  -- an area of n bytes has n / 8 CCWs
  pub counted : a % 8 ≡ 0 → ltb (a / 8) (n / 8) ≡ stands_at n a
  counted e = by (ltb (a / 8) (n / 8)) refl
    where
      by : (b : Bool) → ltb (a / 8) (n / 8) ≡ b → b ≡ stands_at n a
      by true h = let k = ltb-true (a / 8) (n / 8) h in rw (le-leb (a + 8) n (omega arith), eq-eqb _ _ e)
      by false h = let k = ltb-false (a / 8) (n / 8) h in rw (lt-leb (a + 8) n (omega arith))

module _ (s r : List ℕ) where
  pub nothing_stands : (l : Location) → stands_in s r l ≡ false → Fetches s r l None
  unfolding fetch fetch_in pick stands_in
  nothing_stands (Chain a) h = λ p e f. rw (e, h)
  nothing_stands (Restart a) h = λ p e f. rw (f, h)

  pub one_stands : (l : Location) {c : Ccw} → stands_in s r l ≡ true → c ≡ ccw_in s r l → Fetches s r l (Some c)
  unfolding fetch fetch_in pick stands_in ccw_in
  one_stands (Chain a) h q = λ p e f. rw (e, h, q)
  one_stands (Restart a) h q = λ p e f. rw (f, h, q)

  pub stands_inside : (l : Location) → stands_in s r l ≡ true → Inside s r l
  unfolding stands_in
  stands_inside (Chain a) h = leb-true _ _ (and_left _ _ h)
  stands_inside (Restart a) h = leb-true _ _ (and_left _ _ h)

module _ (p : Lent) (last l : Location) where
  pub nothing_there : None ≡ fetch p l → Err last ≡ resolve p last l
  unfolding resolve follow
  nothing_there e = rw (← e)

  module _ {c : Ccw} (f : Some c ≡ fetch p l) where
    pub plain_ccw : is_tic c ≡ false → Ok (l, c) ≡ resolve p last l
    unfolding resolve follow pick
    plain_ccw t = rw (← f, t)

    module _ (t : is_tic c ≡ true) {to : Location} (e : to ≡ target l c.address) where
      pub tic_nowhere : None ≡ fetch p to → Err l ≡ resolve p last l
      unfolding resolve follow landed pick
      tic_nowhere g = rw (← f, t, ← e, ← g)

      module _ {d : Ccw} (g : Some d ≡ fetch p to) where
        pub tic_to_tic : is_tic d ≡ true → Err to ≡ resolve p last l
        unfolding resolve follow landed pick
        tic_to_tic u = rw (← f, t, ← e, ← g, u)

        pub tic_lands : is_tic d ≡ false → Ok (to, d) ≡ resolve p last l
        unfolding resolve follow landed pick
        tic_lands u = rw (← f, t, ← e, ← g, u)
