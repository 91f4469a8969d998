-- A read through its data chain, a CCW at a time.
--   nowhere, at_address           what a stretch leaves in storage
--   rest                          what is left of a read
--   rest-short .. rest-on         how it ends at a CCW, and how it goes on at the next
--   same_size, short-at .. on-at  the same by places in the read's bytes
use Rattle.std.specs.Prelude.{Option, Ok, Err}
use Prim.Native.Nat.{ℕ, ◌+◌, ◌-◌, ◌<◌, ◌≤◌}
use native.Mathlib.Omega.{arith}
use mathlib.Core.Path.{◌≡◌, ap, sym, ◌∙◌}
use mathlib.Core.Bool.{Bool, true, false}
use mathlib.Core.List.{List, [], ◌++◌}
use lib.Dec.{ltb}
use lib.ListN.{length, take, drop, length-drop}
use lib.Seq.{drop-drop}
use borrow.Author.Tests.{lt-ltb, le-ltb, ltb-true, ltb-false}
use Rattle.base.specs.Choice.{pick}
use Rattle.base.proofs.Choice.{split}
use Rattle.channel.specs.declared.Ccw.{Ccw}
use Rattle.channel.specs.declared.Location.{Location}
use Rattle.channel.specs.Ccw.{Lent, chains_data, skips, next, resolve}
use Rattle.channel.specs.Store.{store}
use Rattle.channel.specs.Walk.{Walk, walked, checked, chained, walk, readable}
use Rattle.channel.proofs.Stretch.{places_under, behind_places, length_places_under, behind_places_walked, behind_places_checked, walk_short, walk_out, walk_chained, length_store, store_take, store_append, store_range, store_skipped}
use Rattle.channel.proofs.Readable.{room, positive}
use Rattle.copy.proofs.Lists.{put_home}
use Rattle.transfer.specs.Transfer.{Left, left, carried, stretched}
use borrow.Rule.Slice.PartMut.{mid_of, put_mid}

-- ---- a stretch

module _ (c : Ccw) (bs : List ℕ) (n : ℕ) (st : List ℕ) where
  pub nowhere : skips c ≡ true → st ≡ stretched c bs n st
  unfolding stretched pick
  nowhere e = rw e

  -- the part that was lent from the CCW's address on, with the bytes at its front
  pub at_address : skips c ≡ false → (s ys : List ℕ) → s ≡ take n bs → length s ≡ n → ys ≡ s ++ drop (length s) (mid_of c.address (length st - c.address) st)
      → put_mid c.address (length st - c.address) st ys ≡ stretched c bs n st
  unfolding stretched pick
  at_address e s ys q l h = rw e (put_home st s c.address ys h ∙ rw (l, q))

  pub stretch_stores : readable (length st) c ≡ true → n ≤ c.count → n ≤ length bs → stretched c bs n st ≡ store (places_under c c.address n) bs st
  unfolding stretched pick
  stretch_stores h k m =
      split (skips c) (λ e. rw e (sym (store_skipped c n c.address bs st e)))
      (λ e. let r = room (length st) c h e in rw e (sym (store_range c n c.address bs st e m (omega arith))))

-- ---- the rest of a read

-- places in front of a walk take their bytes first
carried_behind : (ps : List (Option ℕ)) (w : Walk) (bs st : List ℕ) → carried (behind_places ps w) bs st ≡ carried w (drop (length ps) bs) (store ps bs st)
unfolding carried
carried_behind ps (walked qs l c n over) bs st =
    rw (behind_places_walked ps qs l c n over) (ap (left (Ok (record { at = l; ccw = c; left = n; over = over }))) (store_append ps qs bs st ∙ rw (store_take ps bs st)))
carried_behind ps (checked qs l) bs st = rw (behind_places_checked ps qs l) (ap (left (Err l)) (store_append ps qs bs st ∙ rw (store_take ps bs st)))

-- what is left of a read at a CCW that it has just come to
unfoldable pub rest : Lent → ℕ → Location → Ccw → List ℕ → List ℕ → Left
rest p size l c bs st = carried (walk p size (length bs) l c c.count c.address) bs st

module _ (p : Lent) (l : Location) (c : Ccw) (bs st st' : List ℕ) (h : readable (length st) c ≡ true) where
  -- the bytes end before the count
  pub rest_short : length bs < c.count → st' ≡ stretched c bs (length bs) st → left (Ok (record { at = l; ccw = c; left = c.count - length bs; over = false })) st' ≡ rest p (length st) l c bs st
  unfolding rest carried store
  rest_short k e =
      sym (rw (walk_short p (length st) (length bs) l c c.count c.address k)
      (carried_behind (places_under c c.address (length bs)) (walked [] l c (c.count - length bs) false) bs st
      ∙ ap (left (Ok (record { at = l; ccw = c; left = c.count - length bs; over = false }))) (sym (e ∙ stretch_stores c bs (length bs) st h (omega arith) (omega arith)))))

  module _ (k : c.count ≤ length bs) (e : st' ≡ stretched c bs c.count st) where
    after : store (places_under c c.address c.count) bs st ≡ st'
    after = sym (e ∙ stretch_stores c bs c.count st h (omega arith) k)

    -- the count runs out, and no CCW is chained
    pub rest_out : chains_data c ≡ false → {over : Bool} → over ≡ ltb c.count (length bs) → left (Ok (record { at = l; ccw = c; left = 0; over = over })) st' ≡ rest p (length st) l c bs st
    unfolding rest carried store
    rest_out f q =
        sym (rw (walk_out p (length st) (length bs) l c c.count c.address k f)
        (carried_behind (places_under c c.address c.count) (walked [] l c 0 (ltb c.count (length bs))) bs st ∙ rw (← q) (ap (left (Ok (record { at = l; ccw = c; left = 0; over = _ }))) after)))

    -- the count runs out under CD
    chains : chains_data c ≡ true → rest p (length st) l c bs st ≡ carried (chained (walk p (length st) (length bs - c.count)) (length st) (resolve p l (next l))) (drop c.count bs) st'
    unfolding rest
    chains f =
        rw (walk_chained p (length st) (length bs) l c c.count c.address (positive (length st) c h) k f)
        (carried_behind (places_under c c.address c.count) _ bs st ∙ rw (length_places_under c c.address c.count, after))

    module _ (f : chains_data c ≡ true) where
      pub rest_broken : (x : Location) → Err x ≡ resolve p l (next l) → left (Err x) st' ≡ rest p (length st) l c bs st
      unfolding chained carried store
      rest_broken x q = sym (chains f ∙ rw (← q))

      module _ (x : Location) (d : Ccw) (q : Ok (x, d) ≡ resolve p l (next l)) where
        pub rest_refused : readable (length st) d ≡ false → left (Err x) st' ≡ rest p (length st) l c bs st
        unfolding chained carried store pick
        rest_refused g = sym (chains f ∙ rw (← q, g))

        pub rest_on : readable (length st) d ≡ true → rest p (length st) l c bs st ≡ rest p (length st) x d (drop c.count bs) st'
        unfolding chained rest pick
        rest_on g = chains f ∙ rw (← q, g, length-drop c.count bs)

-- ---- by places in the read's bytes

-- a stretch keeps storage's length
length_stretched : (c : Ccw) (bs : List ℕ) (n : ℕ) (st : List ℕ) → readable (length st) c ≡ true → n ≤ c.count → n ≤ length bs → length (stretched c bs n st) ≡ length st
length_stretched c bs n st h k m = ap (λ (s : List ℕ). length s) (stretch_stores c bs n st h k m) ∙ length_store (places_under c c.address n) bs st

pub same_size : (c : Ccw) (bytes : List ℕ) (from : ℕ) (st st' : List ℕ) → readable (length st) c ≡ true → c.count ≤ length bytes - from
    → st' ≡ stretched c (drop from bytes) c.count st → length st' ≡ length st
same_size c bytes from st st' h k e =
    ap (λ (s : List ℕ). length s) e ∙ length_stretched c (drop from bytes) c.count st h (omega arith) (rw (length-drop from bytes) k)

module _ (p : Lent) (l : Location) (c : Ccw) (bytes : List ℕ) (from : ℕ) (st st' : List ℕ) (h : readable (length st) c ≡ true) where
  abbrev bs : List ℕ
  bs = drop from bytes

  long : length bs ≡ length bytes - from
  long = length-drop from bytes

  pub short_at : length bytes - from < c.count → st' ≡ stretched c bs (length bytes - from) st
      → left (Ok (record { at = l; ccw = c; left = c.count - (length bytes - from); over = false })) st' ≡ rest p (length st) l c bs st
  short_at k e = rw (← long) (rest_short p l c bs st st' h (rw long k) (rw long e))

  module _ (k : c.count ≤ length bytes - from) (e : st' ≡ stretched c bs c.count st) where
    enough : c.count ≤ length bs
    enough = rw long k

    size : length st' ≡ length st
    size = same_size c bytes from st st' h k e

    pub out_at : chains_data c ≡ false → left (Ok (record { at = l; ccw = c; left = 0; over = ltb (from + c.count) (length bytes) })) st' ≡ rest p (length st) l c bs st
    out_at f = rest_out p l c bs st st' h enough e f (rw long over)
      where
        over : ltb (from + c.count) (length bytes) ≡ ltb c.count (length bytes - from)
        over =
            split (ltb (from + c.count) (length bytes))
            (λ q.
            let g : from + c.count < length bytes = ltb-true _ _ q in
            q ∙ sym (lt-ltb c.count (length bytes - from) (omega arith)))
            (λ q.
            let g : length bytes ≤ from + c.count = ltb-false _ _ q in
            q ∙ sym (le-ltb c.count (length bytes - from) (omega arith)))

    module _ (f : chains_data c ≡ true) where
      pub broken_at : (x : Location) → Err x ≡ resolve p l (next l) → left (Err x) st' ≡ rest p (length st) l c bs st
      broken_at x q = rest_broken p l c bs st st' h enough e f x q

      module _ (x : Location) (d : Ccw) (q : Ok (x, d) ≡ resolve p l (next l)) where
        pub refused_at : readable (length st') d ≡ false → left (Err x) st' ≡ rest p (length st) l c bs st
        refused_at g = rest_refused p l c bs st st' h enough e f x d q (rw size at g)

        pub on_at : readable (length st') d ≡ true → rest p (length st) l c bs st ≡ rest p (length st') x d (drop (from + c.count) bytes) st'
        on_at g = rest_on p l c bs st st' h enough e f x d q (rw size at g) ∙ rw (size, drop-drop c.count from bytes)
