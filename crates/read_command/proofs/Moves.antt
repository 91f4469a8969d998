-- Reads through their data chain, from how it ended.
--   moved_low      a CSW can show the CCW that a read ended with, and its count left
--   ended_so       what a read comes to, from what its end was settled to
--   joined .. put_back   bytes at the front of others
use Rattle.std.specs.Prelude.{Option, Result}
use Prim.Native.Nat.{ℕ, ◌+◌, ◌-◌, ◌≤◌}
use native.Mathlib.Omega.{arith}
use mathlib.Core.Path.{◌≡◌, refl, ap, sym, subst, ◌∙◌}
use mathlib.Core.List.{List, [], ◌++◌}
use lib.ListN.{length, take, drop, length-append, length-take, length-drop}
use lib.Seq.{take-append_seam}
use Rattle.channel.specs.declared.Ccw.{Ccw}
use Rattle.channel.specs.declared.Location.{Location}
use Rattle.channel.specs.declared.Location.TheVariants.{Chain, Restart}
use Rattle.channel.specs.Ccw.{address_of}
use Rattle.channel.specs.Fetch.{Inside}
use Rattle.channel.specs.Store.{store}
use Rattle.channel.specs.Walk.{Walk, walked, checked}
use Rattle.channel.proofs.Shown.{WalkShown, walk_shown, fetched_inside}
use Rattle.transfer.specs.declared.Moved.{Moved}
use Rattle.transfer.specs.Transfer.{Left, left, carried, transferred, Transfers, CountLow}
use Rattle.drive.specs.Step as Step
use Rattle.command.specs.declared.Answer.{Answer}
use Rattle.location.specs.Low.{Low}
use Rattle.command.specs.Answer.{answer_of, lent_of}
use Rattle.read_end.specs.ReadEnd.{walk_of, LowMoved}
use Rattle.read_end.proofs.Ends.{through}
use Rattle.read_command.specs.Reads.{Short, Ready, Ends}

pub inside_low : (chain program : List ℕ) → Short chain program → (l : Location) → Inside chain program l → Low l
unfolding address_of
inside_low chain program h (Chain a) i = omega arith
inside_low chain program h (Restart a) i = omega arith

shown_low : (m : Result Moved Location) (after bs st : List ℕ) (w : Walk) → WalkShown Low w → CountLow m → left m after ≡ carried w bs st → LowMoved m
unfolding carried
shown_low m after bs st (walked ps l c n over) h k e = let q = ap (λ (x : Left). x.moved) e in subst LowMoved (sym q) (h, subst CountLow q k)
shown_low m after bs st (checked ps l) h k e = subst LowMoved (sym (ap (λ (x : Left). x.moved) e)) h

module _ (chain program : List ℕ) (l : Location) (c : Ccw) (bs st after : List ℕ) (m : Result Moved Location) (t : Transfers chain program l c bs st (left m after)) where
  pub moved_low : CountLow m → Ready chain program st l c → LowMoved m
  unfolding transferred
  moved_low k h =
      let p = lent_of chain [] program [] in
      let low = inside_low chain program h.short in
      shown_low m after bs st _ (walk_shown Low p (λ k e f. low k (fetched_inside p k e f)) (length st) (length bs) l c c.count c.address (low l h.inside)) k (t p refl refl)

  pub ended_so : (n : ℕ) (f : Walk → Step.Answer) (r : Answer) → length bs ≡ n → ((ps : List (Option ℕ)) → f (walk_of ps m) ≡ answer_of r (store ps bs st))
      → Ends chain program l c n st f r after
  unfolding transferred
  ended_so n f r e h = λ p a b. rw (← e) (through f m r after bs st h _ (t p a b))

-- ---- bytes at the front

pub joined : (n : ℕ) (cs z : List ℕ) → length cs ≡ n → take n (cs ++ drop n z) ≡ cs
joined n cs z e = rw (← e) (take-append_seam cs (drop (length cs) z))

pub front_length : (n : ℕ) (held : List ℕ) (k : ℕ) → length held ≡ k → n ≤ k → length (take n held) ≡ n
front_length n held k e h = length-take n held ∙ omega arith

-- a part that was lent from the front, and is put back
pub put_back : (bs z held part : List ℕ) → held ≡ bs ++ drop (length bs) z → length bs ≤ length z → length (part ++ drop (length bs) held) ≡ length z → length part ≡ length bs
put_back bs z held part e h g =
    let a : length held ≡ length bs + (length z - length bs) = ap length e ∙ length-append bs (drop (length bs) z) ∙ ap (λ n. length bs + n) (length-drop (length bs) z) in
    let b : length part + (length held - length bs) ≡ length z = ap (λ n. length part + n) (sym (length-drop (length bs) held)) ∙ sym (length-append part (drop (length bs) held)) ∙ g in
    omega arith
