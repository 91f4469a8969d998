-- Action 5, from the tests that the code makes.
--   unreadable .. retrace-ended      the data chain retraced
--   ended_inside                     the CCW that it ended with stands in the chain
--   wrong-format .. goes_over        the report and its first CCW
use Rattle.std.specs.Prelude.{Option, Some, None}
use Prim.Native.Nat.{ℕ, ◌-◌}
use native.Mathlib.Omega.{arith}
use mathlib.Core.Path.{◌≡◌, refl, ap, ap₂, sym, subst, ◌∙◌}
use mathlib.Core.Bool.{Bool, true, false, ◌&&◌}
use mathlib.Core.List.{List, []}
use lib.Dec.{eqb}
use lib.ListN.{length, get_or}
use borrow.Author.Tests.{eq-eqb, ne_eqb}
use Rattle.base.specs.Choice.{pick}
use Rattle.base.proofs.Choice.{pick_true, pick_false, opt_none, opt_is}
use Rattle.questions.specs.declared.Question.TheVariants as Question
use Rattle.address.specs.declared.Extent.{Extent}
use Rattle.address.specs.Model.{last_of}
use Rattle.channel.specs.declared.Ccw.{Ccw}
use Rattle.channel.specs.declared.Location.{Location}
use Rattle.channel.specs.declared.Location.TheVariants.{Chain}
use Rattle.channel.specs.Ccw.{fetch_in}
use Rattle.channel.specs.Fetch.{Inside}
use Rattle.channel.specs.Walk.{Walk, walked, checked, walk, readable}
use Rattle.channel.proofs.Walks.{Short, short_walked, walk_places}
use Rattle.channel.proofs.Shown.{WalkShown, walk_shown, fetched_inside}
use Rattle.drive.specs.Command.{command_of}
use Rattle.recovery.specs.Table.{Row}
use Rattle.recovery.specs.Report.{Report}
use Rattle.recovery.specs.Recovery as Recovery
use Rattle.recovery.specs.Recovery.{only_chain, reads_data}
use Rattle.report.specs.declared.Told.{Told}
use Rattle.report.specs.Told.{Tells}
use Rattle.correction.specs.declared.End.{End}
use Rattle.correction.specs.Retraced.{three_stayed_of, retraced, Retraces}
use Rattle.recovered.specs.declared.Recovered.TheVariants.{Refused}
use Rattle.recovered.specs.Applied.{applied, given_of}
use Rattle.decision.specs.declared.Decision.{Decision}
use Rattle.decision.specs.declared.Decision.TheVariants.{Answers}
use Rattle.decision.specs.Decision.{done, bounded, Decides}
use Rattle.decision.proofs.Bounded.{refusal_is}
use Rattle.recovered.specs.Sensible.{Sensible}
use Rattle.action_five.specs.Five.{WalkedTo, DecidesRetraced}

-- ---- the data chain retraced

other_end : {P : Type 0} {e : End} → ◌≡◌ {A = Option End} (Some e) None → P
other_end e = let z : ◌≡◌ {A = ℕ} 0 1 = cc in absurd (omega arith)

-- what an end leads to
abbrev Ending : (chain : List ℕ) → Told → Decision → Option End → Type 0
Ending chain t o (Some e) = WalkedTo chain t e o
Ending chain t o None = ⊥

abbrev EndInside : List ℕ → Option End → Type 0
EndInside chain (Some e) = Inside chain [] e.at
EndInside chain None = Unit {0}

shown_inside : (chain : List ℕ) (k : ℕ) (w : Walk) → WalkShown (Inside chain []) w → EndInside chain (retraced k w)
unfolding retraced
shown_inside chain k (walked ps l c left over) h = h
shown_inside chain k (checked ps l) h = tt

by_checked : (k : ℕ) (l : Location) → retraced k (checked [] l) ≡ None
unfolding retraced
by_checked k l = refl

module _ (chain : List ℕ) (size : ℕ) (t : Told) (c : Ccw) where
  -- the walk of the restart displacement's bytes, and the first byte of the pattern
  abbrev whole : Walk
  whole = walk (only_chain chain) size t.sense.restart.0 (Chain t.first) c c.count c.address

  abbrev from : ℕ
  from = t.sense.restart.0 - t.sense.error.0

  module _ (rows : List Row) (x : Extent) (r : Report) (st p a : List ℕ) (h : Tells (last_of x.model) r t) (n : length st ≡ size) where
    walks : Recovery.retrace (given_of rows chain x) r st c ≡ pick (readable size c) whole (checked [] (Chain t.first))
    unfolding Recovery.retrace
    walks = rw (n, h.sense.restart, h.first)

    from_is : Recovery.pattern_from r.sense ≡ from
    from_is = ap₂ (λ u v. u - v) h.sense.restart h.sense.error

    checked_there : (w : Walk) → retraced from w ≡ None
        → done (bounded x (Answers (Refused Question.Agreement))) st p a ≡ applied (Recovery.walked_to (given_of rows chain x) r st w) st p a
    unfolding retraced Recovery.walked_to
    checked_there (checked ps l) e = refusal_is Question.Agreement x st p a
    checked_there (walked ps l d left over) e = other_end e

    ended_there : (o : Decision) (w : Walk) → Short t.sense.restart.0 w → Ending chain t o (retraced from w)
        → done (bounded x o) st p a ≡ applied (Recovery.walked_to (given_of rows chain x) r st w) st p a
    unfolding retraced
    ended_there o (walked ps l d left over) (short_walked m) k =
        k rows x r st p a ps h (rw h.sense.restart m, ap (λ j. three_stayed_of j ps) (sym from_is))
    ended_there o (checked ps l) m k = absurd k

  pub unreadable : readable size c ≡ false → DecidesRetraced chain size t c (Answers (Refused Question.Agreement))
  unreadable g = λ rows x r st p a h n.
      checked_there rows x r st p a h n (checked [] (Chain t.first)) (by_checked from (Chain t.first))
      ∙ sym (ap (λ w. applied (Recovery.walked_to (given_of rows chain x) r st w) st p a) (walks rows x r st p a h n ∙ pick_false _ _ g))

  -- from the walk to the decision
  by_walk : (o : Decision) → readable size c ≡ true
      → ((rows : List Row) (x : Extent) (r : Report) (st p a : List ℕ) → Tells (last_of x.model) r t → length st ≡ size
      → done (bounded x o) st p a ≡ applied (Recovery.walked_to (given_of rows chain x) r st whole) st p a)
      → DecidesRetraced chain size t c o
  by_walk o g k = λ rows x r st p a h n.
      k rows x r st p a h n
      ∙ sym (ap (λ w. applied (Recovery.walked_to (given_of rows chain x) r st w) st p a) (walks rows x r st p a h n ∙ pick_true _ _ g))

  module _ (g : readable size c ≡ true) (b : Option End) (f : Retraces chain size (Chain t.first) c t.sense.restart.0 from b) where
    is_retraced : b ≡ retraced from whole
    unfolding only_chain
    is_retraced = f (only_chain chain) refl refl

    pub retrace_checked : b ≡ None → DecidesRetraced chain size t c (Answers (Refused Question.Agreement))
    retrace_checked e = by_walk _ g (λ rows x r st p a h n. checked_there rows x r st p a h n whole (sym is_retraced ∙ e))

    module _ (e : End) (i : b ≡ Some e) where
      pub retrace_ended : (o : Decision) → WalkedTo chain t e o → DecidesRetraced chain size t c o
      retrace_ended o k =
          by_walk o g
          (λ rows x r st p a h n.
          ended_there rows x r st p a h n o whole (walk_places (only_chain chain) size t.sense.restart.0 (Chain t.first) c c.count c.address)
          (subst (Ending chain t o) (sym i ∙ is_retraced) k))

      pub ended_inside : Inside chain [] (Chain t.first) → Inside chain [] e.at
      unfolding only_chain
      ended_inside j =
          subst (EndInside chain) (sym (sym i ∙ is_retraced))
          (shown_inside chain from whole (walk_shown (Inside chain []) (only_chain chain) (λ k d q. fetched_inside (only_chain chain) k d q) size t.sense.restart.0 (Chain t.first) c c.count c.address j))

-- ---- the report and its first CCW

module _ (chain : List ℕ) (size : ℕ) (t : Told) where
  pub wrong_format : (t.sense.format ≡ 0x53 → ⊥) → Decides Recovery.action_five chain size t (Answers (Refused Question.Format))
  unfolding Recovery.action_five
  wrong_format f = λ rows x r st p a h n.
      refusal_is Question.Format x st p a
      ∙ sym (ap (λ q. applied q st p a) (pick_false _ _ (ne_eqb (get_or r.sense 7 0) 0x53 (λ z. f (sym h.sense.format ∙ z)))))

  module _ (f : t.sense.format ≡ 0x53) where
    format_is : {last : ℕ} (r : Report) → Tells last r t → eqb (get_or r.sense 7 0) 0x53 ≡ true
    format_is r h = eq-eqb (get_or r.sense 7 0) 0x53 (h.sense.format ∙ f)

    pub no_ccw : None ≡ fetch_in chain t.first → Decides Recovery.action_five chain size t (Answers (Refused Question.Agreement))
    unfolding Recovery.action_five
    no_ccw e = λ rows x r st p a h n.
        refusal_is Question.Agreement x st p a
        ∙ sym (ap (λ q. applied q st p a) (pick_true _ _ (format_is r h) ∙ opt_none (fetch_in chain r.first) _ _ (e ∙ ap (fetch_in chain) (sym h.first))))

    module _ (c : Ccw) (e : Some c ≡ fetch_in chain t.first) where
      by_ccw : (o : Decision)
          → ((rows : List Row) (x : Extent) (r : Report) (st p a : List ℕ) → Tells (last_of x.model) r t → length st ≡ size
          → done (bounded x o) st p a
          ≡ applied (pick (reads_data (command_of c.command) && Recovery.sensible r.sense) (Recovery.walked_to (given_of rows chain x) r st (Recovery.retrace (given_of rows chain x) r st c)) (Recovery.refused Question.Agreement)) st p a)
          → Decides Recovery.action_five chain size t o
      unfolding Recovery.action_five
      by_ccw o k = λ rows x r st p a h n.
          k rows x r st p a h n
          ∙ sym (ap (λ q. applied q st p a) (pick_true _ _ (format_is r h) ∙ opt_is (fetch_in chain r.first) _ _ c (e ∙ ap (fetch_in chain) (sym h.first))))

      pub not_data : reads_data (command_of c.command) ≡ false → Decides Recovery.action_five chain size t (Answers (Refused Question.Agreement))
      not_data g = by_ccw _ (λ rows x r st p a h n. refusal_is Question.Agreement x st p a ∙ sym (ap (λ q. applied q st p a) (pick_false _ _ (rw g))))

      module _ (g : reads_data (command_of c.command) ≡ true) (b : Bool) (s : Sensible t.sense b) where
        pub not_sensible : b ≡ false → Decides Recovery.action_five chain size t (Answers (Refused Question.Agreement))
        not_sensible i =
            by_ccw _
            (λ rows x r st p a h n.
            refusal_is Question.Agreement x st p a
            ∙ sym (ap (λ q. applied q st p a) (pick_false _ _ (rw (g, sym (s r.sense h.sense) ∙ i)))))

        pub goes_over : (o : Decision) → b ≡ true → DecidesRetraced chain size t c o → Decides Recovery.action_five chain size t o
        goes_over o i k =
            by_ccw o
            (λ rows x r st p a h n. k rows x r st p a h n ∙ sym (ap (λ q. applied q st p a) (pick_true _ _ (rw (g, sym (s r.sense h.sense) ∙ i)))))
