-- Properties of whatever recovery answers, from what its answers are built of.
--   five_by       an answer of action 5, from one with a correction by the places of the read
--   recover_by    an answer of recovery, from one of action 5
use Rattle.std.specs.Prelude.{Option, Some, Result, Ok, Err}
use Prim.Native.Nat.{ℕ}
use mathlib.Core.Path.{◌≡◌, refl}
use mathlib.Core.Bool.{Bool, true}
use mathlib.Core.List.{List}
use Rattle.base.specs.Choice.{pick}
use Rattle.base.proofs.Choice.{both, both_if, either, either_if, and_right}
use Rattle.questions.specs.declared.Question.{Question}
use Rattle.address.specs.declared.Address.{Address}
use Rattle.channel.specs.declared.Ccw.{Ccw}
use Rattle.channel.specs.declared.Location.{Location}
use Rattle.channel.specs.declared.Location.TheVariants.{Chain, Restart}
use Rattle.channel.specs.Ccw.{fetch_in}
use Rattle.channel.specs.Walk.{Walk, walked, checked}
use Rattle.drive.specs.Command.{command_of}
use Rattle.recovery.specs.Report.{Report}
use Rattle.recovery.specs.Recovery as Recovery
use Rattle.recovery.specs.Recovery.{Recovery, Kind, Given, refused, action_one, action_two, repeats, corrected_only, finished, restarts, five, five_a, on_next, sensible, correction}

module _ (P : Recovery → Type 0) (g : Given) (r : Report) (st : List ℕ) (refuses : (q : Question) → P (refused q)) (second : P action_two) where
  next_by : (f : Result (Location × Ccw) Location) (q : Question) (on : ℕ → Ccw → Recovery) → ((to : ℕ) (c : Ccw) → P (on to c)) → P (on_next f (refused q) on)
  unfolding on_next
  next_by (Err l) q on h = refuses q
  next_by (Ok (Restart a, c)) q on h = refuses q
  next_by (Ok (Chain a, c)) q on h = h a c

  -- ---- action 5

  -- every answer with storage corrected to s
  pub record By (s : List ℕ) : Type 0 where
    pub only : P (corrected_only s)
    pub finishing : P (finished (Recovery.less_unit_check r.csw) s)
    pub by_five : (p a : List ℕ) → P (restarts five p a s)
    pub by_five_a : (p a : List ℕ) → P (restarts five_a p a s)

  by_kind : (s : List ℕ) → By s → (b : Bool) (p a : List ℕ) → P (restarts (pick b five five_a) p a s)
  by_kind s h b p a = both (λ k. P (restarts k p a s)) b (h.by_five p a) (h.by_five_a p a)

  after_walk_by : (ps : List (Option ℕ)) (l : Location) (c : Ccw) (wrong : Bool) → By (correction r.sense ps st) → P (Recovery.after_walk g r st ps l c wrong)
  unfolding Recovery.after_walk Recovery.search_restart
  after_walk_by ps l c wrong h =
      both P _ h.only (both P _ h.finishing (next_by _ _ _ (λ to d. both P _ (by_kind _ h _ _ _) second)))

  -- the places of the read that begins with c
  abbrev Walks : Ccw → List (Option ℕ) → Type 0
  Walks c ps = (l : Location) (d : Ccw) (left : ℕ) (over : Bool) → Recovery.retrace g r st c ≡ walked ps l d left over → By (correction r.sense ps st)

  walked_by : (w : Walk) → ((ps : List (Option ℕ)) (l : Location) (c : Ccw) (left : ℕ) (over : Bool) → w ≡ walked ps l c left over → By (correction r.sense ps st))
      → P (Recovery.walked_to g r st w)
  unfolding Recovery.walked_to
  walked_by (checked ps l) h = refuses _
  walked_by (walked ps l c left over) h = both P _ (after_walk_by ps l c _ (h ps l c left over refl)) (refuses _)

  pub five_by : ((c : Ccw) → fetch_in g.chain r.first ≡ Some c → sensible r.sense ≡ true → (ps : List (Option ℕ)) → Walks c ps) → P (Recovery.action_five g r st)
  unfolding Recovery.action_five
  five_by h =
      both P _
      (either_if P _ (λ e. refuses _)
      (λ c e. both_if P _ (λ t. walked_by _ (h c e (and_right (Recovery.reads_data (command_of c.command)) _ t))) (λ t. refuses _)))
      (refuses _)

  -- ---- the other actions, whose restarts leave storage as it is

  module _ (first : P action_one) (again : P repeats) (restarting : (k : Kind) (p a : List ℕ) → P (restarts k p a st)) where
    home_by : (k : Kind) (a : Address) (to : ℕ) → P (Recovery.home_restart g r st k a to)
    unfolding Recovery.home_restart
    home_by k a to = both P _ (restarting k _ _) second

    track_by : (f : Address → Ccw → Recovery) → ((a : Address) (c : Ccw) → P (f a c)) → P (Recovery.with_track g r st f)
    unfolding Recovery.with_track
    track_by f h = either P _ (refuses _) (λ a. either P _ (refuses _) (h a))

    ten_by : P (Recovery.action_ten g r st)
    unfolding Recovery.action_ten Recovery.seek_restart Recovery.reached_restart
    ten_by =
        track_by _
        (λ a c.
        both P _ (both P _ (next_by _ _ _ (λ to d. home_by _ _ _)) (refuses _)) (either P _ (refuses _) (λ b. home_by _ _ _)))

    overflow_restart_by : (k : Kind) (a : Address) (c : Ccw) (tic : Option ℕ) → P (Recovery.overflow_restart g r st k a c tic)
    unfolding Recovery.overflow_restart
    overflow_restart_by k a c tic = both P _ (restarting k _ _) second

    overflow_walk_by : (k : Kind) (a : Address) (w : Walk) → P (Recovery.overflow_walk g r st k a w)
    unfolding Recovery.overflow_walk Recovery.from_interrupted
    overflow_walk_by k a (checked ps l) = refuses _
    overflow_walk_by k a (walked ps l c left over) =
        both P _ (both P _ (next_by _ _ _ (λ to d. overflow_restart_by _ _ _ _)) (overflow_restart_by _ _ _ _)) (refuses _)

    overflow_by : (k : Kind) (track : Address → Option Address) → P (Recovery.overflow g r st k track)
    unfolding Recovery.overflow Recovery.overflow_at
    overflow_by k track = either P _ (refuses _) (λ u. either P _ (refuses _) (λ a. either P _ (refuses _) (λ c. overflow_walk_by k a _)))

    tried_by : (n : ℕ) → P (Recovery.tried g r st n)
    unfolding Recovery.tried
    tried_by n = both P _ again first

    pub recover_by : P (Recovery.action_five g r st) → P (Recovery.recover g r st)
    unfolding Recovery.recover Recovery.act Recovery.action_eight Recovery.action_nine Recovery.action_eleven
    recover_by h =
        either P _ (refuses _)
        (λ k.
        both P _ first
        (both P _ second
        (both P _ (tried_by 1)
        (both P _ (tried_by 10)
        (both P _ h
        (both P _ (track_by _ (λ a c. home_by _ _ _))
        (both P _ (overflow_by _ _) (both P _ ten_by (both P _ (overflow_by _ _) (refuses _))))))))))
