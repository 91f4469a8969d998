-- Actions 9 and 11, from the tests that the code makes.
--   other-address .. some_left       by the CSW
--   walk-checked .. walk-agrees      by how the walk ended
--   no-ccw .. walks                  by the read's first CCW
--   nine-no-track .. eleven-goes     by the user's track and the head reached
use Rattle.std.specs.Prelude.{Option, Some, None}
use Prim.Native.Nat.{ℕ, ◌+◌, ◌<◌, ◌≤◌}
use native.Mathlib.Omega.{arith}
use mathlib.Core.Path.{◌≡◌, refl, ap, sym, subst, ◌∙◌}
use mathlib.Core.Bool.{true, false, ◌&&◌, not}
use mathlib.Core.List.{List}
use lib.Dec.{eqb}
use lib.ListN.{length}
use borrow.Author.Tests.{eq-eqb, ne_eqb, eqb-true, le-leb, lt-leb}
use Rattle.base.specs.Choice.{pick, opt}
use Rattle.base.proofs.Choice.{pick_true, pick_false, and_left, and_right, opt_is}
use Rattle.questions.specs.declared.Question.TheVariants as Question
use Rattle.address.specs.declared.Address.{Address}
use Rattle.address.specs.declared.Extent.{Extent}
use Rattle.address.specs.Model.{last_of}
use Rattle.channel.specs.declared.Ccw.{Ccw}
use Rattle.channel.specs.declared.Csw.{Csw}
use Rattle.channel.specs.declared.Location.{Location}
use Rattle.channel.specs.declared.Location.TheVariants.{Chain}
use Rattle.channel.specs.Ccw.{address_of, fetch_in}
use Rattle.channel.specs.Walk.{Walk, walked, checked, walk, readable}
use Rattle.drive.specs.Command.{command_of}
use Rattle.recovery.specs.Table.{Row}
use Rattle.recovery.specs.Report.{Report}
use Rattle.recovery.specs.Recovery as Recovery
use Rattle.recovery.specs.Recovery.{only_chain, reads_data, next_cylinder, next_track}
use Rattle.report.specs.declared.Told.{Told}
use Rattle.report.specs.Told.{Tells}
use Rattle.recovered.specs.declared.Kind.{Kind}
use Rattle.recovered.specs.declared.Kind.TheVariants.{Nine, Eleven}
use Rattle.recovered.specs.declared.Recovered.TheVariants as Recovered
use Rattle.recovered.specs.Applied.{applied, given_of}
use Rattle.decision.specs.declared.Decision.{Decision}
use Rattle.decision.specs.declared.Decision.TheVariants.{Answers}
use Rattle.decision.specs.Decision.{done, bounded, Decides}
use Rattle.overflow_restart.specs.declared.WalkEnd.{WalkEnd}
use Rattle.overflow_restart.specs.Restart.{DecidesKind, GoesFrom}
use Rattle.action_nine_eleven.specs.NineEleven.{end_of, WalksTo, WalkedTo, Overflows}

-- the answer where report and chain do not agree
abbrev refusal : Decision
refusal = Answers (Recovered.Refused Question.Agreement)

-- ---- the CSW

module _ (w : Csw) (l : Location) (left : ℕ) where
  pub other_address : (w.address ≡ address_of l + 8 → ⊥) → false ≡ Recovery.cut_inside w l left
  unfolding Recovery.cut_inside
  other_address h = rw (ne_eqb w.address (address_of l + 8) h)

  module _ (h : w.address ≡ address_of l + 8) where
    pub other_count : (w.count ≡ left → ⊥) → false ≡ Recovery.cut_inside w l left
    unfolding Recovery.cut_inside
    other_count g = rw (eq-eqb w.address (address_of l + 8) h, ne_eqb w.count left g)

    pub some_left : w.count ≡ left → not (eqb left 0) ≡ Recovery.cut_inside w l left
    unfolding Recovery.cut_inside
    some_left g = rw (eq-eqb w.address (address_of l + 8) h, eq-eqb w.count left g)

-- the CSW's count is the one left
pub left_is : (w : Csw) (l : Location) (left : ℕ) → Recovery.cut_inside w l left ≡ true → w.count ≡ left
unfolding Recovery.cut_inside
left_is w l left h =
    eqb-true w.count left (and_right (eqb w.address (address_of l + 8)) _ (and_left (eqb w.address (address_of l + 8) && eqb w.count left) _ h))

-- ---- how the walk ended

-- what holds of an end, and nothing of a program check
abbrev At : (Location → Ccw → ℕ → Type 0) → Option WalkEnd → Type 0
At P (Some v) = P v.at v.ccw v.left
At P None = ⊥

other_end : {P : Type 0} {v : WalkEnd} → ◌≡◌ {A = Option WalkEnd} (Some v) None → P
other_end e = let z : ◌≡◌ {A = ℕ} 0 1 = cc in absurd (omega arith)

module _ (chain : List ℕ) (csw : Csw) (mask : Option ℕ) (track : Address) (kind : Kind) where
  -- what comes of a walk
  abbrev Goes : Walk → Decision → Type 0
  Goes w d = DecidesKind (λ k g r st. Recovery.overflow_walk g r st k track w) chain (λ v. v ≡ csw) mask kind d

  by_check : (w : Walk) → end_of w ≡ None → Goes w refusal
  unfolding end_of Recovery.overflow_walk applied done bounded
  by_check (checked ps l) f = λ k rows x r st p a i shown m. refl
  by_check (walked ps l c left over) f = other_end f

  pub walk_checked : (e : Option WalkEnd) → e ≡ None → WalkedTo chain csw mask track kind e refusal
  walk_checked e q = λ w f. by_check w (sym f ∙ q)

  -- the test of the CSW, and what follows
  abbrev Tested : Decision → Location → Ccw → ℕ → Type 0
  Tested d l c left =
      DecidesKind (λ k g r st. pick (Recovery.cut_inside r.csw l left) (Recovery.from_interrupted g r st k track l c) (Recovery.refused Question.Agreement))
      chain (λ v. v ≡ csw) mask kind d

  by_test : (d : Decision) (w : Walk) → At (Tested d) (end_of w) → Goes w d
  unfolding end_of Recovery.overflow_walk
  by_test d (walked ps l c left over) h = h
  by_test d (checked ps l) h = absurd h

  by_end : (d : Decision) (e : Option WalkEnd) → At (Tested d) e → WalkedTo chain csw mask track kind e d
  by_end d e h = λ w f. by_test d w (subst (At (Tested d)) f h)

  module _ (e : Option WalkEnd) (v : WalkEnd) (q : e ≡ Some v) where
    pub walk_disagrees : Recovery.cut_inside csw v.at v.left ≡ false → WalkedTo chain csw mask track kind e refusal
    unfolding applied done bounded
    walk_disagrees h =
        by_end refusal e
        (subst (At (Tested refusal)) (sym q)
        (λ k rows x r st p a i shown m. rw shown (sym (ap (λ o. applied o st p a) (pick_false _ _ h)))))

    pub walk_agrees : (d : Decision) → Recovery.cut_inside csw v.at v.left ≡ true → GoesFrom chain mask track kind v d → WalkedTo chain csw mask track kind e d
    walk_agrees d h g =
        by_end d e
        (subst (At (Tested d)) (sym q)
        (λ k rows x r st p a i shown m.
        g k rows x r st p a i (ap (λ (u : Csw). u.count) shown ∙ left_is csw v.at v.left h) m
        ∙ sym (ap (λ o. applied o st p a) (pick_true _ _ (ap (λ u. Recovery.cut_inside u v.at v.left) shown ∙ h)))))

-- ---- the read's first CCW

module _ (chain : List ℕ) (size : ℕ) (t : Told) (track : Address) (kind : Kind) where
  pub no_ccw : None ≡ fetch_in chain t.first → Overflows chain size t track kind refusal
  unfolding Recovery.overflow_at Recovery.overflow_read opt applied done bounded
  no_ccw e = λ k rows x r st p a i told n. rw (told.first, ← e)

  module _ (c : Ccw) (e : Some c ≡ fetch_in chain t.first) where
    pub not_data : reads_data (command_of c.command) ≡ false → Overflows chain size t track kind refusal
    unfolding Recovery.overflow_at Recovery.overflow_read pick opt applied done bounded
    not_data g = λ k rows x r st p a i told n. rw (told.first, ← e, g)

    module _ (g : reads_data (command_of c.command) ≡ true) where
      pub not_overflow : (t.sense.byte3 ≡ 0x06 → ⊥) → Overflows chain size t track kind refusal
      unfolding Recovery.overflow_at Recovery.overflow_read pick opt applied done bounded
      not_overflow f = λ k rows x r st p a i told n. rw (told.first, ← e, g, told.sense.byte3, ne_eqb t.sense.byte3 0x06 f)

      module _ (f : t.sense.byte3 ≡ 0x06) where
        pub unreadable : readable size c ≡ false → Overflows chain size t track kind refusal
        unfolding Recovery.overflow_at Recovery.overflow_read Recovery.retrace Recovery.overflow_walk pick opt applied done bounded
        unreadable h = λ k rows x r st p a i told n. rw (told.first, ← e, g, told.sense.byte3, eq-eqb t.sense.byte3 0x06 f, n, h)

        read_is : (rows : List Row) (x : Extent) (r : Report) (st : List ℕ) → Tells (last_of x.model) r t → Some c ≡ Recovery.overflow_read (given_of rows chain x) r st
        unfolding Recovery.overflow_read pick opt
        read_is rows x r st told = rw (told.first, ← e, g, told.sense.byte3, eq-eqb t.sense.byte3 0x06 f)

        abbrev whole : Walk
        whole = walk (only_chain chain) size t.sense.restart.0 (Chain t.first) c c.count c.address

        walk_is : readable size c ≡ true → (rows : List Row) (x : Extent) (r : Report) (st : List ℕ) → Tells (last_of x.model) r t → length st ≡ size
            → Recovery.retrace (given_of rows chain x) r st c ≡ whole
        unfolding Recovery.retrace
        walk_is h rows x r st told n = rw (n, told.first, told.sense.restart) (pick_true _ _ h)

        pub walks : (v : Option WalkEnd) (d : Decision) → readable size c ≡ true → WalksTo chain size (Chain t.first) c t.sense.restart.0 v
            → WalkedTo chain t.csw t.mask track kind v d → Overflows chain size t track kind d
        unfolding Recovery.overflow_at only_chain
        walks v d h w q = λ k rows x r st p a i told n.
            q whole (w (only_chain chain) refl refl) k rows x r st p a i told.csw told.mask
            ∙ sym (ap (λ o. applied o st p a) (opt_is _ _ _ c (read_is rows x r st told) ∙ ap (Recovery.overflow_walk (given_of rows chain x) r st k track) (walk_is h rows x r st told n)))

-- ---- the actions

module _ (chain : List ℕ) (size : ℕ) (t : Told) where
  pub nine_no_track : t.user ≡ None → Decides Recovery.action_nine chain size t refusal
  unfolding Recovery.action_nine Recovery.overflow opt applied done bounded
  nine_no_track e = λ rows x r st p a told n. rw (told.user, e)

  pub eleven_no_track : t.user ≡ None → Decides Recovery.action_eleven chain size t refusal
  unfolding Recovery.action_eleven Recovery.overflow opt applied done bounded
  eleven_no_track e = λ rows x r st p a told n. rw (told.user, e)

  module _ (user : Address) (e : t.user ≡ Some user) where
    pub nine_goes : (track : Address) (d : Decision) → track ≡ next_cylinder user → Overflows chain size t track Nine d → Decides Recovery.action_nine chain size t d
    unfolding Recovery.action_nine Recovery.overflow opt
    nine_goes track d m q = λ rows x r st p a told n. rw (told.user, e, ← m) (q Recovery.nine rows x r st p a refl told n)

    pub head_off : 18 < t.sense.head → Decides Recovery.action_eleven chain size t refusal
    unfolding Recovery.action_eleven Recovery.overflow Recovery.behind_reached Recovery.reached_track pick opt applied done bounded
    head_off h = λ rows x r st p a told n. rw (told.user, e, told.sense.head, lt-leb _ _ h)

    pub eleven_goes : (track : Address) (d : Decision) → t.sense.head ≤ 18 → track ≡ next_track (record { cylinder = user.cylinder; head = t.sense.head })
        → Overflows chain size t track Eleven d → Decides Recovery.action_eleven chain size t d
    unfolding Recovery.action_eleven Recovery.overflow Recovery.behind_reached Recovery.reached_track pick opt
    eleven_goes track d h m q = λ rows x r st p a told n.
        rw (told.user, e, told.sense.head, le-leb t.sense.head 18 h, ← m) (q Recovery.eleven rows x r st p a refl told n)
