-- Actions 8, 10 and 10A, from the tests that the code makes.
--   home_built                     the restart at a home address
--   last-seek .. next-chain        an interrupted seek, by the CCW that comes next
--   head_off, head_on              the head reached
--   no-track .. with-both          by the user's track and the interrupted CCW
--   eight-no-track .. ten-on       the same for each action
use Rattle.std.specs.Prelude.{Option, Some, None, Result, Ok, Err}
use Prim.Native.Nat.{ℕ, ◌-◌, ◌<◌, ◌≤◌}
use mathlib.Core.Path.{◌≡◌, refl, ap, sym, ◌∙◌}
use mathlib.Core.Bool.{true, false}
use mathlib.Core.List.{List, []}
use borrow.Author.Tests.{le-leb, lt-leb}
use Rattle.base.specs.Choice.{pick, opt}
use Rattle.base.proofs.Choice.{pick_true, pick_false}
use Rattle.questions.specs.declared.Question.TheVariants as Question
use Rattle.address.specs.declared.Address.{Address}
use Rattle.address.specs.declared.Extent.{Extent}
use Rattle.address.specs.Model.{last_of}
use Rattle.channel.specs.declared.Ccw.{Ccw}
use Rattle.channel.specs.declared.Csw.{Csw}
use Rattle.channel.specs.declared.Location.{Location}
use Rattle.channel.specs.declared.Location.TheVariants.{Chain, Restart}
use Rattle.channel.specs.Ccw.{chains_command, resolve}
use Rattle.drive.specs.Command.{command_of}
use Rattle.restart.specs.Restart.{ccw_bytes, program_of, restart_arguments_of}
use Rattle.recovery.specs.Correct.{mend}
use Rattle.recovery.specs.Table.{Row}
use Rattle.recovery.specs.Report.{Report}
use Rattle.recovery.specs.Recovery as Recovery
use Rattle.recovery.specs.Recovery.{Given, seek_allowed, only_chain, on_next, is_seek, next_cylinder, next_track}
use Rattle.report.specs.declared.Told.{Told}
use Rattle.report.specs.Told.{Tells}
use Rattle.correction.specs.declared.Correction.{Correction}
use Rattle.correction.specs.Retraced.{mended, nothing}
use Rattle.recovered.specs.declared.Kind.{Kind}
use Rattle.recovered.specs.declared.Kind.TheVariants.{Eight, Ten, TenA}
use Rattle.recovered.specs.declared.Recovered.TheVariants as Recovered
use Rattle.recovered.specs.Applied.{given_of, applied}
use Rattle.restart.specs.declared.ReadCount.TheVariants.{Omitted}
use Rattle.decision.specs.declared.Orientation.{Orientation}
use Rattle.decision.specs.declared.Orientation.TheVariants.{Home}
use Rattle.decision.specs.declared.RestartPlan.{RestartPlan}
use Rattle.decision.specs.declared.Decision.{Decision}
use Rattle.decision.specs.declared.Decision.TheVariants.{Answers, Restarts}
use Rattle.decision.specs.Decision.{orientation_of, program_by, arguments_by, done, bounded, Means}
use Rattle.recovered.specs.Allowed.{allowed}
use Rattle.decision.proofs.Bounded.{by_seek, applied_pick}
use Rattle.action_eight_ten.specs.EightTen.{Acts, Interrupts, DecidesBy, Homes, SeekRestarts, ReachedRestarts}

-- the answer where report and chain do not agree
abbrev refusal : Decision
refusal = Answers (Recovered.Refused Question.Agreement)

-- ---- at a home address

-- its areas
from_home : (o : Orientation) (track : Address) (m : Option ℕ) (to : ℕ) → o ≡ Home
    → (program_by o m to ≡ program_of m (ccw_bytes 0x1a 0 0x50 5) to) × (arguments_by o track m 0 0 ≡ restart_arguments_of track m 0 [])
unfolding program_by arguments_by
from_home o track m to e = rw e (refl, refl)

module _ (mask : Option ℕ) (track : Address) (to : ℕ) (kind : Kind) where
  abbrev planned : RestartPlan
  planned = record { kind = kind; counts = Omitted; track = track; mask = mask; sector = 0; number = 0; to = to }

  pub home_built : (n : Correction) → n ≡ nothing → orientation_of kind Omitted ≡ Home → Homes mask track to kind (Restarts planned n)
  unfolding Recovery.home_restart seek_allowed applied mended mend
  home_built n e h = λ k chain csw i rows x r st p a u v.
      let areas = from_home (orientation_of kind Omitted) track mask to h in
      rw (e, by_seek x planned nothing st p a, areas.0, areas.1, ← i, v) (applied_pick (allowed x track) (Recovery.restarts k _ _ st) Recovery.action_two st p a)

-- ---- an interrupted seek

module _ (chain : List ℕ) (csw : Csw) (mask : Option ℕ) (track : Address) (c : Ccw) where
  pub last_seek : chains_command c ≡ false → SeekRestarts chain csw mask track c refusal
  unfolding Recovery.seek_restart applied done bounded
  last_seek h = λ rows x r st p a u v. sym (ap (λ q. applied q st p a) (pick_false _ _ h))

  module _ (h : chains_command c ≡ true) where
    abbrev behind : Result (Location × Ccw) Location
    behind = resolve (only_chain chain) (Chain (csw.address - 8)) (Chain csw.address)

    -- by the CCW that comes next
    by_next : (d : Decision) (f : Result (Location × Ccw) Location) → f ≡ behind
        → DecidesBy (λ g q st. on_next f (Recovery.refused Question.Agreement) (λ to e. Recovery.home_restart g q st Recovery.ten track to)) chain csw mask d
        → SeekRestarts chain csw mask track c d
    unfolding Recovery.seek_restart
    by_next d f e k = λ rows x r st p a u v. k rows x r st p a u v ∙ rw (e, u) (sym (ap (λ q. applied q st p a) (pick_true _ _ h)))

    pub next_broken : (y : Location) → Err y ≡ behind → SeekRestarts chain csw mask track c refusal
    unfolding on_next applied done bounded
    next_broken y e = by_next refusal (Err y) e (λ rows x r st p a u v. refl)

    pub next_restart : (b : ℕ) (d : Ccw) → Ok (Restart b, d) ≡ behind → SeekRestarts chain csw mask track c refusal
    unfolding on_next applied done bounded
    next_restart b d e = by_next refusal (Ok (Restart b, d)) e (λ rows x r st p a u v. refl)

    pub next_chain : (to : ℕ) (e : Ccw) (d : Decision) → Ok (Chain to, e) ≡ behind → Homes mask track to Ten d → SeekRestarts chain csw mask track c d
    unfolding on_next
    next_chain to e d q k = by_next d (Ok (Chain to, e)) q (k Recovery.ten chain csw refl)

-- ---- the head reached

module _ (csw : Csw) (mask : Option ℕ) (track : Address) (head : ℕ) where
  pub head_off : 18 < head → ReachedRestarts csw mask track head refusal
  unfolding Recovery.reached_restart Recovery.reached_track pick opt applied done bounded
  head_off h = λ chain rows x r st p a u v s. rw (s, lt-leb _ _ h)

  pub head_on : (b : Address) (d : Decision) → head ≤ 18 → b ≡ next_track (record { cylinder = track.cylinder; head = head })
      → Homes mask b (csw.address - 8) TenA d → ReachedRestarts csw mask track head d
  unfolding Recovery.reached_restart Recovery.reached_track Recovery.home_restart pick opt
  head_on b d h n k = λ chain rows x r st p a u v s.
      rw (s, le-leb _ _ h, u, ← n) (k Recovery.ten_a chain csw refl rows x r st p a u v)

-- ---- the user's track and the interrupted CCW

-- what follows for a track and a CCW
abbrev Follows : Type 0
Follows = Given → Report → List ℕ → Address → Ccw → Recovery.Recovery

module _ (f : Follows) (chain : List ℕ) (t : Told) where
  abbrev Whole : Decision → Type 0
  Whole d = Acts (λ g q st. Recovery.with_track g q st (f g q st)) chain t d

  no_track : t.user ≡ None → Whole refusal
  unfolding Recovery.with_track opt applied done bounded
  no_track e = λ size rows x r st p a told n. rw (told.user, e)

  module _ (track : Address) (e : t.user ≡ Some track) where
    -- what follows for this track and a CCW, by every report that tells t
    abbrev Follows-told : Ccw → Decision → Type 0
    Follows-told c d = (rows : List Row) (x : Extent) (r : Report) (st p a : List ℕ) → Tells (last_of x.model) r t → Means x d st p a (f (given_of rows chain x) r st track c)

    no_interrupted : Interrupts chain t.csw None → Whole refusal
    unfolding Recovery.with_track opt applied done bounded
    no_interrupted i = λ size rows x r st p a told n. rw (told.user, e, ← i rows x r st told.csw)

    with_both : (c : Ccw) (d : Decision) → Interrupts chain t.csw (Some c) → Follows-told c d → Whole d
    unfolding Recovery.with_track opt
    with_both c d i k = λ size rows x r st p a told n.
        rw (told.user, e, ← i rows x r st told.csw) (k rows x r st p a told)

-- ---- the actions

abbrev eight_of : Follows
eight_of g q st a c = Recovery.home_restart g q st Recovery.eight (next_cylinder a) (q.csw.address - 8)

abbrev ten_of : Follows
ten_of g q st a c = pick (is_seek (command_of c.command)) (Recovery.seek_restart g q st a c) (Recovery.reached_restart g q st a)

module _ (chain : List ℕ) (t : Told) where
  pub eight_no_track : t.user ≡ None → Acts Recovery.action_eight chain t refusal
  unfolding Recovery.action_eight
  eight_no_track e = no_track eight_of chain t e

  pub ten_no_track : t.user ≡ None → Acts Recovery.action_ten chain t refusal
  unfolding Recovery.action_ten
  ten_no_track e = no_track ten_of chain t e

  module _ (user : Address) (e : t.user ≡ Some user) where
    pub eight_no_ccw : Interrupts chain t.csw None → Acts Recovery.action_eight chain t refusal
    unfolding Recovery.action_eight
    eight_no_ccw i = no_interrupted eight_of chain t user e i

    pub ten_no_ccw : Interrupts chain t.csw None → Acts Recovery.action_ten chain t refusal
    unfolding Recovery.action_ten
    ten_no_ccw i = no_interrupted ten_of chain t user e i

    module _ (c : Ccw) (i : Interrupts chain t.csw (Some c)) (d : Decision) where
      pub eight_goes : (track : Address) → track ≡ next_cylinder user → Homes t.mask track (t.csw.address - 8) Eight d → Acts Recovery.action_eight chain t d
      unfolding Recovery.action_eight Recovery.home_restart
      eight_goes track n k =
          with_both eight_of chain t user e c d i
          (λ rows x r st p a told. rw (told.csw, ← n) (k Recovery.eight chain t.csw refl rows x r st p a told.csw told.mask))

      pub ten_seek : is_seek (command_of c.command) ≡ true → SeekRestarts chain t.csw t.mask user c d → Acts Recovery.action_ten chain t d
      unfolding Recovery.action_ten
      ten_seek h k =
          with_both ten_of chain t user e c d i
          (λ rows x r st p a told. k rows x r st p a told.csw told.mask ∙ sym (ap (λ q. applied q st p a) (pick_true _ _ h)))

      pub ten_on : is_seek (command_of c.command) ≡ false → ReachedRestarts t.csw t.mask user t.sense.head d → Acts Recovery.action_ten chain t d
      unfolding Recovery.action_ten
      ten_on h k =
          with_both ten_of chain t user e c d i
          (λ rows x r st p a told.
          k chain rows x r st p a told.csw told.mask told.sense.head ∙ sym (ap (λ q. applied q st p a) (pick_false _ _ h)))
