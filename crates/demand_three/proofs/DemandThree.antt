-- DEMAND 3: `demand_three`.
use Rattle.std.specs.Prelude.{Option, Some, None}
use Prim.Native.Nat.{ℕ, zero, suc}
use native.Mathlib.Omega.{arith}
use mathlib.Core.Path.{◌≡◌, refl, ◌∙◌}
use mathlib.Core.Bool.{Bool, true, false}
use mathlib.Core.List.{List, [], ◌∷◌}
use Rattle.base.specs.Choice.{pick, opt}
use Rattle.base.proofs.Choice.{split}
use Rattle.questions.specs.Areas.{restart_limit}
use Rattle.address.specs.declared.Extent.{Extent}
use Rattle.address.specs.Within.{extent_of}
use Rattle.abstract_machine.specs.Machine.{Result, ended, run, notes, Along}
use Rattle.abstract_machine.proofs.Run.{notes_few}
use Rattle.abstract_machine.proofs.Whole.{Each, Reads, along_kept, along_here, along_goes, along_on, along_none, whole}
use Rattle.channel.specs.declared.Location.TheVariants.{Chain}
use Rattle.channel.proofs.InChain.{InChain}
use Rattle.drive.specs.Drive.{initial}
use Rattle.channel.specs.Csw.{csw_at}
use Rattle.drive.specs.Step.{State, End, Cut, Setting, Area, area_in, no_sense, plan, step}
use Rattle.drive.specs.Run.{Limit, limit_of, start, tic_first, run_from}
use Rattle.drive.proofs.Origin as Origin
use Rattle.recovery.specs.Table.{rows}
use Rattle.recovery.specs.Recovery.{fetch_mode}
use Rattle.demand_three.specs.WholeReading.{Restarted, recover_cut, restarted_run, final, given_in, whole_reading}
use Rattle.demand_three.specs.Demand.{Lending, setting_of, Begins, Provided, takes_faulted, ends_by_step, ends_at_count, at_count, end_of, recovered, faulted_areas, SeeksInside, EachInside, LikeFaultless, DemandThree}
use Rattle.demand_three.proofs.Hits.{flag, name_if, flags_are, unflagged}
use Rattle.demand_three.proofs.Mending.{areas_limit, Good, Fine, ended_is, closes, goes_on}

each_inside : (x : Extent) (rs : List Restarted) → Each (SeeksInside x) rs → EachInside x rs
each_inside x [] h = tt
each_inside x (r ∷ rs) h = (h.0, each_inside x rs h.1)

-- a data area is marked where it is named
marked_if : (f : Area → Bool) → ((a : Area) → f a ≡ opt (name_if a) false (λ h. true)) → (o : Option Area) → opt o false f ≡ opt (opt o None name_if) false (λ h. true)
unfolding opt
marked_if f h None = refl
marked_if f h (Some a) = h a

module _ (g : Lending) (e : End) (b : Begins g) (p : Provided g e) where
  abbrev w : Setting
  w = setting_of g

  abbrev begun : State
  begun = start (Chain 0) g.storage

  -- a faultless run that does not end by a program check does not begin with a TIC
  no_tic : tic_first w.lent (Chain 0) ≡ false
  unfolding run_from pick csw_at
  no_tic =
      split (tic_first w.lent (Chain 0))
      (λ q.
      let v : ◌≡◌ {A = Result Limit End Cut} (ended (record { csw = csw_at (Chain 0) 0 0x20 0; sense = no_sense; mask = initial.mask; storage = g.storage })) (ended e) =
      rw q at p.faultless in
      absurd (p.sound (rw (← (ended_is v)) refl)))
      (λ q. q)

  pub runs : run (step [] w) limit_of g.limit begun ≡ ended e
  unfolding run_from pick
  runs = rw no_tic at p.faultless

  abbrev Stays : State → Type 0
  Stays s = InChain s.at × Origin.legal s.drive.mask

  begins_well : Stays begun
  unfolding start initial
  begins_well = (tt, tt)

  stays : Along (step [] w) (λ s. (fetch_mode s.drive.mask ≡ false) × Stays s) g.limit begun
  stays =
      along_kept (step [] w) (λ s. fetch_mode s.drive.mask ≡ false) Stays
      (λ s t calm here q. (Origin.step_stays [] w s t q here.0, Origin.step_legal [] w s t q here.1)) g.limit begun begins_well p.unfetched

  all_fine : (n : ℕ) (s : State) → Along (step [] w) (λ s. (fetch_mode s.drive.mask ≡ false) × Stays s) n s → Along (step [] w) (Fine g b p.inside) n s
  all_fine zero s h = along_none (step [] w) (Fine g b p.inside) s
  all_fine (suc n) s h =
      let here = along_here (step [] w) (λ s. (fetch_mode s.drive.mask ≡ false) × Stays s) n s h in
      along_on (step [] w) (Fine g b p.inside) n s (record { calm = here.0; here = here.1.0; legal_mask = here.1.1 })
      (λ t q. all_fine n t (along_goes (step [] w) (λ s. (fetch_mode s.drive.mask ≡ false) × Stays s) n s t q h))

  -- the marks of the exception: a command that takes a faulted data area has a flag
  marks : (s : State) → takes_faulted g s ≡ opt (flag g.faults w s) false (λ h. true)
  unfolding takes_faulted flag name_if opt pick
  marks s = marked_if _ (λ a. split a.faulted (λ e. rw e) (λ e. rw e)) (area_in g.faults (plan w s))

  reads : Reads (restarted_run g.faults w) (recover_cut (given_in w rows (extent_of g.model g.extent))) final recovered (SeeksInside (extent_of g.model g.extent))
      g.limit (record { made = []; built = [] }) (run (step g.faults w) limit_of g.limit begun) (end_of g e) (notes (step [] w) (flag g.faults w) g.limit begun)
  unfolding end_of ends_at_count
  reads =
      let small = areas_limit _ _ _ _ _ g.limit b.areas in
      whole (step g.faults w) limit_of (restarted_run g.faults w) (recover_cut (given_in w rows (extent_of g.model g.extent))) final recovered restart_limit 260 (SeeksInside (extent_of g.model g.extent))
      (step [] w) (flag g.faults w) (takes_faulted g) (ends_by_step w) at_count (Fine g b p.inside) Good
      (λ s fine q. unflagged g.faults w s q) marks (goes_on g b p.inside) (closes g b p.inside)
      g.limit begun e runs p.sound (all_fine g.limit begun stays) (omega arith)
      g.limit g.limit (record { made = []; built = [] }) (omega arith) (notes_few (step [] w) (flag g.faults w) g.limit begun)

  like_faultless : LikeFaultless g e
  unfolding whole_reading run_from faulted_areas pick
  like_faultless = record {
    made = reads.made;
    built = reads.built;
    same_end = rw no_tic reads.same_end;
    same_areas = reads.same_names ∙ flags_are g.faults w g.limit begun;
    inside = each_inside (extent_of g.model g.extent) reads.built reads.inside;
  }

pub demand_three : DemandThree
demand_three g e b p = like_faultless g e b p
