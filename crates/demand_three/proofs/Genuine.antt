-- Recovery from the report of a cut that the trial drive made: what its sense bytes say (`restart_is` to `sector_is`), questions 6 to 8 are answered
-- with yes (`to_five`, `format_is`), 9 but for the next CCW (`comes_to`), and storage comes out as the faultless read leaves it.
use Rattle.std.specs.Prelude.{Option, Some, Ok}
use Prim.Native.Nat.{ℕ, ◌+◌, ◌-◌, ◌≤◌}
use native.Mathlib.Omega.{arith}
use mathlib.Core.Path.{◌≡◌, refl, ap, ap₂, sym, ◌∙◌}
use mathlib.Core.Bool.{Bool, true, false, ◌||◌, not}
use mathlib.Core.List.{List, [], ◌∷◌, ◌++◌}
use lib.ListN.{length, get_or, take}
use lib.Seq.{take-append_seam}
use borrow.Author.Tests.{eq-eqb, ne_eqb, le-leb}
use Rattle.base.specs.Choice.{pick, opt}
use Rattle.base.specs.Bytes.{part, two, three}
use Rattle.base.specs.Bits.{bit_on}
use Rattle.base.proofs.Bytes.{two_back, three_back}
use Rattle.address.specs.declared.Address.{Address}
use Rattle.pack.specs.Pack.{Record}
use Rattle.faults.specs.Faults.{Fault}
use Rattle.channel.specs.declared.Ccw.{Ccw}
use Rattle.channel.specs.declared.Location.{Location}
use Rattle.channel.specs.declared.Location.TheVariants.{Chain, Restart}
use Rattle.channel.specs.Ccw.{Lent, chains_command, address_of, next, fetch_in, fetch, resolve}
use Rattle.channel.specs.Store.{store}
use Rattle.channel.specs.Walk.{Walk, walked, checked, incorrect_length}
use Rattle.channel.proofs.Stretch.{length_store}
use Rattle.channel.proofs.InChain.{InChain, walk_same}
use Rattle.channel.proofs.Walks.{Short, short_walked}
use Rattle.drive.specs.declared.Read.{Read}
use Rattle.drive.specs.declared.Command.{Command}
use Rattle.drive.specs.declared.Command.TheVariants.{ReadRecord, ReadMultitrack, NoOperation, ReadHome, SearchId, SearchIdMultitrack, Seek, SetMask, SetSector, Unlisted}
use Rattle.drive.specs.Command.{command_of}
use Rattle.drive.specs.Drive.{address_bytes}
use Rattle.channel.specs.Csw.{csw_at}
use Rattle.drive.specs.Step.{State, Cut, Setting, Transfer, data_of, cut_sense, length_status, spread, arriving}
use Rattle.drive.proofs.Steps.{cut_of}
use Rattle.drive.proofs.Origin as Origin
use Rattle.recovery.specs.Table as Table
use Rattle.recovery.specs.Report.{Report}
use Rattle.recovery.specs.Recovery as Recovery
use Rattle.recovery.specs.Recovery.{Given, only_chain, recover, after_walk, fetch_mode, restart_displacement, error_displacement, sensible, retrace, agrees, correction, walked_to, action_five, alike, cut_track, reads_data, less_unit_check, seek_allowed, on_next, search_restart, finished, restarts, five, five_a}
use Rattle.restart.specs.Restart.{count_for, search_program, search_arguments}
use Rattle.recovery.proofs.Restored.{restored, length_spread}
use Rattle.demand_three.specs.WholeReading.{report_of}

-- ---- the sense of a cut, read back

module _ (k : Cut) where
  abbrev r : Report
  r = report_of k

  action_is : Table.action_for Table.rows r.sense ≡ Some 5
  unfolding report_of cut_sense Table.action_for Table.rows Table.fits Table.covers pick
  action_is = refl

  pub restart_is : restart_displacement r.sense ≡ k.restart
  unfolding report_of cut_sense address_bytes two three
  restart_is = three_back k.restart

  pub error_is : error_displacement r.sense ≡ k.error
  unfolding report_of cut_sense address_bytes two three
  error_is = two_back k.error

  pub track_is : cut_track r.sense ≡ k.at
  unfolding report_of cut_sense address_bytes two
  track_is = λ i. record { cylinder = two_back k.at.cylinder i; head = two_back k.at.head i }

  pub format_is : get_or r.sense 7 0 ≡ 0x53
  unfolding report_of cut_sense
  format_is = refl

  pub number_is : get_or r.sense 12 0 ≡ k.r
  unfolding report_of cut_sense address_bytes two
  number_is = refl

  pub sector_is : get_or r.sense 13 0 ≡ 0
  unfolding report_of cut_sense address_bytes two
  sector_is = refl

  pattern_is : length k.pattern ≡ 3 → part r.sense 20 23 ≡ k.pattern
  unfolding report_of cut_sense address_bytes two three part
  pattern_is h = ap (λ n. take n (k.pattern ++ (pick k.over 1 0 ∷ []))) (sym h) ∙ take-append_seam k.pattern (pick k.over 1 0 ∷ [])

  -- so recovery takes action 5, whatever the cut was
  pub to_five : (g : Given) → g.rows ≡ Table.rows → (st : List ℕ) → recover g r st ≡ action_five g r st
  unfolding recover Recovery.act opt pick
  to_five g rows_are st = rw (rows_are, action_is)

-- ---- recovery from it

alike_status : (wrong : Bool) → alike (bit_on 1 (length_status wrong)) wrong ≡ true
unfolding alike bit_on length_status pick
alike_status true = refl
alike_status false = refl

-- a read of a data area is one that question 9 takes
reads_data_lem : (c : Command) (k : Read) → Origin.Reads c k → k.datas ≡ true → reads_data c ≡ true
unfolding reads_data
reads_data_lem (ReadRecord j) k Origin.on_track h = h
reads_data_lem (ReadMultitrack j) k Origin.multitrack h = h
reads_data_lem NoOperation k x'' h = elim x'' [ ]
reads_data_lem Seek k x3 h = elim x3 [ ]
reads_data_lem SetMask k x4 h = elim x4 [ ]
reads_data_lem SetSector k x5 h = elim x5 [ ]
reads_data_lem SearchId k x6 h = elim x6 [ ]
reads_data_lem ReadHome k x7 h = elim x7 [ ]
reads_data_lem SearchIdMultitrack k x8 h = elim x8 [ ]
reads_data_lem Unlisted k x9 h = elim x9 [ ]

-- what follows the walk, by its tests
module _ (g : Given) (r : Report) (st : List ℕ) (ps : List (Option ℕ)) (l : Location) (c : Ccw) (wrong : Bool) (calm : fetch_mode r.mask ≡ false) where
  after_end : (wrong || not (chains_command c)) ≡ true → after_walk g r st ps l c wrong ≡ finished (less_unit_check r.csw) (correction r.sense ps st)
  unfolding after_walk pick
  after_end e = rw (calm, e)

  after_on : (wrong || not (chains_command c)) ≡ false → (to : ℕ) (d : Ccw) → resolve (only_chain g.chain) l (next l) ≡ Ok (Chain to, d)
      → after_walk g r st ps l c wrong ≡ search_restart g r st ps to d
  unfolding after_walk on_next pick
  after_on e to d q = rw (calm, e, q)

-- the restart of action 5, by what the report says
build_is : (g : Given) (r : Report) (st : List ℕ) (ps : List (Option ℕ)) (to : ℕ) (d : Ccw) {a : Address} {m : Option ℕ} {sector n : ℕ} {after : List ℕ}
    → seek_allowed g a ≡ true → cut_track r.sense ≡ a → r.mask ≡ m → get_or r.sense 13 0 ≡ sector → get_or r.sense 12 0 ≡ n → correction r.sense ps st ≡ after
    → search_restart g r st ps to d
    ≡ restarts (pick (bit_on 3 d.command) five five_a) (search_program m (count_for d.command) to) (search_arguments a m sector n) after
unfolding search_restart pick
build_is g r st ps to d u ea em es en eb = rw (ea, u, em, es, en, eb)

-- a place in the chain is its address
chain_address : (l : Location) → InChain l → Chain (address_of l) ≡ l
unfolding address_of
chain_address (Chain a) h = refl
chain_address (Restart a) h = absurd h

chain_fetch : (p : Lent) (l : Location) → InChain l → (c : Ccw) → fetch p l ≡ Some c → fetch_in p.chain (address_of l) ≡ Some c
unfolding address_of fetch
chain_fetch p (Chain a) h c e = e
chain_fetch p (Restart a) h c e = absurd h

-- A read of a faulted data area whose walk ended, in the chain, with sizes as a well formed image and fault list have them.
pub record Genuine (w : Setting) (s : State) (t : Transfer) (y : Record) (f : Fault) (ps : List (Option ℕ)) (z : Location) (c : Ccw) (left : ℕ) (over : Bool) : Type 0 where
  pub from : Origin.From w s t
  pub area_is : t.area ≡ data_of y
  pub walk_is : t.walk ≡ walked ps z c left over
  pub here : InChain s.at
  pub some_way : 1 ≤ f.displacement
  pub in_read : f.displacement ≤ length t.bytes
  pub short : length t.bytes ≤ 13038
  pub three : length f.pattern ≡ 3

-- the cut
abbrev pub cut_at : State → Transfer → Record → Fault → List (Option ℕ) → Location → Ccw → ℕ → Bool → Cut
cut_at s t y f ps z c left over = cut_of t y f s.storage ps over (csw_at z 0x0e (length_status (incorrect_length c left over)) left)

walked_few : (n : ℕ) (v : Walk) (ps : List (Option ℕ)) (z : Location) (c : Ccw) (left : ℕ) (over : Bool) → Short n v → v ≡ walked ps z c left over → length ps ≤ n
walked_few n (walked qs l d m o) ps z c left over (short_walked h) e = let q : qs ≡ ps = cc in rw (← q) h
walked_few n (checked qs l) ps z c left over h e = let q : ◌≡◌ {A = ℕ} 0 1 = cc in absurd (omega arith)

module _ (w : Setting) (s : State) (t : Transfer) (y : Record) (f : Fault) (ps : List (Option ℕ)) (z : Location) (c : Ccw) (left : ℕ) (over : Bool)
    (gen : Genuine w s t y f ps z c left over) (g : Given) (rows_are : g.rows ≡ Table.rows) (chain_is : g.chain ≡ w.lent.chain) where
  abbrev k : Cut
  k = cut_at s t y f ps z c left over

  abbrev report : Report
  report = report_of k

  abbrev first_ccw : Ccw
  first_ccw = gen.from.ccw

  -- the correction gives the bytes that were read
  pub corrects : correction report.sense ps k.storage ≡ store ps t.bytes s.storage
  unfolding correction arriving
  corrects =
      let few = walked_few (length t.bytes) t.walk ps z c left over (Origin.places_few w s t gen.from) gen.walk_is in
      rw (restart_is k, error_is k, pattern_is k gen.three)
      (restored ps t.bytes (spread (length t.bytes) (length t.bytes - f.displacement) f.pattern) s.storage few
      (omega (arith, length_spread (length t.bytes) (length t.bytes - f.displacement) f.pattern)))

  is_sensible : sensible report.sense ≡ true
  unfolding sensible
  is_sensible =
      let d = gen.some_way in
      rw (
        restart_is k,
        error_is k,
        sector_is k,
        ne_eqb f.displacement 0 (λ e. omega arith),
        le-leb (length t.bytes) 13038 gen.short,
        le-leb f.displacement (length t.bytes) gen.in_read,
      )

  in_chain : InChain t.first
  in_chain = Origin.first_in w s t gen.from gen.here

  -- the walk of the recovery is the read's
  retraces : retrace g report k.storage first_ccw ≡ walked ps z c left over
  unfolding retrace report_of only_chain pick
  retraces =
      rw (length_store ps (arriving t.bytes f) s.storage, gen.from.sound, restart_is k, chain_address t.first in_chain, chain_is)
      (walk_same w.lent [] [] [] (length s.storage) (length t.bytes) t.first first_ccw first_ccw.count first_ccw.address in_chain
      ∙ sym gen.from.walk_is ∙ gen.walk_is)

  -- the read's first CCW is found again, and reads a data area
  fetches : fetch_in g.chain report.first ≡ Some first_ccw
  unfolding report_of
  fetches = rw chain_is (chain_fetch w.lent t.first in_chain first_ccw (Origin.ccw_fetched w s t gen.from).0)

  reads : reads_data (command_of first_ccw.command) ≡ true
  reads = let d = gen.from.data_from y gen.area_is in reads_data_lem _ _ d.command_is d.takes_data

  agreed : agrees report.csw z left (incorrect_length c left over) ≡ true
  unfolding agrees report_of csw_at
  agreed = rw (eq-eqb (address_of z + 8) (address_of z + 8) refl, eq-eqb left left refl, alike_status (incorrect_length c left over))

  to_walk : action_five g report k.storage ≡ walked_to g report k.storage (retrace g report k.storage first_ccw)
  unfolding action_five opt pick
  to_walk = rw (format_is k, fetches, reads, is_sensible)

  to_end : walked_to g report k.storage (walked ps z c left over) ≡ after_walk g report k.storage ps z c (incorrect_length c left over)
  unfolding walked_to pick
  to_end = rw agreed

  -- so it comes to what follows the walk
  pub comes_to : recover g report k.storage ≡ after_walk g report k.storage ps z c (incorrect_length c left over)
  comes_to = to_five k g rows_are k.storage ∙ to_walk ∙ ap (walked_to g report k.storage) retraces ∙ to_end

  -- ---- its answers, where no mask is in PCI fetch mode
  module _ (calm : fetch_mode t.after.mask ≡ false) where
    calm_report : fetch_mode report.mask ≡ false
    unfolding report_of
    calm_report = calm

    mask_is : report.mask ≡ t.after.mask
    unfolding report_of
    mask_is = refl

    status_is : less_unit_check report.csw ≡ csw_at z 0x0c (length_status (incorrect_length c left over)) left
    unfolding report_of less_unit_check csw_at bit_on pick
    status_is = refl

    pub finishes : (incorrect_length c left over || not (chains_command c)) ≡ true
        → recover g report k.storage ≡ finished (csw_at z 0x0c (length_status (incorrect_length c left over)) left) (store ps t.bytes s.storage)
    finishes e = comes_to ∙ after_end g report k.storage ps z c (incorrect_length c left over) calm_report e ∙ ap₂ finished status_is corrects

    pub restarts_with : (incorrect_length c left over || not (chains_command c)) ≡ false → (to : ℕ) (d : Ccw) → resolve (only_chain g.chain) z (next z) ≡ Ok (Chain to, d)
        → seek_allowed g y.at ≡ true
        → recover g report k.storage
        ≡ restarts (pick (bit_on 3 d.command) five five_a) (search_program t.after.mask (count_for d.command) to)
        (search_arguments y.at t.after.mask 0 y.r) (store ps t.bytes s.storage)
    restarts_with e to d q u =
        comes_to
        ∙ after_on g report k.storage ps z c (incorrect_length c left over) calm_report e to d q
        ∙ built
      where
        built : search_restart g report k.storage ps to d
            ≡ restarts (pick (bit_on 3 d.command) five five_a) (search_program t.after.mask (count_for d.command) to)
            (search_arguments y.at t.after.mask 0 y.r) (store ps t.bytes s.storage)
        built = build_is g report k.storage ps to d u (track_is k) mask_is (sector_is k) (number_is k) corrects
