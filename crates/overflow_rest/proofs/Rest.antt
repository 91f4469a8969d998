-- Restart CCW 1 of actions 9 and 11 goes on where the read was cut.
--   Was                what the rule of 9 and 11 knows of the cut
--   rests              the restart from there
--   overflow_goes_on   the rule of 9 and 11
--   nine-goes-on, eleven-goes-on
--                      actions 9 and 11
use Rattle.std.specs.Prelude.{Option, Some, None, Result, Ok, Err}
use Prim.Native.Nat.{ℕ, ◌+◌, ◌≤◌, ◌<◌}
use native.Mathlib.Omega.{arith}
use mathlib.Core.Path.{◌≡◌, refl, ap, sym, ◌∙◌}
use mathlib.Core.Bool.{Bool, true, false, ◌&&◌, not}
use mathlib.Core.List.{List}
use lib.Dec.{eqb}
use lib.ListN.{length}
use borrow.Author.Tests.{eqb-true, eqb-false, not-true}
use Rattle.base.proofs.Choice.{both, both_if, either, either_if, and_left, and_right, never}
use Rattle.questions.specs.declared.Question.{Question}
use Rattle.questions.specs.declared.Question.TheVariants as Question
use Rattle.address.specs.declared.Address.{Address}
use Rattle.channel.specs.declared.Ccw.{Ccw}
use Rattle.channel.specs.declared.Location.{Location}
use Rattle.channel.specs.declared.Location.TheVariants.{Chain, Restart}
use Rattle.channel.specs.Ccw.{chains_data, address_of, next, fetch, resolve}
use Rattle.channel.specs.Walk.{Walk, walked, checked}
use Rattle.channel.proofs.InChain.{WalkIn, walk_in}
use Rattle.channel.proofs.Shown.{fetched_inside}
use Rattle.channel.proofs.Walks.{resolve_got}
use Rattle.restart.specs.Restart.{rest_ccw, overflow_program}
use Rattle.recovery.specs.Report.{Report}
use Rattle.recovery.specs.Recovery as Recovery
use Rattle.recovery.specs.Recovery.{Given, Kind, Recovery, restarts, only_chain, restart_displacement, overflow_read}
use Rattle.overflow_rest.specs.Rest.{rest_place, restart_lent, uncut_walk, rest_walk, GoesOnAs, RestGoesOn, NineGoesOn, ElevenGoesOn, OverflowGoesOn}
use Rattle.overflow_rest.proofs.Cut.{Splits, walk_splits, Cut, cut_there}
use Rattle.overflow_rest.proofs.Alike.{Leads, rest_goes, stores_on}
use Rattle.overflow_rest.proofs.First.{fetch_first, lead_on, rest_readable, judged_same}

module _ (g : Given) (r : Report) (st : List ℕ) where
  abbrev displacement : ℕ
  displacement = restart_displacement r.sense

  -- ---- the restart

  -- the uncut read, of m bytes more, goes on from the interrupted CCW, which is c at a place of the chain, with the CSW's count left
  record Was (read : Ccw) (before : List (Option ℕ)) (at : ℕ) (c : Ccw) : Type 0 where
    reads : overflow_read g r st ≡ Some read
    is_cut : uncut_walk g r st read displacement ≡ walked before (Chain at) c r.csw.count false
    shown : r.csw.address ≡ at + 8
    some_left : 0 < r.csw.count
    on : (m : ℕ) → Cut (only_chain g.chain) (length st) m displacement (uncut_walk g r st read (displacement + m)) before (Chain at) c r.csw.count false

  module _ (low : length g.chain ≤ 0x1000) (read : Ccw) (before : List (Option ℕ)) (at : ℕ) (c : Ccw) (was : Was read before at c) (restart_arguments : List ℕ) where
    abbrev one : Location
    one = Restart (rest_place r.mask)

    abbrev first : Ccw
    first = rest_ccw c r.csw.count

    abbrev program : Option ℕ → List ℕ
    program last = overflow_program r.mask first last

    -- what comes next to the interrupted CCW, where that chains data, is where the last TIC leads
    abbrev NextBy : Option ℕ → Type 0
    NextBy last = chains_data c ≡ true → (to : ℕ) × (d : Ccw) × (last ≡ Some to) × (resolve (only_chain g.chain) (Chain at) (next (Chain at)) ≡ Ok (Chain to, d))

    leads : (last : Option ℕ) → NextBy last → (arguments : List ℕ) → chains_data c ≡ true → Leads g.chain arguments (program last) restart_arguments one (Chain at) c
    unfolding fetch only_chain
    leads last h arguments on =
        let v = h on in
        let there = resolve_got (only_chain g.chain) _ _ (Chain v.0) v.1 v.3 in
        let inside : v.0 + 8 ≤ length g.chain = fetched_inside (only_chain g.chain) (Chain v.0) v.1 there.0 in
        record {
          to = v.0;
          ccw = v.1;
          by_tic = rw v.2 (lead_on g.chain arguments restart_arguments first r.mask v.0 v.1 (omega (arith, low, inside)) there.0 there.1);
          by_chain = v.3;
        }

    goes : (last : Option ℕ) → NextBy last → (arguments : List ℕ) (more : ℕ)
        → GoesOnAs before one first (Chain at) c
        (rest_walk (restart_lent g.chain arguments (program last) restart_arguments) r st first more)
        (uncut_walk g r st read (displacement + more))
    unfolding rest_ccw
    goes last h arguments more =
        let goes_on = rest_goes g.chain arguments (program last) restart_arguments one (Chain at) c before (length st) r.csw.count more in
        rw (was.on more).on (goes_on was.some_left (leads last h arguments))

    rests : (last : Option ℕ) → NextBy last → RestGoesOn g r st (program last) restart_arguments
    unfolding rest_ccw
    rests last h =
        record {
          read = read;
          reads = was.reads;
          cut = c;
          at = at;
          before = before;
          is_cut = was.is_cut;
          shown = was.shown;
          counted = (was.on 0).counted;
          first = first;
          stands = fetch_first first r.mask last;
          reads_data = refl;
          sound = rest_readable (length st) c r.csw.count (was.on 0).may was.some_left (was.on 0).fits;
          judged = judged_same c r.csw.count;
          goes_on = goes last h;
          stores = λ arguments front rest s long.
              stores_on before one first (Chain at) c front rest s ((was.on 0).counted ∙ sym long) _ _ (goes last h arguments (length rest));
        }

  -- ---- the rule of 9 and 11

  module _ (low : length g.chain ≤ 0x1000) (k j : Kind) (program restart_arguments s : List ℕ) where
    -- what a restart tells; other answers tell nothing
    abbrev Tells : Recovery → Type 0
    Tells x = x ≡ restarts j program restart_arguments s → (j ≡ k) × (s ≡ st) × RestGoesOn g r st program restart_arguments

    refuses : (q : Question) → Tells (Recovery.refused q)
    refuses q e = let z : ◌≡◌ {A = ℕ} 0 1 = cc in absurd (omega arith)

    second : Tells Recovery.action_two
    second e = let z : ◌≡◌ {A = ℕ} 0 1 = cc in absurd (omega arith)

    built : (p a : List ℕ) → RestGoesOn g r st p a → Tells (restarts k p a st)
    built p a h e =
        let kind : j ≡ k = cc in
        let stays : s ≡ st = cc in
        let its_program : p ≡ program = cc in
        let its_arguments : a ≡ restart_arguments = cc in
        (kind, stays, rw (← its_program, ← its_arguments) h)

    restart_tells : (a : Address) (c : Ccw) (last : Option ℕ) → ((x : List ℕ) → RestGoesOn g r st (overflow_program r.mask (rest_ccw c r.csw.count) last) x)
        → Tells (Recovery.overflow_restart g r st k a c last)
    unfolding Recovery.overflow_restart
    restart_tells a c last h = both Tells _ (built _ _ (h _)) second

    module _ (a : Address) (read : Ccw) (reads : overflow_read g r st ≡ Some read) where
      module _ (before : List (Option ℕ)) (at : ℕ) (c : Ccw) (was : Was read before at c) where
        next_tells : (f : Result (Location × Ccw) Location) → resolve (only_chain g.chain) (Chain at) (next (Chain at)) ≡ f
            → Tells (Recovery.on_next f (Recovery.refused Question.Agreement) (λ to d. Recovery.overflow_restart g r st k a c (Some to)))
        unfolding Recovery.on_next
        next_tells (Err l) e = refuses _
        next_tells (Ok (Restart to, d)) e = refuses _
        next_tells (Ok (Chain to, d)) e = restart_tells a c (Some to) (λ x. rests low read before at c was x (Some to) (λ on. (to, d, refl, e)))

        from_tells : Tells (Recovery.from_interrupted g r st k a (Chain at) c)
        unfolding Recovery.from_interrupted
        from_tells =
            both_if Tells _ (λ on. next_tells _ refl)
            (λ off. restart_tells a c None (λ x. rests low read before at c was x None (λ on. never (sym (rw on at off)))))

      -- the walk of the restart displacement came to w, and every longer walk goes on from there
      abbrev Onward : Walk → Type 0
      Onward w = (m : ℕ) → Splits (only_chain g.chain) (length st) m displacement (uncut_walk g r st read (displacement + m)) w

      module _ (before : List (Option ℕ)) (at : ℕ) (c : Ccw) (left : ℕ) where
        was_left : (over : Bool) → uncut_walk g r st read displacement ≡ walked before (Chain at) c left over → Onward (walked before (Chain at) c left over)
            → r.csw.address ≡ at + 8 → left ≡ r.csw.count → 0 < left → Was read before at c
        was_left true e onward shown counts some_left =
            let there = cut_there (only_chain g.chain) (length st) 0 displacement _ before (Chain at) c left true some_left (onward 0) in
            never (sym there.none_over)
        was_left false e onward shown counts some_left =
            record {
              reads = reads;
              is_cut = e ∙ ap (λ n. walked before (Chain at) c n false) counts;
              shown = shown;
              some_left = rw (← counts) some_left;
              on = λ m. rw (← counts) (cut_there (only_chain g.chain) (length st) m displacement _ before (Chain at) c left false some_left (onward m));
            }

        was_cut : (over : Bool) → uncut_walk g r st read displacement ≡ walked before (Chain at) c left over → Onward (walked before (Chain at) c left over)
            → Recovery.cut_inside r.csw (Chain at) left ≡ true → Was read before at c
        unfolding Recovery.cut_inside address_of
        was_cut over e onward inside =
            let same = and_left (eqb r.csw.address (at + 8) && eqb r.csw.count left) (not (eqb left 0)) inside in
            let some_left = and_right (eqb r.csw.address (at + 8) && eqb r.csw.count left) (not (eqb left 0)) inside in
            let nonzero : left ≡ 0 → ⊥ = eqb-false left 0 (not-true _ some_left) in
            was_left over e onward
            (eqb-true _ _ (and_left (eqb r.csw.address (at + 8)) (eqb r.csw.count left) same))
            (sym (eqb-true _ _ (and_right (eqb r.csw.address (at + 8)) (eqb r.csw.count left) same)))
            (omega arith)

      walk_tells : (w : Walk) → uncut_walk g r st read displacement ≡ w → WalkIn w → Onward w → Tells (Recovery.overflow_walk g r st k a w)
      unfolding Recovery.overflow_walk
      walk_tells (checked ps l) e h onward = refuses _
      walk_tells (walked ps (Restart at) c left over) e h onward = absurd h
      walk_tells (walked ps (Chain at) c left over) e h onward =
          both_if Tells _ (λ inside. from_tells ps at c (was_cut ps at c left over e onward inside)) (λ no. refuses _)

      retrace_tells : Tells (Recovery.overflow_walk g r st k a (Recovery.retrace g r st read))
      unfolding Recovery.retrace Recovery.overflow_walk
      retrace_tells =
          both_if (λ w. Tells (Recovery.overflow_walk g r st k a w)) _
          (λ may.
          walk_tells _ refl (walk_in (only_chain g.chain) (length st) displacement (Chain r.first) read read.count read.address tt)
          (λ m. walk_splits (only_chain g.chain) (length st) m displacement (Chain r.first) read read.count read.address may (omega arith) (omega arith)))
          (λ bad. refuses _)

    overflow_tells : (track : Address → Option Address) → Tells (Recovery.overflow g r st k track)
    unfolding Recovery.overflow Recovery.overflow_at
    overflow_tells track =
        either Tells _ (refuses _) (λ u. either Tells _ (refuses _) (λ a. either_if Tells _ (λ no. refuses _) (λ c reads. retrace_tells a c reads)))

pub overflow_goes_on : OverflowGoesOn
overflow_goes_on k track g r st j program restart_arguments s low e = overflow_tells g r st low k j program restart_arguments s track e

pub nine_goes_on : NineGoesOn
unfolding Recovery.action_nine
nine_goes_on = overflow_goes_on Recovery.nine _

pub eleven_goes_on : ElevenGoesOn
unfolding Recovery.action_eleven
eleven_goes_on g r = overflow_goes_on Recovery.eleven (Recovery.behind_reached r.sense) g r
