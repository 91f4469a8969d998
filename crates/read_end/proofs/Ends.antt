-- What a read comes to, from the tests that the code makes.
--   checked_low, ended_low, ended_left     a CSW can show the CCW of each end, and its count left
--   settled-checked .. settled-onward      a read without fault
--   excepted_checked, excepted_ended       one of a data area of length 0
--   faulted_checked, faulted_ended         one of a faulted data area
--   cut_low                                the numbers of the cut fit a report
--   through                                from the places that a walk found to what was carried
use Rattle.std.specs.Prelude.{Option, Result, Ok, Err}
use Prim.Native.Nat.{ℕ, ◌<◌}
use native.Mathlib.Omega.{arith}
use mathlib.Core.Path.{◌≡◌, ap, sym, subst, ◌∙◌}
use mathlib.Core.Bool.{Bool, true, false}
use mathlib.Core.List.{List}
use Rattle.base.proofs.Choice.{pick_true, pick_false}
use Rattle.pack.specs.declared.Place.{Place}
use Rattle.faults.specs.declared.Listed.{Listed}
use Rattle.faults.specs.FaultAt.{fault_from}
use Rattle.channel.specs.declared.Ccw.{Ccw}
use Rattle.channel.specs.Csw.{csw_at}
use Rattle.channel.specs.declared.Csw.{Csw}
use Rattle.channel.specs.declared.Location.{Location}
use Rattle.channel.specs.Ccw.{next}
use Rattle.channel.specs.Store.{store}
use Rattle.channel.specs.Walk.{Walk, walked, checked, incorrect_length}
use Rattle.transfer.specs.declared.Moved.{Moved}
use Rattle.transfer.specs.Transfer.{Left, left, carried}
use Rattle.drive.specs.Step as Step
use Rattle.position.specs.declared.Drive.{Drive}
use Rattle.position.specs.Standing.{drive_of}
use Rattle.command.specs.declared.Status.TheVariants.{Quiet}
use Rattle.command.specs.declared.Cut.{Cut}
use Rattle.command.specs.declared.Answer.{Answer}
use Rattle.command.specs.declared.Answer.TheVariants.{Ends, Cuts}
use Rattle.location.specs.Low.{Low, CswLow}
use Rattle.command.specs.Answer.{answer_of, Answers, CutLow}
use Rattle.read_end.specs.ReadEnd.{walk_of, LowMoved, FaultedLow, Settles, Excepts, CutsOff}

pub checked_low : (m : Result Moved Location) (l : Location) → m ≡ Err l → LowMoved m → Low l
checked_low m l e h = subst LowMoved e h

pub ended_low : (m : Result Moved Location) (l : Location) (c : Ccw) (n : ℕ) (over : Bool) → m ≡ Ok (record { at = l; ccw = c; left = n; over = over }) → LowMoved m → Low l
ended_low m l c n over e h = (subst LowMoved e h).0

pub ended_left : (m : Result Moved Location) (l : Location) (c : Ccw) (n : ℕ) (over : Bool) → m ≡ Ok (record { at = l; ccw = c; left = n; over = over }) → LowMoved m → n < 0x10000
ended_left m l c n over e h = (subst LowMoved e h).1

abbrev quiet : Csw → Drive → Answer
quiet w d = Ends (record { csw = w; status = Quiet; mask = d.mask })

abbrev pub told : Location → Place → Listed → ℕ → Drive → Bool → Csw → Cut
told first p f n d over w = record {
  at = p.at;
  r = p.r;
  restart = record { 0 = n };
  error = f.displacement;
  pattern0 = f.first;
  pattern1 = f.second;
  pattern2 = f.third;
  over = over;
  first = first;
  mask = d.mask;
  csw = w;
}

abbrev cut : Location → Place → Listed → ℕ → Drive → Bool → Csw → Answer
cut first p f n d over w = Cuts (told first p f n d over w)

pub cut_low : (first : Location) (p : Place) (f : Listed) (n : ℕ) (d : Drive) (over : Bool) (w : Csw) → FaultedLow first p f n → CswLow w → CutLow (told first p f n d over w)
cut_low first p f n d over w s h =
    record {
      cylinder = s.place.cylinder;
      head = s.place.head;
      number = s.place.number;
      restart_low = omega (arith, s.few);
      error_low = omega (arith, s.few, s.inside);
      first_low = s.first_low;
      csw_low = h;
    }

module _ (d : Drive) (m : Result Moved Location) (r : Answer) (l : Location) where
  module _ (e : m ≡ Err l) (h : Answers (Step.program_check l (drive_of d)) r) where
    pub settled_checked : Settles (drive_of d) m r
    unfolding Step.settled
    settled_checked = subst (λ q. Settles (drive_of d) q r) (sym e) (λ ps bs st. h (store ps bs st))

    pub excepted_checked : Excepts (drive_of d) m r
    unfolding Step.excepted
    excepted_checked = subst (λ q. Excepts (drive_of d) q r) (sym e) (λ ps bs st. h (store ps bs st))

    pub faulted_checked : (first : Location) (p : Place) (f : Listed) (n : ℕ) → CutsOff first p f n (drive_of d) m r
    unfolding Step.faulted
    faulted_checked first p f n = subst (λ q. CutsOff first p f n (drive_of d) q r) (sym e) (λ ps x bs st a b k. h (store ps (Step.arriving bs (fault_from f)) st))

module _ (d : Drive) (m : Result Moved Location) (l : Location) (c : Ccw) (n : ℕ) (over : Bool) (e : m ≡ Ok (record { at = l; ccw = c; left = n; over = over })) where
  pub settled_wrong : (w : Csw) → incorrect_length c n over ≡ true → w ≡ csw_at l 0x0c 0x40 n → Settles (drive_of d) m (quiet w d)
  unfolding Step.settled
  settled_wrong w h g = subst (λ q. Settles (drive_of d) q (quiet w d)) (sym e) (λ ps bs st. pick_true _ _ h ∙ ap (λ q. answer_of (quiet q d) (store ps bs st)) (sym g))

  pub settled_onward : (to : Location) (r : Answer) → incorrect_length c n over ≡ false → to ≡ next l → Answers (Step.onward l to c n (drive_of d)) r → Settles (drive_of d) m r
  unfolding Step.settled
  settled_onward to r h g k =
      subst (λ q. Settles (drive_of d) q r) (sym e)
      (λ ps bs st. pick_false _ _ h ∙ ap (λ q. Step.onward l q c n (drive_of d) (store ps bs st)) (sym g) ∙ k (store ps bs st))

  module _ (wrong : Bool) (status : ℕ) (w : Csw) (a : wrong ≡ incorrect_length c n over) (b : status ≡ Step.length_status wrong) where
    status_is : status ≡ Step.length_status (incorrect_length c n over)
    status_is = b ∙ ap Step.length_status a

    pub excepted_ended : w ≡ csw_at l 0x0d status n → Excepts (drive_of d) m (quiet w d)
    unfolding Step.excepted
    excepted_ended g =
        subst (λ q. Excepts (drive_of d) q (quiet w d)) (sym e)
        (λ ps bs st. ap (λ q. answer_of (quiet q d) (store ps bs st)) (ap (λ q. csw_at l 0x0d q n) (sym status_is) ∙ sym g))

    pub faulted_ended : (first : Location) (p : Place) (f : Listed) (k : ℕ) → w ≡ csw_at l 0x0e status n → CutsOff first p f k (drive_of d) m (cut first p f k d over w)
    unfolding Step.faulted fault_from
    faulted_ended first p f k g =
        let csw : csw_at l 0x0e (Step.length_status (incorrect_length c n over)) n ≡ w = ap (λ q. csw_at l 0x0e q n) (sym status_is) ∙ sym g in
        subst (λ q. CutsOff first p f k (drive_of d) q (cut first p f k d over w)) (sym e) (λ ps x bs st y z u. rw (y, z, u, csw))

-- ---- from a walk

pub through : (f : Walk → Step.Answer) (m : Result Moved Location) (r : Answer) (after bs st : List ℕ)
    → ((ps : List (Option ℕ)) → f (walk_of ps m) ≡ answer_of r (store ps bs st)) → (w : Walk) → left m after ≡ carried w bs st → f w ≡ answer_of r after
unfolding carried
through f m r after bs st h (walked ps l c n over) e =
    ap (λ q. f (walk_of ps q)) (sym (ap (λ (x : Left). x.moved) e)) ∙ h ps ∙ ap (answer_of r) (sym (ap (λ (x : Left). x.storage) e))
through f m r after bs st h (checked ps l) e =
    ap (λ q. f (walk_of ps q)) (sym (ap (λ (x : Left). x.moved) e)) ∙ h ps ∙ ap (answer_of r) (sym (ap (λ (x : Left). x.storage) e))
