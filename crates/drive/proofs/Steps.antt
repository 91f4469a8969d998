-- One command with a fault list and without.
--   faulted_in         whether a plan takes a data area that the list names
--   faulted_in_none    no data area is taken
--   faulted_in_some    one is taken
--   Named, named       the transfer, the record and the fault of a plan whose data area is named
--   named_area         that data area
--   unnamed            a command that takes no named data area comes to the same with and without faults
--   step_settled       without faults a read of a data area is settled
--   step_faulted       a read of a named one is faulted
--   cut_of              the cut of a faulted read
use Rattle.std.specs.Prelude.{Option, Some, None}
use Prim.Native.Nat.{ℕ}
use mathlib.Core.Path.{◌≡◌, refl}
use mathlib.Core.Bool.{Bool, true, false}
use mathlib.Core.List.{List, []}
use lib.ListN.{length}
use native.Mathlib.Omega.{arith}
use Rattle.base.specs.Choice.{opt}
use Rattle.pack.specs.Pack.{Record}
use Rattle.faults.specs.Faults.{Fault, naming}
use Rattle.channel.specs.declared.Csw.{Csw}
use Rattle.channel.specs.Store.{store}
use Rattle.drive.specs.Step as Step
use Rattle.drive.specs.Step.{State, Cut, DataArea, nothing, empty, data_of, Transfer, Plan, answer, moves, Setting, Area}

-- ---- whether the list is asked and answers

unfoldable pub faulted_in : List Fault → Plan → Bool
faulted_in fs a = opt (Step.area_in fs a) false (λ x. x.faulted)

pub faulted_in_none : (fs : List Fault) (a : Plan) → Step.area_in fs a ≡ None → faulted_in fs a ≡ false
unfolding faulted_in opt
faulted_in_none fs a h = rw h

pub faulted_in_some : (fs : List Fault) (a : Plan) (x : Area) → Step.area_in fs a ≡ Some x → faulted_in fs a ≡ x.faulted
unfolding faulted_in opt
faulted_in_some fs a x h = rw h

-- the parts of a plan whose data area is named
pub record Named (fs : List Fault) (a : Plan) : Type 0 where
  pub transfer : Transfer
  pub taken : Record
  pub fault : Fault
  pub is_moves : a ≡ moves transfer
  pub is_data : transfer.area ≡ data_of taken
  pub fault_named : naming fs taken.at taken.r ≡ Some fault

pub named : (fs : List Fault) (a : Plan) → faulted_in fs a ≡ true → Named fs a
unfolding faulted_in opt Step.area_in Step.area_taken Step.is_named
named fs (answer b) h = let z : ◌≡◌ {A = ℕ} 0 1 = cc in absurd (omega arith)
named fs (moves t) h = by t.area refl
  where
    by_name : (x : Record) → t.area ≡ data_of x → (o : Option Fault) → naming fs x.at x.r ≡ o → Named fs (moves t)
    by_name x q (Some f) e = record { transfer = t; taken = x; fault = f; is_moves = refl; is_data = q; fault_named = e }
    by_name x q None e = let g : false ≡ true = rw (q, e) at h in let z : ◌≡◌ {A = ℕ} 0 1 = cc in absurd (omega arith)

    by : (k : DataArea) → t.area ≡ k → Named fs (moves t)
    by nothing q = let g : false ≡ true = rw q at h in let z : ◌≡◌ {A = ℕ} 0 1 = cc in absurd (omega arith)
    by empty q = let g : false ≡ true = rw q at h in let z : ◌≡◌ {A = ℕ} 0 1 = cc in absurd (omega arith)
    by (data_of x) q = by_name x q (naming fs x.at x.r) refl

pub named_area : (fs : List Fault) (a : Plan) (n : Named fs a)
    → Step.area_in fs a ≡ Some (record { at = n.taken.at; r = n.taken.r; faulted = true })
unfolding Step.area_in Step.area_taken Step.is_named
named_area fs a n = rw (n.is_moves, n.is_data, n.fault_named)

carry_unnamed : (fs : List Fault) (st : List ℕ) (a : Plan) → faulted_in fs a ≡ false → Step.carry fs st a ≡ Step.carry [] st a
unfolding faulted_in opt naming Step.area_in Step.area_taken Step.is_named Step.carry Step.transferred Step.by_fault
carry_unnamed fs st (answer b) h = refl
carry_unnamed fs st (moves t) h = by t.area refl
  where
    by_name : (x : Record) → t.area ≡ data_of x → (o : Option Fault) → naming fs x.at x.r ≡ o → Step.carry fs st (moves t) ≡ Step.carry [] st (moves t)
    by_name x q (Some f) e = let g : true ≡ false = rw (q, e) at h in let z : ◌≡◌ {A = ℕ} 0 1 = cc in absurd (omega arith)
    by_name x q None e = rw (q, e)

    by : (k : DataArea) → t.area ≡ k → Step.carry fs st (moves t) ≡ Step.carry [] st (moves t)
    by nothing q = rw q
    by empty q = rw q
    by (data_of x) q = by_name x q (naming fs x.at x.r) refl

pub unnamed : (fs : List Fault) (w : Setting) (s : State) → faulted_in fs (Step.plan w s) ≡ false → Step.step fs w s ≡ Step.step [] w s
unfolding Step.step
unnamed fs w s h = carry_unnamed fs s.storage (Step.plan w s) h

-- ---- a read of a data area

module _ (w : Setting) (s : State) (t : Transfer) (x : Record) (p : Step.plan w s ≡ moves t) (q : t.area ≡ data_of x) where
  pub step_settled : Step.step [] w s ≡ Step.settled t.bytes t.after s.storage t.walk
  unfolding naming Step.step Step.carry Step.transferred Step.by_fault
  step_settled = rw (p, q)

  pub step_faulted : (fs : List Fault) (f : Fault) → naming fs x.at x.r ≡ Some f
      → Step.step fs w s ≡ Step.faulted t.first x f t.bytes t.after s.storage t.walk
  unfolding Step.step Step.carry Step.transferred Step.by_fault
  step_faulted fs f e = rw (p, q, e)

-- the cut of a faulted read: storage before it, the walk's places and whether bytes were left over, the CSW
abbrev pub cut_of : Transfer → Record → Fault → List ℕ → List (Option ℕ) → Bool → Csw → Cut
cut_of t x f st ps over v =
    record {
      at = x.at;
      r = x.r;
      restart = length t.bytes;
      error = f.displacement;
      pattern = f.pattern;
      over = over;
      first = t.first;
      mask = t.after.mask;
      csw = v;
      storage = store ps (Step.arriving t.bytes f) st;
    }
