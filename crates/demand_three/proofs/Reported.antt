-- The report of every cut of a reading that begins is well formed: `report_well_formed`. A cut's pattern is that of a fault of the list, so it has three
-- bytes; its mask is the one before the read, which every command keeps legal.
use Rattle.std.specs.Prelude.{Option, Some, None}
use Prim.Native.Nat.{ℕ}
use native.Mathlib.Omega.{arith}
use mathlib.Core.Path.{◌≡◌, refl, ◌∙◌}
use mathlib.Core.Bool.{true}
use mathlib.Core.List.{List, [], ◌∷◌, ◌++◌}
use lib.ListN.{length}
use Rattle.base.specs.Choice.{pick, opt}
use Rattle.base.specs.Bytes.{be16_at, two, three, part}
use Rattle.base.proofs.Choice.{split}
use Rattle.base.proofs.Bytes.{two_back, three_back}
use Rattle.fields.specs.Fields as Fields
use Rattle.faults.specs.Faults.{Fault}
use Rattle.faults.proofs.Naming.{pattern_three}
use Rattle.abstract_machine.specs.Machine.{cuts, Result, ended, cut}
use Rattle.abstract_machine.proofs.Run.{run_cut_in}
use Rattle.channel.specs.declared.Csw.{Csw}
use Rattle.channel.specs.declared.Location.{Location}
use Rattle.channel.specs.Ccw.{address_of}
use Rattle.channel.specs.Csw.{csw_bytes}
use Rattle.drive.specs.Drive.{initial, address_bytes}
use Rattle.drive.specs.Step.{State, End, Cut, cut_sense, settable, Setting, step}
use Rattle.drive.specs.Run.{Limit, limit_of, start, tic_first, run_from}
use Rattle.drive.proofs.Origin as Origin
use Rattle.recovery.specs.Report.{Report, csw_from, is_field, with_tries, with_seek, with_mask, from_fields, report_from}
use Rattle.demand_three.specs.WholeReading.{report_of}
use Rattle.demand_three.specs.Reported.{tagged, mask_field, report_bytes, ReportsWellFormed}

-- the fields of three lists and a rest
module _ (a0 a1 a2 a3 a4 a5 a6 a7 a8 a9 a10 a11 a12 a13 a14 a15 a16 a17 a18 a19 a20 a21 a22 a23 : ℕ) (c0 c1 c2 c3 c4 c5 c6 f0 f1 : ℕ) where
  abbrev senses : List ℕ
  senses = a0 ∷ a1 ∷ a2 ∷ a3 ∷ a4 ∷ a5 ∷ a6 ∷ a7 ∷ a8 ∷ a9 ∷ a10 ∷ a11 ∷ a12 ∷ a13 ∷ a14 ∷ a15 ∷ a16 ∷ a17 ∷ a18 ∷ a19 ∷ a20 ∷ a21 ∷ a22 ∷ a23 ∷ []

  abbrev csw : List ℕ
  csw = 0 ∷ c0 ∷ c1 ∷ c2 ∷ c3 ∷ c4 ∷ c5 ∷ c6 ∷ []

  abbrev report : Option ℕ → Report
  report m = record { sense = senses; csw = csw_from csw; first = be16_at (f0 ∷ f1 ∷ []) 0; mask = m; seek = None; tries = 0 }

  unmasked : report_from (tagged 0x10 senses ++ tagged 0x11 csw ++ tagged 0x12 (f0 ∷ f1 ∷ []) ++ []) ≡ Some (report None)
  unfolding report_from from_fields with_mask with_seek with_tries is_field tagged two part pick opt Fields.begins Fields.front Fields.after_front Fields.fields_up_to Fields.fields_at
  unmasked = refl

  masked : (m : ℕ) → settable m ≡ true → report_from (tagged 0x10 senses ++ tagged 0x11 csw ++ tagged 0x12 (f0 ∷ f1 ∷ []) ++ tagged 0x13 (m ∷ [])) ≡ Some (report (Some m))
  unfolding report_from from_fields with_mask with_seek with_tries is_field tagged two part pick opt Fields.begins Fields.front Fields.after_front Fields.fields_up_to Fields.fields_at
  masked m e = rw e

-- ---- numbers read back

csw_back : (w : Csw) → csw_from (csw_bytes w) ≡ w
unfolding csw_from csw_bytes two three
csw_back w = λ i. record { address = three_back w.address i; unit = w.unit; channel = w.channel; count = two_back w.count i }

-- the report with what is read back
read_back : (sense : List ℕ) (w : Csw) (n : ℕ) (m : Option ℕ)
    → ◌≡◌ {A = Option Report} (Some (record { sense = sense; csw = csw_from (csw_bytes w); first = be16_at (two n) 0; mask = m; seek = None; tries = 0 }))
    (Some (record { sense = sense; csw = w; first = n; mask = m; seek = None; tries = 0 }))
unfolding two
read_back sense w n m = λ i. Some (record { sense = sense; csw = csw_back w i; first = two_back n i; mask = m; seek = None; tries = 0 })

module _ (k : Cut) (x y z : ℕ) (e : k.pattern ≡ x ∷ y ∷ z ∷ []) where
  by_mask : (m : Option ℕ) → ((b : ℕ) → m ≡ Some b → settable b ≡ true)
      → report_from (tagged 0x10 (cut_sense k) ++ tagged 0x11 (csw_bytes k.csw) ++ tagged 0x12 (two (address_of k.first)) ++ mask_field m)
      ≡ Some (record { sense = cut_sense k; csw = k.csw; first = address_of k.first; mask = m; seek = None; tries = 0 })
  unfolding cut_sense address_bytes csw_bytes mask_field two three
  by_mask None h = rw e (unmasked _ _ _ _ _ _ _ _ _ _ _ _ _ _ _ _ _ _ _ _ _ _ _ _ _ _ _ _ _ _ _ _ _ ∙ read_back _ k.csw (address_of k.first) None)
  by_mask (Some m) h = rw e (masked _ _ _ _ _ _ _ _ _ _ _ _ _ _ _ _ _ _ _ _ _ _ _ _ _ _ _ _ _ _ _ _ _ m (h m refl) ∙ read_back _ k.csw (address_of k.first) (Some m))

three_bytes : (p : List ℕ) → length p ≡ 3 → (x : ℕ) × (y : ℕ) × (z : ℕ) × (p ≡ x ∷ y ∷ z ∷ [])
three_bytes [] h = absurd (omega arith)
three_bytes (x ∷ []) h = absurd (omega arith)
three_bytes (x ∷ y ∷ []) h = absurd (omega arith)
three_bytes (x ∷ y ∷ z ∷ []) h = (x, y, z, refl)
three_bytes (x ∷ y ∷ z ∷ u ∷ p) h = absurd (omega arith)

-- by the length of the pattern and the mask
well_formed : (k : Cut) → length k.pattern ≡ 3 → ((b : ℕ) → k.mask ≡ Some b → settable b ≡ true) → report_from (report_bytes k) ≡ Some (report_of k)
unfolding report_bytes report_of
well_formed k h g = let p = three_bytes k.pattern h in by_mask k p.0 p.1 p.2 p.3 k.mask g

-- ---- the cut of a run

-- the state before the command that was cut
cut_in : (fs : List Fault) (w : Setting) (n : ℕ) (l : Location) (st : List ℕ) (k : Cut) → run_from fs w n l st ≡ cut k
    → (s : State) × Origin.legal s.drive.mask × (step fs w s ≡ cuts k)
unfolding run_from start initial pick
cut_in fs w n l st k e =
    split (tic_first w.lent l)
    (λ q. let v : ◌≡◌ {A = Result Limit End Cut} (ended _) (cut k) = rw q at e in let z : ◌≡◌ {A = ℕ} 0 1 = cc in absurd (omega arith))
    (λ q. run_cut_in (step fs w) limit_of (λ s. Origin.legal s.drive.mask) (λ s t h u. Origin.step_legal fs w s t u h) n (start l st) tt k (rw q at e))

pub report_well_formed : ReportsWellFormed
report_well_formed g b w n l st k e =
    let at = cut_in g.faults w n l st k e in
    let from = Origin.step_cuts g.faults w at.0 k at.2 in
    let three = pattern_three g.fault_list g.faults b.listed k.at k.r from.fault from.named in
    well_formed k (rw from.pattern_is three) (Origin.legal_set k.mask (rw from.mask_is at.1))
