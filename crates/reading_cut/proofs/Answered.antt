-- What the definitions make of a cut, from what the code's recovery answered.
--   told                             what the report of the cut tells
--   again                            a restart
--   closed, corrected                an end: finished, and corrected only
--   closed_low                       the CSW of the first fits its bytes
--   refused, one, two, repeated      a stop, with all areas as they were
use Rattle.std.specs.Prelude.{None}
use Prim.Native.Nat.{ℕ}
use mathlib.Core.Path.{◌≡◌, refl, ap, sym, ◌∙◌}
use mathlib.Core.List.{List, [], ◌∷◌, ◌++◌}
use lib.ListN.{drop}
use Rattle.base.specs.Choice.{opt}
use Rattle.base.specs.Bytes as Bytes
use Rattle.questions.specs.declared.Question.{Question}
use Rattle.questions.specs.Number.{number_of}
use Rattle.address.specs.declared.Extent.{Extent}
use Rattle.abstract_machine.specs.Reading.{stop}
use Rattle.channel.specs.declared.Csw.{Csw}
use Rattle.channel.specs.Ccw.{address_of}
use Rattle.drive.specs.Drive.{address_bytes}
use Rattle.drive.specs.Step.{cut_sense}
use Rattle.command.specs.declared.Cut.{Cut}
use Rattle.location.specs.Low.{CswLow}
use Rattle.command.specs.Answer.{cut_of}
use Rattle.recovery.specs.Table.{rows}
use Rattle.recovery.specs.Recovery as Recovery
use Rattle.recovered.specs.declared.Kind.{Kind}
use Rattle.recovered.specs.declared.Kind.TheVariants.{Five, FiveA, Eight, Nine, Ten, TenA, Eleven}
use Rattle.recovered.specs.declared.Recovered.{Recovered}
use Rattle.recovered.specs.declared.Recovered.TheVariants.{Refused, ActionOne, ActionTwo, Repeat, CorrectedOnly, Finished, Restart}
use Rattle.recovered.specs.Applied.{Applied, with, applied, kind_of, action_number, given_of}
use Rattle.recover.proofs.Finished.{recovered_low}
use Rattle.demand_three.specs.WholeReading.{Stopped, by_action, by_question, report_of, entry_of, answered, recover_cut}
use Rattle.demand_three.proofs.Genuine.{restart_is, error_is, track_is, number_is, sector_is}
use Rattle.reading_cut.specs.declared.Went.{Went}
use Rattle.reading_cut.specs.declared.Went.TheVariants.{Again, Closed, Halted}
use Rattle.reading_cut.specs.Entry.{entry_bytes, stopped_number}
use Rattle.reading_cut.specs.Cut.{CutTells, RecoversCut, AfterCut, lent_areas}

-- ---- its report

pub told : (k : Cut) (first : ℕ) → first ≡ address_of k.first
    → CutTells k
    (record {
      sense = record {
        byte0 = 0x08;
        byte1 = 0;
        byte2 = 0x40;
        byte3 = 0;
        head = 0;
        format = 0x53;
        track = k.at;
        number = k.r;
        sector = 0;
        restart = k.restart;
        error = k.error;
        pattern0 = k.pattern0;
        pattern1 = k.pattern1;
        pattern2 = k.pattern2;
      };
      csw = k.csw;
      first = first;
      mask = k.mask;
      user = None;
      tries = 0;
    })
unfolding report_of cut_sense address_bytes Bytes.two Bytes.three Recovery.user_track Recovery.reached_head opt
told k first e = λ last st.
    let cut = cut_of k st in
    record {
      sense = record {
        full = refl;
        byte0 = refl;
        byte1 = refl;
        byte2 = refl;
        byte3 = refl;
        head = refl;
        format = refl;
        track = track_is cut;
        number = number_is cut;
        sector = sector_is cut;
        restart = restart_is cut;
        error = error_is cut;
        pattern0 = refl;
        pattern1 = refl;
        pattern2 = refl;
      };
      csw = refl;
      first = sym e;
      mask = refl;
      user = refl;
      tries = refl;
    }

-- ---- the answer of the definitions, read off the code's

abbrev kind_back : Kind → Recovery.Kind
kind_back Five = Recovery.five
kind_back FiveA = Recovery.five_a
kind_back Eight = Recovery.eight
kind_back Nine = Recovery.nine
kind_back Ten = Recovery.ten
kind_back TenA = Recovery.ten_a
kind_back Eleven = Recovery.eleven

abbrev back : Recovered → (st p a : List ℕ) → Recovery.Recovery
back (Refused q) st p a = Recovery.refused q
back ActionOne st p a = Recovery.action_one
back ActionTwo st p a = Recovery.action_two
back Repeat st p a = Recovery.repeats
back CorrectedOnly st p a = Recovery.corrected_only st
back (Finished w) st p a = Recovery.finished w st
back (Restart k) st p a = Recovery.restarts (kind_back k) p a st

kind_is : (k : Recovery.Kind) → kind_back (kind_of k) ≡ k
kind_is Recovery.five = refl
kind_is Recovery.five_a = refl
kind_is Recovery.eight = refl
kind_is Recovery.nine = refl
kind_is Recovery.ten = refl
kind_is Recovery.ten_a = refl
kind_is Recovery.eleven = refl

kind_of_lem : (k : Kind) → kind_of (kind_back k) ≡ k
kind_of_lem Five = refl
kind_of_lem FiveA = refl
kind_of_lem Eight = refl
kind_of_lem Nine = refl
kind_of_lem Ten = refl
kind_of_lem TenA = refl
kind_of_lem Eleven = refl

abbrev back_from : Applied → Recovery.Recovery
back_from y = back y.answer y.storage y.program y.restart_arguments

back_is : (r : Recovery.Recovery) (st p a : List ℕ) → back_from (applied r st p a) ≡ r
unfolding applied
back_is (Recovery.refused q) st p a = refl
back_is Recovery.action_one st p a = refl
back_is Recovery.action_two st p a = refl
back_is Recovery.repeats st p a = refl
back_is (Recovery.corrected_only s) st p a = refl
back_is (Recovery.finished w s) st p a = refl
back_is (Recovery.restarts k q b s) st p a = ap (λ (x : Recovery.Kind). Recovery.restarts x q b s) (kind_is k)

module _ (chain : List ℕ) (x : Extent) (k : Cut) (st p a : List ℕ) where
  abbrev comes : Recovery.Recovery
  comes = Recovery.recover (given_of rows chain x) (report_of (cut_of k st)) st

  module _ (r : Recovered) (st' p' a' : List ℕ) (e : RecoversCut chain x k st p a (with r st' p' a')) where
    came : comes ≡ back r st' p' a'
    came = sym (back_is comes st p a) ∙ ap back_from (sym e)

    -- the areas behind it
    areas : with r st' p' a' ≡ applied (back r st' p' a') st p a
    areas = e ∙ ap (λ (q : Recovery.Recovery). applied q st p a) came

    is : recover_cut (given_of rows chain x) (cut_of k st) ≡ answered (cut_of k st) (back r st' p' a')
    unfolding recover_cut
    is = ap (answered (cut_of k st)) came

  pub closed_low : (w : Csw) (st' p' a' : List ℕ) → CswLow k.csw → RecoversCut chain x k st p a (with (Finished w) st' p' a') → CswLow w
  unfolding report_of
  closed_low w st' p' a' low e = recovered_low (given_of rows chain x) (report_of (cut_of k st)) st p a (with (Finished w) st' p' a') low e

  -- the bytes of an entry
  entry_is : (kind : Kind) (action : ℕ) → action ≡ action_number kind → action ∷ address_bytes k.at ++ k.r ∷ [] ≡ entry_bytes (entry_of (kind_back kind) (cut_of k st))
  unfolding entry_bytes entry_of
  entry_is kind action e = ap (λ (n : ℕ). n ∷ address_bytes k.at ++ k.r ∷ []) (e ∙ ap action_number (sym (kind_of_lem kind)))

  module _ (l st' p' a' l' : List ℕ) where
    -- what the cut comes to, from the areas as they were
    abbrev Comes : Went → (storage program restart_arguments list : List ℕ) → Type 0
    Comes g s q b m = AfterCut chain x k (lent_areas st p a l) g (lent_areas s q b m)

    -- the part of the list with the entry of an action
    abbrev Noted : ℕ → Type 0
    Noted action = l' ≡ (action ∷ address_bytes k.at ++ k.r ∷ []) ++ drop 6 l

    noted : (kind : Kind) (action : ℕ) → action ≡ action_number kind → Noted action → l' ≡ entry_bytes (entry_of (kind_back kind) (cut_of k st)) ++ drop 6 l
    noted kind action f q = q ∙ ap (λ (s : List ℕ). s ++ drop 6 l) (entry_is kind action f)

    pub again : (kind : Kind) (action : ℕ) → RecoversCut chain x k st p a (with (Restart kind) st' p' a') → action ≡ action_number kind → Noted action
        → Comes Again st' p' a' l'
    unfolding answered
    again kind action e f q = (entry_of (kind_back kind) (cut_of k st), is (Restart kind) st' p' a' e, noted kind action f q)

    pub closed : (w : Csw) → RecoversCut chain x k st p a (with (Finished w) st' p' a') → Noted 0x05 → Comes (Closed w) st' p' a' l'
    unfolding answered applied
    closed w e q =
        let y = areas (Finished w) st' p' a' e in (
          entry_of Recovery.five (cut_of k st),
          is (Finished w) st' p' a' e,
          ap (λ (z : Applied). z.program) y,
          ap (λ (z : Applied). z.restart_arguments) y,
          noted Five 0x05 refl q,
        )

    pub corrected : RecoversCut chain x k st p a (with CorrectedOnly st' p' a') → Noted 0x05 → Comes (Closed k.csw) st' p' a' l'
    unfolding answered applied
    corrected e q =
        let y = areas CorrectedOnly st' p' a' e in (
          entry_of Recovery.five (cut_of k st),
          is CorrectedOnly st' p' a' e,
          ap (λ (z : Applied). z.program) y,
          ap (λ (z : Applied). z.restart_arguments) y,
          noted Five 0x05 refl q,
        )

    -- a stop leaves the areas as they were
    halted : (r : Recovered) (s : Stopped) (n : ℕ) → recover_cut (given_of rows chain x) (cut_of k st) ≡ stop s → n ≡ stopped_number s → with r st' p' a' ≡ with r st p a
        → Comes (Halted n) st' p' a' l
    halted r s n e f y = (s, e, f, ap (λ (q : Applied). lent_areas q.storage q.program q.restart_arguments l) y)

    pub refused : (q : Question) (n : ℕ) → RecoversCut chain x k st p a (with (Refused q) st' p' a') → n ≡ number_of q → Comes (Halted n) st' p' a' l
    unfolding answered applied stopped_number
    refused q n e f = halted (Refused q) (by_question q) n (is (Refused q) st' p' a' e) f (areas (Refused q) st' p' a' e)

    pub one : RecoversCut chain x k st p a (with ActionOne st' p' a') → Comes (Halted 1) st' p' a' l
    unfolding answered applied stopped_number
    one e = halted ActionOne (by_action 1) 1 (is ActionOne st' p' a' e) refl (areas ActionOne st' p' a' e)

    pub two : RecoversCut chain x k st p a (with ActionTwo st' p' a') → Comes (Halted 2) st' p' a' l
    unfolding answered applied stopped_number
    two e = halted ActionTwo (by_action 2) 2 (is ActionTwo st' p' a' e) refl (areas ActionTwo st' p' a' e)

    pub repeated : RecoversCut chain x k st p a (with Repeat st' p' a') → Comes (Halted 3) st' p' a' l
    unfolding answered applied stopped_number
    repeated e = halted Repeat (by_action 3) 3 (is Repeat st' p' a' e) refl (areas Repeat st' p' a' e)
