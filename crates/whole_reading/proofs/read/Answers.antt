-- `whole_reading::read` meets its contract: the questions in order, the first run, and all that follow it. Assumes nothing.
use native.Mathlib.Omega.{arith}
use mathlib.Core.Path.{sym, ◌∙◌}
use Rattle.faults.proofs.Sound.{sound_is}
use Rattle.trial.proofs.Calls.{listed, low_chain}
use Rattle.whole_reading.proofs.Calls.{areas_say, wrong_areas, ill_image, ill_faults, off_pack, read_so}
use Rattle.whole_reading.proofs.read.Goals as goal

pub returns-then-not-areas_fit : goal.returns-then-not-areas_fit
returns-then-not-areas_fit c =
    let a = c.args in record { answers = wrong_areas a.m a.chain.now a.arguments.now a.storage.now a.image.now a.faults.now a.extent.now a.limit a.program.now a.restart_arguments.now a.list.now (sym c.areas_fit.ensures ∙ c.if-not-areas_fit.true); made = tt; low = tt }

pub returns-then-not-well_formed : goal.returns-then-not-well_formed
returns-then-not-well_formed c =
    let a = c.args in record { answers = ill_image a.m a.chain.now a.arguments.now a.storage.now a.image.now a.faults.now a.extent.now a.limit a.program.now a.restart_arguments.now a.list.now (sym c.areas_fit.ensures ∙ c.if-not-areas_fit.false) (sym c.well_formed-2.ensures ∙ c.if-not-well_formed.true); made = tt; low = tt }

pub returns-then-not-sound_faults : goal.returns-then-not-sound_faults
returns-then-not-sound_faults c =
    let a = c.args in
    let w = sym c.well_formed-2.ensures ∙ c.if-not-well_formed.false in record { answers = ill_faults a.m a.chain.now a.arguments.now a.storage.now a.image.now a.faults.now a.extent.now a.limit a.program.now a.restart_arguments.now a.list.now (sym c.areas_fit.ensures ∙ c.if-not-areas_fit.false) w (sound_is _ _ _ w c.sound_faults.ensures (c.if-not-sound_faults.true)); made = tt; low = tt }

pub extent_of-x-requires : goal.extent_of-x-requires
extent_of-x-requires c =
    (areas_say _ _ _ _ _ _ _ _ _ _ (sym c.areas_fit.ensures ∙ c.if-not-areas_fit.false)).extent_full

pub returns-then-not-on_pack : goal.returns-then-not-on_pack
returns-then-not-on_pack c =
    let a = c.args in
    let w = sym c.well_formed-2.ensures ∙ c.if-not-well_formed.false in
    let l = listed _ _ (sound_is _ _ _ w c.sound_faults.ensures (c.if-not-sound_faults.false)) in record { answers = off_pack a.m a.chain.now a.arguments.now a.storage.now a.image.now a.faults.now a.extent.now a.limit a.program.now a.restart_arguments.now a.list.now (sym c.areas_fit.ensures ∙ c.if-not-areas_fit.false) w l.0 l.1 l.2 _ c.extent_of-x.ensures (sym c.on_pack.ensures ∙ c.if-not-on_pack.true); made = tt; low = tt }

pub run_from-first-requires : goal.run_from-first-requires
run_from-first-requires c =
    let w = sym c.well_formed-2.ensures ∙ c.if-not-well_formed.false in
    let fit = areas_say _ _ _ _ _ _ _ _ _ _ (sym c.areas_fit.ensures ∙ c.if-not-areas_fit.false) in record { begun = record { short = (fit.chain_short, omega arith); whole = (_, w); listed = listed _ _ (sound_is _ _ _ w c.sound_faults.ensures (c.if-not-sound_faults.false)) }; low = low_chain }

pub read_on-requires : goal.read_on-requires
read_on-requires c =
    let w = sym c.well_formed-2.ensures ∙ c.if-not-well_formed.false in
    let fit = areas_say _ _ _ _ _ _ _ _ _ _ (sym c.areas_fit.ensures ∙ c.if-not-areas_fit.false) in record {
      begun = record { short = (fit.chain_short, omega (arith, fit.program_full)); whole = (_, w); listed = listed _ _ (sound_is _ _ _ w c.sound_faults.ensures (c.if-not-sound_faults.false)) };
      lendable = record {
        chain_short = fit.chain_short;
        storage_short = omega (arith, c.storage-1.given, fit.storage_short);
        program_full = fit.program_full;
        restart_arguments_full = fit.restart_arguments_full;
      };
      ran_low = c.run_from-first.ensures.ran_low;
      limit_bound = fit.few;
      limit_in_bounds = fit.room;
    }

pub returns : goal.returns
returns c =
    let a = c.args in
    let w = sym c.well_formed-2.ensures ∙ c.if-not-well_formed.false in
    let l = listed _ _ (sound_is _ _ _ w c.sound_faults.ensures (c.if-not-sound_faults.false)) in
    record {
      answers = read_so a.m a.chain.now a.arguments.now a.storage.now a.image.now a.faults.now a.extent.now a.limit a.program.now a.restart_arguments.now a.list.now (sym c.areas_fit.ensures ∙ c.if-not-areas_fit.false) w l.0 l.1 l.2 _ c.extent_of-x.ensures (sym c.on_pack.ensures ∙ c.if-not-on_pack.false) c.run_from-first.result _ c.run_from-first.ensures.runs c.read_on.result _ c.read_on.ensures.reads_on;
      made = c.read_on.ensures.made_le_limit;
      low = c.read_on.ensures.over_low;
    }
