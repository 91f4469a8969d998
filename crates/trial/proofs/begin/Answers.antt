-- `trial::begin` meets its contract: each answer is a law of questions 2 and 3, or of the run. Assumes nothing.
use mathlib.Core.Path.{sym, ◌∙◌}
use Rattle.faults.proofs.Sound.{sound_is}
use Rattle.command.specs.Answer.{lent_of}
use Rattle.trial.proofs.Calls.{listed, image_refused, faults_refused, ran_so}
use Rattle.trial.proofs.begin.Goals as goal

pub returns-then-not-well_formed : goal.returns-then-not-well_formed
returns-then-not-well_formed c = record { storage_after = image_refused _ _ _ _ _ _ _ (sym c.well_formed-2.ensures ∙ c.if-not-well_formed.true); trial_low = tt }

pub returns-then-not-sound_faults : goal.returns-then-not-sound_faults
returns-then-not-sound_faults c =
    let w = sym c.well_formed-2.ensures ∙ c.if-not-well_formed.false in record { storage_after = faults_refused _ _ _ _ _ _ _ w (sound_is _ _ _ w c.sound_faults.ensures (c.if-not-sound_faults.true)); trial_low = tt }

pub run_from-requires : goal.run_from-requires
run_from-requires c =
    let w = sym c.well_formed-2.ensures ∙ c.if-not-well_formed.false in
    let f = sound_is _ _ _ w c.sound_faults.ensures (c.if-not-sound_faults.false) in record { begun = record { short = c.requires.chain_len_bound; whole = (_, w); listed = listed _ _ f }; low = c.requires.low }

pub returns : goal.returns
returns c =
    let w = sym c.well_formed-2.ensures ∙ c.if-not-well_formed.false in
    let f = sound_is _ _ _ w c.sound_faults.ensures (c.if-not-sound_faults.false) in
    let l = listed _ _ f in
    let a = c.args in
    let p = lent_of a.chain.now a.arguments.now a.program.now a.restart_arguments.now in record { storage_after = ran_so _ p _ _ _ _ _ w l.0 l.1 l.2 c.run_from.result _ (c.run_from.ensures.runs l.0 l.1); trial_low = c.run_from.ensures.ran_low }
