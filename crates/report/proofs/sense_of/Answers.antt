-- `report::sense_of` meets its contract: byte by byte. Assumes nothing.
use mathlib.Core.Path.{refl, sym}
use Rattle.recovery.specs.Recovery.{reached_head}
use Rattle.report.proofs.sense_of.Goals as goal

pub returns : goal.returns
unfolding reached_head
returns c =
    record {
      full = c.requires;
      byte0 = refl;
      byte1 = refl;
      byte2 = refl;
      byte3 = refl;
      head = sym c.reached_head.ensures;
      format = refl;
      track = λ i. record { cylinder = sym c.be16.ensures.value i; head = sym c.be16-2.ensures.value i };
      number = refl;
      sector = refl;
      restart = sym c.be24.ensures.value;
      error = sym c.be16-3.ensures.value;
      pattern0 = refl;
      pattern1 = refl;
      pattern2 = refl;
    }
