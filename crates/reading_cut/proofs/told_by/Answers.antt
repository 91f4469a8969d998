-- `reading_cut::told_by` meets its contract: field by field. Assumes nothing.
use Rattle.reading_cut.proofs.Answered.{told}
use Rattle.reading_cut.proofs.told_by.Goals as goal

pub returns : goal.returns
returns c = record { cut_tells = told c.args.k _ c.address_of.ensures; told_low = record { csw_low = c.requires.csw_low; user_low = tt } }
