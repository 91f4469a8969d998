-- `sense_bytes::put_status` meets its contract by cases of the status. Assumes nothing.
use Rattle.drive.specs.Step as Step
use Rattle.sense_bytes.proofs.put_status.Goals as goal

pub returns-in-Quiet : goal.returns-in-Quiet
unfolding Step.no_sense Step.check_sense
returns-in-Quiet c = rw c.in-Quiet.is c.put_check.ensures

pub returns-in-Rejected : goal.returns-in-Rejected
unfolding Step.no_sense Step.check_sense
returns-in-Rejected c =
    rw (c.in-Refused.is, c.in-Rejected.is) c.put_check-in-Rejected.ensures

pub returns-in-NotFound : goal.returns-in-NotFound
unfolding Step.no_sense Step.check_sense
returns-in-NotFound c =
    rw (c.in-Refused.is, c.in-NotFound.is) c.put_check-in-NotFound.ensures

pub returns-in-Protected : goal.returns-in-Protected
unfolding Step.no_sense Step.check_sense
returns-in-Protected c =
    rw (c.in-Refused.is, c.in-Protected.is) c.put_check-in-Protected.ensures

pub returns-in-EndOfCylinder : goal.returns-in-EndOfCylinder
unfolding Step.no_sense Step.check_sense
returns-in-EndOfCylinder c =
    rw (c.in-Refused.is, c.in-EndOfCylinder.is) c.put_check-in-EndOfCylinder.ensures

pub returns-in-ProtectedStep : goal.returns-in-ProtectedStep
unfolding Step.no_sense Step.check_sense
returns-in-ProtectedStep c =
    rw c.in-ProtectedStep.is c.put_check-in-ProtectedStep.ensures
