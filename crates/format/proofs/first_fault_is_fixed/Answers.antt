use Rattle.format.proofs.first_fault_is_fixed.Goals as goal
use Rattle.format.proofs.FirstFaultIsFixed.{first_fault_is_fixed}

pub returns : goal.returns
returns c = first_fault_is_fixed
