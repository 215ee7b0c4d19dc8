use Rattle.purecap.proofs.faults.Failure.tell.Goals as goal

pub returns-in-NoFile : goal.returns-in-NoFile
returns-in-NoFile g c = rw c.in-NoFile.is c.tell_file.ensures

pub returns-in-Malformed : goal.returns-in-Malformed
returns-in-Malformed g c = rw c.in-Malformed.is c.tell_check.ensures

pub returns-in-Unsupported : goal.returns-in-Unsupported
returns-in-Unsupported g c = rw c.in-Unsupported.is c.tell_check-in-Unsupported.ensures

pub returns-in-ReadFault : goal.returns-in-ReadFault
returns-in-ReadFault g c = rw c.in-ReadFault.is c.tell_file-in-ReadFault.ensures

pub returns-in-WriteFault : goal.returns-in-WriteFault
returns-in-WriteFault g c = rw c.in-WriteFault.is c.tell_file-in-WriteFault.ensures

pub returns-in-NoMemory : goal.returns-in-NoMemory
returns-in-NoMemory g c = rw c.in-NoMemory.is c.send-in-NoMemory.ensures
