use Rattle.fedi_program.proofs.enrolling.report_fault.Goals as goal

pub returns-in-NameTaken : goal.returns-in-NameTaken
returns-in-NameTaken g c = rw c.in-NameTaken.is c.report.ensures

pub returns-in-HostTaken : goal.returns-in-HostTaken
returns-in-HostTaken g c = rw c.in-HostTaken.is c.report-in-HostTaken.ensures

pub returns-in-BadAddress : goal.returns-in-BadAddress
returns-in-BadAddress g c = rw c.in-BadAddress.is c.report-in-BadAddress.ensures

pub returns-in-KeeperFault : goal.returns-in-KeeperFault
returns-in-KeeperFault g c = rw c.in-KeeperFault.is c.report-in-KeeperFault.ensures
