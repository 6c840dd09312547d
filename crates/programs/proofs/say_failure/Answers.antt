-- What is said is the line of the failure.
use Rattle.programs.proofs.say_failure.Goals as goal

pub returns-in-NotRead : goal.returns-in-NotRead
returns-in-NotRead g c = rw c.in-NotRead.is c.say.ensures

pub returns-in-NotWritten : goal.returns-in-NotWritten
returns-in-NotWritten g c = rw c.in-NotWritten.is c.say-in-NotWritten.ensures
