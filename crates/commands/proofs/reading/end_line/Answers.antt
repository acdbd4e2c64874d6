-- The steps of the definition, each by its contract. Assumes nothing.
use Rattle.commands.specs.Reading.{ended}
use Rattle.commands.proofs.reading.end_line.Goals as goal

pub returns : goal.returns
unfolding ended
returns c = cc
