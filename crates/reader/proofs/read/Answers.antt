-- The answer and the table are the sheet's.
use Rattle.reader.proofs.Harvesting.{answers}
use Rattle.reader.proofs.read.Goals as goal

pub returns : goal.returns
returns c = let told = answers _ _ _ c.read_into-outcome.ensures in record { answer = told.0; table = told.1 }
