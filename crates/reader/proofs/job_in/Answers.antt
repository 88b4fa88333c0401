-- The four fields are what the calls answered of the record, place by place.
use Rattle.reader.proofs.job_in.Goals as goal

pub returns : goal.returns
returns c = cc
