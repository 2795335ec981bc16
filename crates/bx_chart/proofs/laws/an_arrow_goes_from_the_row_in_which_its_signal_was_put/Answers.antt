use Rattle.bx_chart.proofs.Arriving.{from_its_sender}
use Rattle.bx_chart.proofs.laws.an_arrow_goes_from_the_row_in_which_its_signal_was_put.Goals as goal

pub returns : goal.returns
returns c = from_its_sender
