use Rattle.bx_mail.proofs.Histories.{in_order, those_left, least_waiting, plain}
use Rattle.bx_mail.proofs.laws.messages_stay_in_order_of_arrival.Goals as goal

pub returns : goal.returns
returns c = record { messages = plain; in_order = in_order; those_left = those_left; least = least_waiting }
