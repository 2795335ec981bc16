use Rattle.bx_terms.proofs.Total.{order_of_total}
use Rattle.bx_terms.proofs.laws.terms.order_is_total.Goals as goal

pub returns : goal.returns
returns c = record { turned = λ texts. (order_of_total texts).antisymm; chained = λ texts. (order_of_total texts).trans; alike = λ texts. (order_of_total texts).congr }
