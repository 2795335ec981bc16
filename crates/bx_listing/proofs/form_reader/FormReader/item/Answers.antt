use Rattle.bx_listing.proofs.{Known.[], Known.item_row, Known.read_as, Lemmas.answers_given}
use Rattle.bx_listing.specs.Seen.{seen}
use Rattle.bx_listing.proofs.form_reader.FormReader.item.Goals as goal

pub returns : goal.returns
returns c = answers_given (λ op. (op, c.read_item.new.operands.items)) read_as _ _ _ (item_row [] (seen c.args.form)) (rw c.clear.ensures.items at c.read_item.ensures)
