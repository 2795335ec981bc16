use Rattle.bx_listing.proofs.{Known.formed, Known.tuple_form, Known.formed_item, Lemmas.form_refused}
use Rattle.bx_listing.proofs.form_reader.FormReader.written_item.Goals as goal

pub returns-in-Err : goal.returns-in-Err
returns-in-Err c = form_refused formed _ _ (tuple_form c.args.text.now c.args.word c.args.parts.now) (formed_item c.args.operands.now.items) c.in-Err.ensures
