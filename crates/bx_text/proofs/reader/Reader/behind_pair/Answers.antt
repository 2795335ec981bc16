use Rattle.bx_text.specs.declared.reader.Reader.{Reader}
use Rattle.bx_text.specs.Place.{place}
use Rattle.bx_text.proofs.PairForms.{pair_forms}
use Rattle.bx_text.proofs.reader.Reader.behind_pair.Goals as goal

pub returns-clause-form : goal.returns-clause-form
returns-clause-form c = rw c.ok.ensures.value (pair_forms (λ (r : Reader). place r) c.pair.result c.args.word.now (place c.args.self) c.pair.ensures)
