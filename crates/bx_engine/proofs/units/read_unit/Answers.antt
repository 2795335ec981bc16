use Rattle.std.proofs.Common.{◌≡◌, ◌∙◌, List, ℕ, subst}
use Rattle.std.specs.Prelude.{IfOk}
use Rattle.bx_engine.specs.Sources.{located_in}
use Rattle.bx_engine.proofs.FileRows.{sized_is}
use Rattle.bx_engine.proofs.units.read_unit.Goals as goal

pub returns-clause-located : goal.returns-clause-located
returns-clause-located g c asked text known =
    subst (λ (bytes : List ℕ). IfOk c.unit_in.result (λ r. r.1.items ≡ located_in bytes))
    (c.deref.ensures.value ∙ sized_is c.args.file text c.in-Ok.text.items (c.in-Ok.ensures text known)) (c.unit_in.ensures.located asked)
