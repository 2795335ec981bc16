use Rattle.std.proofs.Common.{IfOk, map, string_bytes, subst, sym}
use Rattle.bxemu.specs.CommandLines.{IsMistaken, RefusesWords}
use Rattle.bxemu.proofs.CommandLemmas.{not_mistaken}
use Rattle.bxemu.proofs.program.status_of_words.Goals as goal

pub returns-in-Ok-command_of-clause-refused : goal.returns-in-Ok-command_of-clause-refused
returns-in-Ok-command_of-clause-refused g c =
    let status = c.status_of_order.result in
    subst (λ r. IfOk r (λ words. IsMistaken (map string_bytes words.items) → RefusesWords (map string_bytes words.items) status)) (sym c.in-Ok.is)
    (subst (λ words. IsMistaken (map string_bytes words) → RefusesWords (map string_bytes words) status) c.as_slice.ensures.value
    (not_mistaken (map string_bytes c.as_slice.result.now) c.in-Ok-command_of.order status c.in-Ok-command_of.ensures.fault c.in-Ok-command_of.ensures.ok))
