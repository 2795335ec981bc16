use Rattle.std.proofs.Common.{inr, map, string_bytes, subst}
use Rattle.std.proofs.lemmas.Result.{IfErr-weaker}
use Rattle.bxemu.specs.CommandLines.{Lacks}
use Rattle.bxemu.proofs.CommandLemmas.{faultless, if_ok_always, subcommand_is}
use Rattle.bxemu.proofs.commands.command_of.Goals as goal

pub returns-clause-fault : goal.returns-clause-fault
returns-clause-fault c =
    if_ok_always c.order_of.result (faultless c.in_ok-program_command.field-0 c.in_ok-program_command.ensures.app
    (map string_bytes c.args.words.now) c.in_ok-matches.ensures.kinds)

pub returns-clause-err : goal.returns-clause-err
returns-clause-err c =
    let named = subcommand_is c.in_ok-program_command.field-0 c.in_ok-program_command.ensures.app (map string_bytes c.args.words.now)
    c.in_ok-matches.matches c.in_ok-matches.ensures.matches in
    IfErr-weaker c.order_of.result _ _ (λ e lacks. inr (subst (λ rows. Lacks rows e) named lacks)) c.order_of.ensures.err
