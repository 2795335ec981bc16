use Rattle.std.proofs.Common.{◌∙◌, codes, sym, Some}
use Rattle.clap.specs.Words.{found_of, rows_of}
use Rattle.clap.proofs.WalkLemmas.{first_value-rows}
use Rattle.bxemu.proofs.CommandLemmas.{lacking, lacks_plan}
use Rattle.bxemu.proofs.commands.plan_of.Goals as goal

pub returns-in-Some-clause-ok : goal.returns-in-Some-clause-ok
returns-in-Some-clause-ok c = sym (first_value-rows (found_of c.args.values.now) (codes "plan")) ∙ sym c.in-Some.ensures

pub returns-in-None-clause-err : goal.returns-in-None-clause-err
returns-in-None-clause-err c =
    let found = found_of c.args.values.now in
    λ name other more. lacking (Some (name, rows_of found)) c.incomplete.result c.incomplete.ensures (lacks_plan (rows_of found) name (sym (first_value-rows found (codes "plan")) ∙ sym c.in-None.ensures) other more)
