use Rattle.std.proofs.Common.{◌∙◌, codes, sym, ap, map, Some}
use Rattle.clap.specs.Words.{found_of, rows_of}
use Rattle.clap.proofs.WalkLemmas.{first_value-rows, raw_values-rows}
use Rattle.bxemu.proofs.CommandLemmas.{lacking, lacks_files, lacks_start}
use Rattle.bxemu.proofs.commands.listings_of.Goals as goal

pub returns-in_default-clause-err : goal.returns-in_default-clause-err
returns-in_default-clause-err c =
    let found = found_of c.args.values.now in
    λ name other. lacking (Some (name, rows_of found)) c.incomplete.result c.incomplete.ensures (lacks_start (rows_of found) name (sym (first_value-rows found (codes "start")) ∙ sym c.in_default.ensures) other)

pub returns-in_default-get_raw-clause-err : goal.returns-in_default-get_raw-clause-err
returns-in_default-get_raw-clause-err c =
    let found = found_of c.args.values.now in
    λ name other. lacking (Some (name, rows_of found)) c.incomplete-in_default-get_raw.result c.incomplete-in_default-get_raw.ensures (lacks_files (rows_of found) name (sym (raw_values-rows found (codes "FILES")) ∙ sym c.in_default-get_raw.ensures) other)

pub returns-clause-ok : goal.returns-clause-ok
returns-clause-ok c =
    let found = found_of c.args.values.now in (
      sym (first_value-rows found (codes "start")) ∙ sym c.in-Some.ensures,
      sym (raw_values-rows found (codes "FILES")) ∙ sym c.in-Some-get_raw.ensures
          ∙ ap (λ texts. Some (map (λ file. file.now) texts)) (sym c.in_ok-files.ensures.items),
    )
