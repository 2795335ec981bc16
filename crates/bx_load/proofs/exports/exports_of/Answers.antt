use Rattle.std.proofs.Common.{◌<◌, length, get_or, ◌∙◌, subst}
use Rattle.bx_listing.specs.declared.code_form.Export.{Export}
use Rattle.bx_load.specs.Exports.{found}
use Rattle.bx_load.proofs.ExportSteps.{exports_next, export_lacks, element_of}
use Rattle.bx_load.proofs.exports.exports_of.Goals as goal

pub returns-in-None : goal.returns-in-None
returns-in-None c =
    let none : Export = record { function = record { 0 = 0 }; arity = 0 } in
    let i = c.loop-export.export-index in
    let e = get_or c.exports-offered.result.now i none in
    export_lacks c.args.unit.now i e (element_of _ c.args.unit.now.exports i none c.exports-offered.ensures c.loop-export-test.true)
    (subst (λ xs. i < length xs) c.exports-offered.ensures c.loop-export-test.true)
    (c.in-None.ensures ∙ c.in_ok-entries.ensures e.function e.arity) c.loop-export.invariant.0

pub loop-export-preserved : goal.loop-export-preserved
loop-export-preserved c =
    let none : Export = record { function = record { 0 = 0 }; arity = 0 } in
    let i = c.loop-export.export-index in
    let e = get_or c.exports-offered.result.now i none in
    exports_next c.args.unit.now i c.in-Some.entry c.get-in-Some.result (found c.loop-export.exports) (found c.add_export.new.exports) e
    (element_of _ c.args.unit.now.exports i none c.exports-offered.ensures c.loop-export-test.true)
    (subst (λ xs. i < length xs) c.exports-offered.ensures c.loop-export-test.true)
    (c.in-Some.ensures ∙ c.in_ok-entries.ensures e.function e.arity) (c.get-in-Some.ensures ∙ c.requires c.in-Some.entry)
    c.loop-export.invariant c.in_ok-add_export-in-Some.ensures
