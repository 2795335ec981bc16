-- Threads may share a unit.
use denote.Param.Send.{IsSync, sendable}
use Rattle.std.proofs.Crossing as owned
use Rattle.indexmap.proofs.set.IndexSet.TheSendSync as sets
use Rattle.bx_terms.proofs.Crossing.{term_sync}
use Rattle.bx_listing.proofs.code_form.Export.TheSendSync as exports
use Rattle.bx_listing.proofs.items.Import.TheSendSync as imports
use Rattle.bx_asm.proofs.operands.NumberedItem.TheSendSync as items
use Rattle.bx_asm.proofs.unit.Head.TheSendSync as heads
use Rattle.bx_asm.specs.contracts.unit.Unit as unit

pub unit_sync : IsSync unit.the_row
unit_sync =
    let a = items.the_sync in let b = heads.the_sync in let c = exports.the_sync in let d = imports.the_sync in let e = term_sync in
    search (sets.the_sync, sendable, owned.crosses) depth 30
