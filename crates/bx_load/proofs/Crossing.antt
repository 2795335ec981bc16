-- Threads may share loaded code.
use denote.Param.Send.{IsSync, sendable}
use Rattle.std.proofs.Crossing as owned
use Rattle.bx_terms.proofs.atom_table.Atoms.TheSendSync as atoms
use Rattle.bx_asm.proofs.Crossing.{unit_sync}
use Rattle.bx_load.proofs.callees.Callees.TheSendSync as callees
use Rattle.bx_load.proofs.tables.Tables.TheSendSync as tables
use Rattle.bx_load.specs.contracts.image.Image as image

pub image_sync : IsSync image.the_row
image_sync = let a = unit_sync in let b = tables.the_sync in let c = atoms.the_sync in let d = callees.the_sync in search (sendable, owned.crosses) depth 30
