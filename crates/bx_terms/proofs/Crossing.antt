-- A term may go to another thread, and threads may share one. What it owns is tied in a knot, so this is shown of one layer at what lies below it, and holds of the whole then.
use denote.Model.Local.{Parts, rows}
use denote.Model.Goals.{send, sync, has_of, part_has}
use denote.Model.Marks.{both_send, both_sync}
use denote.Param.Send.{IsSend, IsSync, view_send, view_sync, sendable}
use Rattle.std.proofs.Crossing as owned
use Rattle.bx_terms.specs.contracts.terms.Term as term
use Rattle.bx_terms.specs.contracts.terms.Term.TheKnot as knot
use Rattle.bx_terms.specs.declared.terms.Term.TheDeep as deep
use Rattle.bx_terms.specs.declared.terms.Term.TheView as view
use Rattle.bx_terms.specs.declared.terms.Term as declared

module _ (p : Parts knot.frame) (s : IsSend (rows knot.frame p deep.member-Term)) (y : IsSync (rows knot.frame p deep.member-Term)) where
  cell_send : IsSend (knot.at-Cell p)
  cell_send = search (sendable, owned.crosses) depth 20

  cell_sync : IsSync (knot.at-Cell p)
  cell_sync = search (sendable, owned.crosses) depth 20

  row_send : IsSend (knot.at-Row p)
  row_send = search (sendable, owned.crosses) depth 20

  row_sync : IsSync (knot.at-Row p)
  row_sync = search (sendable, owned.crosses) depth 20

  form_send : IsSend (knot.at-Form p)
  form_send = let a = row_send in let b = row_sync in let c = cell_send in let d = cell_sync in search (sendable, owned.crosses) depth 20

  form_sync : IsSync (knot.at-Form p)
  form_sync = let a = row_send in let b = row_sync in let c = cell_send in let d = cell_sync in search (sendable, owned.crosses) depth 20

  inside_send : IsSend (knot.at-Term p)
  inside_send = let a = form_send in search sendable depth 20

  inside_sync : IsSync (knot.at-Term p)
  inside_sync = let a = form_sync in search sendable depth 20

  layer_send : (i : deep.the_members) → IsSend (rows knot.frame (knot.step p) i)
  layer_send deep.member-Term = has_of knot.frame send (knot.step p) deep.member-Term
      (part_has send (knot.view-Term p) (view_send (knot.at-Term p) declared.Term declared.the_code view.view view.invariant inside_send))

  layer_sync : (i : deep.the_members) → IsSync (rows knot.frame (knot.step p) i)
  layer_sync deep.member-Term = has_of knot.frame sync (knot.step p) deep.member-Term
      (part_has sync (knot.view-Term p) (view_sync (knot.at-Term p) declared.Term declared.the_code view.view view.invariant inside_sync))

pub term_send : IsSend term.the_row
term_send =
    both_send knot.frame knot.step knot.sizes
    (λ p s y. layer_send p (s deep.member-Term) (y deep.member-Term))
    (λ p s y. layer_sync p (s deep.member-Term) (y deep.member-Term))
    deep.member-Term

pub term_sync : IsSync term.the_row
term_sync =
    both_sync knot.frame knot.step knot.sizes
    (λ p s y. layer_send p (s deep.member-Term) (y deep.member-Term))
    (λ p s y. layer_sync p (s deep.member-Term) (y deep.member-Term))
    deep.member-Term
