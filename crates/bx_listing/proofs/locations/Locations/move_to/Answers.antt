use Rattle.bx_listing.proofs.{Known.Some, Known.None, Known.ap, Known.◌∙◌, Known.string_bytes, Known.Located, Places.stands, Places.moved_to}
use Rattle.bx_listing.proofs.locations.Locations.move_to.Goals as goal
use Rattle.bx_listing.proofs.locations.Locations.move_to.Goals.{in-Some+in_ok-add-in-Some, in-None}

pub returns : goal.returns
returns c = elim c.match-place.branch [
  | in-Some+in_ok-add-in-Some w ↦
      rw (w.self-is, w.self-inside-is, w.in-Some.is)
      (moved_to c.self.inside.places w.add.new.self c.self.inside.items.items w.in_ok-add-in-Some.field-0 (string_bytes w.in-Some.file, w.in-Some.line) c.self.invariant.0 w.in_ok-add-in-Some.ensures.added w.in_ok-add-in-Some.ensures.count
      ∙ ap (λ (l : Located). stands l (Some (string_bytes w.in-Some.file, w.in-Some.line))) c.self.view_is)
  | in-None w ↦ rw (w.self-is, w.self-inside-is, w.in-None.is) (ap (λ (l : Located). stands l None) c.self.view_is)
]
