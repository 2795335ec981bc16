-- Where the arrow of a signal that arrives begins and ends.
use Rattle.std.proofs.Common.{◌≡◌, ℕ, List, Some, Ok, take, sym, ap, ◌∙◌}
use Rattle.std.specs.Prelude.{slice_get}
use Rattle.bx_terms.specs.declared.atom_table.AtomId.{AtomId}
use Rattle.bx_load.specs.Image.{Loaded}
use Rattle.bx_world.specs.declared.choices.Choice.{Choice}
use Rattle.bx_svg.specs.Shapes.{line}
use Rattle.bx_events.specs.declared.events.Effect.{Effect}
use Rattle.bx_events.specs.declared.events.Event.{Event}
use Rattle.bx_events.specs.declared.events.Sent.{Sent}
use Rattle.bx_events.specs.declared.events.What.TheVariants.{Arrived}
use Rattle.bx_events.specs.declared.stories.Story.{Story}
use Rattle.bx_events.specs.Flows.{IsPut}
use Rattle.bx_events.specs.Stories.{story}
use Rattle.bx_events.proofs.Matched.{each_is_first}
use Rattle.bx_chart.specs.Arrows.{arrival_arrow}
use Rattle.bx_chart.specs.Classes.{arrow_class}
use Rattle.bx_chart.specs.Points.{arrow_end, on}

pub from_its_sender : (image : Loaded) (m f : AtomId) (choices : List Choice) (s : Story) (row : ℕ) (event : Event) (sent : Sent) (effect : Effect) → story image m f choices ≡ Ok s → slice_get s.events row ≡ Some event → event.what ≡ Arrived sent effect
    → (put : IsPut (take row s.events) sent) × (arrival_arrow row event.what ≡ line (arrow_class sent.signal) (on put.event.actor sent.event) (arrow_end put.event.actor event.actor row))
from_its_sender image m f choices s row event sent effect is at e =
    let found = each_is_first image m f choices s row event sent effect is at e in
    (found.1, ap (arrival_arrow row) e ∙ (λ i. line (arrow_class sent.signal) (on (sym found.1.sender i) sent.event) (arrow_end (sym found.1.sender i) (found.0 i) row)))
