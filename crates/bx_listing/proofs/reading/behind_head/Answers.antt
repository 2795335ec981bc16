use Rattle.bx_listing.proofs.{Known.place, Known.last_line, Dropped.attributes_passed}
use Rattle.bx_listing.proofs.reading.behind_head.Goals as goal

pub returns-in-Some : goal.returns-in-Some
returns-in-Some c = attributes_passed _ c.labels_form.result (last_line c.args.text.now) (place c.args.reader) (place c.in-Some.behind) c.in-Some.ensures.form c.labels_form.ensures
