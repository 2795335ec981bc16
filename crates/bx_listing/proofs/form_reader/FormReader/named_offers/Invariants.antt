use Rattle.bx_listing.proofs.{Known.drop, Known.each, Known.named_offer, Known.elements_seen, Loops.Left, Loops.resumed}
use Rattle.bx_listing.proofs.form_reader.FormReader.named_offers.Given as goal

abbrev pub invariant-loop-i : goal.invariant-loop-i
invariant-loop-i l = Left (resumed l.exports.items) (each named_offer (drop l.i (elements_seen l.list))) l.atoms (each named_offer (elements_seen l.list)) l.fn.atoms
