-- The words that more than one proof here uses, passed on from where they stand.
pub use Rattle.bx_listing.specs.Forms.{Forms, form, moved, forms, forms_on, ends, broken, last_line, next_form, some_forms}
pub use Rattle.bx_listing.specs.HeadForms.{function_form, is_attributes, module_form, exports_form, is_labels, head, module_name, begun, are_offers}
pub use Rattle.bx_listing.specs.Listed.{IsModule, IsExports, IsAttributes, IsLabels, AreFunctions, IsListing, with_attributes}
pub use Rattle.bx_listing.specs.ListedItems.{IsRegister, in_typed, IsValue, an_integer, an_atom, IsSource, a_register, a_value, IsPlain, IsOperand, AreMembers}
pub use Rattle.bx_listing.specs.ListedItems.{a_slot, IsItem, Tuple, Number, IsList, AreAmounts}
pub use Rattle.bx_listing.specs.ListedItems.{no_member, a_member, IsSlot, an_operand, a_list, pairs, a_size, amounts, no_label, to_x0, AreSlots, no_slot}
pub use Rattle.bx_listing.specs.Listing.{part, functions, listed, behind_exports, behind_name, listing, with_form_item, with_item, Taken}
pub use Rattle.bx_listing.specs.Listing.{taken, taken_at, behind_attributes, behind_labels, behind_head, and_so, with_optional, with_form, part_of, form_part}
pub use Rattle.bx_listing.specs.Literals.{literal, kept, kept_cons, kept_before, kept_list, kept_tuple, with_first, Row, ended, longer, parts, IsNode}
pub use Rattle.bx_listing.specs.Operands.{untyped, untyped_of, operand, register, label, atom_word, source_of, source_in, source, simple, bad_operand}
pub use Rattle.bx_listing.specs.Reading.{Table, read, give, Reading, Outcome, refused, and_then, ◌>>=◌, from_result, named, with_line, lined, on_line, Answers}
pub use Rattle.bx_listing.specs.Reading.{Takes, Reads, Begins, Refuses, Refused, wanted, outcome, no_line, refuse, Begins-refl, table_of, stored, Begins-trans}
pub use Rattle.bx_listing.specs.Rows.{tuple_item, Read, formed_item, written_item, item_row, members, slot, row}
pub use Rattle.bx_listing.specs.Shape.{word, list_elements, Shape, tagged, shape, elements, proper, bare, other, number}
pub use Rattle.bx_listing.specs.Ways.{is_raise, bif_op, bif_found, bif_form, bif_called, gc_bif_op, gc_bif_form, gc_bif_called, tuple_form, Formed}
pub use Rattle.bx_listing.specs.Writing.{grouped_text, slots_text, added_text, labels_above, greatest_label, function_text, item_text, offer_text, offers_text}
pub use Rattle.bx_listing.specs.{Code.function_code_of, Dropped.IsDropped, Dropped.MakeSame, Formed.terms, Formed.formed, HeadForms.named_offer, ItemForms.item}
pub use Rattle.bx_listing.specs.{ItemForms.read_as, Items.Item, Items.PlacedItem, Items.seen_item, ListedCode.ListedFunction, ListedCode.ListedModule}
pub use Rattle.bx_listing.specs.{ListedTerms.Names, Locations.located, Locations.Location, Locations.Located, Locations.first_location, Operands.literal_source}
pub use Rattle.bx_listing.specs.{Reading.each, Stored.placed, Taking.IsForm, Taking.ReadsForms, Taking.KeepsName, Taking.FormGives, Words.form_word}
pub use Rattle.bx_listing.specs.{Words.operand_word, declared.code_form.Export.Export, declared.items.Operand.Operand, declared.words.FormWord.FormWord}
pub use Rattle.bx_listing.specs.{declared.words.OperandWord.OperandWord}
pub use Rattle.bx_ops.{specs.GuardBifs.guard_bif_with, specs.GuardBifs.guard_bif, specs.Table.slots, specs.Table.way, specs.declared.guard_bif.Bif.Bif}
pub use Rattle.bx_ops.{specs.declared.opcode.Op.Op, specs.declared.sorts.Slot.Slot, specs.declared.sorts.Sort.Sort}
pub use Rattle.bx_terms.specs.declared.faults.Fault.TheVariants.{Memory, Unsupported}
pub use Rattle.bx_terms.{specs.Naming.numbered, specs.Naming.naming, specs.Naming.Adds, specs.Outcomes.Gives, specs.Outcomes.Does}
pub use Rattle.bx_terms.{specs.declared.atom_table.AtomId.AtomId, specs.declared.faults.Fault.Fault}
pub use Rattle.bx_text.specs.Tree.{Tree, atom, tuple, nil, cons, list, chain, nodes, integer, span_of}
pub use Rattle.bx_text.{proofs.Grammatical.forms_are, proofs.Grammatical.none_are, specs.Forms.takes_memory, specs.Forms.form_at, specs.Grammar.Form}
pub use Rattle.bx_text.{specs.Grammar.a_form, specs.Number.is_large, specs.Place.Place, specs.Place.place_in, specs.Place.place, specs.View.seen}
pub use Rattle.bx_text.{specs.View.tail_seen, specs.View.elements_seen, specs.declared.node.Span.Span}
pub use Rattle.std.proofs.Common.{append_assoc, ◌⊎◌, inl, add-one, slice_get, OnOk, ℤ, map, String, string_bytes, ◌||◌, bytes_eq, ◌*◌, vec_len, IsTrue}
pub use Rattle.std.proofs.Common.{inr, None, codes, Result, Ok, sym, subst, if◌then◌else◌, option_map, Err, pos, ◌+◌, suc, nat_eq, zero, slice_set}
pub use Rattle.std.proofs.Common.{◌≡◌, ℕ, ◌≤◌, ◌-◌, length, take, drop, get_or, List, ◌∷◌, false, Option, Some, refl, ap, ◌∙◌, arith, ◌<◌, Bool, true, [], ◌++◌}
pub use Rattle.std.proofs.Math.Seq.{take-length, drop-append_seam, take-append_seam}
pub use Rattle.std.proofs.lemmas.Bool.Decides.{nat_tests, Decides-eqb, Decides-ltb}
pub use Rattle.std.proofs.lemmas.List.{length-append, append-nil, drop_more, drop_all, take_more, map-append}
pub use Rattle.std.proofs.lemmas.Option.{slice_get_within, get_or_from_slice_get, slice_get_cases, slice_get-map, slice_get-get_or, unwrap_or-slice_get}
pub use Rattle.std.specs.Prelude.{nat_lt, ◌==◌, nat_le, is_some, IsSome, ◌↔◌, unwrap_or, chars}
pub use Rattle.std.{proofs.Math.ListN.drop_of_length-le, proofs.Math.ListN.get_or-append, proofs.lemmas.List.Elements.All-push}
pub use Rattle.std.{proofs.lemmas.List.Elements.All-tail, proofs.lemmas.Option.slice_get_read, proofs.lemmas.Result.err_from_is_err_and}
pub use Rattle.std.{proofs.lemmas.Slice.Eq.bytes_eq-Decides, specs.List.All, specs.List.fold, specs.List.flat_map, specs.String.string_eq}
