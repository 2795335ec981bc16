-- The lemmas that more than one proof here uses, passed on from where they stand.
pub use Rattle.bx_listing.proofs.Elements.{untyped_tagged, element_at, typed_falls, typed_inner, row_elements, view_elements, tuple_shape}
pub use Rattle.bx_listing.proofs.Forms.{forms_next, taken_form, forms_at, refuses_wider, form_begun, lacks, refuses_where, head_form, reads_wider}
pub use Rattle.bx_listing.proofs.GoodReadings.{given, after_read, lined_read, after_result, some_then, after_wanted, mapped, wanted_read, outcome_read}
pub use Rattle.bx_listing.proofs.Readings.{and_then_assoc, reads_same, reads_after, reads_given, refuses_first, refuses_left, memory_before, grown_after}
pub use Rattle.bx_listing.proofs.Readings.{takes_first, refused_first, takes_after, wanting_stored, refused_stored, answers_given, wanting_before, form_refused}
pub use Rattle.bx_listing.proofs.Worded.{IsFormWord, form_word_is, by_form_word, same_bytes, by_word, by_operand_word, IsOperandWord, operand_word_is}
pub use Rattle.bx_listing.proofs.Written.{FormsWritten, forms_written, both, AllWritten, parts_written, Rest, a_last, a_first, an_other_term, Elements}
pub use Rattle.bx_listing.proofs.Written.{Written, an_integer_term, an_atom_term, a_tuple_term, a_list_term, no_elements, an_element_first, no_rest}
pub use Rattle.bx_listing.proofs.{Left.next_member, Left.item_left, Left.none_past, Left.no_item_left, Left.one_written, Readings.refuses_result}
