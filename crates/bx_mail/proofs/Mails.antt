-- A mailbox that is joined: what its links lead to, and how it is joined after a pass or a reset.
use Rattle.std.proofs.Common.{◌≡◌, ℕ, ◌+◌, ◌-◌, List, [], ◌∷◌, ◌++◌, length, refl, ap, sym, subst, ◌∙◌, arith, length-append, append_assoc}
use Rattle.std.specs.Prelude.{Option, Some, None, slice_get}
use Rattle.std.proofs.lemmas.List.{append-nil}
use Rattle.bx_terms.specs.Tree.{Tree}
use Rattle.bx_mail.specs.declared.slots.Slot.{Slot}
use Rattle.bx_mail.specs.Mail.{Mail, current, first as first_of, passed_over, pass_first, taken, take_first, reset}
use Rattle.bx_mail.specs.Slots.{full, message_of, next_in, link_behind}
use Rattle.bx_mail.specs.Joined.{Leads, Ends, Joined, parted}
use Rattle.bx_mail.proofs.Chains.{leads_split, same_end, contents_are, slot_of, end_leads}

-- the messages that were passed over lead to the link behind the saved one
to_saved : (ss : List Slot) (ps : List Tree) (p e r : Option ℕ) → Leads ss ps p r → Ends ss ps p e → link_behind ss p e ≡ r
to_saved ss ps p None r h k = rw k at h
to_saved ss ps p (Some at) r h k =
    let s = leads_split ss k.0 (k.1 ∷ []) p r (rw k.2 at h) in
    let e = same_end ss k.0 p s.0 (Some at) s.1 k.3 in cc (ap next_in s.2.3)

-- a link to the first of some messages
head_is : (ss : List Slot) (ms : List Tree) (p : Option ℕ) → Leads ss ms p None → message_of ss p ≡ first_of ms
head_is ss [] p h = rw h
head_is ss (m ∷ ms) p h = rw (h.2, h.3)

head_full : (ss : List Slot) (rs : List Tree) (p : Option ℕ) (at : ℕ) → Leads ss rs p None → p ≡ Some at → (m : Tree) × (next : Option ℕ) × (slice_get ss at ≡ Some (full m next)) × (first_of rs ≡ Some m)
head_full ss [] p at h e = cc
head_full ss (m ∷ rs) p at h e = let s = slot_of ss m rs at None (rw e at h) in (m, s.0, s.1, refl)

unchanged : (ps rs : List Tree) → first_of rs ≡ None → (pass_first ps rs ≡ record { passed = ps; rest = rs }) × (take_first ps rs ≡ record { passed = ps; rest = rs })
unchanged ps [] e = (refl, refl)
unchanged ps (m ∷ rs) e = cc

module _ {ss : List Slot} {first last saved free : Option ℕ} {passed len : ℕ} {mail : Mail} (j : Joined ss first last saved free passed len mail) where
  pub parts : Leads ss mail.passed first (link_behind ss first saved) × Leads ss mail.rest (link_behind ss first saved) None
  parts = let s = leads_split ss mail.passed mail.rest first None j.order in rw (to_saved ss mail.passed first saved s.0 s.1 j.at_saved) (s.1, s.2)

  pub parted_is : parted ss first saved passed len ≡ mail
  parted_is =
      let n : len - passed ≡ length mail.rest = omega (arith, j.passed_is, j.len_is, length-append mail.passed mail.rest) in
      rw (n, j.passed_is, contents_are ss mail.passed first _ parts.0, contents_are ss mail.rest _ None parts.1)

  pub current_is : message_of ss (link_behind ss first saved) ≡ current mail
  current_is = head_is ss mail.rest _ parts.1

  pub no_current : link_behind ss first saved ≡ None → current mail ≡ None
  no_current e = sym current_is ∙ ap (message_of ss) e

  -- without a current message nothing is passed over and nothing taken
  pub none_done : link_behind ss first saved ≡ None → (passed_over mail ≡ mail) × (taken mail ≡ mail)
  none_done e = unchanged mail.passed mail.rest (no_current e)

  -- where the link behind the saved slot leads to a slot, that holds the current message
  pub current_slot : (at : ℕ) → link_behind ss first saved ≡ Some at → (m : Tree) × (next : Option ℕ) × (slice_get ss at ≡ Some (full m next)) × (current mail ≡ Some m)
  current_slot at e = head_full ss mail.rest _ at parts.1 e

  -- what is joined for one reading is joined as it is read
  pub as_read : Joined ss first last saved free passed len (parted ss first saved passed len)
  as_read = subst (Joined ss first last saved free passed len) (sym parted_is) j

  pub reset_joined : Joined ss first last None free 0 len (reset mail)
  reset_joined = record {
    order = j.order;
    at_saved = refl;
    at_last = j.at_last;
    passed_is = refl;
    len_is = j.len_is;
    spare = j.spare;
    others = j.others;
    frees = j.frees;
    bounded = j.bounded;
  }

  -- the saved and the last slot are slots, and what is behind them
  pub saved_leads : (at : ℕ) → saved ≡ Some at → (m : Tree) × Leads ss (m ∷ mail.rest) (Some at) None
  saved_leads at e = let k = rw e at j.at_saved in (k.1, end_leads ss mail.passed mail.rest first at k j.order)

  pub last_leads : (at : ℕ) → last ≡ Some at → (m : Tree) × Leads ss (m ∷ []) (Some at) None
  last_leads at e = let k = rw e at j.at_last in (k.1, end_leads ss (mail.passed ++ mail.rest) [] first at k (rw append-nil j.order))

pub pass_joined : {ss : List Slot} {first last saved free : Option ℕ} {passed len : ℕ} (ps rs : List Tree) (at : ℕ) → Joined ss first last saved free passed len (record { passed = ps; rest = rs }) → link_behind ss first saved ≡ Some at → Joined ss first last (Some at) free (passed + 1) len (pass_first ps rs)
pass_joined ps [] at j e = cc ((parts j).1)
pass_joined ps (m ∷ rs) at j e = record {
  order = rw (append_assoc ps (m ∷ []) rs) j.order;
  at_saved = (ps, m, refl, rw e at (parts j).0);
  at_last = rw (append_assoc ps (m ∷ []) rs) j.at_last;
  passed_is = omega (arith, j.passed_is, length-append ps (m ∷ []));
  len_is = rw (append_assoc ps (m ∷ []) rs) j.len_is;
  spare = j.spare;
  others = j.others;
  frees = j.frees;
  bounded = j.bounded;
}
