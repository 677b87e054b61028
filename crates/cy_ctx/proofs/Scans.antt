-- Scans, croutine by croutine.
use Rattle.std.proofs.Common.{ℕ, ◌+◌, ◌≡◌, ◌<◌, ◌∙◌, List, [], ◌∷◌, ◌++◌, map, refl, sym, ap, subst, arith, append_assoc, Option, Some, None, length, take, drop, slice_index_or}
use Rattle.std.proofs.lemmas.List.{map-append, take_more, drop_more, take-append-drop}
use Rattle.std.proofs.lemmas.List.Elements.{filter-append}
use Rattle.std.specs.List.{filter}
use Rattle.cy_comp.specs.declared.state.State.{State}
use Rattle.cy_table.specs.declared.pass.Pass.{Pass}
use Rattle.cy_table.specs.declared.hold.Hold.{Hold}
use Rattle.cy_table.specs.declared.table.FlagTable.{FlagTable}
use Rattle.cy_table.specs.Seats.{Entry, Seat}
use Rattle.cy_table.specs.Seats.Entry.{Busy, Found, Saw, Clock, Closing}
use Rattle.cy_table.specs.Calls.{seat_of, component_of}
use Rattle.cy_ctx.specs.Note.{found_in, closings_in, was_ready, IsVain, EndsAt, GrewBy}
use Rattle.cy_ctx.specs.Scan.{Looked, Passes, Takes}

found_append : (xs ys : List Entry) → found_in (xs ++ ys) ≡ found_in xs ++ found_in ys
found_append [] ys = refl
found_append (Busy c ∷ xs) ys = ap (λ l. (c, None) ∷ l) (found_append xs ys)
found_append (Found c state ∷ xs) ys = ap (λ l. (c, Some state) ∷ l) (found_append xs ys)
found_append (Saw c visitor ∷ xs) ys = found_append xs ys
found_append (Clock time ∷ xs) ys = found_append xs ys
found_append (Closing b ∷ xs) ys = found_append xs ys

closings_append : (xs ys : List Entry) → closings_in (xs ++ ys) ≡ closings_in xs ++ closings_in ys
closings_append [] ys = refl
closings_append (Busy c ∷ xs) ys = closings_append xs ys
closings_append (Found c state ∷ xs) ys = closings_append xs ys
closings_append (Saw c visitor ∷ xs) ys = closings_append xs ys
closings_append (Clock time ∷ xs) ys = closings_append xs ys
closings_append (Closing b ∷ xs) ys = ap (λ l. b ∷ l) (closings_append xs ys)

-- Two scans in vain, one after the other.
vain_append : (xs ys : List ℕ) (d e : List Entry) → IsVain xs d → IsVain ys e → IsVain (xs ++ ys) (d ++ e)
vain_append xs ys d e v w = record {
  each = ap (map (λ (found : ℕ × Option State). found.0)) (found_append d e) ∙ (map-append (λ (found : ℕ × Option State). found.0) (found_in d) (found_in e)
      ∙ (ap (λ l. l ++ map (λ (found : ℕ × Option State). found.0) (found_in e)) v.each ∙ ap (λ l. xs ++ l) w.each));
  none_ready = ap (filter was_ready) (found_append d e) ∙ (filter-append was_ready (found_in d) (found_in e) ∙ (ap (λ l. l ++ filter was_ready (found_in e)) v.none_ready ∙ w.none_ready));
  no_load = closings_append d e ∙ (ap (λ l. l ++ closings_in e) v.no_load ∙ w.no_load);
}

-- A scan in vain, and one that ended at a croutine.
ends_append : (order xs ys more : List ℕ) (c : ℕ) (d e : List Entry) → order ≡ xs ++ (ys ++ more) → IsVain xs d → EndsAt ys c e → EndsAt order c (d ++ e)
ends_append order xs ys more c d e is v w = record {
  before = xs ++ w.before;
  after = w.after ++ more;
  passed = d ++ w.passed;
  last = w.last;
  there = is ∙ (ap (λ l. xs ++ (l ++ more)) w.there ∙ (ap (λ l. xs ++ l) (append_assoc w.before (c ∷ w.after) more) ∙ sym (append_assoc xs w.before (c ∷ (w.after ++ more)))));
  parts = ap (λ l. d ++ l) w.parts ∙ sym (append_assoc d w.passed w.last);
  vain = vain_append xs w.before d w.passed v w.vain;
  taken = w.taken;
  no_load = w.no_load;
}

looked_on : (u v w : Seat) → Looked u v → Looked v w → Looked u w
looked_on u v w a b = record {
  same = b.same ∙ ap (λ (s : Seat). record s { hand = w.hand; seen = w.seen; clock = w.clock; note = w.note }) a.same;
  later = omega (arith, a.later, b.later);
}

grew_on : (P Q R : List Entry → Type 0) (u v w : List Entry) → GrewBy P u v → GrewBy Q v w → ((d e : List Entry) → P d → Q e → R (d ++ e)) → GrewBy R u w
grew_on P Q R u v w a b both = record {
  entries = a.entries ++ b.entries;
  grown = b.grown ∙ (ap (λ l. l ++ b.entries) a.grown ∙ append_assoc u a.entries b.entries);
  such = both a.entries b.entries a.such b.such;
}

-- One croutine more.
pub passes_more : (xs : List ℕ) (c : ℕ) (p q r : Pass) → Passes xs p q → Passes (c ∷ []) q r → Passes (xs ++ c ∷ []) p r
passes_more xs c p q r a b = record {
  free = record { hand = b.free.hand; out = b.free.out };
  looked = looked_on (seat_of p) (seat_of q) (seat_of r) a.looked b.looked;
  noted = grew_on (IsVain xs) (IsVain (c ∷ [])) (IsVain (xs ++ c ∷ [])) (seat_of p).note (seat_of q).note (seat_of r).note a.noted b.noted (vain_append xs (c ∷ []));
}

pub takes_more : (t : FlagTable) (order xs more : List ℕ) (c : ℕ) (p q r : Pass) (h : Hold) → order ≡ xs ++ c ∷ more → Passes xs p q → Takes t (c ∷ []) q r h → Takes t order p r h
takes_more t order xs more c p q r h is a b = record {
  holds = b.holds;
  stepped = b.stepped;
  known = b.known;
  ready = b.ready;
  looked = looked_on (seat_of p) (seat_of q) (seat_of r) a.looked b.looked;
  noted = grew_on (IsVain xs) (EndsAt (c ∷ []) (component_of h)) (EndsAt order (component_of h)) (seat_of p).note (seat_of q).note (seat_of r).note a.noted b.noted
      (λ d e. ends_append order xs (c ∷ []) more (component_of h) d e is);
}

-- The croutine at a place of the order.
cut_at : (order items : List ℕ) (k : ℕ) → items ≡ order → k < length items → order ≡ take k order ++ slice_index_or items k 0 ∷ drop (k + 1) order
cut_at order items k same lt = subst (λ l. l ≡ take k l ++ slice_index_or items k 0 ∷ drop (k + 1) l) same
    (sym (take-append-drop k items) ∙ ap (λ l. take k items ++ l) (drop_more items k 0 lt))

pub passes_at : (order items : List ℕ) (k : ℕ) (p q r : Pass) → items ≡ order → k < length items → Passes (take k order) p q → Passes (slice_index_or items k 0 ∷ []) q r → Passes (take (k + 1) order) p r
passes_at order items k p q r same lt a b = subst (λ l. Passes l p r) (sym more) (passes_more (take k order) (slice_index_or items k 0) p q r a b)
  where
    more : take (k + 1) order ≡ take k order ++ slice_index_or items k 0 ∷ []
    more = subst (λ l. take (k + 1) l ≡ take k l ++ slice_index_or items k 0 ∷ []) same (take_more items k 0 lt)

pub takes_at : (t : FlagTable) (order items : List ℕ) (k : ℕ) (p q r : Pass) (h : Hold) → items ≡ order → k < length items → Passes (take k order) p q → Takes t (slice_index_or items k 0 ∷ []) q r h → Takes t order p r h
takes_at t order items k p q r h same lt a b = takes_more t order (take k order) (drop (k + 1) order) (slice_index_or items k 0) p q r h (cut_at order items k same lt) a b
