-- A slot that a thread took last, read and written between two of its steps.
use Rattle.std.proofs.Common.{ℕ, ◌≡◌, List, ◌∷◌, sym, ◌∙◌, ap, subst}
use Rattle.atomic_table.specs.Table.{Me, rest}
use Rattle.cy_fuse.specs.Visitor.{VisitorView}
use Rattle.cy_comp.specs.Routine.{RoutineView}
use Rattle.cy_table.specs.declared.part.Part.{Part}
use Rattle.cy_table.specs.declared.part.Part.TheVariants as part
use Rattle.cy_table.specs.Deeds.{Deed}
use Rattle.cy_table.specs.Seats.{Seat, Sight, TapeView}
use Rattle.cy_table.specs.Plays.{Thread}
use Rattle.cy_table.specs.Sights.{thread_in, Since}

abbrev pub part_or : Part → List (ℕ × Part) → Part
part_or d Rattle.std.proofs.Common.[] = d
part_or d (x ∷ xs) = x.1

abbrev pub routine_or : RoutineView → Part → RoutineView
routine_or d (part.Routine x) = x
routine_or d _ = d

abbrev pub visitor_or : VisitorView → Part → VisitorView
visitor_or d (part.Visitor x) = x
visitor_or d _ = d

abbrev pub tape_or : TapeView → Part → TapeView
tape_or d (part.Tape x) = x
tape_or d _ = d

-- After a swap that took the slot: it is the first that is out, and what was in it was read.
pub in_front : (n : Thread) (v : Seat) (slot : ℕ) (y : Part) (more : List (ℕ × Part)) → n ≡ (v, (slot, y) ∷ more) → (old : Part) × (n.1 ≡ (slot, old) ∷ rest n.1)
in_front n v slot y more is = let out = ap (λ (m : Thread). m.1) is in (y, out ∙ ap (λ l. (slot, y) ∷ rest l) (sym out))

pub exchanged : (n k : Me Part Sight) (v : Seat) (slot : ℕ) (y z x : Part) (more : List (ℕ × Part)) → thread_in n ≡ (v, (slot, y) ∷ more) → n.1 ≡ (slot, z) ∷ rest n.1 → k ≡ (n.0, (slot, x) ∷ rest n.1)
    → (y ≡ z) × (thread_in k ≡ (v, (slot, x) ∷ more))
exchanged n k v slot y z x more is front after =
    (ap (λ (o : Thread). part_or part.Away o.1) (sym is) ∙ ap (part_or part.Away) front, ap thread_in after ∙ (λ i. ((is i).0, (slot, x) ∷ rest (is i).1)))

pub put_back : (m k : Me Part Sight) (slot : ℕ) (y z x : Part) (more : List (ℕ × Part)) → m.1 ≡ (slot, y) ∷ more → m.1 ≡ (slot, z) ∷ rest m.1 → k ≡ (m.0, (slot, x) ∷ rest m.1)
    → (y ≡ z) × (thread_in k ≡ (m.0.seat, (slot, x) ∷ more))
put_back m k slot y z x more out front after =
    (ap (part_or part.Away) (sym out ∙ front), ap thread_in after ∙ (λ i. (m.0.seat, (slot, x) ∷ rest (out i))))

-- It leaves what the thread noted and did.
pub since_exchange : (ds : List Deed) (v : Sight) (n k : Me Part Sight) (out : List (ℕ × Part)) → Since ds v n.0 → k ≡ (n.0, out) → Since ds v k.0
since_exchange ds v n k out since is = subst (λ (m : Me Part Sight). Since ds v m.0) (sym is) since
