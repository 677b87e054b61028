-- What the steps of the tape's door may do, by their laws.
use Rattle.std.proofs.Common.{ℕ, ◌≡◌, ◌≢◌, ◌<◌, refl, sym, ◌∙◌, ap, subst, inl, inr, ⊎_elim, List, [], ◌∷◌, ◌++◌, length, slice_index, Some, None, arith}
use mathlib.Core.Option.{none, some}
use lib.ListN.{get_elem?}
use Rattle.atomic_table.specs.Table.{State as Table, stepped, step, keeps, takes, gives}
use Rattle.cy_msg.specs.declared.token.Token.{Token}
use Rattle.cy_comp.specs.declared.call.Out.{Out}
use Rattle.cy_comp.specs.Calls.{output, outs}
use Rattle.wake_core.specs.declared.route.Route.{Route}
use Rattle.wake_core.specs.Plain.{Plain}
use Rattle.wake_core.specs.Events.{Sends}
use Rattle.cy_table.specs.declared.part.Part.{Part}
use Rattle.cy_table.specs.declared.part.Part.TheVariants as part
use Rattle.cy_table.specs.Seats.{Seat, Grip, TapeView}
use Rattle.cy_table.specs.Deeds as deed
use Rattle.cy_table.specs.Shown.{Rooms}
use Rattle.cy_table.specs.Steps.{Sits, Becomes, entering, MayTape, with_message, taping, MaySend, out_at, output_at, phase_sent, sending}
use Rattle.cy_table.specs.Laws.{TapeDoorSwaps, TapeStores, RoomsLeft}
use Rattle.cy_table.specs.Plays.{Thread, in_hand, MayPut, entered, last_token, last_put, taped, sent, no_deed, tape_deed, send_deed}
use Rattle.cy_table.proofs.Places.{place}
use Rattle.cy_table.proofs.Doors.{tape_known}
use Rattle.cy_table.proofs.Marking.{leaves_as, Plays}
use Rattle.cy_table.proofs.Allowing.{moved_then, still_then}

-- Whoever has something to put finds room for it.
put_room : RoomsLeft → (r : Rooms) (w : Plain) (s : Table Part Seat) (id : ℕ) (v : Seat) → Sits r w s id v → MayPut id v → length w.tape < r.tape
put_room rooms r w s id v sits may = ⊎_elim
    (λ (p : (t : Token) × (id ≡ 0) × MayTape v t).
    let first : Sits r w s 0 v = record { rules = sits.rules; at = subst (λ j. get_elem? s.views j ≡ some v) p.1 sits.at; live = sits.live } in
    rooms.play r w s v p.0 first p.2)
    (λ (p : (o : Out) × (v.hand ≡ Some (in_hand v)) × ((in_hand v).routine.pending ≡ Some o)). rooms.send r w s id v (in_hand v) p.0 sits p.1 p.2)
    may

pub enters : TapeDoorSwaps → RoomsLeft → (made : Plain) (slots id : ℕ) (m : Thread) → m.0.live ≢ 0 → m.0.tape ≡ None → MayPut id m.0
    → Plays made slots id m 3 (λ _. 1) (entered (step slots 3 1 0 none) m) (no_deed (step slots 3 1 0 none) m)
enters law rooms made slots id m live bare may = record {
  each = λ s k deep at bound.
      let sits : Sits k.rooms k.world s id m.0 = record { rules = k.rules; at = at; live = live } in
      elim (place (slice_index s.words 3) 0) [
        | inl free ↦ let a = law.open_door k.rooms k.world s id m.0 m.1 sits bare free in
            let less = put_room rooms k.rooms k.world s id m.0 sits may in
            let has = ap (λ (y : TapeView). length y.messages) a.2 in
            let room = ap (λ (y : TapeView). y.room) a.2 in
            (entering m.0 a.0, takes 0 (part.Tape a.0), a.1, still_then k id m.0 (entering m.0 a.0) a.3 refl, record { open_door = λ z. (a.0, refl, omega (arith, less, has, room)); shut_door = λ ne. absurd (ne free) })
        | inr shut ↦ (m.0, keeps, tt, still_then k id m.0 m.0 (law.shut_door k.rooms k.world s id m.0 m.1 sits shut) refl, record { open_door = λ z. absurd (shut z); shut_door = λ ne. refl })
      ];
}

last_is : (xs : List Token) (t : Token) → last_token (xs ++ t ∷ []) ≡ t
last_is [] t = refl
last_is (x ∷ []) t = refl
last_is (x ∷ y ∷ rest) t = last_is (y ∷ rest) t

pub tapes : TapeStores → (made : Plain) (slots id : ℕ) (t : Token) (x : TapeView) (v : Seat) (more : List (ℕ × Part)) (m : Thread) → v.live ≢ 0 → id ≡ 0 → MayTape v t
    → m ≡ (entering v x, (0, part.Tape (with_message x t)) ∷ more)
    → Plays made slots id m 3 (λ _. 0) (λ _. taped (step slots 3 0 0 none) m 0) (λ _. tape_deed (step slots 3 0 0 none) m 0)
tapes law made slots id t x v more m live player may is = subst (λ (y : ℕ × Thread). Plays made slots y.0 y.1 3 (λ _. 0) (λ _. taped (step slots 3 0 0 none) y.1 0) (λ _. tape_deed (step slots 3 0 0 none) y.1 0)) (λ i. (sym player i, sym is i))
    record {
      each = λ s k deep at bound.
          let u = entering v x in
          let sits : Sits k.rooms k.world s 0 u = record { rules = k.rules; at = at; live = live } in
          let may_now : MayTape u t = record { owes = record { filled = may.owes.filled; looked = may.owes.looked; cleared = may.owes.cleared }; raised = may.raised; unwritten = may.unwritten; next = may.next; within = may.within; now = may.now } in
          (taping u t, gives, tt, leaves_as (ap (λ (d : Token). deed.Tape d ∷ []) (sym (last_is x.messages t))) (moved_then k 0 u (taping u t) (deed.Tape t) (law.play k.rooms k.world s u x t more sits refl may_now) refl), ap (λ (d : Token). let n : Thread = (taping u d, more) in n) (sym (last_is x.messages t)));
    }

-- What is the last on the tape after a message was put there.
pub last_here : (x : TapeView) (t : Token) (more : List (ℕ × Part)) → last_put ((0, part.Tape (with_message x t)) ∷ more) ≡ t
last_here x t more = last_is x.messages t

-- The output that waits, as its holder numbers it, is the one that the tape says is next.
numbered_so : TapeStores → (r : Rooms) (w : Plain) (s : Table Part Seat) (id channel : ℕ) (v : Seat) (g : Grip) (x : TapeView) (o : Out) → Sits r w s id v → v.hand ≡ Some g → v.tape ≡ Some x → g.routine.pending ≡ Some o
    → channel ≡ out_at v.routes g.croutine → output channel (length (outs channel g.routine.calls)) o ≡ output_at v.routes g.croutine x.messages o
numbered_so law r w s id channel v g x o sits e has pends is =
    let number = law.number r w s id v g o sits e pends in
    let tape = ap (λ (y : TapeView). y.messages) (tape_known r w s id v sits x has) in
    ap (λ i. output i (length (outs i g.routine.calls)) o) is
    ∙ (ap (λ n. output (out_at v.routes g.croutine) n o) (sym number) ∙ ap (λ l. output_at v.routes g.croutine l o) (sym tape))

pub sends : TapeStores → (made : Plain) (slots id channel : ℕ) (x : TapeView) (o : Out) (v : Seat) (more : List (ℕ × Part)) (m : Thread) → v.live ≢ 0 → v.hand ≡ Some (in_hand v)
    → (in_hand v).routine.pending ≡ Some o → MaySend v (in_hand v) → channel ≡ out_at made.routes (in_hand v).croutine
    → m ≡ (entering v x, (0, part.Tape (with_message x (output channel (length (outs channel (in_hand v).routine.calls)) o))) ∷ more)
    → Plays made slots id m 3 (λ _. 0) (λ _. sent (step slots 3 0 0 none) m 0) (λ _. send_deed (step slots 3 0 0 none) m 0)
sends law made slots id channel x o v more m live has pends may writes is = subst (λ (z : Thread). Plays made slots id z 3 (λ _. 0) (λ _. sent (step slots 3 0 0 none) z 0) (λ _. send_deed (step slots 3 0 0 none) z 0)) (sym is)
    record {
      each = λ s k deep at bound.
          let u = entering v x in
          let g = in_hand v in
          let t : Token = output channel (length (outs channel g.routine.calls)) o in
          let sits : Sits k.rooms k.world s id u = record { rules = k.rules; at = at; live = live } in
          let may_now : MaySend u g = record { owes = record { filled = may.owes.filled; looked = may.owes.looked; cleared = may.owes.cleared }; sends = may.sends } in
          let routes_are : v.routes ≡ made.routes = ((k.rules.knows id u at).made live).0 ∙ k.components in
          let channel_is : channel ≡ out_at v.routes g.croutine = writes ∙ ap (λ (l : List Route). out_at l g.croutine) (sym routes_are) in
          let same : t ≡ output_at v.routes g.croutine x.messages o = numbered_so law k.rooms k.world s id channel u g x o sits has refl pends channel_is in
          let becomes = λ (y : Token). Becomes k.rooms (Sends id g.croutine (phase_sent g.phase) y) k.world (stepped s 3 0 id ((0, part.Tape (with_message x y)) ∷ more) (sending u g y) gives) in
          (sending u g t, gives, tt, leaves_as (ap (λ (d : Token). deed.Send g.croutine (phase_sent g.phase) d ∷ []) (sym (last_is x.messages t))) (moved_then k id u (sending u g t) (deed.Send g.croutine (phase_sent g.phase) t) (subst becomes (sym same) (law.send k.rooms k.world s id u g x o more sits has refl pends may_now)) refl), ap (λ (d : Token). let n : Thread = (sending u g d, more) in n) (sym (last_is x.messages t)));
    }
