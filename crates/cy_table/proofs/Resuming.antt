-- What a croutine in hand shows after a fetch, after a step and after its output was sent.
use Rattle.std.proofs.Common.{ℕ, ◌+◌, ◌*◌, ◌≡◌, ◌≢◌, ◌≤◌, refl, sym, ◌∙◌, ap, subst, List, ◌∷◌, length, option_map, Option, Some, None}
use Rattle.std.proofs.lemmas.Option.{none-some}
use Rattle.std.specs.Option.{ForSome}
use Rattle.cy_msg.specs.declared.token.Tuple.{Tuple}
use Rattle.cy_fuse.specs.Visitor.{VisitorView, visited}
use Rattle.cy_comp.specs.declared.call.Out.{Out}
use Rattle.cy_comp.specs.Calls.{cursor_after, output, outs}
use Rattle.cy_comp.specs.Routine.{RoutineView, MayTake, taken}
use Rattle.wake_core.specs.declared.entries.TheConstants.{MOST_PLANNED}
use Rattle.cy_table.specs.declared.hold.Found.{Found}
use Rattle.cy_table.specs.declared.hold.Hold.{Hold}
use Rattle.cy_table.specs.declared.part.Part.{Part}
use Rattle.cy_table.specs.declared.part.Part.TheVariants as part
use Rattle.cy_table.specs.Seats.{Seat, Grip}
use Rattle.cy_table.specs.Steps.{called, visiting, fetching}
use Rattle.cy_table.specs.Plays.{Thread, in_hand, FetchTells}
use Rattle.cy_table.specs.Hold.{outputs_in, with_found, as_found}
use Rattle.cy_table.specs.Calls.{channel_of, routine_of, token_of, IsStepped}
use Rattle.cy_table.proofs.Counting.{outs_count}

pub some_there : {X : Type 0} (o : Option X) → o ≢ None → (x : X) × (o ≡ Some x)
some_there None some = absurd (some refl)
some_there (Some x) some = (x, refl)

-- The croutine in hand after a fetch: its routine has the call on the tuple that was found.
pub called_croutine : (g : Grip) (o : Option (Tuple × ℕ × ℕ)) → (called g o).croutine ≡ g.croutine
called_croutine g None = refl
called_croutine g (Some f) = refl

pub called_routine : (g : Grip) (r : RoutineView) (o : Option (Tuple × ℕ × ℕ)) → g.routine ≡ r → (called g o).routine ≡ with_found r (option_map as_found o)
called_routine g r None same = same
called_routine g r (Some f) same = ap (λ (x : RoutineView). taken x f.0 f.1 f.2) same

some_or : {X : Type 0} → X → Option X → X
some_or d None = d
some_or d (Some x) = x

pub some_is : {X : Type 0} (x y : X) → Some x ≡ Some y → x ≡ y
unfolding some_or
some_is x y e = ap (some_or x) e

-- What was found may be taken, for as long as it is kept.
pub fits_then : (r x : RoutineView) (o : Option (Tuple × ℕ × ℕ)) → r ≡ x → ((f : Tuple × ℕ × ℕ) → o ≡ Some f → MayTake r f.0 f.1) → ForSome (option_map as_found o) (λ (f : Found). MayTake x f.tuple f.position)
fits_then r x None same fits = λ f e. absurd (none-some f e)
fits_then r x (Some f) same fits = λ k e. subst (λ (y : Found). MayTake x y.tuple y.position) (some_is (as_found f) k e) (subst (λ (y : RoutineView). MayTake y f.0 f.1) same (fits f refl))

-- What the store after a fetch tells, of a thread that took the visitor x.
pub record IsFetched (g : Grip) (x : VisitorView) (r : RoutineView) (o : Option (Tuple × ℕ × ℕ)) (v : Seat) (out : List (ℕ × Part)) (n : Thread) : Type 0 where
  pub thread : n ≡ (fetching v g x o, out)
  pub fits : ForSome (option_map as_found o) (λ (f : Found). MayTake r f.tuple f.position)
  pub few : length (with_found r (option_map as_found o)).calls ≤ MOST_PLANNED
  pub croutine : (called g o).croutine ≡ g.croutine
  pub routine : (called g o).routine ≡ with_found r (option_map as_found o)

-- .. by the cursor of the routine at hand.
pub fetched_so : (v : Seat) (c : ℕ) (x : VisitorView) (out : List (ℕ × Part)) (m n : Thread) (r : RoutineView) (o : Option (Tuple × ℕ × ℕ)) → m ≡ (visiting v c x, (2 * c + 2, part.Visitor x) ∷ out)
    → (in_hand v).routine ≡ r → o ≡ visited (cursor_after r.calls) x → FetchTells m n → IsFetched (in_hand v) x r o v out n
fetched_so v c x out m n r o is same found tells =
    let g = in_hand v in
    let told : FetchTells (visiting v c x, (2 * c + 2, part.Visitor x) ∷ out) n = subst (λ (z : Thread). FetchTells z n) is tells in
    let found_is : visited (cursor_after g.routine.calls) x ≡ o = ap (λ (y : RoutineView). visited (cursor_after y.calls) x) same ∙ sym found in
    let routine = called_routine g r o same in
    record {
      thread = told.thread ∙ ap (λ (z : Option (Tuple × ℕ × ℕ)). let k : Thread = (fetching v g x z, out) in k) found_is;
      fits = fits_then g.routine r o same (λ f e. told.fits f (found_is ∙ e));
      few = subst (λ (y : RoutineView). length y.calls ≤ MOST_PLANNED) routine (subst (λ (z : Option (Tuple × ℕ × ℕ)). length (called g z).routine.calls ≤ MOST_PLANNED) found_is told.few);
      croutine = called_croutine g o;
      routine = routine;
    }

-- The output of a croutine in hand that waits, and what its holder shows of it.
pub record IsOutputOf (h : Hold) (g : Grip) : Type 0 where
  pub out : Out
  pub waits : h.routine.pending ≡ Some out
  pub seen : g.routine.pending ≡ Some out
  pub token : token_of h ≡ Some (output (channel_of h) (length (outs (channel_of h) g.routine.calls)) out)

pub output_of : (h : Hold) (g : Grip) → IsStepped h → g.routine ≡ routine_of h → (routine_of h).pending ≢ None → IsOutputOf h g
output_of h g stepped same waits =
    let plain : routine_of h ≡ h.routine = ap (with_found h.routine) stepped in
    let there = some_there (routine_of h).pending waits in
    let channel : ℕ = channel_of h in
    record {
      out = there.0;
      waits = ap (λ (r : RoutineView). r.pending) (sym plain) ∙ there.1;
      seen = ap (λ (r : RoutineView). r.pending) same ∙ there.1;
      token = ap (option_map (output channel (length (outs channel (routine_of h).calls)))) there.1
          ∙ ap (λ (r : RoutineView). Some (output channel (length (outs channel r.calls)) there.0)) (sym same);
    }

-- The token that a holder makes of it is numbered by how many outputs there are.
pub token_is : (h : Hold) (o : Out) (n : ℕ) → IsStepped h → h.routine.pending ≡ Some o → n ≡ outputs_in h.routine.calls → Some (output (channel_of h) n o) ≡ token_of h
token_is h o n stepped pends count =
    let plain : h.routine ≡ routine_of h = ap (with_found h.routine) (sym stepped) in
    let channel : ℕ = channel_of h in
    let number : n ≡ length (outs channel h.routine.calls) = count ∙ sym (outs_count channel h.routine.calls) in
    ap (λ k. Some (output channel k o)) number
    ∙ (ap (option_map (output channel (length (outs channel h.routine.calls)))) (sym pends)
    ∙ ap (λ (r : RoutineView). option_map (output channel (length (outs channel r.calls))) r.pending) plain)

-- The tuple that is to be stepped is the one that was found.
pub given_is : (o : Option Found) (f : Found) (tuple : Tuple) → o ≡ Some f → option_map (λ (k : Found). k.tuple) o ≡ Some tuple → f.tuple ≡ tuple
given_is o f tuple is given = some_is f.tuple tuple (ap (option_map (λ (k : Found). k.tuple)) (sym is) ∙ given)
