-- A walk whose components are followed to their end, as a run leads them.
use Rattle.std.proofs.Common.{ℕ, ◌+◌, ◌≡◌, ◌≢◌, ◌≤◌, ◌<◌, Bool, sym, ◌∙◌, ap, subst, inl, inr, arith, List, length, set, get_or, Some, slice_get}
use Rattle.std.proofs.lemmas.List.{length-map}
use Rattle.std.proofs.lemmas.Option.{slice_get_within}
use Rattle.cy_msg.specs.declared.play_list.PlayList.{PlayList}
use Rattle.cy_comp.specs.declared.plan.Plan.{Plan}
use Rattle.cy_comp.specs.declared.wiring.Wiring.{Wiring}
use Rattle.wake_core.specs.Plain.{Plain}
use Rattle.wake_core.specs.Run.{route_of, routes_of}
use Rattle.wake_core.specs.WorldOf.{stop_in}
use Rattle.cy_trace.specs.declared.trace.TraceComponent.{TraceComponent}
use Rattle.cy_verify.specs.Verdict.{Task}
use Rattle.cy_verify.specs.declared.follower.Follower.{Follower}
use Rattle.cy_verify.specs.declared.walk.Walk.{Walk}
use Rattle.cy_verify.specs.private.Following.{Stays, HasEnded}
use Rattle.cy_verify.specs.private.Leading.{Ended, Leads}
use Rattle.cy_verify.specs.private.Led.{IsLed, HaveCalled, ended_in}
use Rattle.cy_verify.specs.private.Walking.{IsWalked, task_in, names_it}
use Rattle.cy_verify.proofs.Walked.{IsEndedTo, ended_first, end_next, get_set, route_at}
use Rattle.cy_verify.proofs.Heard.{there_is}

-- Components were followed to their end, up to one of them: these made the calls of each run that
-- led the walk, and the others are as they were.
pub record IsLedTo (t : Task) (told : List TraceComponent) (first : Walk) (n : ℕ) (w : Walk) : Type 0 where
  pub to : IsEndedTo t told first n w
  pub called : (p : Plain) → IsLed t told p first → first.tape.items ≡ p.tape → (c : ℕ) (f : Follower) → c < n → slice_get w.followers.items c ≡ Some f → f.routine.calls ≡ p.calls c
  pub rest : (c : ℕ) (f : Follower) → n ≤ c → slice_get w.followers.items c ≡ Some f → slice_get first.followers.items c ≡ Some f

pub led_first : {t : Task} {told : List TraceComponent} {w : Walk} → IsWalked t told w → IsLedTo t told w 0 w
led_first h = record { to = ended_first h; called = λ p led whole c f l. absurd (omega (arith, l)); rest = λ c f l is. is }

-- The next component.
module _ (wiring : Wiring) (list : PlayList) (told : List TraceComponent) (first v : Walk) (walked : IsWalked (task_in wiring list first) told first) (n : ℕ) (h : IsLedTo (task_in wiring list first) told first n v) (many : length told ≡ length wiring.plans) (inside : n < length wiring.plans)
    (p : Plan) (its_plan : p ≡ get_or wiring.plans n p) (k : TraceComponent) (its_told : k ≡ get_or told n k) (f : Follower) (its : f ≡ get_or v.followers.items n f) where
  its_route : slice_get (routes_of wiring.plans) n ≡ Some (route_of p)
  its_route = route_at wiring.plans n p (there_is wiring.plans n p inside its_plan)

  its_component : slice_get told n ≡ Some k
  its_component = there_is told n k (omega (arith, many, inside)) its_told

  its_follower : slice_get v.followers.items n ≡ Some f
  its_follower = there_is v.followers.items n f (omega (arith, inside, length-map wiring.plans route_of, h.to.are_of.many)) its

  same_tape : v.tape.items ≡ first.tape.items
  same_tape = ap (λ (z : Walk). z.tape.items) h.to.same

  -- It is led as it was at first.
  pub led_here : (w : Plain) → IsLed (task_in wiring list first) told w first → (stopped : Bool) → stopped ≡ names_it (stop_in first.fixed) n → Leads (route_of p) k stopped (ended_in w n) f v.tape.items
  led_here w led stopped is =
      subst (λ (b : Bool). Leads (route_of p) k b (ended_in w n) f v.tape.items) (sym is)
      (rw same_tape (led.led n (route_of p) k f its_route its_component (h.rest n f (omega arith) its_follower)))

  pub led_next : (g : Follower) (w : Walk) (stopped : Bool) → stopped ≡ names_it (stop_in first.fixed) n → Stays f g → HasEnded (route_of p) k stopped g v.tape.items → w ≡ record v { followers = w.followers } → w.followers.items ≡ set v.followers.items n g
      → ((r : Ended) → Leads (route_of p) k stopped r f v.tape.items → v.tape.items ≡ r.tape → g.routine.calls ≡ r.calls)
      → IsLedTo (task_in wiring list first) told first (n + 1) w
  led_next g w stopped is s e only followers leads = record {
    to = end_next wiring list told first v walked n h.to many inside p its_plan k its_told f its g w stopped is s e only followers;
    called = λ q led whole c f' l is'. elim (get_set v.followers.items n c g f' (ap (λ l. slice_get l c) (sym followers) ∙ is')) [
      | inl a ↦ ap (λ (z : Follower). z.routine.calls) (sym a.1) ∙ leads (ended_in q n) (led_here q led stopped is) (same_tape ∙ whole) ∙ ap q.calls (sym a.0)
      | inr a ↦ h.called q led whole c f' (before a.0 l) a.1
    ];
    rest = λ c f' l is'. elim (get_set v.followers.items n c g f' (ap (λ l. slice_get l c) (sym followers) ∙ is')) [
      | inl a ↦ absurd (beyond l a.0)
      | inr a ↦ h.rest c f' (omega (arith, l)) a.1
    ];
  }
    where
      before : {a b : ℕ} → a ≢ b → a < b + 1 → a < b
      before d l = omega (arith, d, l)

      beyond : {a b : ℕ} → b + 1 ≤ a → a ≡ b → ⊥
      beyond l e = omega (arith, l, e)

-- All of them made the calls of the run.
pub led_all : (wiring : Wiring) (list : PlayList) (told : List TraceComponent) (first : Walk) (n : ℕ) (w : Walk) → IsLedTo (task_in wiring list first) told first n w → length wiring.plans ≤ n → (p : Plain) → IsLed (task_in wiring list first) told p first → first.tape.items ≡ p.tape → HaveCalled p w.followers.items
led_all wiring list told first n w h l p led whole = λ c f is. h.called p led whole c f (less (slice_get_within w.followers.items c f is) (h.to.are_of.many ∙ length-map wiring.plans route_of) l) is
  where
    less : {a b c d : ℕ} → a < b → b ≡ c → c ≤ d → a < d
    less i j k = omega (arith, i, j, k)
