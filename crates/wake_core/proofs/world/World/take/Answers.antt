use Rattle.std.proofs.Common.{ℕ, [], ◌∷◌, ◌<◌, length, refl, sym, ◌∙◌, ap, subst, Bool, true, length-set, arith}
use Rattle.cy_comp.specs.Routine.{RoutineView}
use Rattle.wake_core.specs.WorldOf.{plain_of, to_step}
use Rattle.wake_core.specs.Run.{set_at}
use Rattle.wake_core.specs.Fields.{no_routine}
use Rattle.wake_core.specs.Plain.{Plain, hand, Ready, Fresh, Known}
use Rattle.wake_core.specs.Sound.{Sound}
use Rattle.wake_core.specs.Turns.{Passes, IsTaken}
use Rattle.wake_core.proofs.Places.{set_at_same, set_at_again}
use Rattle.wake_core.proofs.Reading.{read-set, read_is, hands_set}
use Rattle.wake_core.proofs.Flags.{acquire_flags, phase_flags, idle_stepping}
use Rattle.wake_core.proofs.Storing.{routines_stored, calls_stored, states_stored, waiting_stored, roomy_stored, stored_parts}
use Rattle.wake_core.proofs.Taken.{taken_by, passed_when, flag_is, runs_is}
use Rattle.wake_core.proofs.world.World.take.Goals as goal

pub index-requires : goal.index-requires
unfolding plain_of
index-requires c = omega (arith, c.requires.known, c.args.self.now.sized.routines_fit)

pub index-was_spent-requires : goal.index-was_spent-requires
unfolding plain_of
index-was_spent-requires c = omega (arith, c.requires.known, c.args.self.now.sized.spent_fit)

pub index_mut-requires : goal.index_mut-requires
unfolding plain_of
index_mut-requires c = omega (arith, c.requires.known, c.args.self.now.sized.spent_fit)

pub index_mut-requires-2 : goal.index_mut-requires-2
unfolding plain_of
index_mut-requires-2 c = omega (arith, c.requires.known, c.args.self.now.sized.routines_fit)

pub index_mut-requires-3 : goal.index_mut-requires-3
unfolding plain_of
index_mut-requires-3 c = omega (arith, c.requires.known, c.args.self.now.sized.held_fit)

pub invariant_of-self : goal.invariant_of-self
unfolding plain_of
invariant_of-self c =
    let w = plain_of c.args.self.now in
    let n = c.args.component in
    let spent_fits : n < length c.args.self.now.spent.items = omega (arith, c.requires.known, c.args.self.now.sized.spent_fit) in
    let routines_fit : n < length c.args.self.now.routines.items = omega (arith, c.requires.known, c.args.self.now.sized.routines_fit) in
    let state_is = c.state-state.ensures ∙ sym (read_is (λ r. r.state) Ready c.args.self.now.routines.items n c.index.result.now routines_fit c.index.ensures) in
    let was_is = sym (read_is (λ b. b) true c.args.self.now.spent.items n c.index-was_spent.result.now spent_fits c.index-was_spent.ensures) in
    let flag = read-set (λ b. b) true c.args.self.now.spent.items n c.spent_after.result spent_fits ∙ ap (λ b. set_at n b w.spent) (flag_is n w state_is was_is c.spent_after.ensures) in
    let runs = sym (runs_is n w state_is was_is c.runs.ensures) ∙ c.if-not-runs.true in
    let p = passed_when n w c.requires.rest c.requires.known c.args.self.now.sound runs in
    let shown = ap (λ (b : ℕ → Bool). record w { spent = b }) flag in
    record {
      sized = rw (length-set c.args.self.now.spent.items n c.spent_after.result) c.args.self.now.sized;
      flagged = c.args.self.now.flagged;
      stepping = c.args.self.now.stepping;
      waiting = c.args.self.now.waiting;
      visited = c.args.self.now.visited;
      roomy = c.args.self.now.roomy;
      owing = c.args.self.now.owing;
      counted = c.args.self.now.counted;
      sound = subst Sound (sym shown) p.1;
    }

pub returns-then-not-runs-clause-passed : goal.returns-then-not-runs-clause-passed
unfolding plain_of
returns-then-not-runs-clause-passed c =
    let w = plain_of c.args.self.now in
    let n = c.args.component in
    let spent_fits : n < length c.args.self.now.spent.items = omega (arith, c.requires.known, c.args.self.now.sized.spent_fit) in
    let routines_fit : n < length c.args.self.now.routines.items = omega (arith, c.requires.known, c.args.self.now.sized.routines_fit) in
    let state_is = c.state-state.ensures ∙ sym (read_is (λ r. r.state) Ready c.args.self.now.routines.items n c.index.result.now routines_fit c.index.ensures) in
    let was_is = sym (read_is (λ b. b) true c.args.self.now.spent.items n c.index-was_spent.result.now spent_fits c.index-was_spent.ensures) in
    let flag = read-set (λ b. b) true c.args.self.now.spent.items n c.spent_after.result spent_fits ∙ ap (λ b. set_at n b w.spent) (flag_is n w state_is was_is c.spent_after.ensures) in
    let runs = sym (runs_is n w state_is was_is c.runs.ensures) ∙ c.if-not-runs.true in
    let p = passed_when n w c.requires.rest c.requires.known c.args.self.now.sound runs in
    let shown = ap (λ (b : ℕ → Bool). record w { spent = b }) flag in
    λ e. subst (λ (v : Plain). Passes (n ∷ []) w v) (sym shown) p.0

pub returns-then-not-runs-clause-steps : goal.returns-then-not-runs-clause-steps
unfolding to_step
returns-then-not-runs-clause-steps c = refl

pub invariant_of-self-2 : goal.invariant_of-self-2
unfolding plain_of
invariant_of-self-2 c =
    let w = plain_of c.args.self.now in
    let n = c.args.component in
    let spent_fits : n < length c.args.self.now.spent.items = omega (arith, c.requires.known, c.args.self.now.sized.spent_fit) in
    let routines_fit : n < length c.args.self.now.routines.items = omega (arith, c.requires.known, c.args.self.now.sized.routines_fit) in
    let state_is = c.state-state.ensures ∙ sym (read_is (λ r. r.state) Ready c.args.self.now.routines.items n c.index.result.now routines_fit c.index.ensures) in
    let was_is = sym (read_is (λ b. b) true c.args.self.now.spent.items n c.index-was_spent.result.now spent_fits c.index-was_spent.ensures) in
    let flag = read-set (λ b. b) true c.args.self.now.spent.items n c.spent_after.result spent_fits ∙ ap (λ b. set_at n b w.spent) (flag_is n w state_is was_is c.spent_after.ensures) in
    let runs = sym (runs_is n w state_is was_is c.runs.ensures) ∙ c.if-not-runs.false in
    let held_fits : n < length c.args.self.now.held.items = omega (arith, c.requires.known, c.args.self.now.sized.held_fit) in
    let player : 0 < length c.args.self.now.hands.items = omega (arith, c.args.self.now.sized.hands_fit) in
    let routines = c.args.self.now.routines.items in
    let now = c.yielded.ensures ∙ ap (λ (r : RoutineView). record r { state = Ready }) (sym (read_is (λ r. r) no_routine routines n c.index_mut-2.result.now routines_fit c.index_mut-2.ensures.value)) in
    let hand_is = hands_set c.args.self.now.hands.items 0 (hand n Known) player in
    let idle = (c.requires.rest 0).hand in
    let same = routines_stored routines n c.yielded.new.self Ready routines_fit now in
    let t = taken_by n w c.requires.rest c.requires.known c.args.self.now.sound runs in
    let shown = stored_parts w n Ready (states_stored routines n c.yielded.new.self Ready routines_fit now) flag (calls_stored routines c.args.self.now.found.items n c.yielded.new.self Ready routines_fit now) hand_is in
    record {
      sized = rw (length-set routines n c.yielded.new.self, length-set c.args.self.now.spent.items n c.spent_after.result, length-set c.args.self.now.held.items n true, length-set c.args.self.now.hands.items 0 (hand n Known)) c.args.self.now.sized;
      flagged = rw (read-set (λ b. b) true c.args.self.now.held.items n true held_fits, hand_is, sym (set_at_again 0 (hand n Fresh) (hand n Known) w.hands))
          (phase_flags 0 n Fresh Known (set_at_same 0 (hand n Fresh) w.hands) (acquire_flags 0 n idle c.args.self.now.flagged));
      stepping = rw hand_is (idle_stepping 0 (hand n Known) idle c.args.self.now.stepping);
      waiting = waiting_stored Ready same c.args.self.now.waiting;
      visited = c.args.self.now.visited;
      roomy = roomy_stored Ready same c.args.self.now.roomy;
      owing = c.args.self.now.owing;
      counted = c.args.self.now.counted;
      sound = subst Sound (sym shown) t.1;
    }

pub returns-clause-taken : goal.returns-clause-taken
unfolding plain_of
returns-clause-taken c =
    let w = plain_of c.args.self.now in
    let n = c.args.component in
    let spent_fits : n < length c.args.self.now.spent.items = omega (arith, c.requires.known, c.args.self.now.sized.spent_fit) in
    let routines_fit : n < length c.args.self.now.routines.items = omega (arith, c.requires.known, c.args.self.now.sized.routines_fit) in
    let state_is = c.state-state.ensures ∙ sym (read_is (λ r. r.state) Ready c.args.self.now.routines.items n c.index.result.now routines_fit c.index.ensures) in
    let was_is = sym (read_is (λ b. b) true c.args.self.now.spent.items n c.index-was_spent.result.now spent_fits c.index-was_spent.ensures) in
    let flag = read-set (λ b. b) true c.args.self.now.spent.items n c.spent_after.result spent_fits ∙ ap (λ b. set_at n b w.spent) (flag_is n w state_is was_is c.spent_after.ensures) in
    let runs = sym (runs_is n w state_is was_is c.runs.ensures) ∙ c.if-not-runs.false in
    let held_fits : n < length c.args.self.now.held.items = omega (arith, c.requires.known, c.args.self.now.sized.held_fit) in
    let player : 0 < length c.args.self.now.hands.items = omega (arith, c.args.self.now.sized.hands_fit) in
    let routines = c.args.self.now.routines.items in
    let now = c.yielded.ensures ∙ ap (λ (r : RoutineView). record r { state = Ready }) (sym (read_is (λ r. r) no_routine routines n c.index_mut-2.result.now routines_fit c.index_mut-2.ensures.value)) in
    let hand_is = hands_set c.args.self.now.hands.items 0 (hand n Known) player in
    let idle = (c.requires.rest 0).hand in
    let same = routines_stored routines n c.yielded.new.self Ready routines_fit now in
    let t = taken_by n w c.requires.rest c.requires.known c.args.self.now.sound runs in
    let shown = stored_parts w n Ready (states_stored routines n c.yielded.new.self Ready routines_fit now) flag (calls_stored routines c.args.self.now.found.items n c.yielded.new.self Ready routines_fit now) hand_is in
    λ e. subst (λ (v : Plain). IsTaken n w v) (sym shown) t.0

pub returns-clause-steps : goal.returns-clause-steps
unfolding to_step
returns-clause-steps c = refl
