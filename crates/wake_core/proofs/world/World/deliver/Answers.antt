use Rattle.std.proofs.Common.{◌<◌, length, refl, sym, ◌∙◌, ap, subst, Bool, true, List, [], length-set, arith}
use Rattle.std.specs.Vec.{vec_capacity}
use Rattle.cy_msg.specs.declared.token.Token.{Token}
use Rattle.cy_fuse.specs.Visitor.{VisitorView}
use Rattle.cy_comp.specs.Routine.{RoutineView}
use Rattle.wake_core.specs.WorldOf.{plain_of, to_step}
use Rattle.wake_core.specs.Fields.{read, no_routine}
use Rattle.wake_core.specs.Sound.{Sound}
use Rattle.wake_core.specs.private.Delivery.{arrived_at_all, MayArriveAtAll, cleared_by_all, AreReaders}
use Rattle.wake_core.proofs.Owing.{owed_each, owing_set}
use Rattle.wake_core.proofs.Runs.{events_sound}
use Rattle.wake_core.proofs.Spreading.{Fits, all_may, all_delivered, length_cleared_all, flags_cleared, none_owing, delivered_world, delivers}
use Rattle.wake_core.proofs.world.World.deliver.Goals as goal

pub readers-readers-requires : goal.readers-readers-requires
unfolding plain_of
readers-readers-requires c = c.requires.known

pub arrive_at_all-requires : goal.arrive_at_all-requires
unfolding plain_of
arrive_at_all-requires c =
    let w = plain_of c.args.self.now in
    let routes = c.args.self.now.fixed.routes.items in
    let rs = c.readers-readers.result.now in
    let fills = c.requires.all ∙ sym c.readers-readers.ensures in
    let fits : Fits routes c.args.self.now.fixed.counts.items (read (λ r. r) no_routine c.args.self.now.routines.items) (vec_capacity c.args.self.now.tape) w.arrivals c.args.self.now.visitors.items =
    record { size = c.args.self.now.sized.visitors_fit; shown = refl; visited = c.args.self.now.visited; roomy = c.args.self.now.roomy } in
    let may = all_may rs 0 w (read (λ r. r) no_routine c.args.self.now.routines.items) (vec_capacity c.args.self.now.tape) c.args.self.now.visitors.items fills c.args.self.now.sound fits in
    subst (λ (t : Token). MayArriveAtAll rs t c.args.self.now.visitors.items) c.requires.token may.may

pub clear_all-requires-clause-readers : goal.clear_all-requires-clause-readers
unfolding plain_of
clear_all-requires-clause-readers c =
    let w = plain_of c.args.self.now in
    let routes = c.args.self.now.fixed.routes.items in
    let rs = c.readers-readers.result.now in
    let fills = c.requires.all ∙ sym c.readers-readers.ensures in
    let fits : Fits routes c.args.self.now.fixed.counts.items (read (λ r. r) no_routine c.args.self.now.routines.items) (vec_capacity c.args.self.now.tape) w.arrivals c.args.self.now.visitors.items =
    record { size = c.args.self.now.sized.visitors_fit; shown = refl; visited = c.args.self.now.visited; roomy = c.args.self.now.roomy } in
    let may = all_may rs 0 w (read (λ r. r) no_routine c.args.self.now.routines.items) (vec_capacity c.args.self.now.tape) c.args.self.now.visitors.items fills c.args.self.now.sound fits in
    subst (AreReaders rs) (sym (ap length c.as_slice.ensures.value ∙ c.args.self.now.sized.routines_fit)) may.known

pub invariant_of-self : goal.invariant_of-self
unfolding plain_of
invariant_of-self c =
    let w = plain_of c.args.self.now in
    let routes = c.args.self.now.fixed.routes.items in
    let rs = c.readers-readers.result.now in
    let fills = c.requires.all ∙ sym c.readers-readers.ensures in
    let fits : Fits routes c.args.self.now.fixed.counts.items (read (λ r. r) no_routine c.args.self.now.routines.items) (vec_capacity c.args.self.now.tape) w.arrivals c.args.self.now.visitors.items =
    record { size = c.args.self.now.sized.visitors_fit; shown = refl; visited = c.args.self.now.visited; roomy = c.args.self.now.roomy } in
    let may = all_may rs 0 w (read (λ r. r) no_routine c.args.self.now.routines.items) (vec_capacity c.args.self.now.tape) c.args.self.now.visitors.items fills c.args.self.now.sound fits in
    let owed = c.args.self.now.owed.items in
    let spent = c.args.self.now.spent.items in
    let routines = c.args.self.now.routines.items in
    let o = c.index_mut.result.now in
    let thread : 0 < length owed = omega (arith, c.args.self.now.sized.owed_fit) in
    let visitors_are = c.arrive_at_all.ensures ∙ ap (λ (t : Token). arrived_at_all rs t c.args.self.now.visitors.items) (sym c.requires.token) in
    let spent_is = c.clear_all.ensures ∙ ap (λ (r : List RoutineView). cleared_by_all rs r spent) c.as_slice.ensures.value in
    let known = subst (AreReaders rs) (sym c.args.self.now.sized.routines_fit) may.known in
    let shows = delivered_world w routes owed 0 o thread c.index_mut.ensures.value
    (ap (λ (l : List VisitorView). read (λ v. v.arrivals) [] l) visitors_are ∙ may.fits.shown)
    (ap (λ (l : List Bool). read (λ b. b) true l) spent_is ∙ flags_cleared rs routines spent known (c.args.self.now.sized.spent_fit ∙ sym c.args.self.now.sized.routines_fit)) in
    let as_many = ap length visitors_are ∙ may.fits.size ∙ sym c.args.self.now.sized.visitors_fit in
    let as_flagged = ap length spent_is ∙ length_cleared_all rs routines spent in
    record {
      sized = rw (as_many, as_flagged, length-set owed 0 record o { fills = 0 }) c.args.self.now.sized;
      flagged = c.args.self.now.flagged;
      stepping = c.args.self.now.stepping;
      waiting = c.args.self.now.waiting;
      visited = rw visitors_are may.fits.visited;
      roomy = rw visitors_are may.fits.roomy;
      owing = owing_set 0 record o { fills = 0 } thread (none_owing (owed_each 0 o thread c.index_mut.ensures.value c.args.self.now.owing)) c.args.self.now.owing;
      counted = c.args.self.now.counted;
      sound = subst Sound (sym shows) (events_sound c.fetches_find.ensures.find w _ (all_delivered rs 0 w fills c.requires.looked c.requires.cleared) c.args.self.now.sound);
    }

pub returns-clause-delivers : goal.returns-clause-delivers
unfolding plain_of
returns-clause-delivers c =
    let w = plain_of c.args.self.now in
    let routes = c.args.self.now.fixed.routes.items in
    let rs = c.readers-readers.result.now in
    let fills = c.requires.all ∙ sym c.readers-readers.ensures in
    let fits : Fits routes c.args.self.now.fixed.counts.items (read (λ r. r) no_routine c.args.self.now.routines.items) (vec_capacity c.args.self.now.tape) w.arrivals c.args.self.now.visitors.items =
    record { size = c.args.self.now.sized.visitors_fit; shown = refl; visited = c.args.self.now.visited; roomy = c.args.self.now.roomy } in
    let may = all_may rs 0 w (read (λ r. r) no_routine c.args.self.now.routines.items) (vec_capacity c.args.self.now.tape) c.args.self.now.visitors.items fills c.args.self.now.sound fits in
    let owed = c.args.self.now.owed.items in
    let spent = c.args.self.now.spent.items in
    let routines = c.args.self.now.routines.items in
    let o = c.index_mut.result.now in
    let thread : 0 < length owed = omega (arith, c.args.self.now.sized.owed_fit) in
    let visitors_are = c.arrive_at_all.ensures ∙ ap (λ (t : Token). arrived_at_all rs t c.args.self.now.visitors.items) (sym c.requires.token) in
    let spent_is = c.clear_all.ensures ∙ ap (λ (r : List RoutineView). cleared_by_all rs r spent) c.as_slice.ensures.value in
    let known = subst (AreReaders rs) (sym c.args.self.now.sized.routines_fit) may.known in
    let shows = delivered_world w routes owed 0 o thread c.index_mut.ensures.value
    (ap (λ (l : List VisitorView). read (λ v. v.arrivals) [] l) visitors_are ∙ may.fits.shown)
    (ap (λ (l : List Bool). read (λ b. b) true l) spent_is ∙ flags_cleared rs routines spent known (c.args.self.now.sized.spent_fit ∙ sym c.args.self.now.sized.routines_fit)) in
    delivers fills c.requires.looked c.requires.cleared shows

pub returns-clause-steps : goal.returns-clause-steps
unfolding to_step
returns-clause-steps c = refl
