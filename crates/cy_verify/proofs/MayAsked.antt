-- What may be asked of a walk that was followed to its end.
use Rattle.std.proofs.Common.{◌≡◌, ◌<◌, ◌∙◌, subst, arith, List, length}
use Rattle.std.proofs.lemmas.Option.{slice_get_within}
use Rattle.std.proofs.lemmas.List.{length-map}
use Rattle.cy_msg.proofs.Lists.{there}
use Rattle.wake_core.specs.Fields.{IsWithin}
use Rattle.wake_core.specs.Run.{route_of, routes_of}
use Rattle.cy_trace.specs.declared.trace.TraceComponent.{TraceComponent}
use Rattle.cy_verify.specs.declared.walk.Walk.{Walk}
use Rattle.cy_verify.specs.private.Allowing.{MayAsk}
use Rattle.cy_verify.specs.private.Walking.{HasWalked}
use Rattle.cy_verify.specs.Verdict.{Task}
use Rattle.cy_verify.proofs.Takes.{follows_takes}
use Rattle.cy_verify.proofs.Written.{route_at}

pub may_ask : (t : Task) (told : List TraceComponent) (walk : Walk) → length told ≡ length t.plans → IsWithin (routes_of t.plans) t.counts t.stop → HasWalked t told walk → MayAsk t.plans told t.stop walk
may_ask t told walk many within h = record {
  numbered = h.taped.numbered;
  many = h.are_of.many ∙ length-map t.plans route_of;
  few = λ c p at. h.known.its.few_readers c (route_of p) (route_at t.plans c p at);
  takes = λ c p f at on.
      let k = there told c (rw many (slice_get_within t.plans c p at)) in
      follows_takes (route_of p) k.0 f walk.tape.items h.taped.numbered (h.ended c (route_of p) k.0 f (route_at t.plans c p at) k.1 on).follows;
  all_told = many;
  calls_told = λ c f k on is.
      let l = slice_get_within told c k is in
      let x = there (routes_of t.plans) c (omega (arith, l, many, length-map t.plans route_of)) in
      (h.ended c x.0 k f x.1 is on).calls;
  known = λ s is. subst (λ n. s.component < n) (length-map t.plans route_of) (within.component s is);
}
