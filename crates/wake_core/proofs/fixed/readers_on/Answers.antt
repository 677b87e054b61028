use Rattle.std.proofs.Common.{ℕ, ◌+◌, ◌≡◌, ◌∙◌, sym, ap, refl, arith, List, ◌++◌, length, drop, Some, slice_get, append_assoc}
use Rattle.std.proofs.lemmas.Option.{slice_get_read}
use Rattle.wake_core.specs.Run.{Route, roles_of, readers_from}
use Rattle.wake_core.proofs.Owing.{drop_first, drop_rest}
use Rattle.wake_core.proofs.fixed.readers_on.Goals as goal

-- What was found with the roles of one more component.
one_more : (channel component : ℕ) (routes : List Route) (x : Route) (found new whole : List (ℕ × ℕ)) → slice_get routes component ≡ Some x
    → new ≡ found ++ roles_of channel component 0 x.readers → found ++ readers_from channel component (drop component routes) ≡ whole
    → new ++ readers_from channel (component + 1) (drop (component + 1) routes) ≡ whole
one_more channel component routes x found new whole at is so =
    let rest = readers_from channel (component + 1) (drop (component + 1) routes) in
    ap (λ (l : List (ℕ × ℕ)). l ++ rest) is
    ∙ append_assoc found (roles_of channel component 0 x.readers) rest
    ∙ ap (λ (l : List Route). found ++ readers_from channel component l) (sym (drop_rest routes component x (drop_first routes component ∙ at)))
    ∙ so

pub push_roles-requires : goal.push_roles-requires
push_roles-requires c =
    let routes = c.args.routes.now in
    let x = c.index-routes-component.result in
    c.requires.readers c.loop-component.component x (slice_get_read routes (length routes) c.loop-component.component x refl (omega (arith, c.loop-component-test.true)) c.index-routes-component.is)

pub loop-component-preserved : goal.loop-component-preserved
loop-component-preserved c =
    let routes = c.args.routes.now in
    let x = c.index-routes-component.result in
    record {
      found = one_more c.args.channel c.loop-component.component routes x _ _ _ (slice_get_read routes (length routes) c.loop-component.component x refl (omega (arith, c.loop-component-test.true)) c.index-routes-component.is)
          c.in_ok-push_roles.ensures.roles c.loop-component.invariant.found;
    }
