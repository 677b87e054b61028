-- Each message of a lawful run comes from a played one or from an answer, if from any.
use Rattle.std.proofs.Common.{ℕ, zero, suc, ◌-◌, ◌≡◌, ◌<◌, true, List, length, take, slice_get, Option, Some, None, option_map, refl, sym, ap, subst, ◌∙◌, arith}
use Rattle.std.specs.Prelude.{not, is_some}
use Rattle.std.proofs.lemmas.Option.{none-some, same_Some, slice_get-map}
use Rattle.cy_msg.specs.Tokens.{most_played, on_channel}
use Rattle.cy_msg.specs.declared.stop.Stop.{Stop}
use Rattle.cy_msg.specs.declared.token.Token.{Token}
use Rattle.cy_msg.specs.declared.token.Tuple.{Tuple}
use Rattle.cy_msg.specs.declared.token.Tuple.TheVariants.{One, Two, Three, Four}
use Rattle.cy_msg.specs.declared.play_list.PlayList.{PlayList}
use Rattle.cy_msg.specs.Tuple.{messages_of}
use Rattle.cy_fuse.specs.Fusion.{fused}
use Rattle.cy_comp.specs.declared.answers.Answer.{Answer}
use Rattle.cy_comp.specs.declared.call.Call.{Call}
use Rattle.cy_comp.specs.Laws.{IsGiven}
use Rattle.cy_comp.specs.declared.plan.Plan.{Plan}
use Rattle.cy_comp.specs.Kind.{is_kind_in_range}
use Rattle.cy_comp.specs.Calls.{tuples_of, outs, output}
use Rattle.wake_core.specs.Bounds.{PlaceLaws}
use Rattle.wake_core.specs.LawfulRun.{LawfulRun}
use Rattle.wake_core.specs.Plain.{Plain}
use Rattle.wake_core.specs.Run.{route_of, routes_of, played_of, writes_from}
use Rattle.wake_core.specs.declared.route.Route.{Route}
use Rattle.wake_core.specs.Sound.{Sound, IsOutput, StandsOn}
use Rattle.cy_recording.proofs.Origins.{GoodKind, GoodOut, GoodTuple, outcome-good, IsAmong, given-among}
use Rattle.cy_trace.proofs.OutsMade.{on_each, taken_at, Made, outs_count, outs_made, passing}

-- a message that no component wrote is among those that were played
played_at : (w : Plain) (i : ℕ) (t : Token) → slice_get w.tape i ≡ Some t → writes_from 0 w.routes t.channel ≡ None → (k : ℕ) × (slice_get (played_of w.routes w.tape) k ≡ Some t)
played_at w i t on e = passing (λ (u : Token). not (is_some (writes_from 0 w.routes u.channel))) w.tape i t on (ap (λ (o : Option ℕ). not (is_some o)) e)

module _ (stand : PlaceLaws) (Q : Option ℕ → Type 0) (none : Q None) (w : Plain) (s : Sound w) (played : (n : ℕ) (t : Token) → slice_get (played_of w.routes w.tape) n ≡ Some t → Q t.origin) (given : (c : ℕ) (x : Route) → slice_get w.routes c ≡ Some x → GoodKind Q none x.kind) where
  abbrev Good : Token → Type 0
  Good t = Q t.origin

  tuple_good : (u : Tuple) → ((j : ℕ) (m : Token) → slice_get (messages_of u) j ≡ Some m → Good m) → GoodTuple Q none u
  tuple_good (One a) all = all 0 a refl
  tuple_good (Two a b) all = (all 0 a refl, all 1 b refl)
  tuple_good (Three a b c) all = (all 0 a refl, all 1 b refl, all 2 c refl)
  tuple_good (Four a b c d) all = (all 0 a refl, all 1 b refl, all 2 c refl, all 3 d refl)

  -- an output comes from where the messages of its tuple come from or from an answer, if from any
  call_good : (c n : ℕ) (x : Route) (call : Call) → slice_get w.routes c ≡ Some x → slice_get (w.calls c) n ≡ Some call
      → ((k : ℕ) (tuple : Tuple) → k < call.tail → slice_get (fused (w.arrivals c) (length x.readers)) k ≡ Some tuple → (j : ℕ) (m : Token) → slice_get (messages_of tuple) j ≡ Some m → Good m) → GoodOut Q none call.out
  call_good c n x call at is all =
      let own = taken_at call.tail (fused (w.arrivals c) (length x.readers)) (call.position - 1) call.tuple (s.consistent.causal.own c x n call at is) in
      subst (GoodOut Q none) (sym ((s.consistent.called.lawful c x at).outputs n call is))
      (outcome-good Q none x.kind (tuples_of (take n (w.calls c))) call.tuple (given c x at) (tuple_good call.tuple (all (call.position - 1) call.tuple own.0 own.1)))

  token_good : (i : ℕ) (t : Token) → slice_get w.tape i ≡ Some t → ((j : ℕ) (m : Token) → j < i → slice_get w.tape j ≡ Some m → Good m) → Good t
  token_good i t on before = by (writes_from 0 w.routes t.channel) refl
    where
      front : (m : Token) → StandsOn (take i w.tape) m → Good m
      front m stands = on_each Good (take i w.tape) (λ n u e. let h = taken_at i w.tape n u e in before n u h.0 h.1) m.channel (m.seq - 1) m stands

      sent : (c : ℕ) (x : Route) → slice_get w.routes c ≡ Some x → Made x.out 0 (w.calls c) t → Good t
      sent c x at h =
          let is : IsOutput x (w.calls c) h.place h.call t = record { made = h.made; out = h.out; some = h.some; token = h.token ∙ ap (λ n. output x.out n h.out) (outs_count x.out (take h.place (w.calls c))) } in
          let good = call_good c h.place x h.call at h.made (λ k tuple less fused j m there. front m (s.consistent.causal.before c x h.place h.call t i at is on k tuple less fused j m there)) in
          let some : Q h.out.origin = subst (GoodOut Q none) h.some good in
          subst Good (sym h.token) some

      by : (o : Option ℕ) → writes_from 0 w.routes t.channel ≡ o → Good t
      by None e = let h = played_at w i t on e in played h.0 t h.1
      by (Some c) e =
          let x = stand.writer w.routes t.channel c e in
          let stands = stand.taped w.tape s.consistent.delivered.numbered i t on in
          let there : slice_get (on_channel x.0.out w.tape) (t.seq - 1) ≡ Some t = ap (λ n. slice_get (on_channel n w.tape) (t.seq - 1)) x.2 ∙ stands in
          let made = taken_at (length (on_channel x.0.out w.tape)) (outs x.0.out (w.calls c)) (t.seq - 1) t (ap (λ l. slice_get l (t.seq - 1)) (sym (s.consistent.delivered.history c x.0 x.1)) ∙ there) in
          sent c x.0 x.1 (outs_made x.0.out (w.calls c) (t.seq - 1) t made.1)

  tape_good : (k i : ℕ) (t : Token) → i < k → slice_get w.tape i ≡ Some t → Good t
  tape_good zero i t less on = absurd (omega (arith, less))
  tape_good (suc k) i t less on = token_good i t on (λ j m sooner at. tape_good k j m (omega (arith, sooner, less)) at)

-- Answers of components whose parameters are in range have origins behind those of played messages.
routes_among : (n : ℕ) (plans : List Plan) → ((i : ℕ) (p : Plan) → slice_get plans i ≡ Some p → is_kind_in_range p.kind ≡ true)
    → (c : ℕ) (x : Route) → slice_get (routes_of plans) c ≡ Some x → (a : Answer) → IsGiven x.kind a → IsAmong n (Some a.origin)
routes_among n plans fit c x at = by (slice_get plans c) refl
  where
    by : (o : Option Plan) → slice_get plans c ≡ o → (a : Answer) → IsGiven x.kind a → IsAmong n (Some a.origin)
    by None e = absurd (none-some x (sym (slice_get-map route_of plans c ∙ ap (option_map route_of) e) ∙ at))
    by (Some p) e =
        let same : route_of p ≡ x = same_Some (route_of p) x (sym (slice_get-map route_of plans c ∙ ap (option_map route_of) e) ∙ at) in
        given-among n x.kind (subst (λ (r : Route). is_kind_in_range r.kind ≡ true) same (fit c p e))

pub lawful_origins : PlaceLaws → (list : PlayList) (plans : List Plan) → ((i : ℕ) (p : Plan) → slice_get plans i ≡ Some p → is_kind_in_range p.kind ≡ true)
    → (stop : Option Stop) (w : Plain) → LawfulRun list.tokens (routes_of plans) stop w
    → (n o : ℕ) (t : Token) → slice_get w.tape n ≡ Some t → t.origin ≡ Some o → o < most_played → o < length list.places
lawful_origins stand list plans fit stop w lawful n o t at e few =
    let Q : Option ℕ → Type 0 = IsAmong (length list.places) in
    let played : (k : ℕ) (u : Token) → slice_get (played_of w.routes w.tape) k ≡ Some u → Q u.origin =
    λ k u on p from low. list.origins k p u (ap (λ (ts : List Token). slice_get ts k) (sym lawful.exact) ∙ on) from in
    let given : (c : ℕ) (x : Route) → slice_get w.routes c ≡ Some x → (a : Answer) → IsGiven x.kind a → Q (Some a.origin) =
    λ c x on. routes_among (length list.places) plans fit c x (ap (λ (rs : List Route). slice_get rs c) (sym lawful.wired) ∙ on) in
    tape_good stand Q (λ o e. absurd cc) w lawful.sound played given (suc n) n t (omega arith) at o e few
