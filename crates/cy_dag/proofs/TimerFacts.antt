-- What the tests of a DAG file have found of its timer components.
use Rattle.std.proofs.Common.{ℕ, zero, suc, ◌≡◌, ◌≤◌, ◌==◌, ◌⊎◌, List, [], ◌∷◌, ◌++◌, length, map, slice_get, Option, Some, None, unwrap_or, refl, sym, ap, subst, ◌∙◌, inl, inr, append_assoc, append-nil, codes, arith}
use Rattle.std.proofs.lemmas.Option.{same_Some, none-some, slice_get-map}
use Rattle.std.specs.Option.{option_or}
use Rattle.cy_text.specs.Fields.{Fields}
use Rattle.cy_dag.specs.DagFile.{HaveQueues, HaveTicks, IsTimer, component_of, component_refusal, components_refusal, described, described_refusal, interval_of, interval_refusal, refusal_behind, settings_of, text_in, tick_reader, timer_of, timer_refusal, timers_refusal}
use Rattle.cy_dag.specs.declared.dag.DagComponent.{DagComponent}
use Rattle.cy_dag.specs.declared.dag.DagReader.{DagReader}
use Rattle.cy_dag.specs.declared.error.DagError.{DagError}
use Rattle.cy_dag.proofs.Found.{mapped_some, or_none}
use Rattle.cy_dag.proofs.Queues.{queues_of}
use Rattle.cy_dag.proofs.ReadFacts.{refuse_none, some_where}

none_or : (a b : Option DagError) → a ≡ None → b ≡ None → option_or a b ≡ None
none_or a b p q = rw (p, q) refl

-- Components one after another are tested as all of them.
behind_all : (earlier cs ds : List DagComponent) → refusal_behind earlier cs ≡ None → refusal_behind (earlier ++ cs) ds ≡ None → refusal_behind earlier (cs ++ ds) ≡ None
behind_all earlier [] ds p q = ap (λ (e : List DagComponent). refusal_behind e ds) (sym (append-nil earlier)) ∙ q
behind_all earlier (c ∷ cs) ds p q =
    let both = or_none (component_refusal earlier c) (refusal_behind (earlier ++ c ∷ []) cs) p in
    let more : refusal_behind ((earlier ++ c ∷ []) ++ cs) ds ≡ None = ap (λ (e : List DagComponent). refusal_behind e ds) (append_assoc earlier (c ∷ []) cs) ∙ q in
    none_or (component_refusal earlier c) (refusal_behind (earlier ++ c ∷ []) (cs ++ ds)) both.0 (behind_all (earlier ++ c ∷ []) cs ds both.1 more)

timers_none : (earlier : List DagComponent) (ts : List Fields) → timers_refusal earlier ts ≡ None → refusal_behind earlier (map timer_of ts) ≡ None
timers_none earlier [] h = refl
timers_none earlier (t ∷ ts) h =
    let both = or_none (timer_refusal earlier t) (timers_refusal (earlier ++ timer_of t ∷ []) ts) h in
    let tested = or_none (component_refusal earlier (timer_of t)) _ both.0 in
    none_or (component_refusal earlier (timer_of t)) (refusal_behind (earlier ++ timer_of t ∷ []) (map timer_of ts)) tested.0 (timers_none (earlier ++ timer_of t ∷ []) ts both.1)

-- An interval that is given, and not 0.
given_some : (number : ℕ) (o : Option ℕ) → interval_refusal number o ≡ None → 1 ≤ unwrap_or o 0
given_some number None h = absurd (none-some _ (sym h))
given_some number (Some n) h = some_where n (refuse_none (n == 0) _ h)

each_timer : (earlier : List DagComponent) (ts : List Fields) (i interval : ℕ) (c : DagComponent) → timers_refusal earlier ts ≡ None → slice_get (map timer_of ts) i ≡ Some c → c.interval ≡ Some interval → IsTimer c interval
each_timer earlier [] i interval c h at given = absurd (none-some c at)
each_timer earlier (t ∷ ts) zero interval c h at given =
    let both = or_none (timer_refusal earlier t) (timers_refusal (earlier ++ timer_of t ∷ []) ts) h in
    let tested = or_none (component_refusal earlier (timer_of t)) _ both.0 in
    let timed = or_none (interval_refusal (length earlier) (interval_of t)) _ tested.1 in
    let same = same_Some (timer_of t) c at in
    let n : unwrap_or (interval_of t) 0 ≡ interval = same_Some (unwrap_or (interval_of t) 0) interval (ap (λ (x : DagComponent). x.interval) same ∙ given) in
    subst (λ (x : DagComponent). IsTimer x interval) same (record { some = omega (arith, n, given_some (length earlier) (interval_of t) timed.0); readers = refl })
each_timer earlier (t ∷ ts) (suc i) interval c h at given =
    let both = or_none (timer_refusal earlier t) (timers_refusal (earlier ++ timer_of t ∷ []) ts) h in
    each_timer (earlier ++ timer_of t ∷ []) ts i interval c both.1 at given

-- One tick waits at most.
one_waits : (name : List ℕ) (j : ℕ) (r : DagReader) → slice_get (tick_reader name ∷ []) j ≡ Some r → 1 ≤ r.queue
one_waits name zero r is = omega (arith, ap (λ (x : DagReader). x.queue) (same_Some (tick_reader name) r is))
one_waits name (suc j) r is = absurd (none-some r is)

-- What stands in one list behind another.
either : {A : Type 0} (xs ys : List A) (i : ℕ) (a : A) → slice_get (xs ++ ys) i ≡ Some a → (slice_get xs i ≡ Some a) ⊎ ((k : ℕ) × (slice_get ys k ≡ Some a))
either [] ys i a h = inr (i, h)
either (x ∷ xs) ys zero a h = inl h
either (x ∷ xs) ys (suc i) a h = either xs ys i a h

module _ (cs ts : List Fields) where
  pub all_tested : described_refusal cs ts ≡ None → components_refusal (described cs ts) ≡ None
  all_tested h =
      let counted = or_none _ _ h in
      let tested = or_none (components_refusal (map component_of cs)) _ counted.1 in
      let timed = or_none (timers_refusal (map component_of cs) ts) _ tested.1 in
      behind_all [] (map component_of cs) (map timer_of ts) tested.0 (timers_none (map component_of cs) ts timed.0)

  pub have_ticks : described_refusal cs ts ≡ None → HaveTicks (described cs ts)
  have_ticks h i interval c at given =
      let counted = or_none _ _ h in
      let tested = or_none (components_refusal (map component_of cs)) _ counted.1 in
      let timed = or_none (timers_refusal (map component_of cs) ts) _ tested.1 in
      elim (either (map component_of cs) (map timer_of ts) i c at) [
        | inl here ↦
            let m = mapped_some component_of (slice_get cs i) c (sym (slice_get-map component_of cs i) ∙ here) in
            absurd (none-some interval (ap (λ (x : DagComponent). x.interval) m.2 ∙ given))
        | inr there ↦ each_timer (map component_of cs) ts there.0 interval c timed.0 there.1 given
      ]

  pub have_queues : HaveQueues (described cs ts)
  have_queues i c at j r reads =
      elim (either (map component_of cs) (map timer_of ts) i c at) [
        | inl here ↦ queues_of cs i c here j r reads
        | inr there ↦
            let m = mapped_some timer_of (slice_get ts there.0) c (sym (slice_get-map timer_of ts there.0) ∙ there.1) in
            one_waits (text_in (codes "name") (settings_of m.0)) j r (ap (λ (x : DagComponent). slice_get x.readers j) m.2 ∙ reads)
      ]
