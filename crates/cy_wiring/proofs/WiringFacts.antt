-- Components over numbered channels are a wiring where none of the tests refuses them.
use Rattle.std.proofs.Common.{ℕ, zero, suc, ◌≡◌, ◌+◌, ◌<◌, ◌≤◌, eqb, Bool, true, false, cond, List, [], ◌∷◌, length, map, take, slice_get, Option, Some, None, unwrap_or, option_map, option_and_then, is_some, codes, refl, sym, ap, ◌∙◌, inl, inr, arith}
use Rattle.std.proofs.lemmas.Bool.{false≢true, cases_order, or_left, or_right, eq-eqb, ne_eqb}
use Rattle.std.proofs.lemmas.List.{append_cancel_left, length-map}
use Rattle.std.proofs.lemmas.List.Folds.{list_any-append, list_any_at}
use Rattle.std.proofs.lemmas.Slice.Zip.{length-zip, seconds-zip}
use Rattle.std.proofs.lemmas.Iterator.Adapters.{position_from-zero}
use Rattle.std.proofs.lemmas.Option.{same_Some, none-some, slice_get-map, slice_get_within, get_or_from_slice_get}
use Rattle.std.proofs.lemmas.Slice.Eq.{bytes_eq-Decides}
use Rattle.std.specs.List.{list_any, flat_map, position_from, zip}
use Rattle.std.specs.Str.{bytes_eq}
use Rattle.cy_comp.specs.Kind.{is_kind_in_range, messages_needed}
use Rattle.cy_comp.specs.Wiring.{IsTimer, IsWiring, tick_channel, trigger_after, trigger_of as triggered_by, writer_from, writer_of}
use Rattle.cy_comp.specs.declared.kind.Kind.{Kind}
use Rattle.cy_comp.specs.declared.kind.Kind.TheVariants as kind
use Rattle.cy_comp.specs.declared.plan.Plan.{Plan}
use Rattle.cy_dag.specs.Classes.{class_of, readers_needed}
use Rattle.cy_dag.specs.DagFile.{HaveQueues, HaveTicks, IsTimer as IsTicked, components_refusal, tick_reader}
use Rattle.cy_wiring.specs.Triggers.{after, cycle_refusal, earlier_writer, ticks_at, ticks_on, ticks_refusal, timer_named, timer_written, trigger_in, trigger_of, triggers_of, writer_named, writers_at, writers_refusal}
use Rattle.cy_wiring.specs.Wiring.{AreConfigs, channels_of, mentions_of, names_of, number_in, outs_refusal, plan_of, plans_of, queue_of_first}
use Rattle.cy_dag.specs.declared.config.Config.{Config}
use Rattle.cy_dag.specs.declared.dag.DagComponent.{DagComponent}
use Rattle.cy_dag.specs.declared.dag.DagReader.{DagReader}
use Rattle.cy_dag.proofs.Found.{mapped_some, none_given, or_none}
use Rattle.cy_wiring.proofs.NameSteps.{behind_has, none_passes, number_has}
use Rattle.cy_wiring.proofs.PairSteps.{plan_at, zip_at, zip_none}
use Rattle.cy_dag.proofs.ReadFacts.{each_accepted, once_each, take_at, unmapped}
use Rattle.cy_wiring.proofs.TriggerCycles.{after_first, no_cycle}

-- A class reads as many messages as its components need readers.
kind_needs : (k : Kind) → messages_needed k ≡ readers_needed (class_of k)
kind_needs kind.Pass = refl
kind_needs (kind.Filter lo hi) = refl
kind_needs kind.Sum = refl
kind_needs kind.Count = refl
kind_needs kind.Max = refl
kind_needs (kind.Window n) = refl
kind_needs kind.Change = refl
kind_needs kind.Select = refl
kind_needs (kind.Hold delay) = refl
kind_needs (kind.Take n) = refl
kind_needs (kind.External answers) = refl

queue_some : (readers : List DagReader) → ((j : ℕ) (r : DagReader) → slice_get readers j ≡ Some r → 1 ≤ r.queue) → 1 ≤ queue_of_first readers
queue_some [] each = omega arith
queue_some (r ∷ rs) each = each 0 r refl

any_get : {A : Type 0} (q : A → Bool) (xs : List A) (i : ℕ) (x : A) → slice_get xs i ≡ Some x → q x ≡ true → list_any q xs ≡ true
any_get q xs i x at pass = list_any_at q xs i x (slice_get_within xs i x at) (ap q (get_or_from_slice_get xs i x x at) ∙ pass)

any_flat : {A B : Type 0} (q : B → Bool) (f : A → List B) (xs : List A) (i : ℕ) (x : A) → slice_get xs i ≡ Some x → list_any q (f x) ≡ true → list_any q (flat_map f xs) ≡ true
any_flat q f [] i x at has = absurd (none-some x at)
any_flat {A} q f (y ∷ xs) zero x at has = list_any-append q (f y) (flat_map f xs) ∙ or_left (list_any q (f y)) (list_any q (flat_map f xs)) (ap (λ (z : A). list_any q (f z)) (same_Some y x at) ∙ has)
any_flat q f (y ∷ xs) (suc i) x at has = list_any-append q (f y) (flat_map f xs) ∙ or_right (list_any q (f y)) (list_any q (flat_map f xs)) (any_flat q f xs i x at has)

itself : (name : List ℕ) → bytes_eq name name ≡ true
itself name = (bytes_eq-Decides name name).1 refl

-- Names that are kept have numbers of their own.
same_number : (names : List (List ℕ)) (x y : List ℕ) → list_any (λ n. bytes_eq n x) names ≡ true → list_any (λ n. bytes_eq n y) names ≡ true → number_in names x ≡ number_in names y → x ≡ y
same_number names x y has also same = same_Some x y (sym (number_has names x has) ∙ ap (slice_get names) same ∙ number_has names y also)

same_test : (names : List (List ℕ)) (x y : List ℕ) → list_any (λ n. bytes_eq n x) names ≡ true → list_any (λ n. bytes_eq n y) names ≡ true → eqb (number_in names x) (number_in names y) ≡ bytes_eq x y
same_test names x y has also = by_test (bytes_eq x y) refl
  where
    by_test : (b : Bool) → bytes_eq x y ≡ b → eqb (number_in names x) (number_in names y) ≡ b
    by_test true is = eq-eqb _ _ (ap (number_in names) ((bytes_eq-Decides x y).0 is))
    by_test false is = ne_eqb _ _ (λ e. false≢true (sym is ∙ (bytes_eq-Decides x y).1 (same_number names x y has also e)))

writers_same : (names : List (List ℕ)) (name : List ℕ) (ps : List (DagComponent × Config)) (from : ℕ) → list_any (λ n. bytes_eq n name) names ≡ true
    → ((i : ℕ) (p : DagComponent × Config) → slice_get ps i ≡ Some p → list_any (λ n. bytes_eq n p.1.out) names ≡ true)
    → writer_from (λ (p : Plan). p.out) from (plans_of names ps) (number_in names name) ≡ position_from (λ config. bytes_eq config.out name) from (map (λ p. p.1) ps)
writers_same names name [] from has each = refl
writers_same names name (p ∷ ps) from has each =
    rw (same_test names p.1.out name (each 0 p refl) has) (ap (cond (bytes_eq p.1.out name) (Some from)) (writers_same names name ps (from + 1) has (λ i. each (suc i))))

-- What a DAG keeps of its components.
pub record IsTested (cs : List DagComponent) : Type 0 where
  pub few : length cs ≤ 64
  pub tested : components_refusal cs ≡ None
  pub queues : HaveQueues cs
  pub ticks : HaveTicks cs

module _ (record_channels : List (List ℕ)) (cs : List DagComponent) (configs : List Config) (fit : AreConfigs cs configs) where
  abbrev ps : List (DagComponent × Config)
  ps = zip cs configs

  abbrev names : List (List ℕ)
  names = names_of record_channels ps

  abbrev plans : List Plan
  plans = plans_of names ps

  abbrev Has : List ℕ → Type 0
  Has name = list_any (λ n. bytes_eq n name) names ≡ true

  -- What components read and write is among the names.
  channel_named : (i : ℕ) (p : DagComponent × Config) (name : List ℕ) → slice_get ps i ≡ Some p → list_any (λ n. bytes_eq n name) (channels_of p) ≡ true → Has name
  channel_named i p name at has =
      behind_has [] (mentions_of record_channels ps) name (list_any-append (λ n. bytes_eq n name) record_channels (flat_map channels_of ps)
      ∙ or_right (list_any (λ n. bytes_eq n name) record_channels) (list_any (λ n. bytes_eq n name) (flat_map channels_of ps)) (any_flat (λ n. bytes_eq n name) channels_of ps i p at has))

  out_named : (i : ℕ) (p : DagComponent × Config) → slice_get ps i ≡ Some p → Has p.1.out
  out_named i p at =
      channel_named i p p.1.out at (list_any-append (λ n. bytes_eq n p.1.out) (map (λ r. r.channel) p.0.readers) (p.1.out ∷ [])
      ∙ or_right (list_any (λ n. bytes_eq n p.1.out) (map (λ r. r.channel) p.0.readers)) (list_any (λ n. bytes_eq n p.1.out) (p.1.out ∷ [])) (or_left (bytes_eq p.1.out p.1.out) false (itself p.1.out)))

  reader_named : (i : ℕ) (p : DagComponent × Config) (j : ℕ) (r : DagReader) → slice_get ps i ≡ Some p → slice_get p.0.readers j ≡ Some r → Has r.channel
  reader_named i p j r at reads =
      let channels = map (λ (e : DagReader). e.channel) p.0.readers in
      let here : slice_get channels j ≡ Some r.channel = slice_get-map (λ (e : DagReader). e.channel) p.0.readers j ∙ ap (option_map (λ (e : DagReader). e.channel)) reads in
      channel_named i p r.channel at (list_any-append (λ n. bytes_eq n r.channel) channels (p.1.out ∷ [])
      ∙ or_left (list_any (λ n. bytes_eq n r.channel) channels) (list_any (λ n. bytes_eq n r.channel) (p.1.out ∷ [])) (any_get (λ n. bytes_eq n r.channel) channels j r.channel here (itself r.channel)))

  -- The component at a place of the wiring.
  record At (i : ℕ) (a : Plan) : Type 0 where
    pair : DagComponent × Config
    here : slice_get ps i ≡ Some pair
    component : slice_get cs i ≡ Some pair.0
    config : slice_get configs i ≡ Some pair.1
    is : plan_of names pair ≡ a

  at_place : (i : ℕ) (a : Plan) → slice_get plans i ≡ Some a → At i a
  at_place i a h =
      let found = plan_at names ps i a h in
      let parts = zip_at cs configs i found.0 found.1 in
      record { pair = found.0; here = found.1; component = parts.0; config = parts.1; is = found.2 }

  -- A reader's number is that of a channel which the component reads.
  record ReaderAt (p : DagComponent × Config) (j n : ℕ) : Type 0 where
    reader : DagReader
    reads : slice_get p.0.readers j ≡ Some reader
    is : number_in names reader.channel ≡ n

  reader_at : (i : ℕ) (a : Plan) (w : At i a) (j n : ℕ) → slice_get a.readers j ≡ Some n → ReaderAt w.pair j n
  reader_at i a w j n h =
      let numbers = map (λ (r : DagReader). number_in names r.channel) w.pair.0.readers in
      let e : slice_get numbers j ≡ Some n = ap (λ (x : Plan). slice_get x.readers j) w.is ∙ h in
      let found = mapped_some (λ (r : DagReader). number_in names r.channel) (slice_get w.pair.0.readers j) n (sym (slice_get-map (λ (r : DagReader). number_in names r.channel) w.pair.0.readers j) ∙ e) in
      record { reader = found.0; reads = found.1; is = found.2 }

  reader_count : (i : ℕ) (a : Plan) (w : At i a) → length a.readers ≡ length w.pair.0.readers
  reader_count i a w = sym (ap (λ (x : Plan). length x.readers) w.is) ∙ length-map w.pair.0.readers (λ (r : DagReader). number_in names r.channel)

  module _ (tested : components_refusal cs ≡ None) where
    names_apart : (i j : ℕ) (c d : DagComponent) → i < j → slice_get cs i ≡ Some c → slice_get cs j ≡ Some d → c.name ≡ d.name → ⊥
    names_apart i j c d less here there same =
        none_passes (λ e. bytes_eq e.name d.name) (take j cs) i c (each_accepted cs j d tested there).own_name (take_at cs i j less ∙ here) ((bytes_eq-Decides c.name d.name).1 same)

    own_names : (i j : ℕ) (a b : Plan) → slice_get plans i ≡ Some a → slice_get plans j ≡ Some b → a.name ≡ b.name → i ≡ j
    own_names i j a b p q same =
        let v = at_place i a p in
        let w = at_place j b q in
        let names_same : v.pair.0.name ≡ w.pair.0.name = ap (λ (x : Plan). x.name) v.is ∙ same ∙ sym (ap (λ (x : Plan). x.name) w.is) in
        elim (cases_order i j) [
          | inl e ↦ e
          | inr other ↦ elim other [
            | inl less ↦ absurd (names_apart i j v.pair.0 w.pair.0 less v.component w.component names_same)
            | inr more ↦ absurd (names_apart j i w.pair.0 v.pair.0 more w.component v.component (sym names_same))
          ]
        ]

    readers_apart : (i : ℕ) (p : DagComponent × Config) → slice_get cs i ≡ Some p.0 → (j k : ℕ) (r s : DagReader) → j < k → slice_get p.0.readers j ≡ Some r
        → slice_get p.0.readers k ≡ Some s → r.channel ≡ s.channel → ⊥
    readers_apart i p at j k r s less here there same =
        let channels = map (λ (e : DagReader). e.channel) p.0.readers in
        let first : slice_get channels j ≡ Some r.channel = slice_get-map (λ (e : DagReader). e.channel) p.0.readers j ∙ ap (option_map (λ (e : DagReader). e.channel)) here in
        let second : slice_get channels k ≡ Some s.channel = slice_get-map (λ (e : DagReader). e.channel) p.0.readers k ∙ ap (option_map (λ (e : DagReader). e.channel)) there in
        let none = once_each channels k s.channel (each_accepted cs i p.0 tested at).own_readers second in
        false≢true (sym none ∙ any_get (λ n. bytes_eq n s.channel) (take k channels) j r.channel (take_at channels j k less ∙ first) ((bytes_eq-Decides r.channel s.channel).1 same))

    own_readers : (i : ℕ) (a : Plan) → slice_get plans i ≡ Some a → (j k n : ℕ) → slice_get a.readers j ≡ Some n → slice_get a.readers k ≡ Some n → j ≡ k
    own_readers i a h j k n p q =
        let w = at_place i a h in
        let r = reader_at i a w j n p in
        let s = reader_at i a w k n q in
        let same = same_number names r.reader.channel s.reader.channel (reader_named i w.pair j r.reader w.here r.reads) (reader_named i w.pair k s.reader w.here s.reads) (r.is ∙ sym s.is) in
        elim (cases_order j k) [
          | inl e ↦ e
          | inr other ↦ elim other [
            | inl less ↦ absurd (readers_apart i w.pair w.component j k r.reader s.reader less r.reads s.reads same)
            | inr more ↦ absurd (readers_apart i w.pair w.component k j s.reader r.reader more s.reads r.reads (sym same))
          ]
        ]

    enough : (i : ℕ) (a : Plan) → slice_get plans i ≡ Some a → messages_needed a.kind ≤ length a.readers
    enough i a h =
        let w = at_place i a h in
        let kinds : messages_needed a.kind ≡ readers_needed (class_of w.pair.1.kind) = sym (ap (λ (x : Plan). messages_needed x.kind) w.is) ∙ kind_needs w.pair.1.kind in
        let class = (fit.fit i w.pair.0 w.pair.1 w.component w.config).0 in
        let needs = (each_accepted cs i w.pair.0 tested w.component).needed in
        let named = ap (λ o. unwrap_or (option_map readers_needed o) 1) class in
        omega (arith, kinds, needs, named, reader_count i a w)

  -- No two components write one channel.
  module _ (apart : writers_refusal configs ≡ None) where
    outs_apart : (i j : ℕ) (c d : Config) → i < j → slice_get configs i ≡ Some c → slice_get configs j ≡ Some d → c.out ≡ d.out → ⊥
    unfolding writers_refusal
    outs_apart i j c d less here there same =
        let none = unmapped _ (earlier_writer configs j) (none_given (writers_at configs) j (length configs) (slice_get_within configs j d there) apart) in
        let unwritten : writer_named (take j configs) d.out ≡ None = sym (ap (option_and_then (λ (config : Config). writer_named (take j configs) config.out)) there) ∙ none in
        none_passes (λ config. bytes_eq config.out d.out) (take j configs) i c unwritten (take_at configs i j less ∙ here) ((bytes_eq-Decides c.out d.out).1 same)

    own_outs : (i j : ℕ) (a b : Plan) → slice_get plans i ≡ Some a → slice_get plans j ≡ Some b → a.out ≡ b.out → i ≡ j
    own_outs i j a b p q same =
        let v = at_place i a p in
        let w = at_place j b q in
        let numbers : number_in names v.pair.1.out ≡ number_in names w.pair.1.out = ap (λ (x : Plan). x.out) v.is ∙ same ∙ sym (ap (λ (x : Plan). x.out) w.is) in
        let outs = same_number names v.pair.1.out w.pair.1.out (out_named i v.pair v.here) (out_named j w.pair w.here) numbers in
        elim (cases_order i j) [
          | inl e ↦ e
          | inr other ↦ elim other [
            | inl less ↦ absurd (outs_apart i j v.pair.1 w.pair.1 less v.config w.config outs)
            | inr more ↦ absurd (outs_apart j i w.pair.1 v.pair.1 more w.config v.config (sym outs))
          ]
        ]

  -- The triggers of numbered components are those that the files name.
  writer_same : (name : List ℕ) → Has name → writer_of plans (number_in names name) ≡ writer_named configs name
  writer_same name has =
      writers_same names name ps 0 has out_named ∙ ap (position_from (λ (config : Config). bytes_eq config.out name) 0) (seconds-zip cs configs fit.each)
      ∙ sym (position_from-zero (λ (config : Config). bytes_eq config.out name) configs)

  abbrev first_of_plan : Option Plan → Option ℕ
  first_of_plan o = option_and_then (λ (p : Plan). option_and_then (writer_of plans) (slice_get p.readers 0)) o

  reader_same : (c : ℕ) (p : DagComponent × Config) → slice_get ps c ≡ Some p
      → option_and_then (writer_of plans) (slice_get (map (λ r. number_in names r.channel) p.0.readers) 0) ≡ trigger_of configs p.0
  reader_same c p at = rw (slice_get-map (λ (r : DagReader). number_in names r.channel) p.0.readers 0) (by_reader (slice_get p.0.readers 0) refl)
    where
      by_reader : (o : Option DagReader) → slice_get p.0.readers 0 ≡ o
          → option_and_then (writer_of plans) (option_map (λ (r : DagReader). number_in names r.channel) o) ≡ option_and_then (λ (r : DagReader). writer_named configs r.channel) o
      by_reader None is = refl
      by_reader (Some r) is = writer_same r.channel (reader_named c p 0 r at is)

  trigger_same : (c : ℕ) → triggered_by plans c ≡ trigger_in (triggers_of cs configs) c
  trigger_same c = by_pair (slice_get ps c) refl
    where
      by_pair : (o : Option (DagComponent × Config)) → slice_get ps c ≡ o → triggered_by plans c ≡ trigger_in (triggers_of cs configs) c
      by_pair None is =
          ap first_of_plan (slice_get-map (plan_of names) ps c ∙ ap (option_map (plan_of names)) is)
          ∙ sym (ap (option_and_then (λ (t : Option ℕ). t)) (slice_get-map (trigger_of configs) cs c ∙ ap (option_map (trigger_of configs)) (zip_none cs configs c fit.each is)))
      by_pair (Some p) is =
          ap first_of_plan (slice_get-map (plan_of names) ps c ∙ ap (option_map (plan_of names)) is) ∙ reader_same c p is
          ∙ sym (ap (option_and_then (λ (t : Option ℕ). t)) (slice_get-map (trigger_of configs) cs c ∙ ap (option_map (trigger_of configs)) (zip_at cs configs c p is).0))

  follow : (n : ℕ) (o : Option ℕ) → ((d : ℕ) → trigger_after plans n d ≡ after (triggers_of cs configs) n d)
      → option_and_then (trigger_after plans n) o ≡ option_and_then (after (triggers_of cs configs) n) o
  follow n None each = refl
  follow n (Some d) each = each d

  after_same : (n c : ℕ) → trigger_after plans n c ≡ after (triggers_of cs configs) n c
  after_same zero c = refl
  after_same (suc n) c =
      ap (option_and_then (trigger_after plans n)) (trigger_same c) ∙ follow n (trigger_in (triggers_of cs configs) c) (after_same n) ∙ sym (after_first (triggers_of cs configs) n c)

  -- The ticks of a timer component stand on a channel of its own, which no component writes.
  module _ (ticks : HaveTicks cs) where
    timer_at : (i interval : ℕ) (a : Plan) (w : At i a) → a.interval ≡ Some interval → IsTicked w.pair.0 interval
    timer_at i interval a w given = ticks i interval w.pair.0 w.component (ap (λ (x : Plan). x.interval) w.is ∙ given)

    -- The channel of a timer component's ticks is told by its name.
    ticks_named : (c : DagComponent) (interval : ℕ) (r : DagReader) → IsTicked c interval → slice_get c.readers 0 ≡ Some r → r.channel ≡ tick_channel c.name
    ticks_named c interval r is reads =
        let same = same_Some (tick_reader c.name) r (ap (λ (rs : List DagReader). slice_get rs 0) (sym is.readers) ∙ reads) in
        sym (ap (λ (x : DagReader). x.channel) same)

    module _ (unwritten : ticks_refusal cs configs ≡ None) where
      ticks_apart : (i j interval : ℕ) (c : DagComponent) (config : Config) (k : ℕ) (r : DagReader) → slice_get cs i ≡ Some c → c.interval ≡ Some interval → slice_get c.readers k ≡ Some r
          → slice_get configs j ≡ Some config → r.channel ≡ config.out → ⊥
      unfolding ticks_refusal
      ticks_apart i j interval c config k r here given reads there same =
          let none = unmapped _ (timer_written cs configs j) (none_given (ticks_at cs configs) j (length configs) (slice_get_within configs j config there) unwritten) in
          let unnamed : timer_named cs config.out ≡ None = sym (ap (option_and_then (λ (x : Config). timer_named cs x.out)) there) ∙ none in
          let ticked : is_some c.interval ≡ true = ap is_some given in
          let reading = any_get (λ (e : DagReader). bytes_eq e.channel config.out) c.readers k r reads ((bytes_eq-Decides r.channel config.out).1 same) in
          none_passes (ticks_on config.out) cs i c unnamed here (rw (ticked, reading) refl)

      is_timer : (i interval : ℕ) (a : Plan) → slice_get plans i ≡ Some a → a.interval ≡ Some interval → IsTimer names plans a interval
      is_timer i interval a h given =
          let w = at_place i a h in
          let t = timer_at i interval a w given in
          record {
            some = t.some;
            reader = reader_count i a w ∙ ap (λ (rs : List DagReader). length rs) t.readers;
            queue = sym (ap (λ (x : Plan). x.queue) w.is) ∙ ap queue_of_first t.readers;
            named = λ r reads.
                let e = reader_at i a w 0 r reads in
                let has = number_has names e.reader.channel (reader_named i w.pair 0 e.reader w.here e.reads) in
                let channel = ticks_named w.pair.0 interval e.reader t e.reads ∙ ap tick_channel (ap (λ (x : Plan). x.name) w.is) in
                ap (slice_get names) (sym e.is) ∙ has ∙ ap Some channel;
            unwritten = λ j r b at reads writes.
                let v = at_place j b at in
                let e = reader_at i a w 0 r reads in
                let numbers : number_in names e.reader.channel ≡ number_in names v.pair.1.out = e.is ∙ sym writes ∙ sym (ap (λ (x : Plan). x.out) v.is) in
                let same = same_number names e.reader.channel v.pair.1.out (reader_named i w.pair 0 e.reader w.here e.reads) (out_named j v.pair v.here) numbers in
                ticks_apart i j interval w.pair.0 v.pair.1 0 e.reader w.component (ap (λ (x : Plan). x.interval) w.is ∙ given) e.reads v.config same;
          }

    own_ticks : components_refusal cs ≡ None → (i j m n r : ℕ) (a b : Plan) → slice_get plans i ≡ Some a → slice_get plans j ≡ Some b → a.interval ≡ Some m → b.interval ≡ Some n
        → slice_get a.readers 0 ≡ Some r → slice_get b.readers 0 ≡ Some r → i ≡ j
    own_ticks tested i j m n r a b p q given other reads also =
        let v = at_place i a p in
        let w = at_place j b q in
        let d = reader_at i a v 0 r reads in
        let e = reader_at j b w 0 r also in
        let same = same_number names d.reader.channel e.reader.channel (reader_named i v.pair 0 d.reader v.here d.reads) (reader_named j w.pair 0 e.reader w.here e.reads) (d.is ∙ sym e.is) in
        let channels : tick_channel v.pair.0.name ≡ tick_channel w.pair.0.name =
        sym (ticks_named v.pair.0 m d.reader (timer_at i m a v given) d.reads) ∙ same ∙ ticks_named w.pair.0 n e.reader (timer_at j n b w other) e.reads in
        let named = append_cancel_left (codes "@timer/") v.pair.0.name w.pair.0.name channels in
        own_names tested i j a b p q (sym (ap (λ (x : Plan). x.name) v.is) ∙ named ∙ ap (λ (x : Plan). x.name) w.is)

  all_wired : length cs ≤ 64 → components_refusal cs ≡ None → HaveQueues cs → HaveTicks cs → writers_refusal configs ≡ None → ticks_refusal cs configs ≡ None → cycle_refusal (triggers_of cs configs) ≡ None → IsWiring names plans
  all_wired few tested queues ticks apart unwritten none = record {
    few = omega (arith, length-map ps (plan_of names), length-zip cs configs);
    own_names = own_names tested;
    in_range = λ i a h.
        let w = at_place i a h in
        sym (ap (λ (x : Plan). is_kind_in_range x.kind) w.is) ∙ (fit.fit i w.pair.0 w.pair.1 w.component w.config).1;
    needed = enough tested;
    some_reader = λ i a h.
        let w = at_place i a h in
        omega (arith, reader_count i a w, (each_accepted cs i w.pair.0 tested w.component).some_reader);
    few_readers = λ i a h.
        let w = at_place i a h in
        omega (arith, reader_count i a w, (each_accepted cs i w.pair.0 tested w.component).few_readers);
    own_readers = own_readers tested;
    readers_named = λ i a h j n p.
        let w = at_place i a h in
        let r = reader_at i a w j n p in
        omega (arith, r.is, slice_get_within names (number_in names r.reader.channel) r.reader.channel (number_has names r.reader.channel (reader_named i w.pair j r.reader w.here r.reads)));
    outs_named = λ i a h.
        let w = at_place i a h in
        omega (arith, ap (λ (x : Plan). x.out) w.is, slice_get_within names (number_in names w.pair.1.out) w.pair.1.out (number_has names w.pair.1.out (out_named i w.pair w.here)));
    queues = λ i a h.
        let w = at_place i a h in
        omega (arith, ap (λ (x : Plan). x.queue) w.is, queue_some w.pair.0.readers (queues i w.pair.0 w.component));
    own_outs = own_outs apart;
    timers = is_timer ticks unwritten;
    own_ticks = own_ticks ticks tested;
    no_cycle = λ n c h. no_cycle (triggers_of cs configs) none n c (sym (after_same (suc n) c) ∙ h);
  }

  pub is_wiring : IsTested cs → outs_refusal cs configs ≡ None → cycle_refusal (triggers_of cs configs) ≡ None → IsWiring names plans
  is_wiring is apart none =
      let outs = or_none (writers_refusal configs) _ apart in
      let ticked = or_none (ticks_refusal cs configs) _ outs.1 in
      all_wired is.few is.tested is.queues is.ticks outs.0 ticked.0 none

-- The same of what the parts of the code have made.
pub made_wiring : (record_channels : List (List ℕ)) (cs lent : List DagComponent) (configs : List Config) (names : List (List ℕ)) (plans : List Plan) → lent ≡ cs → AreConfigs cs configs
    → IsTested cs → outs_refusal lent configs ≡ None → cycle_refusal (triggers_of lent configs) ≡ None
    → names ≡ names_of record_channels (zip lent configs) → plans ≡ plans_of names (zip lent configs) → IsWiring names plans
made_wiring record_channels cs lent configs names plans same fit tested apart none named planned =
    rw (planned, named, same) (is_wiring record_channels cs configs fit tested (ap (λ (x : List DagComponent). outs_refusal x configs) (sym same) ∙ apart)
    (ap (λ (x : List DagComponent). cycle_refusal (triggers_of x configs)) (sym same) ∙ none))
