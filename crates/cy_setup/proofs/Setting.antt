-- A replay is set up: its files are read, and what they say is judged.
use Rattle.std.specs.Prelude.{⊤}
use Rattle.std.proofs.Common.{◌^◌, ℕ, ◌+◌, ◌≡◌, ◌≤◌, ◌<◌, ◌⊎◌, ◌++◌, List, [], ◌∷◌, length, map, take, get_or, slice_get, Option, Some, None, IfSome, Result, Ok, Err, refl, sym, ap, subst, ◌∙◌, inl, inr, arith}
use Rattle.std.specs.List.{zip}
use Rattle.std.specs.List.Sorted.{IsPermutation}
use Rattle.std.proofs.lemmas.Bool.{le-ltb, lt-ltb}
use Rattle.std.proofs.lemmas.List.{length-map, take_more, map-append}
use Rattle.std.proofs.lemmas.List.Sorted.{length_permutation}
use Rattle.std.proofs.lemmas.Option.{slice_get-get_or}
use Rattle.cy_store.specs.Files.{Files}
use Rattle.cy_store.specs.Reads.{Reads, Accepts, ◌>>=◌}
use Rattle.cy_store.specs.Store.{StoreView}
use Rattle.cy_msg.specs.Once.{IsOnce}
use Rattle.cy_msg.specs.Placement.{scan_of}
use Rattle.cy_msg.specs.declared.play_list.PlayList.{PlayList}
use Rattle.cy_comp.specs.declared.wiring.Wiring.{Wiring}
use Rattle.cy_sched.specs.Placing.{IsPlaced, numbers_below}
use Rattle.cy_section.specs.declared.types.Channel.{Channel}
use Rattle.cy_wiring.specs.Wiring.{names_of, plans_of, wire_refusal, channels_of as mentioned}
use Rattle.std.specs.List.{flat_map}
use Rattle.cy_dag.specs.declared.config.Config.{Config}
use Rattle.cy_dag.specs.declared.dag.DagComponent.{DagComponent}
use Rattle.cy_dag.specs.declared.error.DagError.{DagError}
use Rattle.cy_msg.specs.declared.filter.Filter.{Filter}
use Rattle.wake_core.specs.TapeLaws.{PutLaws}
use Rattle.cy_reader.specs.declared.known.Known.{Known}
use Rattle.cy_reader.specs.Record.{Contents, named_only}
use Rattle.cy_value.specs.declared.values.ChannelValue.{ChannelValue}
use Rattle.cy_reader.specs.declared.error.LoadError.{LoadError}
use Rattle.cy_reader.specs.declared.error.LoadError.TheVariants as load_error
use Rattle.cy_play_list.specs.Play.{Choice, PlayAnswer, AreNamed, IsTooMany, chosen, most_played}
use Rattle.wake_core.specs.Run.{routes_of}
use Rattle.wake_core.specs.Planned.{planned}
use Rattle.wake_core.specs.declared.entries.TheConstants.{MOST_PLANNED}
use Rattle.cy_setup.specs.declared.configuration.Configuration.{Configuration}
use Rattle.cy_setup.specs.declared.error.Fault.{Fault}
use Rattle.cy_setup.specs.declared.error.Fault.TheVariants as fault
use Rattle.cy_setup.specs.declared.error.Refusal.{Refusal}
use Rattle.cy_setup.specs.declared.error.SetupError.{SetupError}
use Rattle.cy_setup.specs.declared.error.SetupError.TheVariants.{Memory, Refused}
use Rattle.cy_setup.specs.declared.setup.Replay.{Replay}
use Rattle.cy_setup.specs.Comes.{ComesTo, IsJudged}
use Rattle.cy_setup.specs.Configuration as files
use Rattle.cy_setup.specs.Configuration.{Configured, configuration_in}
use Rattle.cy_setup.specs.Faults.{in_file, unless}
use Rattle.cy_setup.specs.private.Judged.{judged_over}
use Rattle.cy_setup.specs.Listing.{AreCounts, IsListed, record_in, channels_of, counts_of, messages_in, played_in, planned_in}
use Rattle.cy_setup.specs.Passing.{passing, type_read}
use Rattle.cy_setup.specs.Steps.{IsRecordFault}
use Rattle.cy_msg.specs.Request.{Components, Request, OfFiles, OfPass}
use Rattle.cy_setup.specs.Setup.{Replayed, IsAsked, IsAskedBy, IsSetUp, judged_in, configured_in, passed_in, replay_through, replay_in, replayed}
use Rattle.cy_setup.specs.Steps.{configured}
use Rattle.cy_setup.specs.Stops.{stop_in, stop_of}
use Rattle.cy_setup.specs.Wiring.{Wired, wired_by, wired_of, wiring_in}
use Rattle.cy_setup.proofs.Coming.{then, comes_err, comes_then}
use Rattle.cy_setup.proofs.Limits.{limited_fits}
use Rattle.cy_setup.proofs.Judging.{judges_err, judges_then, judges_ok, judges_memory, judges_refused, judged_comes}
use Rattle.cy_setup.proofs.Listed.{counts_are, listed_below, may_play}
use Rattle.cy_setup.proofs.Playable.{all_named, some_name, some_plan}

-- the names of a record's channels, one more
pub name_more : (whole : Contents) (n : ℕ) (c : Channel) (name : List ℕ) (names : List (List ℕ)) → n < length whole.channels → IfSome (slice_get whole.channels n) (λ known. c ≡ known.channel) → name ≡ c.name
    → names ≡ map (λ known. known.channel.name) (take n whole.channels) → names ++ name ∷ [] ≡ map (λ known. known.channel.name) (take (n + 1) whole.channels)
name_more whole n c name names less is called so_far =
    let known = get_or whole.channels n (named_only []) in
    let same : c ≡ known.channel = rw (slice_get-get_or whole.channels n (named_only []) less) at is in
    ap (λ (ns : List (List ℕ)). ns ++ name ∷ []) so_far ∙ ap (λ (x : List ℕ). map (λ (k : Known). k.channel.name) (take n whole.channels) ++ x ∷ []) (called ∙ ap (λ (d : Channel). d.name) same)
    ∙ sym (ap (map (λ (k : Known). k.channel.name)) (take_more whole.channels n (named_only []) less) ∙ map-append (λ (k : Known). k.channel.name) (take n whole.channels) (known ∷ []))

judged_at : (file : List ℕ) (whole : Contents) (choice : Choice) (list : PlayList) → (let answer = Ok list in PlayAnswer whole choice answer) → (let r : Result PlayList SetupError = Ok list in IsJudged (λ l. length l.places) (messages_in file whole choice) r)
judged_at file whole choice list a =
    judges_ok (λ (l : PlayList). length l.places) (messages_in file whole choice) list
    (rw (le-ltb most_played (length (chosen whole choice)) a.few) (ap Accepts (sym (length_permutation (chosen whole choice) list.places a.list.order.same))))

-- not too many are played
pub listed_judged : (file : List ℕ) (whole : Contents) (names : List (List ℕ)) (filter : Filter) (written outs : List ℕ) (values said : List ChannelValue) (list : PlayList) → written ≡ outs → values ≡ said
    → (let choice : Choice = record { names = names; filter = filter; written = written; values = values } in let answer = Ok list in PlayAnswer whole choice answer)
    → (let choice : Choice = record { names = names; filter = filter; written = outs; values = said } in let r : Result PlayList SetupError = Ok list in IsJudged (λ l. length l.places) (messages_in file whole choice) r)
listed_judged file whole names filter written outs values said list is same a =
    let P : List ℕ → Type 0 = λ ws. let choice : Choice = record { names = names; filter = filter; written = ws; values = said } in let r : Result PlayList SetupError = Ok list in IsJudged (λ (l : PlayList). length l.places) (messages_in file whole choice) r in
    let Q : List ChannelValue → Type 0 = λ vs. let choice : Choice = record { names = names; filter = filter; written = written; values = vs } in let r : Result PlayList SetupError = Ok list in IsJudged (λ (l : PlayList). length l.places) (messages_in file whole choice) r in
    subst P is (subst Q same (judged_at file whole record { names = names; filter = filter; written = written; values = values } list a))

-- too many are played, and this is told; or there is no memory
list_refused : (file : List ℕ) (whole : Contents) (choice : Choice) (e : LoadError) (answer : SetupError) → (e ≡ load_error.Memory) ⊎ IsTooMany whole choice e → IsRecordFault file e answer
    → (let r : Result PlayList SetupError = Err answer in IsJudged (λ l. length l.places) (messages_in file whole choice) r)
list_refused file whole choice e answer (inl none) is = judges_memory (λ (l : PlayList). length l.places) (messages_in file whole choice) answer (subst (λ (f : LoadError). IsRecordFault file f answer) none is)
list_refused file whole choice e answer (inr many) is = told (subst (λ (f : LoadError). IsRecordFault file f answer) many.1 is)
  where
    many_fault : Fault
    many_fault = fault.Record (load_error.TooManyPlayed (length (chosen whole choice)))

    told : (answer ≡ Memory) ⊎ (answer ≡ Refused record { file = file; fault = many_fault })
        → (let r : Result PlayList SetupError = Err answer in IsJudged (λ l. length l.places) (messages_in file whole choice) r)
    told (inl none) = judges_memory (λ (l : PlayList). length l.places) (messages_in file whole choice) answer none
    told (inr fits) =
        subst (λ (a : SetupError). let r : Result PlayList SetupError = Err a in IsJudged (λ l. length l.places) (messages_in file whole choice) r) (sym fits)
        (judges_refused (λ (l : PlayList). length l.places) (messages_in file whole choice) _ (rw (lt-ltb most_played (length (chosen whole choice)) many.0) refl))

pub listed_refused : (file : List ℕ) (whole : Contents) (names : List (List ℕ)) (filter : Filter) (written outs : List ℕ) (values said : List ChannelValue) (e : LoadError) (answer : SetupError) → written ≡ outs → values ≡ said
    → (let choice : Choice = record { names = names; filter = filter; written = written; values = values } in (e ≡ load_error.Memory) ⊎ IsTooMany whole choice e) → IsRecordFault file e answer
    → (let choice : Choice = record { names = names; filter = filter; written = outs; values = said } in let r : Result PlayList SetupError = Err answer in IsJudged (λ l. length l.places) (messages_in file whole choice) r)
listed_refused file whole names filter written outs values said e answer is same due told =
    let P : List ℕ → Type 0 = λ ws. let choice : Choice = record { names = names; filter = filter; written = ws; values = said } in let r : Result PlayList SetupError = Err answer in IsJudged (λ (l : PlayList). length l.places) (messages_in file whole choice) r in
    let Q : List ChannelValue → Type 0 = λ vs. let choice : Choice = record { names = names; filter = filter; written = written; values = vs } in let r : Result PlayList SetupError = Err answer in IsJudged (λ (l : PlayList). length l.places) (messages_in file whole choice) r in
    subst P is (subst Q same (list_refused file whole record { names = names; filter = filter; written = written; values = values } e answer due told))

-- a wiring is that of its functions of files
wired_is : (dag : List ℕ) (refusal : Option DagError) (x y : Wired) → in_file dag fault.Dag (unless refusal x) ≡ Accepts y → x ≡ y
wired_is dag None x y e = cc
wired_is dag (Some f) x y e = absurd cc

module _ (file : List ℕ) (r : Request) (conf : Configuration) (recorded : Contents) where
  -- the wiring is in the way
  pub wiring_stops : (e : SetupError) → (let q : Result Wiring SetupError = Err e in IsJudged wired_by (wiring_in file (channels_of recorded) (configured conf)) q)
      → (let q : Result Replay SetupError = Err e in IsJudged replayed (judged_in file r (configured conf) recorded) q)
  wiring_stops e stops = judges_err wired_by replayed (wiring_in file (channels_of recorded) (configured conf)) (judged_over file r (configured conf) recorded) e stops

  -- or there is one, and what is judged over it stands
  pub wiring_then : (w : Wiring) (q : Result Replay SetupError) → (let made : Result Wiring SetupError = Ok w in IsJudged wired_by (wiring_in file (channels_of recorded) (configured conf)) made)
      → IsJudged replayed (judged_over file r (configured conf) recorded (wired_by w)) q → IsJudged replayed (judged_in file r (configured conf) recorded) q
  wiring_then w q made judged = judges_then replayed (wiring_in file (channels_of recorded) (configured conf)) (judged_over file r (configured conf) recorded) (wired_by w) q made.accepted judged

  pub wiring_is : (w : Wiring) → (let made : Result Wiring SetupError = Ok w in IsJudged wired_by (wiring_in file (channels_of recorded) (configured conf)) made) → wired_of (channels_of recorded) (configured conf) ≡ wired_by w
  wiring_is w made = wired_is file (wire_refusal (channels_of recorded) conf.dag.components conf.configs) (wired_of (channels_of recorded) (configured conf)) (wired_by w) made.accepted

module _ (file : List ℕ) (r : Request) (conf : Configuration) (recorded : Contents) (w : Wiring) (is_wired : wired_of (channels_of recorded) (configured conf) ≡ wired_by w) where
  abbrev components : List (DagComponent × Config)
  components = zip conf.dag.components conf.configs

  pub channels_named : AreNamed recorded w.names
  channels_named = all_named recorded w.names (flat_map mentioned components) (sym (ap (λ (x : Wired). x.names) is_wired))

  plans_are : w.plans ≡ plans_of (names_of (channels_of recorded) components) components
  plans_are = sym (ap (λ (x : Wired). x.plans) is_wired)

  pub some_names : 0 < length w.names
  some_names = some_name w.names w.plans w.lawful (some_plan (names_of (channels_of recorded) components) conf.dag.components conf.configs w.plans conf.dag.some conf.fit.each plans_are)

  pub as_many : length w.plans ≡ length conf.dag.components
  as_many = ap length plans_are ∙ length-map components _ ∙ zipped conf.dag.components conf.configs conf.fit.each
    where
      zipped : (xs : List DagComponent) (ys : List Config) → length ys ≡ length xs → length (zip xs ys) ≡ length xs
      zipped [] ys e = refl
      zipped (x ∷ xs) [] e = absurd (omega (arith, e))
      zipped (x ∷ xs) (y ∷ ys) e = let rest : length ys ≡ length xs = omega (arith, e) in let so = zipped xs ys rest in omega (arith, so)

  -- what follows the play list
  abbrev with_played : ℕ → Reads Refusal Replayed
  with_played played = planned_in r.input (wired_by w) (counts_of recorded r.filter (wired_by w)) >>= λ planned. Accepts record { configured = configured conf; contents = recorded; wired = wired_by w }

  -- what follows the stop
  abbrev with_stop : ⊤ → Reads Refusal Replayed
  with_stop found = played_in r.input recorded r.filter (wired_by w) >>= with_played

  abbrev over : Reads Refusal Replayed
  over = judged_over file r (configured conf) recorded (wired_by w)

  abbrev pub Stops : Result ⊤ SetupError → Type 0
  Stops q = IsJudged (λ found. found) (stop_in file r.stop (wired_by w)) q

  -- the stop is in the way
  pub stop_stops : {X : Type 0} (v : X → Replayed) (e : SetupError) → Stops (Err e) → (let q : Result X SetupError = Err e in IsJudged v over q)
  stop_stops v e stops = judges_err (λ found. found) v (stop_in file r.stop (wired_by w)) with_stop e stops

  -- the messages that are played are in the way
  pub list_stops : {X : Type 0} (v : X → Replayed) (e : SetupError) (found : ⊤) → Stops (Ok found) → (let q : Result PlayList SetupError = Err e in IsJudged (λ (l : PlayList). length l.tokens) (played_in r.input recorded r.filter (wired_by w)) q)
      → (let q : Result X SetupError = Err e in IsJudged v over q)
  list_stops v e found passes stops =
      judges_then v (stop_in file r.stop (wired_by w)) with_stop found (Err e) passes.accepted (judges_err (λ (l : PlayList). length l.tokens) v (played_in r.input recorded r.filter (wired_by w)) with_played e stops)

  module _ (list : PlayList) (counts : List ℕ) (found : ⊤) (passes : Stops (Ok found)) (listed : let q : Result PlayList SetupError = Ok list in IsJudged (λ (l : PlayList). length l.tokens) (played_in r.input recorded r.filter (wired_by w)) q)
      (is : IsListed recorded r.filter (wired_by w) list) (are : AreCounts (length w.names) list.tokens counts) where
    after : {X : Type 0} (v : X → Replayed) (q : Result X SetupError) → IsJudged v (with_played (length list.tokens)) q → IsJudged v over q
    after v q j = judges_then v (stop_in file r.stop (wired_by w)) with_stop found q passes.accepted (judges_then v (played_in r.input recorded r.filter (wired_by w)) with_played (length list.tokens) q listed.accepted j)

    pub counted : counts ≡ counts_of recorded r.filter (wired_by w)
    counted = counts_are recorded r.filter (wired_by w) w.lawful list is counts are

    pub planned_stops : {X : Type 0} (v : X → Replayed) (e : SetupError) → (let q : Result ℕ SetupError = Err e in IsJudged (λ n. n) (planned_in r.input (wired_by w) counts) q) → (let q : Result X SetupError = Err e in IsJudged v over q)
    planned_stops v e stops =
        after v (Err e) (judges_err (λ n. n) v (planned_in r.input (wired_by w) (counts_of recorded r.filter (wired_by w))) (λ planned. Accepts record { configured = configured conf; contents = recorded; wired = wired_by w }) e
        (subst (λ cs. let q : Result ℕ SetupError = Err e in IsJudged (λ n. n) (planned_in r.input (wired_by w) cs) q) counted stops))

    pub all_judged : {X : Type 0} (v : X → Replayed) (n : ℕ) (x : X) → (let q : Result ℕ SetupError = Ok n in IsJudged (λ n. n) (planned_in r.input (wired_by w) counts) q) → (let y : Replayed = record { configured = configured conf; contents = recorded; wired = wired_by w } in y ≡ v x)
        → (let q : Result X SetupError = Ok x in IsJudged v over q)
    all_judged v n x fits same =
        after v (Ok x) (judges_then v (planned_in r.input (wired_by w) (counts_of recorded r.filter (wired_by w))) (λ planned. Accepts record { configured = configured conf; contents = recorded; wired = wired_by w }) n (Ok x)
        (subst (λ cs. planned_in r.input (wired_by w) cs ≡ Accepts n) counted fits.accepted) (judges_ok v (Accepts record { configured = configured conf; contents = recorded; wired = wired_by w }) x (ap Accepts same)))

-- no more are planned than can be
pub planned_few : (file : List ℕ) (w : Wired) (counts : List ℕ) (n : ℕ) → (let q : Result ℕ SetupError = Ok n in IsJudged (λ n. n) (planned_in file w counts) q) → planned (routes_of w.plans) counts ≤ MOST_PLANNED
planned_few file w counts n fits = (limited_fits file MOST_PLANNED fault.TooMany (planned (routes_of w.plans) counts) n fits.accepted).0

-- what is set up
pub is_set_up : PutLaws → (r : Request) (x : Replay) → IsListed x.recorded r.filter (wired_by x.wiring) x.list → x.stop ≡ stop_of r.stop (wired_by x.wiring) x.list.tokens → IsPlaced x.configuration.sched (map (λ c. c.name) x.configuration.dag.components) x.placement.contexts
    → AreCounts (length x.wiring.names) x.list.tokens x.counts → x.counts ≡ counts_of x.recorded r.filter (wired_by x.wiring) → planned (routes_of x.wiring.plans) x.counts ≤ MOST_PLANNED → 0 < length x.wiring.names
    → IsPermutation (numbers_below (length x.configuration.dag.components)) (scan_of x.placement.contexts) → length x.wiring.plans ≡ length x.configuration.dag.components → IsOnce x.wiring.names → IsSetUp r x
is_set_up put r x listed stopped placed are counted few some moved many once = record {
  listed = listed;
  stopped = stopped;
  placed = placed;
  counted = counted;
  many = are.many;
  once = once;
  limited = few;
  named = listed_below x.recorded r.filter (wired_by x.wiring) x.wiring.lawful x.list listed some;
  playable = may_play x.recorded r.filter (wired_by x.wiring) x.wiring.lawful x.list listed put x.counts (scan_of x.placement.contexts) r.stop x.stop stopped are (subst (λ n. IsPermutation (numbers_below n) (scan_of x.placement.contexts)) (sym many) moved);
}

-- what is judged behind the record
abbrev pub with_record : List ℕ → Request → Configured → Contents → Files → Reads Refusal Replayed
with_record file r c contents m = judged_in file r c contents

abbrev pub ReadsRecord : Request → StoreView → StoreView → Result Contents SetupError → Type 0
ReadsRecord r old new q = ComesTo (λ c. c) (record_in r.input) (λ file. file ≡ r.input) old new q

record_read : (r : Request) (next : Contents → Reads Refusal Replayed) (recorded : Contents) (q : Result Replay SetupError) (old new : StoreView) → ReadsRecord r old new (Ok recorded) → IsJudged replayed (next recorded) q
    → ComesTo replayed (then (record_in r.input) (λ contents m. next contents)) (λ file. file ≡ r.input) old new q
record_read r next recorded q old new came judged =
    comes_then replayed (record_in r.input) (λ contents m. next contents) (λ file. file ≡ r.input) (λ file. file ≡ r.input) old new new recorded q record { same = came.same; counts = came.accepted.0 } came.accepted.1 (λ file asked. asked)
    (judged_comes replayed (next recorded) (λ file. file ≡ r.input) new q judged)

-- the configuration files, and the record behind them
module _ (dag : List ℕ) (sched : Option (List ℕ)) (r : Request) where
  abbrev pub with_configuration : Configured → Files → Reads Refusal Replayed
  with_configuration c = then (record_in r.input) (with_record dag r c)

  abbrev pub ReadsConfiguration : StoreView → StoreView → Result Configuration SetupError → Type 0
  ReadsConfiguration old new q = ComesTo configured (configuration_in dag sched) (files.IsAsked dag sched old.files) old new q

  abbrev pub SetsUp : StoreView → StoreView → Result Replay SetupError → Type 0
  SetsUp old new q = ComesTo replayed (configured_in dag sched r) (IsAskedBy (OfFiles dag sched) r.input old.files) old new q

  pub configuration_stops : (old new : StoreView) (e : SetupError) → ReadsConfiguration old new (Err e) → SetsUp old new (Err e)
  configuration_stops old new e came = comes_err replayed (configuration_in dag sched) with_configuration (IsAskedBy (OfFiles dag sched) r.input old.files) old new e (λ file asked. inr asked) came

  configuration_read : (conf : Configuration) (q : Result Replay SetupError) (old mid new : StoreView) → ReadsConfiguration old mid (Ok conf) → ComesTo replayed (with_configuration (configured conf)) (λ file. file ≡ r.input) mid new q → SetsUp old new q
  configuration_read conf q old mid new came rest =
      comes_then replayed (configuration_in dag sched) with_configuration (λ file. file ≡ r.input) (IsAskedBy (OfFiles dag sched) r.input old.files) old mid new (configured conf) q record { same = came.same; counts = came.accepted.0 } came.accepted.1 (λ file is. inl is) rest

  pub record_stops : (conf : Configuration) (old mid new : StoreView) (e : SetupError) → ReadsConfiguration old mid (Ok conf) → ReadsRecord r mid new (Err e) → SetsUp old new (Err e)
  record_stops conf old mid new e came stops =
      configuration_read conf (Err e) old mid new came (comes_err replayed (record_in r.input) (with_record dag r (configured conf)) (λ file. file ≡ r.input) mid new e (λ file asked. asked) stops)

  pub all_read : (conf : Configuration) (recorded : Contents) (q : Result Replay SetupError) (old mid new : StoreView) → ReadsConfiguration old mid (Ok conf) → ReadsRecord r mid new (Ok recorded) → IsJudged replayed (judged_in dag r (configured conf) recorded) q → SetsUp old new q
  all_read conf recorded q old mid new came came_too judged =
      configuration_read conf q old mid new came (record_read r (judged_in dag r (configured conf)) recorded q mid new came_too judged)

-- the record alone
module _ (from to : List ℕ) (r : Request) where
  abbrev pub PassesOn : StoreView → StoreView → Result Replay SetupError → Type 0
  PassesOn old new q = ComesTo replayed (passed_in from to r) (IsAskedBy (OfPass from to) r.input old.files) old new q

  abbrev judged_after : Contents → Reads Refusal Replayed
  judged_after contents = judged_in r.input r (passing from to (type_read contents from)) contents

  pub pass_stops : (old new : StoreView) (e : SetupError) → ReadsRecord r old new (Err e) → PassesOn old new (Err e)
  pass_stops old new e stops = comes_err replayed (record_in r.input) (λ contents m. judged_after contents) (λ file. file ≡ r.input) old new e (λ file asked. asked) stops

  -- there is no memory for the component
  pub pass_starves : (recorded : Contents) (old new : StoreView) (e : SetupError) → ReadsRecord r old new (Ok recorded) → e ≡ Memory → PassesOn old new (Err e)
  pass_starves recorded old new e came is = record_read r judged_after recorded (Err e) old new came (judges_memory replayed (judged_after recorded) e is)

  pub pass_read : (conf : Configuration) (recorded : Contents) (q : Result Replay SetupError) (old new : StoreView) → ReadsRecord r old new (Ok recorded) → configured conf ≡ passing from to (type_read recorded from)
      → IsJudged replayed (judged_in r.input r (configured conf) recorded) q → PassesOn old new q
  pass_read conf recorded q old new came is judged =
      record_read r judged_after recorded q old new came (subst (λ c. IsJudged replayed (judged_in r.input r c recorded) q) is judged)

-- the components are of one kind or the other
pub through : (r : Request) (k : Components) (old new : StoreView) (q : Result Replay SetupError) → r.components ≡ k → ComesTo replayed (replay_through k r) (IsAskedBy k r.input old.files) old new q
    → ComesTo replayed (replay_in r) (IsAsked r old.files) old new q
through r k old new q e came = subst (λ x. ComesTo replayed (replay_through x r) (IsAskedBy x r.input old.files) old new q) (sym e) came
