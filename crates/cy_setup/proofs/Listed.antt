-- Messages with the ticks of a wiring's timers among them are listed, and may be played.
use Rattle.std.proofs.Common.{ℕ, zero, suc, ◌+◌, ◌*◌, ◌≡◌, ◌≤◌, ◌<◌, ◌==◌, ◌||◌, Bool, true, false, List, [], ◌∷◌, ◌++◌, length, map, slice_get, Option, Some, None, Result, Ok, Err, refl, sym, ap, subst, ◌∙◌, arith, All}
use Rattle.std.specs.Prelude.{IfOk, option_map, slice_index}
use Rattle.std.specs.List.{Contains, flat_map, list_any}
use Rattle.std.specs.List.Sorted.{IsPermutation}
use Rattle.std.proofs.lemmas.Bool.{eq-eqb, eqb-true, false≢true, le-ltb, or_parts}
use Rattle.std.proofs.lemmas.List.{append-nil, ext_get_or, get_or-map, length-map}
use Rattle.std.proofs.lemmas.List.Elements.{All-from_get_or}
use Rattle.std.proofs.lemmas.List.Folds.{list_any-append, list_any_at}
use Rattle.std.proofs.lemmas.List.Sorted.{length_permutation}
use Rattle.std.proofs.lemmas.Option.{slice_get-get_or, slice_get-map, slice_get_within}
use Rattle.cy_store.specs.Reads.{Reads, Accepts, ◌>>=◌}
use Rattle.cy_msg.specs.Tokens.{on_channel}
use Rattle.cy_msg.specs.declared.play_list.PlayList.{PlayList}
use Rattle.cy_msg.specs.declared.stop.Stop.{Stop}
use Rattle.cy_msg.specs.declared.token.Token.{Token}
use Rattle.cy_comp.specs.Wiring.{IsWiring}
use Rattle.cy_comp.specs.declared.plan.Plan.{Plan}
use Rattle.cy_sched.specs.Placing.{numbers_below}
use Rattle.cy_msg.specs.Request.{StopAt}
use Rattle.cy_msg.specs.declared.filter.Filter.{Filter}
use Rattle.cy_reader.specs.Record.{Contents}
use Rattle.cy_play_list.specs.Play.{Choice, IsPlayList, chosen, most_played, number_at, places_below, value_at}
use Rattle.cy_reader.specs.declared.error.LoadError.TheVariants.{TooManyPlayed}
use Rattle.cy_play_list.proofs.Playing.{length-tokens}
use Rattle.cy_timer.specs.Merged.{IsMerged, by_time, merged, with_ticks}
use Rattle.cy_timer.specs.Ticks.{last_time, multiples, ticks_of}
use Rattle.cy_timer.specs.Timers.{AreApart, timers_of}
use Rattle.cy_timer.specs.declared.timer.Timer.{Timer}
use Rattle.cy_timer.proofs.Sorting.{Each, by_time-same, each-append, each-at, each-by_time, each-from, rises-from_timed}
use Rattle.cy_timer.proofs.Ticking.{each-ticks}
use Rattle.cy_timer.proofs.Wired.{found}
use Rattle.wake_core.specs.Plain.{opening_world}
use Rattle.wake_core.specs.Rest.{IsScanOf, IsToPlay, MayPlay}
use Rattle.wake_core.specs.Run.{route_of, routes_of, writes_from}
use Rattle.wake_core.specs.TapeLaws.{PutLaws}
use Rattle.cy_setup.specs.Comes.{IsJudged}
use Rattle.cy_setup.specs.Listing.{AreCounts, IsListed, all_count, choice_of, counts_of, few_in, messages_in, played_in, played_on, ticks_on, times_of, written_in}
use Rattle.cy_setup.specs.Stops.{stop_of}
use Rattle.cy_setup.specs.Wiring.{Wired}
use Rattle.cy_setup.specs.declared.error.Fault.TheVariants as fault
use Rattle.cy_setup.specs.declared.error.Refusal.{Refusal}
use Rattle.cy_setup.specs.declared.error.SetupError.{SetupError}
use Rattle.cy_setup.proofs.Judging.{judges_err, judges_ok, judges_then}
use Rattle.cy_setup.proofs.Limits.{limited_fits}
use Rattle.cy_setup.proofs.Playable.{all_below, all_unwritten, all_at, is_scan, length-places, no_writer, place-at, stop_within}
use Rattle.cy_setup.proofs.TickCounts.{count_all, count_on}

-- what holds of all ticks that stand on the channels of timers
ticks_each : (P : Token → Type 0) (tokens : List Token) (timers : List Timer) → Each (λ (t : Timer). (u : Token) → u.channel ≡ t.channel → P u) timers → Each P (flat_map (ticks_of tokens) timers)
ticks_each P tokens [] all = tt
ticks_each P tokens (t ∷ rest) all = each-append P (ticks_of tokens t) (flat_map (ticks_of tokens) rest) (of_one tokens) (ticks_each P tokens rest all.1)
  where
    of_one : (ms : List Token) → Each P (ticks_of ms t)
    of_one [] = tt
    of_one (first ∷ more) = each-ticks P t.channel (λ u on none. all.0 u on) 1 (multiples (t.interval * 1000000) first.time (last_time first more))

all_each : (P : Token → Type 0) (tokens : List Token) (timers : List Timer) → ((n : ℕ) (t : Token) → slice_get tokens n ≡ Some t → P t) → Each (λ (t : Timer). (u : Token) → u.channel ≡ t.channel → P u) timers → Each P (merged tokens timers)
all_each P tokens timers messages ticks = each-by_time P (with_ticks tokens timers) (each-append P tokens (flat_map (ticks_of tokens) timers) (each-from P tokens messages) (ticks_each P tokens timers ticks))

-- no component writes what none of them does
none_more : (b rest : Bool) → (b ≡ true → ⊥) → rest ≡ false → (b || rest) ≡ false
none_more true rest none is = absurd (none refl)
none_more false rest none is = is

none_writes : (plans : List Plan) (channel : ℕ) → ((j : ℕ) (b : Plan) → slice_get plans j ≡ Some b → b.out ≡ channel → ⊥) → list_any (λ n. n == channel) (map (λ p. p.out) plans) ≡ false
none_writes [] channel none = refl
none_writes (p ∷ rest) channel none =
    none_more (p.out == channel) (list_any (λ n. n == channel) (map (λ (q : Plan). q.out) rest)) (λ is. none 0 p refl (eqb-true p.out channel is)) (none_writes rest channel (λ j. none (suc j)))

module _ (whole : Contents) (filter : Filter) (w : Wired) (wired : IsWiring w.names w.plans) where
  abbrev timers : List Timer
  timers = timers_of w.plans

  -- the ticks of each timer stand on a channel that has a name, and that no component writes
  timers_each : (Q : ℕ → Type 0) → ((i interval channel : ℕ) (a : Plan) → slice_get w.plans i ≡ Some a → a.interval ≡ Some interval → slice_get a.readers 0 ≡ Some channel → Q channel) → Each (λ (t : Timer). (u : Token) → u.channel ≡ t.channel → Q u.channel) timers
  timers_each Q holds =
      each-from (λ (t : Timer). (u : Token) → u.channel ≡ t.channel → Q u.channel) timers
      (λ k t at u on.
      let f = found w.plans k t.channel (slice_get-map (λ (x : Timer). x.channel) timers k ∙ ap (option_map (λ (x : Timer). x.channel)) at) in
      let one = (wired.timers f.place f.interval f.plan f.here f.ticks).reader in
      let reads : slice_get f.plan.readers 0 ≡ Some (slice_index f.plan.readers 0) = slice_get-get_or f.plan.readers 0 0 (omega (arith, one)) in
      subst Q (f.reads ∙ sym on) (holds f.place f.interval (slice_index f.plan.readers 0) f.plan f.here f.ticks reads))

  -- some messages stand on no channel that is written in vain
  module _ (list : PlayList) (is : IsPlayList whole (choice_of filter w) list) where
    both_free : (n : ℕ) (t : Token) → slice_get list.tokens n ≡ Some t → (list_any (λ k. k == t.channel) (map (λ p. p.out) w.plans) ≡ false) × (list_any (λ k. k == t.channel) (map (λ x. x.channel) timers) ≡ false)
    both_free n t at =
        or_parts _ _ (sym (list_any-append (λ k. k == t.channel) (map (λ (p : Plan). p.out) w.plans) (map (λ (x : Timer). x.channel) timers))
        ∙ all_at (λ u. list_any (λ k. k == u.channel) (written_in w.plans) ≡ false) list.tokens n t (all_unwritten whole (choice_of filter w) list is) at)

    pub apart : AreApart list.tokens timers
    apart n t at has =
        let channels = map (λ (x : Timer). x.channel) timers in
        false≢true (sym (both_free n t at).1 ∙ list_any_at (λ k. k == t.channel) channels has.0 t.channel has.1 (eq-eqb _ _ has.2))

  module _ (list : PlayList) (is : IsListed whole filter w list) where
    abbrev P : Token → Type 0
    P t = t.channel < length w.names

    pub listed_below : 0 < length w.names → All (λ t. t.channel < length w.names) list.tokens
    listed_below some =
        let messages = λ (n : ℕ) (t : Token) (at : slice_get is.messages.tokens n ≡ Some t). all_at P is.messages.tokens n t (all_below whole (choice_of filter w) is.messages is.chosen some) at in
        let each = all_each P is.messages.tokens timers messages (timers_each (λ c. c < length w.names) (λ i interval channel a at ticks reads. wired.readers_named i a at 0 channel reads)) in
        let all : Each P list.tokens = subst (Each P) (sym is.merged.tokens) each in
        λ n d less. each-at P list.tokens n _ all (slice_get-get_or list.tokens n d less)

    abbrev Unwritten : Token → Type 0
    Unwritten t = list_any (λ k. k == t.channel) (map (λ p. p.out) w.plans) ≡ false

    listed_unwritten : Each Unwritten list.tokens
    listed_unwritten =
        subst (Each Unwritten) (sym is.merged.tokens) (all_each Unwritten is.messages.tokens timers (λ n t at. (both_free is.messages is.chosen n t at).0)
        (timers_each (λ c. list_any (λ k. k == c) (map (λ (p : Plan). p.out) w.plans) ≡ false)
        (λ i interval channel a at ticks reads. none_writes w.plans channel (λ j b there writes. (wired.timers i interval a at ticks).unwritten j channel b there reads writes))))

    -- the counts of the list are those that the files give
    pub counts_are : (counts : List ℕ) → AreCounts (length w.names) list.tokens counts → counts ≡ counts_of whole filter w
    counts_are counts are =
        let names = length w.names in
        let choice = choice_of filter w in
        let count = λ (c : ℕ). played_on whole choice c + ticks_on (times_of whole choice) timers c in
        let many = are.many in
        let places = length-places names in
        let mapped = length-map (places_below names) count in
        ext_get_or 0 counts (counts_of whole filter w) (many ∙ sym places ∙ sym mapped) (λ i less.
        let inside : i < names = omega (arith, many, less) in
        sym (are.each i) ∙ ap (λ (ts : List Token). length (on_channel i ts)) is.merged.tokens ∙ count_on whole choice is.messages is.chosen timers i
        ∙ sym (get_or-map count (places_below names) i 0 0 (omega (arith, places, inside)) ∙ ap count (place-at names i inside)))

    -- the list may be played
    pub may_play : PutLaws → (counts scan : List ℕ) (asked : Option StopAt) (stop : Option Stop) → stop ≡ stop_of asked w list.tokens → AreCounts (length w.names) list.tokens counts → IsPermutation (numbers_below (length w.plans)) scan
        → MayPlay (opening_world (routes_of w.plans) counts stop) list.tokens scan
    may_play put counts scan asked stop stopped are moved =
        let made : IsToPlay (opening_world (routes_of w.plans) counts stop) list.tokens = record {
          counted = are.each;
          unwritten = λ n t at. no_writer w.plans 0 t.channel (each-at Unwritten list.tokens n t listed_unwritten at);
        } in
        let whole_number = put.all (opening_world (routes_of w.plans) counts stop) list.tokens made in
        let as_many = length-map w.plans route_of in
        record {
          opening = refl;
          made = made;
          within = record {
            component = λ s given. let below = (stop_within asked w list.tokens s (sym stopped ∙ given)).0 in omega (arith, below, as_many);
            after = λ s given. let few = (stop_within asked w list.tokens s (sym stopped ∙ given)).1 in omega (arith, few, whole_number);
          };
          scan = subst (λ size. IsScanOf size scan) (sym as_many) (is_scan (length w.plans) scan moved);
        }

  -- the messages are in the way, or else the ticks among them are judged
  module _ (file : List ℕ) where
    abbrev behind : ℕ → Reads Refusal ℕ
    behind messages = few_in file (all_count whole (choice_of filter w) timers)

    pub messages_stop : {X : Type 0} (v : X → ℕ) (e : SetupError) → (let q : Result PlayList SetupError = Err e in IsJudged (λ (l : PlayList). length l.places) (messages_in file whole (choice_of filter w)) q)
        → (let q : Result X SetupError = Err e in IsJudged v (played_in file whole filter w) q)
    messages_stop v e stops = judges_err (λ (l : PlayList). length l.places) v (messages_in file whole (choice_of filter w)) behind e stops

    pub ticks_judged : (messages : PlayList) (q : Result PlayList SetupError) → (let r : Result PlayList SetupError = Ok messages in IsJudged (λ (l : PlayList). length l.places) (messages_in file whole (choice_of filter w)) r)
        → IsPlayList whole (choice_of filter w) messages → IsJudged (λ (l : PlayList). length l.tokens) (few_in file (length (merged messages.tokens timers))) q → IsJudged (λ (l : PlayList). length l.tokens) (played_in file whole filter w) q
    ticks_judged messages q judged is rest =
        judges_then (λ (l : PlayList). length l.tokens) (messages_in file whole (choice_of filter w)) behind (length messages.places) q judged.accepted
        (subst (λ (n : ℕ). IsJudged (λ (l : PlayList). length l.tokens) (few_in file n) q) (count_all whole (choice_of filter w) messages is timers) rest)

-- without timers nothing comes among the messages
pub unticked : (messages : PlayList) → IsMerged messages [] messages
unticked messages = record {
  tokens = sym (ap by_time (append-nil messages.tokens) ∙ by_time-same messages.tokens (rises-from_timed messages.tokens messages.timed));
  places = refl;
  shadowed = refl;
}

pub no_timers : (messages : PlayList) (ts : List Timer) (none : Bool) → none ≡ (length ts == 0) → none ≡ true → IsMerged messages ts messages
no_timers messages [] none is empty = unticked messages
no_timers messages (t ∷ ts) none is empty = let long = eqb-true (length (t ∷ ts)) 0 (sym is ∙ empty) in absurd (omega (arith, long))

pub none_judged : (file : List ℕ) (messages : PlayList) (ts : List Timer) (none : Bool) → none ≡ (length ts == 0) → none ≡ true → length messages.tokens ≤ most_played
    → (let q : Result PlayList SetupError = Ok messages in IsJudged (λ (l : PlayList). length l.tokens) (few_in file (length (merged messages.tokens ts))) q)
none_judged file messages ts none is empty few =
    let same : length (merged messages.tokens ts) ≡ length messages.tokens = ap (λ (us : List Token). length us) (sym (no_timers messages ts none is empty).tokens) in
    judges_ok (λ (l : PlayList). length l.tokens) (few_in file (length (merged messages.tokens ts))) messages
    (ap (few_in file) same ∙ rw (le-ltb most_played (length messages.tokens) few) refl)

-- not too many are played
pub few_messages : (file : List ℕ) (whole : Contents) (choice : Choice) (list : PlayList) → IsPlayList whole choice list
    → (let q : Result PlayList SetupError = Ok list in IsJudged (λ (l : PlayList). length l.places) (messages_in file whole choice) q) → length list.tokens ≤ most_played
few_messages file whole choice list is listed =
    let fits = limited_fits file most_played (λ n. fault.Record (TooManyPlayed n)) (length (chosen whole choice)) (length list.places) listed.accepted in
    let few = fits.0 in
    let same = fits.1 in
    let placed : length list.tokens ≡ length list.places = ap length is.tokens ∙ length-tokens (number_at whole choice) (value_at whole choice) whole [] list.places in
    omega (arith, few, same, placed)

-- what is listed
pub all_listed : (whole : Contents) (filter : Filter) (w : Wired) (messages : PlayList) (ts : List Timer) (r : Result PlayList SetupError) → ts ≡ timers_of w.plans → IsPlayList whole (choice_of filter w) messages
    → IfOk r (IsMerged messages ts) → IfOk r (IsListed whole filter w)
all_listed whole filter w messages ts (Ok list) are is all = record { messages = messages; chosen = is; merged = subst (λ (us : List Timer). IsMerged messages us list) are all }
all_listed whole filter w messages ts (Err e) are is all = tt
