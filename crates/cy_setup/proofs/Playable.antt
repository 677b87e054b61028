-- What is listed may be played in the opening world of its wiring.
use Rattle.std.proofs.Common.{ℕ, ℤ, zero, suc, ◌+◌, ◌≡◌, ◌≤◌, ◌<◌, ◌==◌, not, ◌&&◌, ◌||◌, if◌then◌else◌, cond, Bool, true, false, List, [], ◌∷◌, ◌++◌, length, map, get_or, slice_get, Option, Some, None, option_map, unwrap_or, nat_le, refl, sym, ap, subst, ◌∙◌, inl, inr, arith, All, length-append}
use Rattle.std.specs.Prelude.{filter}
use Rattle.std.specs.List.{Contains, list_any, position, zip}
use Rattle.std.specs.List.Sorted.{IsPermutation}
use Rattle.std.specs.Str.{bytes_eq}
use Rattle.std.proofs.lemmas.Option.{slice_get_within, get_or_from_slice_get}
use Rattle.std.proofs.lemmas.List.{length-map, get_or-map, get_or_append_left, get_or_push, ext_get_or}
use Rattle.std.proofs.lemmas.List.Elements.{All-nil, All-cons, All-head, All-tail, All-weaker, All-from_get_or, All-push, filter_passes}
use Rattle.std.proofs.lemmas.List.Sorted.{All-permutation, Contains-permutation, sum_by-IsPermutation}
use Rattle.std.proofs.lemmas.List.Sums.{length-filter}
use Rattle.std.proofs.lemmas.List.Quantifiers.{position-Some}
use Rattle.std.proofs.lemmas.Bool.{eqb-true, cases_lt}
use Rattle.cy_msg.specs.Tokens.{on_channel}
use Rattle.cy_msg.specs.declared.token.Token.{Token}
use Rattle.cy_msg.specs.declared.play_list.PlayList.{PlayList}
use Rattle.cy_msg.specs.declared.stop.Stop.{Stop}
use Rattle.cy_fuse.specs.declared.overflow.Overflow.TheVariants.{Newest}
use Rattle.cy_comp.specs.declared.kind.Kind.TheVariants.{Pass}
use Rattle.cy_comp.specs.declared.plan.Plan.{Plan}
use Rattle.cy_comp.specs.Options.{options_with}
use Rattle.cy_comp.specs.Wiring.{IsWiring}
use Rattle.cy_sched.specs.Placing.{numbers_below}
use Rattle.cy_wiring.specs.Wiring.{plans_of, named}
use Rattle.cy_dag.specs.declared.config.Config.{Config}
use Rattle.cy_dag.specs.declared.dag.DagComponent.{DagComponent}
use Rattle.cy_wiring.proofs.NameSteps.{has_contains, contains_has, behind_has}
use Rattle.cy_msg.specs.Request.{StopAt}
use Rattle.cy_reader.specs.declared.known.Known.{Known}
use Rattle.cy_reader.specs.Record.{Contents, named_only}
use Rattle.cy_play_list.specs.Play.{Choice, IsPlayList, AreNamed, chosen, is_played, is_written, passes, all_places, number_at, number_in, name_of, places_below, token_behind, tokens_behind, value_at}
use Rattle.cy_reader.specs.Named.{message_at}
use Rattle.wake_core.specs.Run.{route_of, routes_of, writes_from}
use Rattle.wake_core.specs.TapeLaws.{PutLaws}
use Rattle.wake_core.specs.Plain.{lists, opening_world}
use Rattle.wake_core.specs.Rest.{IsScanOf, IsToPlay, MayPlay}
use Rattle.cy_setup.specs.Listing.{AreCounts, channels_of, counts_of, played_on}
use Rattle.cy_setup.specs.Stops.{count_up_to, number_of, stop_of}
use Rattle.cy_setup.specs.Wiring.{Wired}

-- the channels of a record stand among the names of a wiring
length-more : {X : Type 0} (xs ys : List X) (i : ℕ) → i < length xs → i < length (xs ++ ys)
length-more xs ys i less = let long = length-append xs ys in omega (arith, long, less)

named_at : (whole : Contents) (rest : List (List ℕ)) (i : ℕ) → i < length whole.channels → Contains (channels_of whole ++ rest) (get_or whole.channels i (named_only [])).channel.name
named_at whole rest i less =
    let name = (get_or whole.channels i (named_only [])).channel.name in
    let many = length-map whole.channels (λ (k : Known). k.channel.name) in
    let inside : i < length (channels_of whole) = omega (arith, many, less) in
    let at : get_or (channels_of whole ++ rest) i name ≡ name = get_or_append_left (channels_of whole) rest name i inside ∙ get_or-map (λ (k : Known). k.channel.name) whole.channels i (named_only []) name less in
    (i, length-more (channels_of whole) rest i inside, at)

name_kept : (names : List (List ℕ)) (name : List ℕ) → Contains names name → Contains (named names) name
name_kept names name among = has_contains (named names) name (behind_has [] names name (contains_has names name among))

pub all_named : (whole : Contents) (names rest : List (List ℕ)) → names ≡ named (channels_of whole ++ rest) → AreNamed whole names
all_named whole names rest is =
    All-from_get_or (λ k. Contains names k.channel.name) whole.channels (named_only [])
    (λ i less. subst (λ ns. Contains ns (get_or whole.channels i (named_only [])).channel.name) (sym is) (name_kept (channels_of whole ++ rest) (get_or whole.channels i (named_only [])).channel.name (named_at whole rest i less)))

-- a wiring of some component has a channel
pub some_name : (names : List (List ℕ)) (plans : List Plan) → IsWiring names plans → 1 ≤ length plans → 0 < length names
some_name names [] w some = absurd (omega arith)
some_name names (p ∷ plans) w some = let below = w.outs_named 0 p refl in omega (arith, below)

pub some_plan : (names : List (List ℕ)) (components : List DagComponent) (configs : List Config) (plans : List Plan) → 1 ≤ length components → length configs ≡ length components → plans ≡ plans_of names (zip components configs) → 1 ≤ length plans
some_plan names [] configs plans some each is = absurd (omega arith)
some_plan names (c ∷ cs) [] plans some each is = absurd (omega (arith, each))
some_plan names (c ∷ cs) (g ∷ gs) plans some each is = let long = ap length is in omega (arith, long)

-- the number of any name is below their number, where there is a name
pub number-below : (names : List (List ℕ)) (name : List ℕ) → 0 < length names → number_in names name < length names
number-below names name some = by_place (position (λ kept. bytes_eq kept name) names) refl
  where
    by_place : (found : Option ℕ) → position (λ kept. bytes_eq kept name) names ≡ found → unwrap_or found 0 < length names
    by_place (Some k) e = (position-Some (λ kept. bytes_eq kept name) names k [] e).0
    by_place None e = some

-- what holds of each place's message holds of each message
pub tokens_all : (number : ℕ → ℕ) (value : ℕ → Option ℤ) (whole : Contents) (P : ℕ → Type 0) (Q : Token → Type 0) → ((before : List ℕ) (place : ℕ) → P place → Q (token_behind number value whole before place)) → (before places : List ℕ) → All P places
    → All Q (tokens_behind number value whole before places)
tokens_all number value whole P Q step before [] all = All-nil Q
tokens_all number value whole P Q step before (place ∷ rest) all =
    All-cons Q (token_behind number value whole before place) (tokens_behind number value whole (before ++ place ∷ []) rest) (step before place (All-head P place rest all))
    (tokens_all number value whole P Q step (before ++ place ∷ []) rest (All-tail P place rest all))

pub all_at : {X : Type 0} (P : X → Type 0) (xs : List X) (n : ℕ) (x : X) → All P xs → slice_get xs n ≡ Some x → P x
all_at P xs n x all at = subst P (get_or_from_slice_get xs n x x at) (all n x (slice_get_within xs n x at))

module _ (whole : Contents) (choice : Choice) (list : PlayList) (is : IsPlayList whole choice list) where
  pub all_below : 0 < length choice.names → All (λ t. t.channel < length choice.names) list.tokens
  all_below some =
      subst (All (λ t. t.channel < length choice.names)) (sym is.tokens)
      (tokens_all (number_at whole choice) (value_at whole choice) whole (λ place. Unit {0}) (λ t. t.channel < length choice.names)
      (λ before place any. number-below choice.names (name_of whole (message_at whole place).channel) some) [] list.places (λ k d less. tt))

  places_played : All (λ place. is_played whole choice place ≡ true) list.places
  places_played =
      All-permutation (λ place. is_played whole choice place ≡ true) (chosen whole choice) list.places is.order.same (filter_passes (is_played whole choice) (all_places whole))

  unwritten_place : (place : ℕ) → is_played whole choice place ≡ true → is_written whole choice place ≡ false
  unwritten_place place e = by (passes whole choice place) (is_written whole choice place) e
    where
      by : (p w : Bool) → p && not w ≡ true → w ≡ false
      by true false e = refl
      by true true e = cc
      by false w e = cc

  pub all_unwritten : All (λ t. list_any (λ n. n == t.channel) choice.written ≡ false) list.tokens
  all_unwritten =
      subst (All (λ t. list_any (λ n. n == t.channel) choice.written ≡ false)) (sym is.tokens)
      (tokens_all (number_at whole choice) (value_at whole choice) whole (λ place. is_played whole choice place ≡ true) (λ t. list_any (λ n. n == t.channel) choice.written ≡ false)
      (λ before place e. unwritten_place place e) [] list.places places_played)

-- no component writes a channel that is none of theirs
writer_by : (b rest : Bool) (component : ℕ) (found : Option ℕ) → (b || rest) ≡ false → (rest ≡ false → found ≡ None) → (if b then Some component else found) ≡ None
writer_by true rest component found e none = cc
writer_by false rest component found e none = none e

pub no_writer : (plans : List Plan) (component channel : ℕ) → list_any (λ n. n == channel) (map (λ p. p.out) plans) ≡ false → writes_from component (routes_of plans) channel ≡ None
no_writer [] component channel none = refl
no_writer (p ∷ plans) component channel none =
    writer_by (p.out == channel) (list_any (λ n. n == channel) (map (λ q. q.out) plans)) component (writes_from (component + 1) (routes_of plans) channel) none (no_writer plans (component + 1) channel)

-- the places below a number stand in their order
pub length-places : (n : ℕ) → length (places_below n) ≡ n
length-places zero = refl
length-places (suc n) = let long = length-append (places_below n) (n ∷ []) in let so_far = length-places n in omega (arith, long, so_far)

pub place-at : (n i : ℕ) → i < n → get_or (places_below n) i 0 ≡ i
place-at zero i less = absurd (omega arith)
place-at (suc n) i less = elim (cases_lt i n) [
  | inl before ↦ get_or_append_left (places_below n) (n ∷ []) 0 i (let long = length-places n in omega (arith, long, before)) ∙ place-at n i before
  | inr last ↦ let same : i ≡ n = omega (arith, less, last) in get_or_push (places_below n) n 0 i (length-places n ∙ sym same) ∙ sym same
]

-- as many of a channel are among the tokens as among the places
one : (b : Bool) (t : Token) (place : ℕ) (ts : List Token) (ps : List ℕ) → length ts ≡ length ps → length (cond b (t ∷ ts) ts) ≡ length (cond b (place ∷ ps) ps)
one true t place ts ps e = ap suc e
one false t place ts ps e = e

on-tokens : (number : ℕ → ℕ) (value : ℕ → Option ℤ) (whole : Contents) (channel : ℕ) (before places : List ℕ) → length (on_channel channel (tokens_behind number value whole before places)) ≡ length (filter (λ place. number place == channel) places)
on-tokens number value whole channel before [] = refl
on-tokens number value whole channel before (place ∷ rest) =
    one (number place == channel) (token_behind number value whole before place) place (on_channel channel (tokens_behind number value whole (before ++ place ∷ []) rest)) (filter (λ p. number p == channel) rest)
    (on-tokens number value whole channel (before ++ place ∷ []) rest)

counted_alike : (p : ℕ → Bool) (xs ys : List ℕ) → IsPermutation xs ys → length (filter p ys) ≡ length (filter p xs)
counted_alike p xs ys moved = length-filter p ys ∙ sum_by-IsPermutation (λ x. cond (p x) 1 0) xs ys moved ∙ sym (length-filter p xs)

pub on-list : (whole : Contents) (choice : Choice) (list : PlayList) → IsPlayList whole choice list → (channel : ℕ) → length (on_channel channel list.tokens) ≡ played_on whole choice channel
on-list whole choice list is channel =
    ap (λ ts. length (on_channel channel ts)) is.tokens ∙ on-tokens (number_at whole choice) (value_at whole choice) whole channel [] list.places
    ∙ counted_alike (λ place. number_at whole choice place == channel) (chosen whole choice) list.places is.order.same

-- a placement's scan has each component
lists_in : (xs : List ℕ) (c : ℕ) → Contains xs c → lists c xs ≡ true
lists_in [] c has = absurd (omega (arith, has.1))
lists_in (x ∷ xs) c (zero, less, at) = rw (at, same c) refl
  where
    same : (n : ℕ) → (n == n) ≡ true
    same n = grind arith
lists_in (x ∷ xs) c (suc k, less, at) = or_true (x == c) (lists c xs) (lists_in xs c (k, omega (arith, less), at))
  where
    or_true : (a b : Bool) → b ≡ true → (a || b) ≡ true
    or_true true b e = refl
    or_true false b e = e

in_by : (b rest : Bool) (x c : ℕ) (xs : List ℕ) → (x == c) ≡ b → (b || rest) ≡ true → (rest ≡ true → Contains xs c) → Contains (x ∷ xs) c
in_by true rest x c xs same e found = (0, omega arith, eqb-true x c same)
in_by false rest x c xs other e found = let there = found e in (suc there.0, omega (arith, there.1), there.2)

in_lists : (xs : List ℕ) (c : ℕ) → lists c xs ≡ true → Contains xs c
in_lists [] c e = cc
in_lists (x ∷ xs) c e = in_by (x == c) (lists c xs) x c xs refl e (in_lists xs c)

below_in : (n c : ℕ) → c < n → Contains (numbers_below n) c
below_in zero c less = absurd (omega arith)
below_in (suc n) c less = (c, omega (arith, length-numbers (suc n), less), number-at (suc n) c less)
  where
    length-numbers : (n : ℕ) → length (numbers_below n) ≡ n
    length-numbers zero = refl
    length-numbers (suc n) = let long = length-append (numbers_below n) (n ∷ []) in let so_far = length-numbers n in omega (arith, long, so_far)

    number-at : (n i : ℕ) → i < n → get_or (numbers_below n) i c ≡ i
    number-at zero i less = absurd (omega arith)
    number-at (suc n) i less = elim (cases_lt i n) [
      | inl before ↦ get_or_append_left (numbers_below n) (n ∷ []) c i (let long = length-numbers n in omega (arith, long, before)) ∙ number-at n i before
      | inr last ↦ let same : i ≡ n = omega (arith, less, last) in get_or_push (numbers_below n) n c i (length-numbers n ∙ sym same) ∙ sym same
    ]

all_numbers : (n : ℕ) → All (λ c. c < n) (numbers_below n)
all_numbers zero = All-nil (λ c. c < 0)
all_numbers (suc n) = All-push (λ c. c < suc n) (numbers_below n) n (All-weaker (λ c. c < n) (λ c. c < suc n) (λ c less. omega arith) (numbers_below n) (all_numbers n)) (omega arith)

pub is_scan : (size : ℕ) (scan : List ℕ) → IsPermutation (numbers_below size) scan → IsScanOf size scan
is_scan size scan moved = record {
  each = λ c less. lists_in scan c (Contains-permutation (numbers_below size) scan c moved (below_in size c less));
  known = λ c e. let has = in_lists scan c e in subst (λ x. x < size) has.2 (All-permutation (λ c. c < size) (numbers_below size) scan moved (all_numbers size) has.0 c has.1);
}

-- a stop names a component, and is raised at the latest behind the last message
pub few_up_to : (time : ℕ) (tokens : List Token) → count_up_to time tokens ≤ length tokens
few_up_to time [] = omega arith
few_up_to time (t ∷ rest) = by (nat_le t.time time) (few_up_to time rest)
  where
    by : (b : Bool) → count_up_to time rest ≤ length rest → length (cond b (t ∷ filter (λ u. nat_le u.time time) rest) (filter (λ u. nat_le u.time time) rest)) ≤ suc (length rest)
    by true few = omega (arith, few)
    by false few = omega (arith, few)

no_plan : Plan
no_plan = record { name = []; kind = Pass; readers = []; queue = 1; overflow = Newest; out = 0; options = options_with []; interval = None }

pub stop_within : (asked : Option StopAt) (w : Wired) (tokens : List Token) (s : Stop) → stop_of asked w tokens ≡ Some s → (s.component < length w.plans) × (s.after ≤ length tokens)
stop_within None w tokens s given = absurd cc
stop_within (Some a) w tokens s given = by (number_of w.plans a.component) refl given
  where
    by : (found : Option ℕ) → number_of w.plans a.component ≡ found → option_map (λ (c : ℕ). let made : Stop = record { component = c; after = count_up_to a.time tokens } in made) found ≡ Some s
        → (s.component < length w.plans) × (s.after ≤ length tokens)
    by None is e = absurd cc
    by (Some c) is e =
        let same : (let made : Stop = record { component = c; after = count_up_to a.time tokens } in made) ≡ s = cc in
        subst (λ (x : Stop). (x.component < length w.plans) × (x.after ≤ length tokens)) same
        ((position-Some (λ (p : Plan). bytes_eq p.name a.component) w.plans c no_plan is).0, few_up_to a.time tokens)
